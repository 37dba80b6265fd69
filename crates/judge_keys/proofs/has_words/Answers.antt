-- `judge_keys::has_words` meets its contract. The map has the word of each slot that the walk has passed.
use mathlib.Core.Path.{◌∙◌}
use Rattle.numbers.specs.DecidesLaws.{says_yes, says_no, refutes}
use Rattle.judge_keys.specs.ChainLaws.{walk_on, pass_next, pass_end, pass_fails}
use Rattle.judge_keys.specs.PlaceLaws.{shows_inside, shown_has, has_shown}
use Rattle.judge_keys.specs.KeysLaws.{slot_class}
use Rattle.judge_keys.proofs.has_words.Goals as goal

pub has_word-requires : goal.has_word-requires
has_word-requires c = shows_inside _ _ _ _ c.requires.1.shows

pub returns-then-not-has_word : goal.returns-then-not-has_word
returns-then-not-has_word c =
    let (same, r) = c.loop-spot.invariant in
    let s = rw same at c.in-Some.ensures.steps in
    let own = walk_on _ _ _ _ _ _ c.args.slots.chained.links s.1 r.standing in
    let lacks = refutes c.has_word.ensures c.if-not-has_word.true in
    says_no (pass_fails _ _ _ _ own (λ h. lacks (rw c.map_word_of.ensures (has_shown _ _ _ _ c.requires.1 (slot_class _ ∙ own.class) h))))

pub loop-spot-preserved : goal.loop-spot-preserved
loop-spot-preserved c =
    let (same, r) = c.loop-spot.invariant in
    let s = rw same at c.in-Some.ensures.steps in
    let has = shown_has _ _ _ _ _ c.requires.1.shows (c.has_word.ensures.sound c.if-not-has_word.false) in
    (s.0, pass_next _ _ _ _ _ _ _ c.args.slots.chained.links s.1 r (rw c.map_word_of.ensures at has))

pub returns : goal.returns
returns c = says_yes (pass_end _ _ _ (rw c.in-None.ensures.steps.1 at c.loop-spot.invariant.1))
