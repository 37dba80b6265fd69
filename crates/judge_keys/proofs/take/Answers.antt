-- `judge_keys::take` meets its contract. The words that the walk has passed are taken out, each once.
use mathlib.Core.Bool.{true≢false}
use mathlib.Core.Path.{sym}
use Rattle.numbers.specs.DecidesLaws.{refutes}
use Rattle.judge_keys.specs.ChainLaws.{walk_start, walk_on, walk_next}
use Rattle.judge_keys.specs.PlaceLaws.{shows_inside, match_start, match_fails, match_next}
use Rattle.judge_keys.proofs.take.Goals as goal

pub loop-spot-init : goal.loop-spot-init
loop-spot-init c =
    let p = c.places-spot-items.ensures in
    rw c.into_iter-spot-iterator.ensures.into_iter_gives (p.0, walk_start _ _ _ _ p.1, match_start _ _ _ _ _ _ p.1 c.requires.1)

pub has_word-requires : goal.has_word-requires
has_word-requires c = shows_inside _ _ _ _ c.loop-spot.invariant.2.shows

pub returns-then-not-has_word : goal.returns-then-not-has_word
returns-then-not-has_word c =
    let (same, r, t) = c.loop-spot.invariant in
    let s = rw same at c.in-Some.ensures.steps in
    let own = walk_on _ _ _ _ _ _ c.args.walker.chained.links s.1 r in
    record {
      matched = λ z. absurd (true≢false (sym z));
      differs = λ z. match_fails _ _ _ _ _ _ t own s.1.0 (refutes c.has_word.ensures c.if-not-has_word.true);
    }

pub loop-spot-preserved : goal.loop-spot-preserved
loop-spot-preserved c =
    let (same, r, t) = c.loop-spot.invariant in
    let s = rw same at c.in-Some.ensures.steps in
    let l = c.args.walker.chained.links in
    let own = walk_on _ _ _ _ _ _ l s.1 r in
    let shown = c.has_word.ensures.sound c.if-not-has_word.false in
    rw c.low_of.ensures.0 (s.0, walk_next _ _ _ _ _ _ l s.1 r, match_next _ _ _ _ _ _ t own s.1.0 _ _ l s.1 r shown)
