-- `judge_keys::none_left` meets its contract. Nothing that the walk has passed is left.
use Rattle.numbers.specs.DecidesLaws.{says_yes, says_no}
use Rattle.judge_keys.specs.ChainLaws.{walk_on, pass_end, pass_fails}
use Rattle.judge_keys.proofs.none_left.Goals as goal

pub returns-then-place-low_of-ne0 : goal.returns-then-place-low_of-ne0
returns-then-place-low_of-ne0 c =
    let (same, r) = c.loop-spot.invariant in
    let s = rw same at c.in-Some.ensures.steps in
    let own = walk_on _ _ _ _ _ _ c.args.map.chained.links s.1 r.standing in
    says_no (pass_fails _ _ _ _ own (rw c.low_of.ensures.0 at c.if-place-low_of-ne0.true))

pub returns : goal.returns
returns c = says_yes (pass_end _ _ _ (rw c.in-None.ensures.steps.1 at c.loop-spot.invariant.1))
