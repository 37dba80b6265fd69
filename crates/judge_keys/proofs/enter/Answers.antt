-- `judge_keys::enter` meets its contract. The places that the walk has passed are entered.
use mathlib.Core.Bool.{true≢false}
use mathlib.Core.Path.{sym}
use Rattle.judge_keys.specs.ChainLaws.{walk_on, walk_next}
use Rattle.judge_keys.specs.PlaceLaws.{enter_next, enter_twice}
use Rattle.judge_keys.proofs.enter.Goals as goal

pub returns-then-place-low-ne0 : goal.returns-then-place-low-ne0
returns-then-place-low-ne0 c =
    let (same, r, t) = c.loop-spot.invariant in
    let s = rw same at c.in-Some.ensures.steps in
    let own = walk_on _ _ _ _ _ _ c.args.map.chained.links s.1 r in
    record {
      entered = λ z. absurd (true≢false (sym z));
      twice = λ z. enter_twice _ _ _ _ _ t own s.1.0 (rw c.low_of-low.ensures.0 at c.if-place-low-ne0.true);
    }

pub loop-spot-preserved : goal.loop-spot-preserved
loop-spot-preserved c =
    let (same, r, t) = c.loop-spot.invariant in
    let s = rw same at c.in-Some.ensures.steps in
    let l = c.args.map.chained.links in
    let z = rw c.low_of-low.ensures.0 at c.if-place-low-ne0.false in
    rw (c.low_of-low.ensures.0, c.link_to.ensures) (s.0, walk_next _ _ _ _ _ _ l s.1 r, enter_next _ _ _ _ _ _ _ l s.1 r t z)
