-- `judge_keys::clear` meets its contract. The places that the walk has yet to pass are entered, and no other.
use Rattle.judge_keys.specs.ChainLaws.{walk_start, walk_next}
use Rattle.judge_keys.specs.PlaceLaws.{clear_start, clear_next, clear_end}
use Rattle.judge_keys.proofs.clear.Goals as goal

pub loop-spot-init : goal.loop-spot-init
loop-spot-init c =
    let p = c.places-spot-items.ensures in
    rw c.into_iter-spot-iterator.ensures.into_iter_gives (p.0, walk_start _ _ _ _ p.1, clear_start _ _ _ _ _ p.1 c.requires.1)

pub loop-spot-preserved : goal.loop-spot-preserved
loop-spot-preserved c =
    let (same, r, t) = c.loop-spot.invariant in
    let s = rw same at c.in-Some.ensures.steps in
    let l = c.args.map.chained.links in
    rw c.low_of.ensures.0 (s.0, walk_next _ _ _ _ _ _ l s.1 r, clear_next _ _ _ _ _ _ _ l s.1 r t)

pub returns : goal.returns
returns c = clear_end _ _ _ (rw c.in-None.ensures.steps.1 at c.loop-spot.invariant.2)
