-- `next` of a walk meets its contract.
use Rattle.std.proofs.Common.{arith}
use Rattle.judge_keys.proofs.WalkIterator.next.Goals as goal

pub bounds-self-spot : goal.bounds-self-spot
bounds-self-spot c =
    let s = c.args.self.now in
    omega (arith, s.chains.chained.links.places, s.stands c.in_ok-spot.spot c.in_ok-spot.ensures)
