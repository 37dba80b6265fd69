use Rattle.std.proofs.Common.{arith}
use Rattle.model.specs.KnownLaws.{knows_below}
use Rattle.judge.proofs.homes.Homes.pair_good.Goals as goal

pub claims-requires : goal.claims-requires
claims-requires c = grind (arith, knows_below)

pub claims-requires-2 : goal.claims-requires-2
claims-requires-2 c = grind (arith, knows_below)
