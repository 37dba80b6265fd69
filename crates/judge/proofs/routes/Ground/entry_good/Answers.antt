use Rattle.std.proofs.Common.{arith}
use Rattle.model.specs.KnownLaws.{knows_below}
use Rattle.judge.proofs.routes.Ground.entry_good.Goals as goal

pub may_map-requires : goal.may_map-requires
may_map-requires c = grind (arith, knows_below)
