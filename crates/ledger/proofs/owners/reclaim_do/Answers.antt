use Rattle.std.proofs.Common.{rules}
use Rattle.model.specs.Ledger.{reclaim_sets}
use Rattle.ledger.proofs.owners.reclaim_do.Goals as goal

pub returns : goal.returns
unfolding reclaim_sets
returns c = search rules
