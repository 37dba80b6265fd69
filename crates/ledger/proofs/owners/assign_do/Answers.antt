use Rattle.std.proofs.Common.{rules}
use Rattle.model.specs.Ledger.{assign_sets}
use Rattle.ledger.proofs.owners.assign_do.Goals as goal

pub returns : goal.returns
unfolding assign_sets
returns c = search rules
