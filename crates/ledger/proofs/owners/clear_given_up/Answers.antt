use Rattle.std.proofs.Common.{rules}
use Rattle.model.specs.Effect.{apply, cleared_pages}
use Rattle.model.specs.Ledger.{reclaim_clears}
use Rattle.ledger.proofs.owners.clear_given_up.Goals as goal

pub returns-then-claims : goal.returns-then-claims
unfolding reclaim_clears apply cleared_pages
returns-then-claims c = search rules

pub returns : goal.returns
unfolding reclaim_clears apply cleared_pages
returns c = search rules
