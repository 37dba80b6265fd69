use Rattle.std.proofs.Common.{rules}
use Rattle.model.specs.Ledger.{unshare_pairs}
use Rattle.ledger.proofs.sharing.unshare_do.Goals as goal

pub returns : goal.returns
unfolding unshare_pairs
returns c = search rules
