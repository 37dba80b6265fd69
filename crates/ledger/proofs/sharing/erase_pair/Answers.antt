use Rattle.std.proofs.Common.{rules}
use Rattle.numbers.specs.Packing.{pair_key_of}
use Rattle.table.specs.Table.{has_key, erase}
use Rattle.ledger.proofs.sharing.erase_pair.Goals as goal

pub returns : goal.returns
unfolding erase
returns c = (c.wipe.ensures (has_key pair_key_of c.args.key) (λ w yes e. search rules)).1
