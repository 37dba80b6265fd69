-- `table::erase` meets its contract: what it asks of each word is whether it has the key.
use Rattle.std.proofs.Common.{rules}
use Rattle.numbers.specs.Packing.{key_of}
use Rattle.table.specs.Table.{has_key, erase}
use Rattle.table.proofs.erase.Goals as goal

pub returns : goal.returns
unfolding erase
returns c = (c.wipe.ensures (has_key key_of c.args.key) (λ w yes e. search rules)).1
