use Rattle.std.proofs.Common.{rules}
use Rattle.numbers.specs.Packing.{pair_key_of}
use Rattle.table.specs.Table.{has_key, find}
use Rattle.views.proofs.find_pair.Goals as goal

pub returns : goal.returns
unfolding find
returns c = rw (← c.pair_key-key.ensures) (c.first.ensures (has_key pair_key_of c.pair_key-key.result) (λ w yes e. search rules))
