-- `table::drop_slots` meets its contract: what it asks of each word is whether it is of the address.
use Rattle.std.proofs.Common.{arith, rules}
use Rattle.numbers.specs.Packing.{address_of}
use Rattle.table.specs.Table.{has_key, erase}
use Rattle.table.proofs.drop_slots.Goals as goal

pub returns : goal.returns
unfolding erase
returns c =
    let wiped = c.wipe.ensures (has_key address_of c.args.address) (λ w yes e. search rules) in
    (omega (arith, wiped.0), wiped.1)
