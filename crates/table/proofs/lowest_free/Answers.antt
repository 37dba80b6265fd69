-- `table::lowest_free` meets its contract: what it asks of each word is whether it is empty.
use Rattle.std.proofs.Common.{rules}
use Rattle.table.specs.Table.{is_empty, lowest_free}
use Rattle.table.proofs.lowest_free.Goals as goal

pub returns : goal.returns
unfolding lowest_free
returns c = c.first.ensures is_empty (λ w yes e. search rules)
