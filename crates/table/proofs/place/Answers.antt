-- `table::place` meets its contract: it goes the two ways that the definition goes.
use Rattle.table.specs.Table.{place}
use Rattle.table.proofs.place.Goals as goal

pub returns-in-Some : goal.returns-in-Some
unfolding place
returns-in-Some c = rw (← c.find.ensures, c.in-Some.is)

pub returns-in-None : goal.returns-in-None
unfolding place
returns-in-None c = rw (← c.find.ensures, c.in-None.is) c.lowest_free.ensures
