-- `table::lookup` meets its contract. A place that was found is within the table.
use borrow.Author.Rules.{scaled_Fits}
use mathlib.Core.Path.{sym, ◌∙◌}
use Rattle.numbers.specs.Packing.{key_of}
use Rattle.table.specs.Table.{lookup}
use Rattle.table.specs.TableLaws.{find_at}
use Rattle.table.proofs.lookup.Goals as goal

pub offset_bounds-words-i : goal.offset_bounds-words-i
offset_bounds-words-i c = scaled_Fits _ _ _ (find_at key_of _ _ _ (sym c.find.ensures ∙ c.in-Some.is)).within c.well_formed.0.1

pub bounds-words-i : goal.bounds-words-i
bounds-words-i c = (find_at key_of _ _ _ (sym c.find.ensures ∙ c.in-Some.is)).within

pub returns-in-Some : goal.returns-in-Some
unfolding lookup
returns-in-Some c = rw (← c.find.ensures, c.in-Some.is)

pub returns-in-None : goal.returns-in-None
unfolding lookup
returns-in-None c = rw (← c.find.ensures, c.in-None.is)
