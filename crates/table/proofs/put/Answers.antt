-- `table::put` meets its contract. A place that was found is within the table.
use borrow.Author.Rules.{scaled_Fits}
use mathlib.Core.Path.{sym, ◌∙◌}
use Rattle.numbers.specs.Packing.{key_of}
use Rattle.table.specs.Table.{put}
use Rattle.table.specs.TableLaws.{place_within}
use Rattle.table.proofs.put.Goals as goal

pub offset_bounds-words-i : goal.offset_bounds-words-i
offset_bounds-words-i c = scaled_Fits _ _ _ (place_within key_of _ _ _ (sym c.place.ensures ∙ c.in-Some.is)) c.well_formed.0.1

pub bounds-words-i : goal.bounds-words-i
bounds-words-i c = place_within key_of _ _ _ (sym c.place.ensures ∙ c.in-Some.is)

pub returns-in-Some : goal.returns-in-Some
unfolding put
returns-in-Some c = rw (← c.place.ensures, c.in-Some.is)

pub returns-in_default : goal.returns-in_default
unfolding put
returns-in_default c = rw (← c.place.ensures, c.in_default.is)
