-- `pages::holds_any` meets its contract: the loop looks for a word of the row that is not 0.
use Prim.Native.Nat.{◌-◌}
use Rattle.numbers.specs.Limits.{SET_WORDS}
use Rattle.table.specs.Loops.{Trying}
use Rattle.pages.specs.Columns.{not_empty}
use Rattle.pages.proofs.holds_any.Given as goal

abbrev pub invariant-loop-k : goal.invariant-loop-k
invariant-loop-k l = Trying (not_empty l.sets l.row) SET_WORDS l.k
