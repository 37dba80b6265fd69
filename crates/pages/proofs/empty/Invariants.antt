-- `pages::empty` meets its contract: the words before k are 0.
use Prim.Native.Nat.{◌-◌}
use Rattle.numbers.specs.Limits.{SET_WORDS}
use Rattle.table.specs.Loops.{Sweeping}
use Rattle.pages.specs.Pour.{empty_column}
use Rattle.pages.proofs.empty.Given as goal

abbrev pub invariant-loop-k : goal.invariant-loop-k
invariant-loop-k l = Sweeping (empty_column l.row) SET_WORDS l.initial.sets l.sets l.k
