-- `pages::pour` meets its contract: the words before k are poured.
use Prim.Native.Nat.{◌-◌}
use Rattle.numbers.specs.Limits.{SET_WORDS}
use Rattle.table.specs.Loops.{Sweeping}
use Rattle.pages.specs.Pour.{pour_column}
use Rattle.pages.proofs.pour.Given as goal

abbrev pub invariant-loop-k : goal.invariant-loop-k
invariant-loop-k l = Sweeping (pour_column l.from l.to) SET_WORDS l.initial.sets l.sets l.k
