use Prim.Native.Nat.{ℕ, ◌-◌}
use mathlib.Core.Bool.{not, ◌&&◌}
use lib.Dec.{eqb}
use Rattle.numbers.specs.Limits.{VMS}
use Rattle.table.specs.Loops.{Trying}
use Rattle.model.specs.Views.{claims}
use Rattle.views.proofs.claimed_elsewhere.Given as goal

abbrev pub invariant-loop-other : goal.invariant-loop-other
invariant-loop-other l = Trying (λ (o : ℕ). not (eqb o l.vm.0) && claims l.side l.sets o l.page.0) VMS l.other
