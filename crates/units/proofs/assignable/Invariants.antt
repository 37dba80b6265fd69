use Prim.Native.Nat.{ℕ, ◌-◌}
use lib.ListN.{get_or}
use Rattle.table.specs.Loops.{Trying}
use Rattle.units.specs.Units.{is_unit, no_unit}
use Rattle.units.proofs.assignable.Given as goal

abbrev pub invariant-loop-k : goal.invariant-loop-k
invariant-loop-k l = Trying (λ (i : ℕ). is_unit l.side l.region (get_or l.units i no_unit)) l.count l.k
