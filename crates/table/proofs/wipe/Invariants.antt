-- `table::wipe` meets its contract. The loop has emptied and counted the words that passed.
use Rattle.std.proofs.Common.{ℕ, Bool, ◌≤◌}
use Rattle.table.specs.Loops.{Wiping, Tallying}
use Rattle.table.specs.Tests.{Tells}
use Rattle.table.proofs.wipe.Given as goal

abbrev pub invariant-loop-w : goal.invariant-loop-w
invariant-loop-w g l =
    (l.wiped ≤ l.w-index)
    × ((p : ℕ → Bool) → Tells (goal.P-post g l.passes) p → Wiping p l.initial.w-items l.w-items l.w-index × Tallying p l.initial.w-items l.wiped l.w-index)
