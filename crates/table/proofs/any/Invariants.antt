-- `table::any` meets its contract. The loop has passed words that fail.
use Rattle.std.proofs.Common.{ℕ, Bool}
use Rattle.table.specs.Loops.{Asking}
use Rattle.table.specs.Tests.{Tells}
use Rattle.table.proofs.any.Given as goal

abbrev pub invariant-loop-w : goal.invariant-loop-w
invariant-loop-w g l = (p : ℕ → Bool) → Tells (goal.P-post g l.passes) p → Asking p l.words l.w-index
