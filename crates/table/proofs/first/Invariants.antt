-- `table::first` meets its contract. The loop has passed words that fail.
use Rattle.std.proofs.Common.{ℕ, Bool}
use Rattle.table.specs.Loops.{Seeking}
use Rattle.table.specs.Tests.{Tells}
use Rattle.table.proofs.first.Given as goal

abbrev pub invariant-loop-spot : goal.invariant-loop-spot
invariant-loop-spot g l = (p : ℕ → Bool) → Tells (goal.P-post g l.passes) p → Seeking p l.words l.spot
