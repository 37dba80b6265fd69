-- `table::past_failing` meets its contract. The loop has passed blocks of words that fail.
use Rattle.std.proofs.Common.{ℕ, Bool, ◌*◌}
use Rattle.table.specs.Loops.{Seeking}
use Rattle.table.specs.Tests.{Tells}
use Rattle.table.proofs.past_failing.Given as goal

abbrev pub invariant-loop-block : goal.invariant-loop-block
invariant-loop-block g l = (p : ℕ → Bool) → Tells (goal.P-post g l.passes) p → Seeking p l.words (4 * l.block)
