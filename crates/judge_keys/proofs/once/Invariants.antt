-- `judge_keys::once` meets its contract. Each place before i is the first of its key.
use Prim.Native.Nat.{ℕ, ◌<◌}
use Rattle.judge_keys.specs.Keys.{NewKey}
use Rattle.judge_keys.proofs.once.Given as goal

abbrev pub invariant-loop-i : goal.invariant-loop-i
invariant-loop-i l = (j : ℕ) → j < l.i → NewKey l.words j
