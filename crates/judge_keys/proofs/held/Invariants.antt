-- `judge_keys::held` meets its contract. The classes before this one are as they ought to be.
use Prim.Native.Nat.{ℕ, ◌<◌}
use Rattle.judge_keys.specs.Keys.{ClassHeld, Blank}
use Rattle.judge_keys.proofs.held.Given as goal

abbrev pub invariant-loop-class : goal.invariant-loop-class
invariant-loop-class l = Blank l.place × ((k : ℕ) → k < l.class → ClassHeld l.slots.words.now l.map.words.now k)
