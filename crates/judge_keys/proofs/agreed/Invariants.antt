-- `judge_keys::agreed` meets its contract. The classes before this one are as they ought to be.
use Prim.Native.Nat.{ℕ, ◌<◌}
use Rattle.judge_keys.specs.Keys.{ClassAgree, Blank}
use Rattle.judge_keys.proofs.agreed.Given as goal

abbrev pub invariant-loop-class : goal.invariant-loop-class
invariant-loop-class l = Blank l.place × ((k : ℕ) → k < l.class → ClassAgree l.map.words.now l.walker.words.now k)
