-- `store` meets its contract: the first slots are those of the words.
use Rattle.std.proofs.Common.{◌≡◌}
use Rattle.slots.specs.Slots.{over}
use Rattle.slots.proofs.store.Given as goal

abbrev pub invariant-loop-i : goal.invariant-loop-i
invariant-loop-i l = l.slots ≡ over l.words l.fn.slots l.i
