-- `load` meets its contract: the words are the first slots laid over empty ones, and each slot laid down fits.
use Rattle.std.proofs.Common.{◌≡◌, ℕ, ◌<◌, get_or}
use Rattle.slots.specs.Slots.{empty, Fits, laid}
use Rattle.slots.proofs.load.Given as goal

abbrev pub invariant-loop-i : goal.invariant-loop-i
invariant-loop-i l = record {
  is_laid : l.words ≡ laid l.slots l.i;
  fitting : (j : ℕ) → j < l.i → Fits (get_or l.slots j empty);
}
