use Rattle.std.proofs.Common.{◌+◌, ◌*◌, ◌≤◌}
use Rattle.arrayvec.specs.ArrayVec.{array_vec_len}
use Rattle.batch.specs.Room.{NUMBER_BYTES}
use Rattle.replaybox.proofs.text.put_row.Given as goal

abbrev pub invariant-loop-number : goal.invariant-loop-number
invariant-loop-number g l = array_vec_len l.text ≤ array_vec_len l.fn.text + l.number-index * NUMBER_BYTES
