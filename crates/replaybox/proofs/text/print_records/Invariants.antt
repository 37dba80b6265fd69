use Rattle.std.proofs.Common.{◌≤◌, ◌*◌}
use Rattle.arrayvec.specs.ArrayVec.{array_vec_len}
use Rattle.replaybox.specs.Room.{LINE_BYTES}
use Rattle.replaybox.proofs.text.print_records.Given as goal

abbrev pub invariant-loop-answer : goal.invariant-loop-answer
invariant-loop-answer g l = array_vec_len l.text ≤ l.answer-index * LINE_BYTES
