use Rattle.std.proofs.Common.{◌≤◌, ◌*◌}
use Rattle.arrayvec.specs.ArrayVec.{array_vec_len}
use Rattle.batch.specs.Room.{ANSWER_BYTES}
use Rattle.batch.proofs.print.print_answers.Given as goal

abbrev pub invariant-loop-answer : goal.invariant-loop-answer
invariant-loop-answer g l = array_vec_len l.text ≤ l.answer-index * ANSWER_BYTES
