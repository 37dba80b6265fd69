-- The model's progress and sequence, over a header, the lists behind the lent slices and the answer room.
use Rattle.std.specs.Prelude.{ℕ, ◌*◌, ◌/◌, ◌%◌, not, List, eqb, leb}
use Rattle.std.specs.Prelude.{if◌then◌else◌}
use Rattle.numbers.specs.Limits.{ROW_NUMBERS, ANSWER_NUMBERS}
use Rattle.numbers.specs.Meaning.{Answer}
use Rattle.numbers.specs.declared.Refusal.TheVariants.{OutOfRange}
use Rattle.model.specs.Effect.{accepted, refused}
use Rattle.model.specs.Header.{Lists, state_of}
use Rattle.model.specs.Sequence.{Progress, Sequenced}
use Rattle.model.specs.declared.Machine.{Machine}

abbrev pub progress : Machine → Lists → List ℕ → Progress
progress m l room = record { state = state_of m l; room = room }

abbrev pub ran : Answer → Progress → Sequenced
ran answer p = record { answer = answer; progress = p }

-- the shape of a sequence, by how many numbers its rows and its answer room have
abbrev pub shape_of : ℕ → ℕ → Answer
shape_of rows room =
    if not (eqb (rows % ROW_NUMBERS) 0) then refused OutOfRange
    else if not (leb (rows / ROW_NUMBERS * ANSWER_NUMBERS) room) then refused OutOfRange
    else accepted
