-- Replay over a header, the lists behind the lent slices and the answer room.
use Rattle.std.specs.Prelude.{ℕ, List}
use Rattle.model.specs.Sequence.{Progress, step_row}
use Rattle.replay.specs.Replay as model
use Rattle.replay.specs.Replay.{Ended, Course, answered_at, stopped}

-- a record's row carried out, its answer in place k where the room has that
abbrev pub carried : List ℕ → ℕ → Progress → Progress
carried row k p = let r = step_row p.state row in record { state = r.state; room = answered_at p.room k r.answer }

-- a course from what stands, how many records were taken and where the next one is
abbrev pub course_of : Progress → ℕ → ℕ → Course
course_of p taken place = record { state = p.state; room = p.room; taken = taken; place = place }

abbrev pub came : Ended → Progress → ℕ → ℕ → model.Replayed
came stop p taken place = stopped stop (course_of p taken place)
