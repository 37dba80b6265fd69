-- Replay (docs/MACHINE.md, 14): records of a log carried out one after the other, each as a row of the sequence is, until as many as
-- were asked for are taken, the log ends or a record cannot be read.
use Rattle.std.specs.Prelude.{ℕ, zero, suc, ◌+◌, ◌*◌, Some, None, Result, Ok, Err, List, leb, length}
use Rattle.std.specs.Prelude.{if◌then◌else◌}
use Rattle.numbers.specs.Limits.{ANSWER_NUMBERS}
use Rattle.numbers.specs.Meaning.{answer_numbers, refusal_number, Answer}
use Rattle.numbers.specs.declared.Refusal.TheVariants.{StateNotValid}
use Rattle.model.specs.State.{State}
use Rattle.model.specs.Entries.{Judged}
use Rattle.model.specs.Sequence.{write_at, step_row}
use Rattle.operation_log.specs.Log.{log_refusal_number, Read, record_at}
use Rattle.operation_log.specs.declared.Taken.{Taken}
use Rattle.replay.specs.declared.Stop.{Stop}
use Rattle.replay.specs.declared.Stop.TheVariants.{Unreadable, NotValid}

-- how it ended: the number was reached or the log ended, or why it stopped
abbrev pub Ended : Type 0
Ended = Result (Unit {0}) Stop

abbrev pub done : Ended
done = Ok tt

-- the manual's number of it
abbrev pub stop_number : Ended → ℕ
stop_number (Ok _) = 0
stop_number (Err (Unreadable why)) = log_refusal_number why
stop_number (Err NotValid) = refusal_number StateNotValid

-- how far it has come: the state, the answer room, the records taken, and the place of the next one
pub record Course : Type 0 where
  pub state : State
  pub room : List ℕ
  pub taken : ℕ
  pub place : ℕ

abbrev pub set_out : State → List ℕ → ℕ → Course
set_out s room place = record { state = s; room = room; taken = 0; place = place }

-- answer k in its place, where the room has the whole of that
abbrev pub answered_at : List ℕ → ℕ → Answer → List ℕ
answered_at room k answer = if leb ((k + 1) * ANSWER_NUMBERS) (length room) then write_at room (k * ANSWER_NUMBERS) (answer_numbers answer) else room

-- a record more, refused or not
abbrev pub onward : Course → Taken → Course
onward c taken =
    let r = step_row c.state taken.row in
    record { state = r.state; room = answered_at c.room c.taken r.answer; taken = c.taken + 1; place = taken.next }

pub record Replayed : Type 0 where
  pub stop : Ended
  pub course : Course

abbrev pub stopped : Ended → Course → Replayed
stopped stop c = record { stop = stop; course = c }

-- what was read at the course's place stops it there, or it goes on
abbrev pub goes_on : Read → Course → (Taken → Replayed) → Replayed
goes_on (Ok (Some taken)) c rest = rest taken
goes_on (Ok None) c rest = stopped done c
goes_on (Err why) c rest = stopped (Err (Unreadable why)) c

-- at most so many records more
unfoldable pub replay_from : ℕ → List ℕ → Course → Replayed
replay_from zero log c = stopped done c
replay_from (suc most) log c = goes_on (record_at log c.place) c (λ taken. replay_from most log (onward c taken))

abbrev pub replay : State → List ℕ → ℕ → ℕ → List ℕ → Replayed
replay s log place most room = replay_from most log (set_out s room place)

-- ---- the entry: a state that is not valid is refused with 1, none taken, and left with all else as it was
abbrev pub replay_refused : State → ℕ → List ℕ → Replayed
replay_refused s place room = stopped (Err NotValid) (set_out s room place)

abbrev pub JudgedReplay : State → List ℕ → ℕ → ℕ → List ℕ → Replayed → Type 0
JudgedReplay s log place most room result = Judged s (replay s log place most room) (replay_refused s place room) result
