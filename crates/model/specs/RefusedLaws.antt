-- What it is that a refusal leaves everything (of operations and rows: proofs/StepLeaves), and that a refused sequence leaves state and answer room.
use Rattle.std.specs.Prelude.{ℕ, List, ◌≡◌, refl, Ok, Err}
use Rattle.numbers.specs.Meaning.{Answer}
use Rattle.model.specs.Effect.{Control, kept, quiet}
use Rattle.model.specs.Sequence.{shape_answer, after, row_count, Sequenced, beginning, sequence}
use Rattle.model.specs.State.{State, Tables}
use Rattle.model.specs.Step.{Stepped}

-- ---- what is decided: nothing where it is refused
pub record Leaves (t : Tables) (c : Control) : Type 0 where
  pub tables : c.tables ≡ kept c.answer t c.tables
  pub effect : c.effect ≡ kept c.answer quiet c.effect

-- ---- carried out: the state as it was where it is refused
abbrev pub KeptBy : State → Stepped → Type 0
KeptBy s r = r.state ≡ kept r.answer s r.state

-- ---- the sequence: the state, and the answer room
pub record SequenceLeaves (s : State) (lent : List ℕ) (r : Sequenced) : Type 0 where
  pub state : r.progress.state ≡ kept r.answer s r.progress.state
  pub room : r.progress.room ≡ kept r.answer lent r.progress.room

pub sequence_leaves : (s : State) (rows room : List ℕ) → SequenceLeaves s room (sequence s rows room)
unfolding sequence
sequence_leaves s rows room = whole (shape_answer rows room)
  where
    whole : (answer : Answer) → SequenceLeaves s room (record { answer = answer; progress = kept answer (beginning s room) (after rows (row_count rows) (beginning s room)) })
    whole (Ok ok) = record { state = refl; room = refl }
    whole (Err err) = record { state = refl; room = refl }
