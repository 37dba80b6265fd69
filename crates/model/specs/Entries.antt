-- What the public entries give (docs/MACHINE.md, 8 and 9): each judges the state that it is handed, and refuses one that is not valid
-- with 1, leaving everything as it was.
use Rattle.std.specs.Prelude.{ℕ, List, ◌≡◌}
use Rattle.numbers.specs.declared.Refusal.TheVariants.{StateNotValid}
use Rattle.model.specs.State.{State}
use Rattle.model.specs.Valid.{Valid}
use Rattle.model.specs.Effect.{refused}
use Rattle.model.specs.Step.{Stepped}
use Rattle.model.specs.Sequence.{Sequenced, beginning, step_row, sequence}
use Rattle.model.specs.Start.{Free, free, free_refused}

-- the one result for a valid state, the other for any other
pub data Judged {A : Type 0} (s : State) (good bad result : A) : Type 0 where
  valid : Valid s → result ≡ good → Judged s good bad result
  not_valid : (Valid s → ⊥) → result ≡ bad → Judged s good bad result

-- ---- one operation, as a row
abbrev pub step_refused : State → Stepped
step_refused s = record { answer = refused StateNotValid; state = s }

abbrev pub JudgedRow : State → List ℕ → Stepped → Type 0
JudgedRow s row result = Judged s (step_row s row) (step_refused s) result

-- ---- the sequence, judged once, before its first row
abbrev pub sequence_refused : State → List ℕ → Sequenced
sequence_refused s room = record { answer = refused StateNotValid; progress = beginning s room }

abbrev pub JudgedSequence : State → List ℕ → List ℕ → Sequenced → Type 0
JudgedSequence s rows room result = Judged s (sequence s rows room) (sequence_refused s room) result

-- ---- the free query
abbrev pub JudgedFree : State → Free → Type 0
JudgedFree s result = Judged s (free s.tables) free_refused result
