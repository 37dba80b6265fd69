-- Demand 3 (docs/MACHINE.md, 12) of replay: two states equal but for private words, and two logs whose rows differ only in what a member
-- writes to private pages, leave two such states, and answers equal but for words that a member read there.
use Prim.Native.Nat.{ℕ, ◌<◌}
use mathlib.Core.Bool.{Bool}
use mathlib.Core.List.{List}
use mathlib.Core.Path.{◌≡◌}
use native.Mathlib.Nat.{le_refl}
use Rattle.model.specs.Secrecy.{Alike, Private, Asked, SameAnswer}
use Rattle.model.specs.Sequence.{beginning, operation_in, row_at, step_row, after}
use Rattle.model.specs.State.{State}
use Rattle.model.specs.Valid.{Valid}
use Rattle.model.proofs.Secrecy.{secrecy}
use Rattle.replay.specs.Replay.{replay}
use Rattle.replay.proofs.ReplayRows.{rows, count, replay_rows}

module _ (members : ℕ → Bool) (log log' : List ℕ) (place place' most most' : ℕ) (s s' : State) (room room' : List ℕ) where
  abbrev n : ℕ
  n = count log place most

  -- what stands after k of the rows read
  abbrev at : ℕ → State
  at k = (after (rows log place most) k (beginning s room)).state

  abbrev at' : ℕ → State
  at' k = (after (rows log' place' most') k (beginning s' room')).state

  abbrev row : ℕ → List ℕ
  row k = row_at (rows log place most) k

  abbrev row' : ℕ → List ℕ
  row' k = row_at (rows log' place' most') k

  -- as many records are read in both, and each two are what is asked of two rows of a sequence
  pub record LogsAsked : Type 0 where
    pub counts : n ≡ count log' place' most'
    pub asked : (k : ℕ) → k < n → Asked members (Private members) (at k) (at' k) (row k) (row' k)

  pub record LeftAlike : Type 0 where
    pub states : Alike members (Private members) (replay s log place most room).course.state (replay s' log' place' most' room').course.state
    pub answers : (k : ℕ) → k < n → SameAnswer members (Private members) (at k).tables (operation_in (row k)) (step_row (at k) (row k)).answer (step_row (at' k) (row' k)).answer

  pub replay_secret : Valid s → Alike members (Private members) s s' → LogsAsked → LeftAlike
  replay_secret v like a =
      let both = secrecy members (beginning s room) (beginning s' room') (rows log place most) (rows log' place' most') n v like a.asked in
      let left = (replay_rows log place most s room).state room in
      let left' = (replay_rows log' place' most' s' room').state room' in
      record { states = rw (left, left', ← a.counts) (both.states n (le_refl _)); answers = both.answers }
