-- What replay leaves in a box of slots: the model's state, in a valid box. This holds too where a record stopped it.
use Prim.Native.Nat.{ℕ, zero, suc}
use mathlib.Core.List.{List}
use mathlib.Core.Path.{◌≡◌, refl, ◌∙◌}
use lib.ListN.{get_or}
use Rattle.std.specs.Prelude.{Some, None, Ok, Err}
use Rattle.model.specs.Valid.{Valid}
use Rattle.operation_log.specs.Log.{Read, record_at}
use Rattle.operation_log.specs.declared.Taken.{Taken}
use Rattle.replay.specs.Replay.{Course, Replayed, onward, goes_on, replay_from, replay}
use Rattle.replay.proofs.Pieces.{replay_valid}
use Rattle.box_cores.specs.Boxes.{Box, BoxValid, state_in}
use Rattle.box_laws.proofs.BoxesKept.{row_setup, left_state, left_valid}
use Rattle.box_laws.proofs.SlotBoxes.{words_again}
use Rattle.box_replay.specs.Given.{replay_gives}
use Rattle.slots.specs.Slots.{words, slots_of}
use Rattle.slots.specs.declared.Slot.{Slot}

-- ---- what start fixed stays
goes_setup : (read : Read) (c : Course) (rest : Taken → Replayed) → ((taken : Taken) → (rest taken).course.state.tables.setup ≡ c.state.tables.setup) →
    (goes_on read c rest).course.state.tables.setup ≡ c.state.tables.setup
goes_setup (Ok (Some taken)) c rest e = e taken
goes_setup (Ok None) c rest e = refl
goes_setup (Err why) c rest e = refl

from_setup : (most : ℕ) (log : List ℕ) (c : Course) → (replay_from most log c).course.state.tables.setup ≡ c.state.tables.setup
unfolding replay_from
from_setup zero log c = refl
from_setup (suc most) log c =
    goes_setup (record_at log c.place) c _ (λ taken. from_setup most log (onward c taken) ∙ row_setup c.state taken.row)

module _ (b : Box (List Slot)) (v : BoxValid words b) (log place : List ℕ) (most : ℕ) (answers : List ℕ) where
  kept : Valid (replay (state_in words b) log (get_or place 0 0) most answers).course.state
  kept = replay_valid (state_in words b) log (get_or place 0 0) most answers v.state

  pub replay_slots_state : state_in words (replay_gives words slots_of b log place most answers).box ≡ (replay (state_in words b) log (get_or place 0 0) most answers).course.state
  replay_slots_state = left_state words slots_of words_again b _ v.header kept (from_setup most log _)

  pub replay_slots_valid : BoxValid words (replay_gives words slots_of b log place most answers).box
  replay_slots_valid = left_valid words slots_of words_again b _ v.header kept (from_setup most log _)
