-- What the library leaves in a box of slots: the model's new state, in a valid box; and after a refused start a box that no other entry
-- takes. When a row is accepted, that the lowest free page can be assigned, and demand 3, of the library's own contracts. `BoxesKept`,
-- `BoxesExact`, `BoxesFree` and `BoxesSecret` say it for caches whose words can be read again, and slots are such.
use Prim.Native.Nat.{ℕ, ◌+◌, ◌*◌, ◌<◌}
use mathlib.Core.Bool.{Bool}
use mathlib.Core.List.{List, [], ◌∷◌}
use mathlib.Core.Logic.{◌↔◌}
use mathlib.Core.Path.{◌≡◌, refl}
use lib.Dec.{eqb}
use lib.ListN.{length, get_or}
use Rattle.numbers.specs.Limits.{ROW_NUMBERS, ANSWER_NUMBERS}
use Rattle.numbers.specs.Meaning.{refuse}
use Rattle.numbers.specs.declared.Refusal.{Refusal}
use Rattle.model.specs.Conditions.{Knows, RowConditions}
use Rattle.model.specs.Effect.{accepted}
use Rattle.model.specs.Secrecy.{PrivateTo, Private}
use Rattle.model.specs.Sequence.{row_at, row_count, step_row, after, sequence}
use Rattle.model.specs.Start.{Told, start_answer, start, free_refused}
use Rattle.box_header.specs.Numbers.{NO_PAGE}
use Rattle.box_cores.specs.Boxes.{Box, BoxValid, state_in, lent_in}
use Rattle.box_laws.specs.BoxSecrecy.{BoxesAlike, Calls, AllAlike, OperationSecret, SequenceSecret, FreeSecret, OperationOwnWrite, SequenceOwnWrite}
use Rattle.box_cores.specs.Given.{Judgement, Given, OperationAsked, operation_gives, operation_refused, sequence_gives, refused_whole, FreeGiven, FreeAsked, free_gives, free_told, start_gives, HeaderWhole}
use Rattle.box_laws.proofs.BoxesExact.{NumberListed, Answered, operation_exactly, operation_listed, operation_answered, sequence_exactly, sequence_answered}
use Rattle.box_laws.proofs.BoxesFree.{lowest_in, assign_lowest, lowest_assigned}
use Rattle.box_laws.proofs.BoxesKept.{operation_state, operation_box_valid, sequence_state, sequence_box_valid, start_state, start_box_valid, refused_box_not_valid}
use Rattle.box_laws.proofs.BoxesSecret.{of_set, of_one, operation_secret, calls_secret, sequence_secret, free_secret, operation_own_write, sequence_own_write}
use Rattle.slots.specs.SlotLaws.{word_of_slot}
use Rattle.slots.specs.Slots.{words, slots_of}
use Rattle.slots.specs.declared.Slot.{Slot}

pub words_again : (ws : List ℕ) → words (slots_of ws) ≡ ws
words_again [] = refl
words_again (w ∷ ws) = λ i. word_of_slot w i ∷ words_again ws i

module _ (b : Box (List Slot)) where
  module _ (v : BoxValid words b) where
    pub operation_slots_state : (row room : List ℕ) → state_in words (operation_gives words slots_of b row room).box ≡ (step_row (state_in words b) row).state
    operation_slots_state = operation_state words slots_of words_again b v

    pub operation_slots_valid : (row room : List ℕ) → BoxValid words (operation_gives words slots_of b row room).box
    operation_slots_valid = operation_box_valid words slots_of words_again b v

    pub sequence_slots_state : (rows room : List ℕ) → state_in words (sequence_gives words slots_of b rows room).box ≡ (sequence (state_in words b) rows room).progress.state
    sequence_slots_state = sequence_state words slots_of words_again b v

    pub sequence_slots_valid : (rows room : List ℕ) → BoxValid words (sequence_gives words slots_of b rows room).box
    sequence_slots_valid = sequence_box_valid words slots_of words_again b v

  module _ (told : Told) (h : HeaderWhole b.header) where
    pub start_slots_state : start_answer told (lent_in words b) ≡ accepted → state_in words (start_gives words slots_of b told).box ≡ (start told (lent_in words b)).state
    start_slots_state = start_state words slots_of words_again b told h

    pub start_slots_valid : start_answer told (lent_in words b) ≡ accepted → BoxValid words (start_gives words slots_of b told).box
    start_slots_valid = start_box_valid words slots_of words_again b told h

    pub refused_slots_not_valid : {refusal : Refusal} {index : ℕ} → start_answer told (lent_in words b) ≡ refuse refusal index → BoxValid words (start_gives words slots_of b told).box → ⊥
    refused_slots_not_valid = refused_box_not_valid words slots_of words_again b told h

-- ---- accepted exactly when: what `tiligormis_operation` returns, and answer row k of `tiligormis_sequence`
module _ (b : Box (List Slot)) where
  module _ (row room : List ℕ) (r : Given (List Slot)) (j : Judgement (OperationAsked words b row room) (operation_gives words slots_of b row room) (operation_refused b room) r) where
    pub operation_slots_exactly : (r.number ≡ 0) ↔ (OperationAsked words b row room × RowConditions (state_in words b).tables row)
    operation_slots_exactly = operation_exactly words slots_of b row room r j

    pub operation_slots_listed : NumberListed words slots_of b row room r
    operation_slots_listed = operation_listed words slots_of b row room r j

    pub operation_slots_answered : length room ≡ ANSWER_NUMBERS → Answered row r.room 0 × (r.number ≡ get_or r.room 0 0)
    operation_slots_answered = operation_answered words slots_of b row room r j

  pub sequence_slots_exactly : (rows room : List ℕ) (r : Given (List Slot)) → Judgement (BoxValid words b) (sequence_gives words slots_of b rows room) (refused_whole b room) r → r.number ≡ 0 →
      (k : ℕ) → k < row_count rows → (get_or r.room (k * ANSWER_NUMBERS) 0 ≡ 0) ↔ RowConditions (after rows k (record { state = state_in words b; room = room })).state.tables (row_at rows k)
  sequence_slots_exactly = sequence_exactly words slots_of b

  pub sequence_slots_answered : (rows room : List ℕ) (r : Given (List Slot)) → Judgement (BoxValid words b) (sequence_gives words slots_of b rows room) (refused_whole b room) r → r.number ≡ 0 →
      (k : ℕ) → k < row_count rows → Answered (row_at rows k) r.room (k * ANSWER_NUMBERS)
  sequence_slots_answered = sequence_answered words slots_of b

-- ---- what `tiligormis_free` names `tiligormis_operation` assigns to every known VM
module _ (b : Box (List Slot)) where
  pub lowest_slots_assigned :
      (room : List ℕ) (f : FreeGiven) → Judgement (FreeAsked words b room) (free_gives words b room) (free_told room free_refused) f → f.number ≡ 0 → (lowest_in f ≡ NO_PAGE → ⊥) →
      (vm : ℕ) → Knows (state_in words b).tables vm → (rest answers : List ℕ) → length rest + 3 ≡ ROW_NUMBERS → length answers ≡ ANSWER_NUMBERS →
      (r : Given (List Slot)) → Judgement (OperationAsked words b (assign_lowest f vm rest) answers) (operation_gives words slots_of b (assign_lowest f vm rest) answers) (operation_refused b answers) r →
      r.number ≡ 0
  lowest_slots_assigned = lowest_assigned words slots_of b

-- ---- demand 3 for a set of VMs
module _ (members : ℕ → Bool) where
  pub operation_slots_secret : OperationSecret members (Private members) words slots_of
  operation_slots_secret = operation_secret members (Private members) (of_set members) words slots_of words_again

  pub calls_slots_secret : {b b' : Box (List Slot)} → BoxesAlike members (Private members) words b b' → (calls : Calls members (Private members) words slots_of b b') →
      AllAlike members (Private members) words slots_of calls
  calls_slots_secret = calls_secret members (Private members) (of_set members) words slots_of words_again

  pub sequence_slots_secret : SequenceSecret members (Private members) words slots_of
  sequence_slots_secret = sequence_secret members (Private members) (of_set members) words slots_of words_again

  pub free_slots_secret : FreeSecret members (Private members) words slots_of
  free_slots_secret = free_secret members (Private members) (of_set members) words slots_of words_again

  pub operation_slots_own_write : OperationOwnWrite members (Private members) words slots_of
  operation_slots_own_write = operation_own_write members (Private members) (of_set members) words slots_of words_again

  pub sequence_slots_own_write : SequenceOwnWrite members (Private members) words slots_of
  sequence_slots_own_write = sequence_own_write members (Private members) (of_set members) words slots_of words_again

-- ---- and for one
module _ (vm : ℕ) where
  pub operation_slots_secret_one : OperationSecret (eqb vm) (PrivateTo vm) words slots_of
  operation_slots_secret_one = operation_secret (eqb vm) (PrivateTo vm) (of_one vm) words slots_of words_again

  pub calls_slots_secret_one : {b b' : Box (List Slot)} → BoxesAlike (eqb vm) (PrivateTo vm) words b b' → (calls : Calls (eqb vm) (PrivateTo vm) words slots_of b b') →
      AllAlike (eqb vm) (PrivateTo vm) words slots_of calls
  calls_slots_secret_one = calls_secret (eqb vm) (PrivateTo vm) (of_one vm) words slots_of words_again

  pub sequence_slots_secret_one : SequenceSecret (eqb vm) (PrivateTo vm) words slots_of
  sequence_slots_secret_one = sequence_secret (eqb vm) (PrivateTo vm) (of_one vm) words slots_of words_again

  pub free_slots_secret_one : FreeSecret (eqb vm) (PrivateTo vm) words slots_of
  free_slots_secret_one = free_secret (eqb vm) (PrivateTo vm) (of_one vm) words slots_of words_again

  pub operation_slots_own_write_one : OperationOwnWrite (eqb vm) (PrivateTo vm) words slots_of
  operation_slots_own_write_one = operation_own_write (eqb vm) (PrivateTo vm) (of_one vm) words slots_of words_again

  pub sequence_slots_own_write_one : SequenceOwnWrite (eqb vm) (PrivateTo vm) words slots_of
  sequence_slots_own_write_one = sequence_own_write (eqb vm) (PrivateTo vm) (of_one vm) words slots_of words_again
