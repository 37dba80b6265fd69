-- Demand 3 over the sequence entry's own contract: two calls, whatever it answers, by what they leave in the lent slices and in the
-- answer room; for a set of VMs and for one.
use Prim.Native.Nat.{ℕ, zero, suc, ◌+◌, ◌*◌, ◌≤◌, ◌<◌}
use mathlib.Core.Bool.{Bool}
use mathlib.Core.List.{List}
use mathlib.Core.Path.{◌≡◌, refl, sym, ap, ◌∙◌}
use native.Mathlib.Omega.{arith}
use lib.Dec.{eqb}
use lib.ListN.{length, get_or}
use Rattle.numbers.specs.Limits.{ANSWER_NUMBERS}
use Rattle.numbers.specs.Meaning.{answer_numbers, Answer}
use Rattle.std.specs.Prelude.{Ok, Err}
use Rattle.model.specs.State.{Tables, State}
use Rattle.model.specs.Effect.{accepted, kept}
use Rattle.model.specs.EarlyLaws.{never_both}
use Rattle.model.specs.Sequence.{Progress, Sequenced, row_at, operation_in, row_count, after, shape_answer, sequence, beginning}
use Rattle.model.specs.Valid.{Valid}
use Rattle.model.specs.Entries.{valid, not_valid, sequence_refused, JudgedSequence}
use Rattle.model.specs.Secrecy.{PrivateTo, Private, effect_in, without_word, Seen, Alike, Premise, StayAlike}
use Rattle.model.proofs.Answers.{roomy, answer_to, answer_row, room_kept}
use Rattle.model.proofs.Secrecy.{secrecy, secrecy_one}

-- ---- what the entry judges is the same in both calls
pub valid_as : (s s' : State) → s.tables ≡ s'.tables → length s.memory ≡ length s'.memory → Valid s → Valid s'
valid_as s s' tables size v = record { tables = rw tables at v.tables; memory = sym size ∙ v.memory ∙ rw tables }

shape_as : (rows rows' room room' : List ℕ) → length rows ≡ length rows' → length room ≡ length room' → shape_answer rows room ≡ shape_answer rows' room'
unfolding shape_answer
shape_as rows rows' room room' same roomSame = rw (same, roomSame)

-- ---- the numbers of two answers that are equal but for the word
pub numbers_alike : (x y : Answer) (i : ℕ) → without_word x ≡ without_word y → i < 3 → get_or (answer_numbers x) i 0 ≡ get_or (answer_numbers y) i 0
numbers_alike x y i e h = front x i h ∙ ap (λ (z : Answer). get_or (answer_numbers z) i 0) e ∙ sym (front y i h)
  where
    front : (z : Answer) (j : ℕ) → j < 3 → get_or (answer_numbers z) j 0 ≡ get_or (answer_numbers (without_word z)) j 0
    front (Ok ok) zero l = refl
    front (Ok ok) (suc zero) l = refl
    front (Ok ok) (suc (suc zero)) l = refl
    front (Ok ok) (suc (suc (suc j))) l = absurd (omega arith)
    front (Err err) j l = refl

-- ---- two calls, over a set of VMs and a reading of "private"
module _ (members : ℕ → Bool) (Secret : Tables → ℕ → Type 0) where
  -- they answer the same and leave states that are alike; where they carry their rows out, each answer row is the same but for its
  -- last number, which differs only where a member read a private page
  pub record CallsAlike (s : State) (rows room room' : List ℕ) (result result' : Sequenced) : Type 0 where
    pub answer : result.answer ≡ result'.answer
    pub states : Alike members Secret result.progress.state result'.progress.state
    pub numbers : result.answer ≡ accepted → (k i : ℕ) → k < row_count rows → i < 3 →
        get_or result.progress.room (k * ANSWER_NUMBERS + i) 0 ≡ get_or result'.progress.room (k * ANSWER_NUMBERS + i) 0
    pub words : result.answer ≡ accepted → (k i : ℕ) → k < row_count rows → i < ANSWER_NUMBERS →
        (Seen members Secret (after rows k (beginning s room)).state.tables (effect_in (after rows k (beginning s room)).state.tables (operation_in (row_at rows k))) 0 → ⊥) →
        get_or result.progress.room (k * ANSWER_NUMBERS + i) 0 ≡ get_or result'.progress.room (k * ANSWER_NUMBERS + i) 0
    -- a number of the rooms that is no answer's is equal where it was
    pub rest : (j : ℕ) → (result.answer ≡ accepted → row_count rows * ANSWER_NUMBERS ≤ j) → get_or room j 0 ≡ get_or room' j 0 → get_or result.progress.room j 0 ≡ get_or result'.progress.room j 0

  module _
      (s s' : State) (rows rows' room room' : List ℕ) (like : Alike members Secret s s') (same : length rows ≡ length rows') (roomSame : length room ≡ length room') where
    abbrev p : Progress
    p = beginning s room

    abbrev p' : Progress
    p' = beginning s' room'

    agreed : shape_answer rows room ≡ shape_answer rows' room'
    agreed = shape_as rows rows' room room' same roomSame

    -- a number of an answer row, in both rooms
    both_rows : shape_answer rows room ≡ accepted → (k i : ℕ) → k < row_count rows → i < ANSWER_NUMBERS →
        get_or (answer_numbers (answer_to rows p k)) i 0 ≡ get_or (answer_numbers (answer_to rows' p' k)) i 0 →
        get_or (sequence s rows room).progress.room (k * ANSWER_NUMBERS + i) 0 ≡ get_or (sequence s' rows' room').progress.room (k * ANSWER_NUMBERS + i) 0
    unfolding sequence
    both_rows shape k i h b e =
        rw (shape, sym agreed ∙ shape)
        (answer_row rows p (row_count rows) k i h b (roomy rows room shape).0 ∙ e
        ∙ sym (answer_row rows' p' (row_count rows') k i (rw same at h) b (roomy rows' room' (sym agreed ∙ shape)).0))

    -- carried out, or refused for its shape
    either : (x : Answer) → shape_answer rows room ≡ x → (x ≡ accepted → Alike members Secret (after rows (row_count rows) p).state (after rows' (row_count rows') p').state) →
        Alike members Secret (kept x p (after rows (row_count rows) p)).state (kept x p' (after rows' (row_count rows') p')).state
    either (Ok ok) e last = last (sym (roomy rows room e).1)
    either (Err err) e last = like

    rest_of : (x : Answer) → shape_answer rows room ≡ x → (j : ℕ) → (x ≡ accepted → row_count rows * ANSWER_NUMBERS ≤ j) → get_or room j 0 ≡ get_or room' j 0 →
        get_or (kept x p (after rows (row_count rows) p)).room j 0 ≡ get_or (kept x p' (after rows' (row_count rows') p')).room j 0
    rest_of (Ok ok) e j h was =
        let past-answers : row_count rows * ANSWER_NUMBERS ≤ j = h (sym (roomy rows room e).1) in
        room_kept rows p (row_count rows) j past-answers ∙ was ∙ sym (room_kept rows' p' (row_count rows') j (rw same at past-answers))
    rest_of (Err err) e j h was = was

    two_runs : (shape_answer rows room ≡ accepted → StayAlike members Secret p p' rows rows' (row_count rows)) → CallsAlike s rows room room' (sequence s rows room) (sequence s' rows' room')
    unfolding sequence
    two_runs stay =
        record {
          answer = agreed;
          states = rw (← agreed) (either (shape_answer rows room) refl (λ shape. rw (← same) ((stay shape).states (row_count rows) (omega arith))));
          numbers = λ shape k i h b. both_rows shape k i h (omega arith) (numbers_alike (answer_to rows p k) (answer_to rows' p' k) i ((stay shape).answers k h).but_word b);
          words = λ shape k i h b n. both_rows shape k i h b (ap (λ (z : Answer). get_or (answer_numbers z) i 0) (((stay shape).answers k h).whole n));
          rest = rw (← agreed) (rest_of (shape_answer rows room) refl);
        }

    -- a state that is not valid
    two_refusals : CallsAlike s rows room room' (sequence_refused s room) (sequence_refused s' room')
    two_refusals = record { answer = refl; states = like; numbers = λ e. never_both e; words = λ e. never_both e; rest = λ j h was. was }

    pub two_calls : (result result' : Sequenced) → JudgedSequence s rows room result → JudgedSequence s' rows' room' result' →
        (Valid s → result.answer ≡ accepted → StayAlike members Secret p p' rows rows' (row_count rows)) → CallsAlike s rows room room' result result'
    unfolding sequence
    two_calls result result' (valid v e) (valid v' e') stay = rw (e, e') (two_runs (λ shape. stay v (ap (λ (x : Sequenced). x.answer) e ∙ shape)))
    two_calls result result' (valid v e) (not_valid n' e') stay = absurd (n' (valid_as s s' like.tables like.size v))
    two_calls result result' (not_valid n e) (valid v' e') stay = absurd (n (valid_as s' s (sym like.tables) (sym like.size) v'))
    two_calls result result' (not_valid n e) (not_valid n' e') stay = rw (e, e') two_refusals

-- ---- a set of VMs; of the rows something is asked only where they are carried out
pub secrecy_calls : (members : ℕ → Bool) (s s' : State) (rows rows' room room' : List ℕ) (result result' : Sequenced) →
    JudgedSequence s rows room result → JudgedSequence s' rows' room' result' →
    Alike members (Private members) s s' → length rows ≡ length rows' → length room ≡ length room' →
    (result.answer ≡ accepted → Premise members (Private members) (beginning s room) (beginning s' room') rows rows' (row_count rows)) → CallsAlike members (Private members) s rows room room' result result'
secrecy_calls members s s' rows rows' room room' result result' j j' like same roomSame asked =
    two_calls members (Private members) s s' rows rows' room room' like same roomSame result result' j j'
    (λ v a. secrecy members (beginning s room) (beginning s' room') rows rows' (row_count rows) v like (asked a))

-- ---- one VM
pub secrecy_calls_one : (vm : ℕ) (s s' : State) (rows rows' room room' : List ℕ) (result result' : Sequenced) →
    JudgedSequence s rows room result → JudgedSequence s' rows' room' result' →
    Alike (eqb vm) (PrivateTo vm) s s' → length rows ≡ length rows' → length room ≡ length room' →
    (result.answer ≡ accepted → Premise (eqb vm) (PrivateTo vm) (beginning s room) (beginning s' room') rows rows' (row_count rows)) → CallsAlike (eqb vm) (PrivateTo vm) s rows room room' result result'
secrecy_calls_one vm s s' rows rows' room room' result result' j j' like same roomSame asked =
    two_calls (eqb vm) (PrivateTo vm) s s' rows rows' room room' like same roomSame result result' j j'
    (λ v a. secrecy_one vm (beginning s room) (beginning s' room') rows rows' (row_count rows) v like (asked a))
