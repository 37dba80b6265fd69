-- Demand 3 of boxes: two calls of the one-operation entry, of the sequence and of the free query, and what one call does to a private
-- word; for a set of VMs and for one. Said for caches of any form whose words can be read again.
use Prim.Native.Nat.{ℕ, ◌+◌, ◌*◌, ◌≤◌, ◌<◌}
use mathlib.Core.Bool.{Bool, true}
use mathlib.Core.List.{List, []}
use mathlib.Core.Logic.{◌⊎◌, inl, inr, ⊎_elim}
use mathlib.Core.Path.{◌≡◌, refl, sym, ap, subst, ◌∙◌}
use native.Mathlib.Omega.{arith}
use lib.Dec.{eqb}
use lib.ListN.{length, get_or}
use borrow.Author.Tests.{eq-eqb}
use Rattle.numbers.specs.CaseLaws.{equal}
use Rattle.numbers.specs.Limits.{PAGE_WORDS, ANSWER_NUMBERS}
use Rattle.numbers.specs.Meaning.{answer_numbers, number_of, Answer}
use Rattle.std.specs.Prelude.{Ok, Err}
use Rattle.model.specs.Effect.{word_in, kept}
use Rattle.model.specs.EarlyLaws.{never_both}
use Rattle.model.specs.Entries.{valid}
use Rattle.model.specs.Good.{Wrote}
use Rattle.model.specs.Secrecy.{PrivateTo, Private, effect_in, without_word, Alike, Asked, Premise, StayAlike}
use Rattle.model.specs.Sequence.{Progress, Sequenced, operation_in, row_at, row_count, step_row, after, shape_answer, sequence, beginning}
use Rattle.model.specs.Start.{Free, free, free_refused}
use Rattle.model.specs.State.{Tables, State}
use Rattle.model.specs.Valid.{Valid}
use Rattle.model.proofs.Answers.{four, shape_accepted}
use Rattle.model.proofs.Secrecy.{Unchanged, StepAlike, WrittenIn, secret_step, secrecy, own_write, own_writes, secret_step_one, secrecy_one, own_write_one, own_writes_one}
use Rattle.model.proofs.SecrecyCalls.{valid_as, numbers_alike, CallsAlike, two_calls}
use Rattle.box_header.specs.Numbers.{HeaderGood, changed, free_numbers}
use Rattle.box_laws.specs.BoxSecrecy.{WORD_AT, with_memory, BoxesAlike, SeenIn, Calls, done, call, AllAlike, OperationsAlike, SequencesAlike, FreesAlike, OperationSecret, SequenceSecret, FreeSecret, WordKept, WrittenBy, OperationOwnWrite, SequenceOwnWrite}
use Rattle.box_cores.specs.CoreLaws.{answered_here, answered_other}
use Rattle.box_cores.specs.Boxes.{Box, box, BoxValid, state_in, box_of, left_in}
use Rattle.box_cores.specs.Given.{Judgement, met, unmet, Given, not_valid_answer, OperationAsked, operation_gives, operation_refused, sequence_gives, refused_whole, FreeGiven, FREE_NUMBERS, FreeAsked, free_gives, free_told}
use Rattle.box_laws.proofs.BoxesKept.{operation_state, sequence_state}

-- ---- what is proved of a reading of "private": two runs of a row and of rows, and a member's own write in one row and in rows
pub record Reading (members : ℕ → Bool) (Secret : Tables → ℕ → Type 0) : Type 0 where
  pub row : (s s' : State) (row row' : List ℕ) → Valid s → Alike members Secret s s' → Asked members Secret s s' row row' →
      StepAlike members Secret s.tables (operation_in row) (step_row s row) (step_row s' row')
  pub rows : (p q : Progress) (rows rows' : List ℕ) (count : ℕ) → Valid p.state → Alike members Secret p.state q.state → Premise members Secret p q rows rows' count →
      StayAlike members Secret p q rows rows' count
  pub write : (s : State) → Valid s → (row : List ℕ) (page word : ℕ) → word < PAGE_WORDS → Secret s.tables page → Secret (step_row s row).state.tables page →
      Unchanged s (step_row s row).state page word ⊎ ((vm : ℕ) × (members vm ≡ true) × Wrote (effect_in s.tables (operation_in row)) vm page word)
  pub writes : (rows : List ℕ) (p : Progress) → Valid p.state → (page word : ℕ) → word < PAGE_WORDS → (count : ℕ) → ((k : ℕ) → k ≤ count → Secret (after rows k p).state.tables page) →
      Unchanged p.state (after rows count p).state page word ⊎ WrittenIn members rows p count page word

pub of_set : (members : ℕ → Bool) → Reading members (Private members)
of_set members = record { row = secret_step members; rows = secrecy members; write = own_write members; writes = own_writes members }

pub of_one : (vm : ℕ) → Reading (eqb vm) (PrivateTo vm)
of_one vm =
    record {
      row = secret_step_one vm;
      rows = secrecy_one vm;
      write = λ s v row page word h p p'. ⊎_elim inl (λ w. inr (vm, eq-eqb vm vm refl, w)) (own_write_one vm s v row page word h p p');
      writes = own_writes_one vm;
    }

-- ---- what the free query says of the same state, in two rooms
told_alike : (room room' : List ℕ) → length room ≡ length room' → (f : Free) → FreesAlike room room' (free_told room f) (free_told room' f)
told_alike room room' same f =
    let ns = free_numbers f.count f.lowest in
    record {
      number = refl;
      numbers = λ l i h. answered_here room ns l i h ∙ sym (answered_here room' ns (sym same ∙ l) i h);
      other_room = λ o. (answered_other room ns o, answered_other room' ns (λ l. o (same ∙ l)));
    }

module _ (members : ℕ → Bool) (Secret : Tables → ℕ → Type 0) (reading : Reading members Secret) {C : Type 0} (words_of : C → List ℕ) (cacheOf : List ℕ → C) (back : (ws : List ℕ) → words_of (cacheOf ws) ≡ ws) where
  -- ---- two boxes that are alike
  module _ (b b' : Box C) (like : BoxesAlike members Secret words_of b b') where
    header_same : b.header ≡ b'.header
    header_same = ap (λ (x : Box C). x.header) like.rest

    tables_same : (state_in words_of b).tables ≡ (state_in words_of b').tables
    tables_same = ap (λ (x : Box C). (state_in words_of x).tables) like.rest

    states_alike : Alike members Secret (state_in words_of b) (state_in words_of b')
    states_alike = record { tables = tables_same; size = like.size; words = like.words }

    -- one is valid where the other is
    valid_there : BoxValid words_of b → BoxValid words_of b'
    valid_there v = record { header = subst HeaderGood header_same v.header; state = valid_as _ _ tables_same like.size v.state }

    valid_back : BoxValid words_of b' → BoxValid words_of b
    valid_back v = record { header = subst HeaderGood (sym header_same) v.header; state = valid_as _ _ (sym tables_same) (sym like.size) v.state }

    -- what is left of them but for memory: the new tables, or the boxes as they were
    left_rest : (new new' : State) → new.tables ≡ new'.tables → with_memory (left_in cacheOf b new) [] ≡ with_memory (left_in cacheOf b' new') []
    left_rest new new' e = λ i. with_memory (box_of cacheOf (changed (header_same i) (e i)) (record { tables = e i; memory = [] })) []

    kept_rest : (x y : Answer) → without_word x ≡ without_word y → (new new' : State) → new.tables ≡ new'.tables →
        with_memory (kept x b (left_in cacheOf b new)) [] ≡ with_memory (kept y b' (left_in cacheOf b' new')) []
    kept_rest (Ok ok) (Ok ok') e new new' t = left_rest new new' t
    kept_rest (Err err) (Err err') e new new' t = like.rest
    kept_rest (Ok ok) (Err err) e new new' t = never_both (sym e)
    kept_rest (Err err) (Ok ok) e new new' t = never_both e

  -- boxes with alike states
  boxes_of : (x x' : Box C) (new new' : State) → state_in words_of x ≡ new → state_in words_of x' ≡ new' → Alike members Secret new new' → with_memory x [] ≡ with_memory x' [] → BoxesAlike members Secret words_of x x'
  boxes_of x x' new new' e e' l rest =
      record {
        rest = rest;
        size = ap (λ (s : State). length s.memory) e ∙ l.size ∙ sym (ap (λ (s : State). length s.memory) e');
        words = λ page word h n.
            ap (λ (s : State). word_in s.memory page word) e ∙ l.words page word h (λ x. n (subst (λ (s : State). Secret s.tables page) (sym e) x))
            ∙ sym (ap (λ (s : State). word_in s.memory page word) e');
      }

  -- ---- one operation
  pub operation_secret : OperationSecret members Secret words_of cacheOf
  operation_secret b b' row row' room room' r r' (met a e) (met a' e') like rowSame roomSame asked =
      let both = reading.row (state_in words_of b) (state_in words_of b') row row' a.box.state (states_alike b b' like) (asked a) in
      let x = (step_row (state_in words_of b) row).answer in
      let y = (step_row (state_in words_of b') row').answer in
      let same : without_word x ≡ without_word y = both.answers.but_word in
      let here = answered_here room (answer_numbers x) (a.whole_room ∙ sym (four x)) in
      let here' = answered_here room' (answer_numbers y) (a'.whole_room ∙ sym (four y)) in
      rw (e, e')
      (record {
        number = numbers_alike x y 0 same (omega arith);
        boxes =
            boxes_of _ _ _ _ (operation_state words_of cacheOf back b a.box row room) (operation_state words_of cacheOf back b' a'.box row' room') both.states
            (kept_rest b b' like x y same (step_row (state_in words_of b) row).state (step_row (state_in words_of b') row').state both.states.tables);
        numbers = λ l i h. here i (omega (arith, four x)) ∙ numbers_alike x y i same h ∙ sym (here' i (omega (arith, four y)));
        word = λ l n. here WORD_AT (omega (arith, four x)) ∙ ap (λ (z : Answer). get_or (answer_numbers z) WORD_AT 0) (both.answers.whole n) ∙ sym (here' WORD_AT (omega (arith, four y)));
        other_room = λ n. absurd (n a.whole_room);
      })
  operation_secret b b' row row' room room' r r' (met a e) (unmet n' e') like rowSame roomSame asked =
      absurd (n' (record { box = valid_there b b' like a.box; whole_row = sym rowSame ∙ a.whole_row; whole_room = sym roomSame ∙ a.whole_room }))
  operation_secret b b' row row' room room' r r' (unmet n e) (met a' e') like rowSame roomSame asked =
      absurd (n (record { box = valid_back b b' like a'.box; whole_row = rowSame ∙ a'.whole_row; whole_room = roomSame ∙ a'.whole_room }))
  operation_secret b b' row row' room room' r r' (unmet n e) (unmet n' e') like rowSame roomSame asked =
      rw (e, e')
      (record {
        number = refl;
        boxes = like;
        numbers = λ l i h. answered_here room (answer_numbers not_valid_answer) l i (omega arith) ∙ sym (answered_here room' (answer_numbers not_valid_answer) (sym roomSame ∙ l) i (omega arith));
        word = λ l s. answered_here room (answer_numbers not_valid_answer) l WORD_AT (omega arith) ∙ sym (answered_here room' (answer_numbers not_valid_answer) (sym roomSame ∙ l) WORD_AT (omega arith));
        other_room = λ o. (answered_other room (answer_numbers not_valid_answer) o, answered_other room' (answer_numbers not_valid_answer) (λ l. o (roomSame ∙ l)));
      })

  -- where no member saw a private page, all four numbers
  pub operation_whole : (b : Box C) (row room room' : List ℕ) (r r' : Given C) → OperationsAlike members Secret words_of b row room room' r r' → length room ≡ ANSWER_NUMBERS →
      (SeenIn members Secret (state_in words_of b).tables row → ⊥) → (i : ℕ) → i < ANSWER_NUMBERS → get_or r.room i 0 ≡ get_or r'.room i 0
  operation_whole b row room room' r r' a l n i h = ⊎_elim (λ e. rw e (a.word l n)) (λ d. a.numbers l i (omega (arith, d))) (equal i WORD_AT)

  -- ---- call after call
  pub calls_secret : {b b' : Box C} → BoxesAlike members Secret words_of b b' → (calls : Calls members Secret words_of cacheOf b b') → AllAlike members Secret words_of cacheOf calls
  calls_secret like done = like
  calls_secret {b} {b'} like (call row row' room room' r r' given given' rows rooms asked rest) =
      let both = operation_secret b b' row row' room room' r r' given given' like rows rooms asked in
      (both, calls_secret both.boxes rest)

  -- ---- the sequence
  pub sequence_secret : SequenceSecret members Secret words_of cacheOf
  unfolding sequence
  sequence_secret b b' rows rows' room room' r r' (met v e) (met v' e') like same roomSame asked =
      let s = state_in words_of b in
      let s' = state_in words_of b' in
      let ran = sequence s rows room in
      let ran' = sequence s' rows' room' in
      let calls : CallsAlike members Secret s rows room room' ran ran' =
      two_calls members Secret s s' rows rows' room room' (states_alike b b' like) same roomSame ran ran' (valid v.state refl) (valid v'.state refl)
      (λ w a. reading.rows (beginning s room) (beginning s' room') rows rows' (row_count rows) w (states_alike b b' like) (asked v (ap (λ (g : Given C). g.number) e ∙ ap number_of a))) in
      rw (e, e')
      (record {
        number = ap number_of calls.answer;
        boxes =
            boxes_of _ _ _ _ (sequence_state words_of cacheOf back b v rows room) (sequence_state words_of cacheOf back b' v' rows' room') calls.states
            (kept_rest b b' like ran.answer ran'.answer (ap without_word calls.answer) ran.progress.state ran'.progress.state calls.states.tables);
        numbers = λ zero k i h l. calls.numbers (shape_accepted rows room zero) k i h l;
        word = λ zero k h n. calls.words (shape_accepted rows room zero) k WORD_AT h (omega arith) n;
        other_room = λ j h was. calls.rest j (λ a. h (ap number_of a)) was;
      })
  sequence_secret b b' rows rows' room room' r r' (met v e) (unmet n' e') like same roomSame asked = absurd (n' (valid_there b b' like v))
  sequence_secret b b' rows rows' room room' r r' (unmet n e) (met v' e') like same roomSame asked = absurd (n (valid_back b b' like v'))
  sequence_secret b b' rows rows' room room' r r' (unmet n e) (unmet n' e') like same roomSame asked =
      rw (e, e') (record { number = refl; boxes = like; numbers = λ z. absurd (omega arith); word = λ z. absurd (omega arith); other_room = λ j h was. was })

  pub sequence_whole : (b : Box C) (rows room room' : List ℕ) (r r' : Given C) → SequencesAlike members Secret words_of b rows room room' r r' → r.number ≡ 0 → (k : ℕ) → k < row_count rows →
      (SeenIn members Secret (after rows k (beginning (state_in words_of b) room)).state.tables (row_at rows k) → ⊥) → (i : ℕ) → i < ANSWER_NUMBERS →
      get_or r.room (k * ANSWER_NUMBERS + i) 0 ≡ get_or r'.room (k * ANSWER_NUMBERS + i) 0
  sequence_whole b rows room room' r r' a z k h n i l = ⊎_elim (λ e. rw e (a.word z k h n)) (λ d. a.numbers z k i h (omega (arith, d))) (equal i WORD_AT)

  -- ---- the free query
  pub free_secret : FreeSecret members Secret words_of cacheOf
  free_secret b b' room room' r r' (met a e) (met a' e') like roomSame =
      rw (e, e')
      (subst (λ (t : Tables). FreesAlike room room' (free_told room (free (state_in words_of b).tables)) (free_told room' (free t))) (tables_same b b' like)
      (told_alike room room' roomSame (free (state_in words_of b).tables)))
  free_secret b b' room room' r r' (met a e) (unmet n' e') like roomSame = absurd (n' (record { box = valid_there b b' like a.box; whole_room = sym roomSame ∙ a.whole_room }))
  free_secret b b' room room' r r' (unmet n e) (met a' e') like roomSame = absurd (n (record { box = valid_back b b' like a'.box; whole_room = roomSame ∙ a'.whole_room }))
  free_secret b b' room room' r r' (unmet n e) (unmet n' e') like roomSame = rw (e, e') (told_alike room room' roomSame free_refused)

  -- ---- a member's own write
  pub operation_own_write : OperationOwnWrite members Secret words_of cacheOf
  operation_own_write b row room r (met a e) page word h p p' =
      let left : state_in words_of r.box ≡ (step_row (state_in words_of b) row).state = ap (λ (g : Given C). state_in words_of g.box) e ∙ operation_state words_of cacheOf back b a.box row room in
      ⊎_elim (λ same. inl (ap (λ (s : State). word_in s.memory page word) left ∙ same)) (λ w. inr (record { vm = w.0; member = w.1; wrote = w.2 }))
      (reading.write (state_in words_of b) a.box.state row page word h p (subst (λ (s : State). Secret s.tables page) left p'))
  operation_own_write b row room r (unmet n e) page word h p p' = inl (ap (λ (g : Given C). word_in g.box.memory page word) e)

  pub sequence_own_write : SequenceOwnWrite members Secret words_of cacheOf
  unfolding sequence
  sequence_own_write b rows room r (met v e) page word h private =
      let left : state_in words_of r.box ≡ (sequence (state_in words_of b) rows room).progress.state = ap (λ (g : Given C). state_in words_of g.box) e ∙ sequence_state words_of cacheOf back b v rows room in
      ⊎_elim (λ same. inl (ap (λ (s : State). word_in s.memory page word) left ∙ stays (shape_answer rows room) same))
      (λ w. inr (w.row, w.within, record { vm = w.vm; member = w.member; wrote = w.wrote }))
      (reading.writes rows p v.state page word h (row_count rows) private)
    where
      p : Progress
      p = beginning (state_in words_of b) room

      stays : (x : Answer) → Unchanged (state_in words_of b) (after rows (row_count rows) p).state page word → Unchanged (state_in words_of b) (kept x p (after rows (row_count rows) p)).state page word
      stays (Ok ok) same = same
      stays (Err err) same = refl
  sequence_own_write b rows room r (unmet n e) page word h private = inl (ap (λ (g : Given C). word_in g.box.memory page word) e)
