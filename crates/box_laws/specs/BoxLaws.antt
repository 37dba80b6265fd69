-- From what a core gives for a box of words to what an entry gives for the box of slots behind it.
use Rattle.std.specs.Prelude.{ℕ, ◌<◌, Bool, List, ◌≡◌, eqb, length, Ok, Err}
use Rattle.std.proofs.Math.Logic.{⊎_elim}
use Rattle.std.proofs.Math.Path.{sym}
use Rattle.std.proofs.Common.{ap, ◌∙◌, arith}
use Rattle.std.proofs.lemmas.List.{length-map}
use Rattle.numbers.specs.Decides.{Decides}
use Rattle.numbers.specs.DecidesLaws.{decides_as}
use Rattle.numbers.specs.Limits.{SLOTS}
use Rattle.numbers.specs.Meaning.{number_of, Answer}
use Rattle.numbers.specs.MeaningLaws.{refusal_above}
use Rattle.numbers.specs.CaseLaws.{cases}
use Rattle.model.specs.Effect.{kept}
use Rattle.model.specs.Sequence.{step_row, sequence}
use Rattle.model.specs.Start.{Told, lengths_good, start_answer, empty_state, start, free, free_refused}
use Rattle.model.specs.Header.{Lists}
use Rattle.model.specs.State.{State}
use Rattle.model.specs.ToldLaws.{LengthsPassed, lengths_passed}
use Rattle.box_header.specs.Numbers.{changed, begun}
use Rattle.box_cores.specs.Boxes.{Box, box, state_in, lent_in, BoxValid, with_header, box_of}
use Rattle.box_cores.specs.Given.{Judgement, met, unmet, Given, given, answered_by, operation_gives, operation_refused, OperationAsked, ran_through, sequence_gives, refused_whole, FreeGiven, free_told, FreeAsked, free_gives, StartGiven, start_given, started_by, start_gives, start_refused, not_valid_answer, StartOfWords, all_there, not_whole, no_header, Whole, same, HeaderWhole}
use Rattle.slots.specs.Slots.{word_of, words, slots_of, loaded, stored}
use Rattle.slots.specs.SlotLaws.{loaded_whole, stored_whole, stored_none}
use Rattle.slots.specs.declared.Slot.{Slot}

module _ (header sets pairs cpu_map cpu_walker : List ℕ) (cpuSlots : List Slot) (dma_map dma_walker : List ℕ) (dmaSlots : List Slot) (memory : List ℕ)
    (cpuWords dmaWords : List ℕ) (c : cpuWords ≡ loaded SLOTS cpuSlots) (d : dmaWords ≡ loaded SLOTS dmaSlots) where
  abbrev of_slots : Box (List Slot)
  of_slots = box header sets pairs cpu_map cpu_walker cpuSlots dma_map dma_walker dmaSlots memory

  abbrev of_words : Box (List ℕ)
  of_words = box header sets pairs cpu_map cpu_walker cpuWords dma_map dma_walker dmaWords memory

  abbrev AllThere : Type 0
  AllThere = Whole (length cpuSlots) (length dmaSlots)

  -- ---- whole caches are loaded as their words
  cpu_words : AllThere → cpuWords ≡ words cpuSlots
  cpu_words w = c ∙ loaded_whole cpuSlots w.0

  dma_words : AllThere → dmaWords ≡ words dmaSlots
  dma_words w = d ∙ loaded_whole dmaSlots w.1

  pub same_state : AllThere → state_in same of_words ≡ state_in words of_slots
  same_state w = rw (cpu_words w, dma_words w)

  same_lent : AllThere → lent_in same of_words ≡ lent_in words of_slots
  same_lent w = rw (cpu_words w, dma_words w)

  pub valid_slots : AllThere → BoxValid same of_words → BoxValid words of_slots
  valid_slots w v = record { header = v.header; state = rw (sym (same_state w)) v.state }

  -- a valid box has whole caches
  pub valid_whole : BoxValid words of_slots → AllThere
  valid_whole v = (sym (length-map cpuSlots word_of) ∙ v.state.tables.lengths.cpu.cache, sym (length-map dmaSlots word_of) ∙ v.state.tables.lengths.dma.cache)

  pub valid_words : BoxValid words of_slots → BoxValid same of_words
  valid_words v = record { header = v.header; state = rw (same_state (valid_whole v)) v.state }

  -- ---- the test for validity
  pub decides_slots : {b : Bool} → Decides b (AllThere × BoxValid same of_words) → Decides b (BoxValid words of_slots)
  decides_slots t = decides_as t (λ p. valid_slots p.0 p.1) (λ v. (valid_whole v, valid_words v))

  -- ---- the free query
  pub free_slots : (room : List ℕ) {result : FreeGiven} → Judgement (AllThere × FreeAsked same of_words room) (free_gives same of_words room) (free_told room free_refused) result
      → Judgement (FreeAsked words of_slots room) (free_gives words of_slots room) (free_told room free_refused) result
  free_slots room (met (w, a) e) = met (record { box = valid_slots w a.box; whole_room = a.whole_room }) (e ∙ ap (λ (s : State). free_told room (free s.tables)) (same_state w))
  free_slots room (unmet n e) = unmet (λ a. n (valid_whole a.box, record { box = valid_words a.box; whole_room = a.whole_room })) e

  -- ---- start refuses caches that are not whole with 1
  refused_short : (told : Told) → (AllThere → ⊥) → start_gives words slots_of of_slots told ≡ start_given (number_of not_valid_answer) (with_header of_slots (begun header (empty_state (lent_in same of_words)).tables))
  unfolding start start_answer empty_state
  refused_short told n = ⊎_elim (λ e. absurd (n (whole_caches (lengths_passed told (lent_in words of_slots) e)))) (λ e. rw e) (cases (lengths_good told (lent_in words of_slots)))
    where
      whole_caches : LengthsPassed told (lent_in words of_slots) → AllThere
      whole_caches p = (sym (length-map cpuSlots word_of) ∙ p.cpu_cache, sym (length-map dmaSlots word_of) ∙ p.dma_cache)

  module _ (header' sets' pairs' cpuMap' cpuWalker' cpuLeft dmaMap' dmaWalker' dmaLeft memory' : List ℕ) (cpuLength : length cpuLeft ≡ SLOTS) (dmaLength : length dmaLeft ≡ SLOTS) (number : ℕ) where
    abbrev left_words : Box (List ℕ)
    left_words = box header' sets' pairs' cpuMap' cpuWalker' cpuLeft dmaMap' dmaWalker' dmaLeft memory'

    -- ---- words that are stored
    abbrev kept_in : Box (List ℕ) → Box (List Slot)
    kept_in x = box x.header x.sets x.pairs x.cpu_map x.cpu_walker (stored (eqb number 0) x.cpu_cache cpuSlots) x.dma_map x.dma_walker (stored (eqb number 0) x.dma_cache dmaSlots) x.memory

    -- a refusal's are not
    stored_back : 0 < number → (h : List ℕ) → kept_in (with_header of_words h) ≡ with_header of_slots h
    stored_back p h = rw (stored_none number cpuWords cpuSlots p, stored_none number dmaWords dmaSlots p)

    -- the words of a new state, in whole caches
    pub stored_new : AllThere → number ≡ 0 → (h : List ℕ) (s : State) → left_words ≡ box_of same h s → kept_in left_words ≡ box_of slots_of h s
    stored_new w z h s e =
        let p : stored (eqb number 0) cpuLeft cpuSlots ≡ slots_of cpuLeft = ap (λ (k : ℕ). stored (eqb k 0) cpuLeft cpuSlots) z ∙ stored_whole cpuLeft cpuSlots cpuLength w.0 in
        let q : stored (eqb number 0) dmaLeft dmaSlots ≡ slots_of dmaLeft = ap (λ (k : ℕ). stored (eqb k 0) dmaLeft dmaSlots) z ∙ stored_whole dmaLeft dmaSlots dmaLength w.1 in
        rw (p, q) (ap (λ (x : Box (List ℕ)). box x.header x.sets x.pairs x.cpu_map x.cpu_walker (slots_of x.cpu_cache) x.dma_map x.dma_walker (slots_of x.dma_cache) x.memory) e)

    stored_kept : AllThere → (answer : Answer) (old new : List ℕ) (s : State) → number ≡ number_of answer → left_words ≡ kept answer (with_header of_words old) (box_of same new s) → kept_in left_words ≡ kept answer (with_header of_slots old) (box_of slots_of new s)
    stored_kept w (Ok ok) old new s z e = stored_new w z new s e
    stored_kept w (Err err) old new s z e = ap kept_in e ∙ stored_back (omega (arith, refusal_above err.refusal, z)) old

    -- the box was not judged
    pub stored_unjudged : (h : List ℕ) → number ≡ number_of not_valid_answer → left_words ≡ with_header of_words h → kept_in left_words ≡ with_header of_slots h
    stored_unjudged h z e = ap kept_in e ∙ stored_back (omega (arith, z)) h

    module _ (cpuAfter dmaAfter : List Slot) (cpuStored : cpuAfter ≡ stored (eqb number 0) cpuLeft cpuSlots) (dmaStored : dmaAfter ≡ stored (eqb number 0) dmaLeft dmaSlots) where
      abbrev left_slots : Box (List Slot)
      left_slots = box header' sets' pairs' cpuMap' cpuWalker' cpuAfter dmaMap' dmaWalker' dmaAfter memory'

      after : left_slots ≡ kept_in left_words
      after = rw (cpuStored, dmaStored)

      -- ---- one operation, and the sequence
      module _ (room room' : List ℕ) where
        abbrev gave : Given (List Slot)
        gave = given number room' left_slots

        joined : (n : ℕ) (r : List ℕ) (x : Box (List ℕ)) (y : Box (List Slot)) → given number room' left_words ≡ given n r x → (number ≡ n → left_words ≡ x → kept_in left_words ≡ y) → gave ≡ given n r y
        joined n r x y e f =
            let z : number ≡ n = ap (λ (g : Given (List ℕ)). g.number) e in
            λ i. given (z i) (ap (λ (g : Given (List ℕ)). g.room) e i) ((after ∙ f z (ap (λ (g : Given (List ℕ)). g.box) e)) i)

        pub operation_slots : (row : List ℕ) → Judgement (AllThere × OperationAsked same of_words row room) (operation_gives same same of_words row room) (operation_refused of_words room) (given number room' left_words)
            → Judgement (OperationAsked words of_slots row room) (operation_gives words slots_of of_slots row room) (operation_refused of_slots room) gave
        operation_slots row (met (w, a) e) =
            let q = step_row (state_in same of_words) row in
            met (record { box = valid_slots w a.box; whole_row = a.whole_row; whole_room = a.whole_room })
            (joined _ _ _ _ e (stored_kept w q.answer header (changed header q.state.tables) q.state) ∙ ap (λ (s : State). answered_by slots_of of_slots room (step_row s row)) (same_state w))
        operation_slots row (unmet n e) =
            unmet (λ a. n (valid_whole a.box, record { box = valid_words a.box; whole_row = a.whole_row; whole_room = a.whole_room })) (joined _ _ _ _ e (stored_unjudged header))

        pub sequence_slots : (rows : List ℕ) → Judgement (AllThere × BoxValid same of_words) (sequence_gives same same of_words rows room) (refused_whole of_words room) (given number room' left_words)
            → Judgement (BoxValid words of_slots) (sequence_gives words slots_of of_slots rows room) (refused_whole of_slots room) gave
        sequence_slots rows (met (w, v) e) =
            let q = sequence (state_in same of_words) rows room in
            met (valid_slots w v) (joined _ _ _ _ e (stored_kept w q.answer header (changed header q.progress.state.tables) q.progress.state) ∙ ap (λ (s : State). ran_through slots_of of_slots (sequence s rows room)) (same_state w))
        sequence_slots rows (unmet n e) = unmet (λ v. n (valid_whole v, valid_words v)) (joined _ _ _ _ e (stored_unjudged header))

      -- ---- start
      began : (n : ℕ) (x : Box (List ℕ)) (y : Box (List Slot)) → start_given number left_words ≡ start_given n x → (number ≡ n → left_words ≡ x → kept_in left_words ≡ y) → start_given number left_slots ≡ start_given n y
      began n x y e f =
          let z : number ≡ n = ap (λ (g : StartGiven (List ℕ)). g.number) e in
          λ i. start_given (z i) ((after ∙ f z (ap (λ (g : StartGiven (List ℕ)). g.box) e)) i)

      pub start_slots : (told : Told) → StartOfWords (length cpuSlots) (length dmaSlots) of_words told (start_given number left_words)
          → Judgement (HeaderWhole header) (start_gives words slots_of of_slots told) (start_refused of_slots) (start_given number left_slots)
      start_slots told (all_there h w e) =
          let q = start told (lent_in same of_words) in
          met h (began _ _ _ e (stored_kept w q.answer (begun header q.state.tables) (begun header q.state.tables) q.state) ∙ ap (λ (l : Lists). started_by slots_of of_slots (start told l)) (same_lent w))
      start_slots told (not_whole h n e) =
          met h (began _ _ _ e (stored_unjudged (begun header (empty_state (lent_in same of_words)).tables)) ∙ sym (refused_short told n))
      start_slots told (no_header n e) = unmet n (began _ _ _ e (stored_unjudged header))
