-- What an entry leaves in a box is the model's new state, and a valid box stays valid; two results that an entry's statement allows are
-- equal. Said for caches of any form whose words can be read again.
use Prim.Native.Nat.{ℕ, zero, suc}
use mathlib.Core.List.{List}
use Rattle.std.specs.Prelude.{Option, None, Some, Ok, Err}
use mathlib.Core.Path.{◌≡◌, refl, sym, ap, ◌∙◌, subst}
use lib.ListN.{length-replicate}
use Rattle.numbers.specs.Limits.{PORTS, UNITS, IDLE}
use Rattle.numbers.specs.Meaning.{Answer, refuse}
use Rattle.numbers.specs.declared.Operation.{Operation}
use Rattle.numbers.specs.declared.Refusal.{Refusal}
use Rattle.units.specs.Units.{no_unit}
use Rattle.model.specs.Effect.{kept, accepted}
use Rattle.model.specs.Header.{state_of, setup_of}
use Rattle.model.specs.RefusedLaws.{sequence_leaves}
use Rattle.model.proofs.StepLeaves.{row_leaves}
use Rattle.model.specs.Sequence.{Progress, operation_in, row_at, step_known, step_row, shape_answer, row_count, after, sequence, beginning}
use Rattle.model.proofs.StepShape.{step_sizes}
use Rattle.model.specs.Start.{Told, start_answer, empty_state, fresh_state, start}
use Rattle.model.specs.State.{State}
use Rattle.model.specs.Valid.{Valid}
use Rattle.model.proofs.Kept.{row_valid, sequence_valid}
use Rattle.model.proofs.StartKept.{start_valid, empty_not_valid}
use Rattle.model.proofs.Answers.{after_next}
use Rattle.box_header.specs.HeaderLaws.{changed_good, state_changed, begun_good, state_begun}
use Rattle.box_header.specs.Numbers.{fixed_of, machine_of, lists_of, HeaderGood, changed, begun}
use Rattle.box_cores.specs.Boxes.{Box, BoxValid, state_in, lent_in, with_header, left_in, begun_in}
use Rattle.box_cores.specs.Given.{Judgement, met, unmet, operation_gives, sequence_gives, start_gives, HeaderWhole}

-- ---- no statement leaves two results open
pub determined : {A : Type 0} {Asked : Type 0} {good bad r r' : A} → Judgement Asked good bad r → Judgement Asked good bad r' → r ≡ r'
determined (met a e) (met a' e') = e ∙ sym e'
determined (met a e) (unmet n e') = absurd (n a)
determined (unmet n e) (met a e') = absurd (n a)
determined (unmet n e) (unmet n' e') = e ∙ sym e'

-- ---- what start fixed stays
known_setup : (s : State) (o : Option Operation) → (step_known s o).state.tables.setup ≡ s.tables.setup
known_setup s None = refl
known_setup s (Some operation) = (step_sizes s operation).tables.setup

pub row_setup : (s : State) (row : List ℕ) → (step_row s row).state.tables.setup ≡ s.tables.setup
unfolding step_row
row_setup s row = known_setup s (operation_in row)

after_setup : (rows : List ℕ) (n : ℕ) (p : Progress) → (after rows n p).state.tables.setup ≡ p.state.tables.setup
unfolding after
after_setup rows zero p = refl
after_setup rows (suc n) p = ap (λ (q : Progress). q.state.tables.setup) (after_next rows n p) ∙ row_setup (after rows n p).state (row_at rows n) ∙ after_setup rows n p

sequence_setup : (s : State) (rows room : List ℕ) → (sequence s rows room).progress.state.tables.setup ≡ s.tables.setup
unfolding sequence
sequence_setup s rows room = whole (shape_answer rows room)
  where
    p : Progress
    p = beginning s room

    whole : (answer : Answer) → (kept answer p (after rows (row_count rows) p)).state.tables.setup ≡ s.tables.setup
    whole (Ok ok) = after_setup rows (row_count rows) p
    whole (Err err) = refl

module _ {C : Type 0} (words_of : C → List ℕ) (cacheOf : List ℕ → C) (back : (ws : List ℕ) → words_of (cacheOf ws) ≡ ws) where
  -- the state of a box that was left, from its header and the words of its caches
  module _ (b : Box C) (new : State) (h : HeaderGood b.header) (v : Valid new) where
    pub left_state : new.tables.setup ≡ setup_of (fixed_of b.header) → state_in words_of (left_in cacheOf b new) ≡ new
    left_state e =
        (λ i. state_of (machine_of (changed b.header new.tables)) (record (lists_of new.tables new.memory) { cpu_cache = back new.tables.cpu.cache i; dma_cache = back new.tables.dma.cache i }))
        ∙ state_changed b.header new h.whole v.tables.lengths.cpu.ports v.tables.lengths.dma.ports e

    pub left_valid : new.tables.setup ≡ setup_of (fixed_of b.header) → BoxValid words_of (left_in cacheOf b new)
    left_valid e =
        record {
          header = changed_good b.header new.tables h v.tables.lengths.cpu.ports v.tables.lengths.dma.ports;
          state = subst Valid (sym (left_state e)) v;
        }

  -- an accepted operation leaves the new state, a refused one the old, which is then the same
  module _ (b : Box C) (v : BoxValid words_of b) where
    kept_state : (answer : Answer) (new : State) → new ≡ kept answer (state_in words_of b) new → Valid new → new.tables.setup ≡ setup_of (fixed_of b.header)
        → state_in words_of (kept answer b (left_in cacheOf b new)) ≡ new
    kept_state (Ok ok) new k w e = left_state b new v.header w e
    kept_state (Err err) new k w e = sym k

    kept_valid : (answer : Answer) (new : State) → Valid new → new.tables.setup ≡ setup_of (fixed_of b.header) → BoxValid words_of (kept answer b (left_in cacheOf b new))
    kept_valid (Ok ok) new w e = left_valid b new v.header w e
    kept_valid (Err err) new w e = v

    -- ---- one operation
    pub operation_state : (row room : List ℕ) → state_in words_of (operation_gives words_of cacheOf b row room).box ≡ (step_row (state_in words_of b) row).state
    operation_state row room =
        let r = step_row (state_in words_of b) row in
        kept_state r.answer r.state (row_leaves (state_in words_of b) row) (row_valid (state_in words_of b) v.state row) (row_setup (state_in words_of b) row)

    pub operation_box_valid : (row room : List ℕ) → BoxValid words_of (operation_gives words_of cacheOf b row room).box
    operation_box_valid row room =
        let r = step_row (state_in words_of b) row in
        kept_valid r.answer r.state (row_valid (state_in words_of b) v.state row) (row_setup (state_in words_of b) row)

    -- ---- the sequence
    pub sequence_state : (rows room : List ℕ) → state_in words_of (sequence_gives words_of cacheOf b rows room).box ≡ (sequence (state_in words_of b) rows room).progress.state
    sequence_state rows room =
        let r = sequence (state_in words_of b) rows room in
        kept_state r.answer r.progress.state (sequence_leaves (state_in words_of b) rows room).state (sequence_valid (state_in words_of b) v.state rows room) (sequence_setup (state_in words_of b) rows room)

    pub sequence_box_valid : (rows room : List ℕ) → BoxValid words_of (sequence_gives words_of cacheOf b rows room).box
    sequence_box_valid rows room =
        let r = sequence (state_in words_of b) rows room in
        kept_valid r.answer r.progress.state (sequence_valid (state_in words_of b) v.state rows room) (sequence_setup (state_in words_of b) rows room)

  -- ---- start: accepted, it leaves the started state in a valid box
  module _ (b : Box C) (told : Told) (h : HeaderWhole b.header) (e : start_answer told (lent_in words_of b) ≡ accepted) where
    abbrev new : State
    new = (start told (lent_in words_of b)).state

    yes : (start told (lent_in words_of b)).answer ≡ accepted
    unfolding start
    yes = e

    v : Valid new
    v = start_valid told (lent_in words_of b) e

    made : (start_gives words_of cacheOf b told).box ≡ begun_in cacheOf b new
    made = ap (λ (a : Answer). kept a (with_header b (begun b.header new.tables)) (begun_in cacheOf b new)) yes

    begun_state : state_in words_of (begun_in cacheOf b new) ≡ new
    begun_state =
        (λ i. state_of (machine_of (begun b.header new.tables)) (record (lists_of new.tables new.memory) { cpu_cache = back new.tables.cpu.cache i; dma_cache = back new.tables.dma.cache i }))
        ∙ state_begun b.header new h v.tables.lengths.units v.tables.lengths.cpu.ports v.tables.lengths.dma.ports

    pub start_state : state_in words_of (start_gives words_of cacheOf b told).box ≡ new
    start_state = ap (state_in words_of) made ∙ begun_state

    pub start_box_valid : BoxValid words_of (start_gives words_of cacheOf b told).box
    start_box_valid =
        subst (BoxValid words_of) (sym made)
        (record {
          header = begun_good b.header new h v.tables.lengths.units v.tables.lengths.cpu.ports v.tables.lengths.dma.ports;
          state = subst Valid (sym begun_state) v;
        })

  -- refused, it leaves a box that is not valid: its header says the empty machine
  module _ (b : Box C) (told : Told) (h : HeaderWhole b.header) {refusal : Refusal} {index : ℕ} (e : start_answer told (lent_in words_of b) ≡ refuse refusal index) where
    abbrev nothing : State
    nothing = empty_state (lent_in words_of b)

    no : (start told (lent_in words_of b)).answer ≡ refuse refusal index
    unfolding start
    no = e

    nothing_left : (start told (lent_in words_of b)).state ≡ nothing
    unfolding start
    nothing_left = ap (λ (a : Answer). kept a nothing (fresh_state told)) e

    left_over : (start_gives words_of cacheOf b told).box ≡ with_header b (begun b.header nothing.tables)
    left_over =
        ap (λ (a : Answer). kept a (with_header b (begun b.header (start told (lent_in words_of b)).state.tables)) (begun_in cacheOf b (start told (lent_in words_of b)).state)) no
        ∙ ap (λ (s : State). with_header b (begun b.header s.tables)) nothing_left

    nothing_state : state_in words_of (with_header b (begun b.header nothing.tables)) ≡ nothing
    unfolding empty_state
    nothing_state = state_begun b.header nothing h (length-replicate UNITS no_unit) (length-replicate PORTS IDLE) (length-replicate PORTS IDLE)

    pub refused_box_not_valid : BoxValid words_of (start_gives words_of cacheOf b told).box → ⊥
    refused_box_not_valid w = empty_not_valid (lent_in words_of b) (subst Valid (ap (state_in words_of) left_over ∙ nothing_state) w.state)
