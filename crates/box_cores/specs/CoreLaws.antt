-- From what the machine's entries leave to what a core gives.
use Rattle.std.specs.Prelude.{ℕ, ◌+◌, ◌<◌, Bool, List, ◌≡◌, length, get_or, Ok, Err}
use Rattle.std.proofs.Math.Path.{refl, ap}
use Rattle.std.proofs.Common.{◌∙◌, subst, arith, eq-eqb, ne_eqb}
use Rattle.numbers.specs.Decides.{Decides}
use Rattle.numbers.specs.DecidesLaws.{decides_as}
use Rattle.numbers.specs.Limits.{ROW_NUMBERS, ANSWER_NUMBERS}
use Rattle.numbers.specs.Meaning.{answer_numbers, number_of, Answer}
use Rattle.model.specs.Effect.{kept}
use Rattle.model.specs.Entries.{JudgedRow, JudgedSequence, JudgedFree, valid, not_valid}
use Rattle.model.specs.Sequence.{Sequenced, step_row, sequence}
use Rattle.model.specs.Start.{Told, Started, Free, empty_state, fresh_state, start_answer, start, free_refused}
use Rattle.model.specs.Header.{state_of}
use Rattle.model.specs.State.{State}
use Rattle.model.specs.Valid.{Valid}
use Rattle.model.specs.declared.Machine.{Machine}
use Rattle.model.specs.Step.{Stepped}
use Rattle.model.specs.WriteLaws.{written_here}
use Rattle.box_header.specs.HeaderLaws.{changed_same}
use Rattle.start.specs.Begun.{empty_header}
use Rattle.box_header.specs.Numbers.{HeaderGood, machine_of, changed, begun, begun_by, answered, free_numbers}
use Rattle.box_cores.specs.Boxes.{Box, BoxValid, state_in, lent_in, with_header, box_of, left_in, begun_in}
use Rattle.box_cores.specs.Given.{Judgement, met, unmet, Given, given, answered_by, operation_gives, operation_refused, OperationAsked, ran_through, sequence_gives, refused_whole, FreeGiven, free_told, FreeAsked, free_gives, free_given, FREE_NUMBERS, StartGiven, start_given, start_gives, start_short, StartOfWords, all_there, not_whole, no_header, not_valid_answer, Whole, same, HeaderWhole}
use Rattle.model.specs.RefusedLaws.{sequence_leaves}
use Rattle.model.proofs.StepLeaves.{row_leaves}

-- ---- a room that is written whole, or left
pub answered_here : (room ns : List ℕ) → length room ≡ length ns → (i : ℕ) → i < length ns → get_or (answered room ns) i 0 ≡ get_or ns i 0
answered_here room ns l i h = let z : 0 + i ≡ i = omega arith in rw (eq-eqb (length room) (length ns) l) (rw z at (written_here room 0 ns i h (omega arith)))

pub answered_other : (room ns : List ℕ) → (length room ≡ length ns → ⊥) → answered room ns ≡ room
answered_other room ns n = rw (ne_eqb (length room) (length ns) n)

module _ (b : Box (List ℕ)) (h : HeaderGood b.header) where
  abbrev s : State
  s = state_in same b

  -- a state that is as it was is left in the box as it was
  pub left_same : left_in same b s ≡ b
  left_same = ap (λ (header : List ℕ). record { header = header; sets = b.sets; pairs = b.pairs; cpu_map = b.cpu_map; cpu_walker = b.cpu_walker; cpu_cache = b.cpu_cache; dma_map = b.dma_map; dma_walker = b.dma_walker; dma_cache = b.dma_cache; memory = b.memory })
      (changed_same b.header h.whole (lent_in same b))

  left_kept : (answer : Answer) (new : State) → new ≡ kept answer s new → left_in same b new ≡ kept answer b (left_in same b new)
  left_kept (Ok ok) new e = refl
  left_kept (Err err) new e = ap (left_in same b) e ∙ left_same

  -- ---- one operation
  module _ (row room : List ℕ) where
    abbrev gives : Stepped → Given (List ℕ)
    gives r = given (number_of r.answer) (answered room (answer_numbers r.answer)) (left_in same b r.state)

    pub row_given_lem : {cpuSlots dmaSlots : ℕ} (r : Stepped) → Whole cpuSlots dmaSlots → (BoxValid same b → OperationAsked same b row room) → JudgedRow s row r
        → Judgement (Whole cpuSlots dmaSlots × OperationAsked same b row room) (operation_gives same same b row room) (operation_refused b room) (gives r)
    row_given_lem r w asked (valid v e) =
        met (w, asked (record { header = h; state = v }))
        (ap gives e ∙ ap (given (number_of (step_row s row).answer) (answered room (answer_numbers (step_row s row).answer))) (left_kept (step_row s row).answer (step_row s row).state (row_leaves s row)))
    row_given_lem r w asked (not_valid n e) = unmet (λ a. n a.1.box.state) (ap gives e ∙ ap (given _ _) left_same)

  -- ---- the sequence
  module _ (rows room : List ℕ) where
    abbrev runs : Sequenced → Given (List ℕ)
    runs r = given (number_of r.answer) r.progress.room (left_in same b r.progress.state)

    pub sequence_given : {cpuSlots dmaSlots : ℕ} (r : Sequenced) → Whole cpuSlots dmaSlots → JudgedSequence s rows room r
        → Judgement (Whole cpuSlots dmaSlots × BoxValid same b) (sequence_gives same same b rows room) (refused_whole b room) (runs r)
    sequence_given r w (valid v e) =
        met (w, record { header = h; state = v })
        (ap runs e ∙ ap (given (number_of (sequence s rows room).answer) (sequence s rows room).progress.room) (left_kept (sequence s rows room).answer (sequence s rows room).progress.state (sequence_leaves s rows room).state))
    sequence_given r w (not_valid n e) = unmet (λ a. n a.1.state) (ap runs e ∙ ap (given _ _) left_same)

  -- ---- the free query
  module _ (room : List ℕ) where
    pub free_given_lem : {cpuSlots dmaSlots : ℕ} (f : Free) → Whole cpuSlots dmaSlots → (BoxValid same b → FreeAsked same b room) → JudgedFree s f
        → Judgement (Whole cpuSlots dmaSlots × FreeAsked same b room) (free_gives same b room) (free_told room free_refused) (free_told room f)
    free_given_lem f w asked (valid v e) = met (w, asked (record { header = h; state = v })) (ap (free_told room) e)
    free_given_lem f w asked (not_valid n e) = unmet (λ a. n a.1.box.state) (ap (free_told room) e)

-- ---- start
module _ (b : Box (List ℕ)) (told : Told) where
  abbrev begins : Started → StartGiven (List ℕ)
  begins r = record { number = number_of r.answer; box = begun_in same b r.state }

  -- refused, start leaves all that is lent
  begun_kept : (answer : Answer) → begun_in same b (kept answer (empty_state (lent_in same b)) (fresh_state told))
      ≡ kept answer (with_header b (begun b.header (kept answer (empty_state (lent_in same b)) (fresh_state told)).tables)) (begun_in same b (kept answer (empty_state (lent_in same b)) (fresh_state told)))
  unfolding empty_state
  begun_kept (Ok ok) = refl
  begun_kept (Err err) = refl

  pub start_given_lem : (r : Started) → r ≡ start told (lent_in same b) → begins r ≡ start_gives same same b told
  unfolding start
  start_given_lem r e = ap begins e ∙ ap (λ (x : Box (List ℕ)). record { number = number_of (start_answer told (lent_in same b)); box = x }) (begun_kept (start_answer told (lent_in same b)))

  pub short_given : record { number = number_of not_valid_answer; box = with_header b (begun_by b.header empty_header) } ≡ start_short b
  unfolding empty_state
  short_given = refl

-- ---- the same as the code has it, call by call
abbrev Ready : ℕ → ℕ → Box (List ℕ) → Type 0
Ready cpuSlots dmaSlots b = Whole cpuSlots dmaSlots × HeaderGood b.header

abbrev RowReady : ℕ → ℕ → Box (List ℕ) → List ℕ → List ℕ → Type 0
RowReady cpuSlots dmaSlots b row room = (Ready cpuSlots dmaSlots b × (length row ≡ ROW_NUMBERS)) × (length room ≡ ANSWER_NUMBERS)

-- the state of a box by the machine that was read from its header
abbrev under : Box (List ℕ) → Machine → State
under b m = state_of m (lent_in same b)

-- what is asked of an operation, beside validity, is what was tested
pub row_asked : {cpuSlots dmaSlots : ℕ} {b : Box (List ℕ)} {row room : List ℕ} → Whole cpuSlots dmaSlots × OperationAsked same b row room → RowReady cpuSlots dmaSlots b row room
row_asked (w, a) = (((w, a.box.header), a.whole_row), a.whole_room)

module _ {cpuSlots dmaSlots : ℕ} {b : Box (List ℕ)} {m : Machine} where
  pub valid_core : {out : Bool} → Ready cpuSlots dmaSlots b → m ≡ machine_of b.header → Decides out (Valid (under b m)) → Decides out (Whole cpuSlots dmaSlots × BoxValid same b)
  valid_core {out = out} (w, h) e t =
      decides_as (subst (λ (x : Machine). Decides out (Valid (under b x))) e t) (λ v. (w, record { header = h; state = v })) (λ p. p.1.state)

  pub operation_core : {row room numbers : List ℕ} {r : Stepped} {number : ℕ} {room' header' : List ℕ} → RowReady cpuSlots dmaSlots b row room → m ≡ machine_of b.header → numbers ≡ row → JudgedRow (under b m) numbers r
      → number ≡ number_of r.answer → room' ≡ answered room (answer_numbers r.answer) → header' ≡ changed b.header r.state.tables
      → Judgement (Whole cpuSlots dmaSlots × OperationAsked same b row room) (operation_gives same same b row room) (operation_refused b room) (given number room' (box_of same header' r.state))
  operation_core {row = row} {room = room} {numbers = numbers} {r = r} (((w, h), l), k) e f j n a c =
      rw (n, a, c)
      (row_given_lem b h row room r w (λ v. record { box = v; whole_row = l; whole_room = k })
      (subst (λ (x : List ℕ). JudgedRow (under b (machine_of b.header)) x r) f (subst (λ (x : Machine). JudgedRow (under b x) numbers r) e j)))

  pub sequence_core : (rows : List ℕ) {room : List ℕ} {r : Sequenced} {number : ℕ} {header' : List ℕ} → Ready cpuSlots dmaSlots b → m ≡ machine_of b.header → JudgedSequence (under b m) rows room r
      → number ≡ number_of r.answer → header' ≡ changed b.header r.progress.state.tables
      → Judgement (Whole cpuSlots dmaSlots × BoxValid same b) (sequence_gives same same b rows room) (refused_whole b room) (given number r.progress.room (box_of same header' r.progress.state))
  sequence_core rows {room = room} {r = r} (w, h) e j n c =
      rw (n, c) (sequence_given b h rows room r w (subst (λ (x : Machine). JudgedSequence (under b x) rows room r) e j))

  pub free_core : {room : List ℕ} {f : Free} {number : ℕ} {room' : List ℕ} → Ready cpuSlots dmaSlots b × (length room ≡ FREE_NUMBERS) → m ≡ machine_of b.header → JudgedFree (under b m) f
      → number ≡ number_of f.answer → room' ≡ answered room (free_numbers f.count f.lowest)
      → Judgement (Whole cpuSlots dmaSlots × FreeAsked same b room) (free_gives same b room) (free_told room free_refused) (free_given number room')
  free_core {room = room} {f = f} ((w, h), k) e j n a =
      rw (n, a) (free_given_lem b h room f w (λ v. record { box = v; whole_room = k }) (subst (λ (x : Machine). JudgedFree (under b x) f) e j))

module _ {cpuSlots dmaSlots : ℕ} {b : Box (List ℕ)} {told : Told} where
  pub start_core : {r : Started} {number : ℕ} {header' : List ℕ} → HeaderWhole b.header → Whole cpuSlots dmaSlots → r ≡ start told (lent_in same b)
      → number ≡ number_of r.answer → header' ≡ begun b.header r.state.tables → StartOfWords cpuSlots dmaSlots b told (start_given number (box_of same header' r.state))
  start_core {r = r} h w e n c = all_there h w (rw (n, c) (start_given_lem b told r e))

  pub short_core : {m : Machine} {number : ℕ} {header' : List ℕ} → HeaderWhole b.header → (Whole cpuSlots dmaSlots → ⊥) → m ≡ empty_header
      → number ≡ number_of not_valid_answer → header' ≡ begun_by b.header m → StartOfWords cpuSlots dmaSlots b told (start_given number (with_header b header'))
  short_core h w e n c = not_whole h w (rw (n, c, e) (short_given b told))

  pub no_core : {number : ℕ} → (HeaderWhole b.header → ⊥) → number ≡ number_of not_valid_answer → StartOfWords cpuSlots dmaSlots b told (start_given number b)
  no_core h n = no_header h (rw n)
