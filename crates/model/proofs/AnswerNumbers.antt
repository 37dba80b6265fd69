-- What the four numbers of an answer may be (docs/MACHINE.md, 2): for every row, and from any state, valid or not.
use Prim.{Unit, tt}
use Prim.Native.Nat.{ℕ, ◌+◌, ◌<◌}
use mathlib.Core.Bool.{Bool, true, false, not, ◌&&◌, true≢false}
use mathlib.Core.List.{List, [], ◌∷◌}
use mathlib.Core.Logic.{⊎_elim}
use Rattle.std.specs.Prelude.{Option, None, Some, Ok, Err}
use mathlib.Core.Path.{◌≡◌, refl, sym, ◌∙◌}
use native.Mathlib.Omega.{arith}
use lib.Dec.{eqb, ltb}
use lib.ListN.{length, get_or, get_or-eq_default}
use borrow.Author.Tests.{ltb-true, ltb-false, eqb-true}
use Rattle.numbers.specs.CaseLaws.{cases}
use Rattle.std.specs.Prelude.{if◌then◌else◌}
use Rattle.numbers.specs.Meaning.{refusal_number, answer_numbers, number_of, Answer, accept, refuse}
use Rattle.numbers.specs.declared.Refusal.{Refusal}
use Rattle.numbers.specs.declared.Refusal.TheVariants.{StateNotValid}
use Rattle.numbers.specs.declared.Operation.{Operation}
use Rattle.table.specs.Scan.{any, any_below, lowest}
use Rattle.table.specs.ScanLaws.{any_below_false, lowest_found}
use Rattle.model.specs.State.{Tables, State}
use Rattle.model.specs.Effect.{Effect, reads, writes, clears, Control, decided, refused, accepted, accepted_dropping, and_then}
use Rattle.model.specs.Ledger.{add_vm_answer, remove_vm_answer, assign_answer, reclaim_answer, share_answer, unshare_answer}
use Rattle.model.specs.Maps.{map_may, map_answer, unmap_may, unmap_answer}
use Rattle.model.specs.Regions.{clash_at, insert_answer, remove_may, remove_answer}
use Rattle.model.specs.Ports.{port_answer, fill_answer, empty_answer}
use Rattle.model.specs.Access.{access_answer}
use Rattle.model.specs.Retire.{retire_may, retire_answer}
use Rattle.model.specs.Step.{Stepped, carried_out, control, step}
use Rattle.model.specs.Sequence.{operation_of, operation_in, step_known, step_row}
use Rattle.model.specs.Entries.{valid, not_valid, JudgedRow}

-- ---- the paper's numbers
-- the last operation's number
abbrev pub operations : ℕ
operations = 27

-- operations on a region, and the refusals that search one
abbrev pub regions : List ℕ
regions = 11 ∷ 12 ∷ 13 ∷ 14 ∷ []

abbrev pub searches : List ℕ
searches = 6 ∷ 7 ∷ 9 ∷ 10 ∷ 11 ∷ []

-- operations that drop slots: map, unmap, remove a region, retire
abbrev pub drops : List ℕ
drops = 7 ∷ 8 ∷ 9 ∷ 10 ∷ 12 ∷ 14 ∷ 27 ∷ []

-- operations that give a word: read
abbrev pub gives : List ℕ
gives = 21 ∷ 22 ∷ []

-- operations that have no argument, of which none can be out of range
abbrev pub bare : List ℕ
bare = 25 ∷ 26 ∷ []

abbrev pub is_in : List ℕ → ℕ → Bool
is_in ns n = any (eqb n) ns

-- each operation's refusals, first match first (docs/MACHINE.md, 7), at the place of its number; 2 comes before those of its row
unfoldable pub refusal_lists : List (List ℕ)
refusal_lists =
    -- no operation
    (2 ∷ [])
    -- 1 to 6: VMs, ownership and sharing
    ∷ (2 ∷ 5 ∷ [])
    ∷ (2 ∷ 4 ∷ 13 ∷ [])
    ∷ (2 ∷ 4 ∷ 6 ∷ 7 ∷ [])
    ∷ (2 ∷ 4 ∷ 6 ∷ 11 ∷ [])
    ∷ (2 ∷ 4 ∷ 12 ∷ 6 ∷ 14 ∷ [])
    ∷ (2 ∷ 4 ∷ 12 ∷ 11 ∷ [])
    -- 7 to 10: map and unmap
    ∷ (2 ∷ 4 ∷ 6 ∷ 14 ∷ [])
    ∷ (2 ∷ 4 ∷ 6 ∷ 14 ∷ [])
    ∷ (2 ∷ 4 ∷ 9 ∷ [])
    ∷ (2 ∷ 4 ∷ 9 ∷ [])
    -- 11 to 14: regions
    ∷ (2 ∷ 3 ∷ 4 ∷ 8 ∷ 6 ∷ 10 ∷ 7 ∷ 14 ∷ [])
    ∷ (2 ∷ 3 ∷ 4 ∷ 8 ∷ 6 ∷ 9 ∷ 11 ∷ [])
    ∷ (2 ∷ 3 ∷ 4 ∷ 8 ∷ 10 ∷ 7 ∷ 14 ∷ [])
    ∷ (2 ∷ 3 ∷ 4 ∷ 8 ∷ 6 ∷ 9 ∷ 11 ∷ [])
    -- 15 to 20: ports, fills, emptied slots
    ∷ (2 ∷ 4 ∷ [])
    ∷ (2 ∷ 4 ∷ [])
    ∷ (2 ∷ 15 ∷ 9 ∷ [])
    ∷ (2 ∷ 15 ∷ 9 ∷ [])
    ∷ (2 ∷ [])
    ∷ (2 ∷ [])
    -- 21 to 24: reads and writes
    ∷ (2 ∷ 15 ∷ 9 ∷ 16 ∷ [])
    ∷ (2 ∷ 15 ∷ 9 ∷ 16 ∷ [])
    ∷ (2 ∷ 15 ∷ 9 ∷ 16 ∷ [])
    ∷ (2 ∷ 15 ∷ 9 ∷ 16 ∷ [])
    -- 25, 26: barriers, which have no argument
    ∷ []
    ∷ []
    -- 27: a VM retired
    ∷ (2 ∷ 4 ∷ 13 ∷ [])
    ∷ []

-- one list a number, from 0 to the last
pub lists_all : length refusal_lists ≡ operations + 1
unfolding refusal_lists
lists_all = refl

-- those that the manual lists for an operation's number; a number that is no operation's is refused by 2
abbrev pub listed : ℕ → List ℕ
listed operation = get_or refusal_lists operation (2 ∷ [])

-- an answer's numbers after the first: region index, dropped slots, word
abbrev pub index : Answer → ℕ
index answer = get_or (answer_numbers answer) 1 0

abbrev pub dropped : Answer → ℕ
dropped answer = get_or (answer_numbers answer) 2 0

abbrev pub word : Answer → ℕ
word answer = get_or (answer_numbers answer) 3 0

-- a row's operation; of a region operation, its count
abbrev pub operation_at : List ℕ → ℕ
operation_at row = get_or row 0 0

abbrev pub count_at : List ℕ → ℕ
count_at row = get_or row 4 0

-- ---- the statement
pub record AnswerGood (row : List ℕ) (answer : Answer) : Type 0 where
  pub refused_dropped : 0 < number_of answer → dropped answer ≡ 0
  pub refused_word : 0 < number_of answer → word answer ≡ 0
  pub accepted_index : number_of answer ≡ 0 → index answer ≡ 0
  pub dropped_of_drop : is_in drops (operation_at row) ≡ false → dropped answer ≡ 0
  pub word_of_read : is_in gives (operation_at row) ≡ false → word answer ≡ 0
  -- an index is of a region's search, and of one of the region's pages
  pub index_of_region : is_in regions (operation_at row) ≡ false → index answer ≡ 0
  pub index_of_search : is_in searches (number_of answer) ≡ false → index answer ≡ 0
  pub index_inside : 0 < index answer → index answer < count_at row

-- ---- laws of the lists
-- what fails for no list at its place, and for 2 alone at no place, fails for no number
pub each_listed : (fails : ℕ → List ℕ → Bool) → any_below (λ n. fails n (listed n)) (length refusal_lists) ≡ false → ((n : ℕ) → fails n (2 ∷ []) ≡ false) → (n : ℕ) → fails n (listed n) ≡ false
each_listed fails here past n =
    ⊎_elim (λ t. any_below_false (λ k. fails k (listed k)) (length refusal_lists) n here (ltb-true n (length refusal_lists) t))
    (λ f. rw (get_or-eq_default refusal_lists (2 ∷ []) (ltb-false n (length refusal_lists) f)) (past n)) (cases (ltb n (length refusal_lists)))

-- 2 is listed for all but the barriers
abbrev lacks_two : ℕ → List ℕ → Bool
lacks_two n ns = not (is_in ns 2) && not (is_in bare n)

none_lacks : any_below (λ n. lacks_two n (listed n)) (length refusal_lists) ≡ false
unfolding refusal_lists
none_lacks = refl

two_listed : (n : ℕ) → is_in bare n ≡ false → is_in (listed n) 2 ≡ true
two_listed n b = ⊎_elim (λ t. t) (λ (f : is_in (listed n) 2 ≡ false). absurd (true≢false (rw (f, b) at (each_listed lacks_two none_lacks (λ k. refl) n)))) (cases (is_in (listed n) 2))

-- ---- the same of an answer before it is written as numbers, and that a refusal is listed
pub data Fits (operation count : ℕ) : Answer → Type 0 where
  taken : {d w : ℕ} → (is_in drops operation ≡ false → d ≡ 0) → (is_in gives operation ≡ false → w ≡ 0) → Fits operation count (accept d w)
  plain : {refusal : Refusal} → is_in (listed operation) (refusal_number refusal) ≡ true → Fits operation count (refuse refusal 0)
  found : {refusal : Refusal} {k : ℕ} → is_in (listed operation) (refusal_number refusal) ≡ true → is_in regions operation ≡ true → is_in searches (refusal_number refusal) ≡ true → k < count →
      Fits operation count (refuse refusal k)

-- an effect that reads is of an operation that gives a word
abbrev ReadsOnly : ℕ → Effect → Type 0
ReadsOnly operation (reads vm places) = is_in gives operation ≡ true
ReadsOnly operation (writes vm stores) = Unit {0}
ReadsOnly operation (clears pages) = Unit {0}

-- ---- the parts of which answers are made
module _ {operation count : ℕ} where
  done : Fits operation count accepted
  done = taken (λ e. refl) (λ e. refl)

  dropping : is_in drops operation ≡ true → (d : ℕ) → Fits operation count (accepted_dropping d)
  dropping may d = taken (λ e. absurd (true≢false (sym may ∙ e))) (λ e. refl)

  check : (t : Bool) (refusal : Refusal) (rest : Answer) → is_in (listed operation) (refusal_number refusal) ≡ true → Fits operation count rest →
      Fits operation count (if t then refused refusal else rest)
  check true refusal rest may h = plain may
  check false refusal rest may h = h

  searched : is_in regions operation ≡ true → (k : ℕ) (refusal : Refusal) (rest : Answer) → is_in (listed operation) (refusal_number refusal) ≡ true → is_in searches (refusal_number refusal) ≡ true →
      Fits operation count rest → Fits operation count (clash_at k count refusal rest)
  searched region k refusal rest may searching h = which (ltb k count) refl
    where
      which : (t : Bool) → ltb k count ≡ t → Fits operation count (if t then refuse refusal k else rest)
      which true e = found may region searching (ltb-true k count e)
      which false e = h

  -- a search that no page fails refuses nothing: a DMA insert's for pages that are not free
  unsearched : (refusal : Refusal) (rest : Answer) → Fits operation count rest → Fits operation count (clash_at (lowest (λ k. false) count) count refusal rest)
  unsearched refusal rest h = which (ltb (lowest (λ k. false) count) count) refl
    where
      which : (t : Bool) → ltb (lowest (λ k. false) count) count ≡ t → Fits operation count (if t then refuse refusal (lowest (λ k. false) count) else rest)
      which true e = absurd (true≢false (sym (lowest_found (λ k. false) count (ltb-true _ count e)).0))
      which false e = h

  early : (first rest : Answer) → Fits operation count first → Fits operation count rest → Fits operation count (and_then first rest)
  early (Ok ok) rest h f = f
  early (Err err) rest h f = h

-- ---- an operation, whatever memory holds; only a read fills in the word
record Told (operation count : ℕ) (c : Control) : Type 0 where
  fits : (memory : List ℕ) → Fits operation count (carried_out c memory).answer

module _ {operation count : ℕ} where
  carried : (t : Tables) (answer : Answer) (new : Tables) (effect : Effect) (memory : List ℕ) → ReadsOnly operation effect → Fits operation count answer →
      Fits operation count (carried_out (decided t answer new effect) memory).answer
  unfolding decided
  carried t (Ok ok) new (reads vm places) memory may (taken h f) = taken h (λ e. absurd (true≢false (sym may ∙ e)))
  carried t (Ok ok) new (writes vm stores) memory may h = h
  carried t (Ok ok) new (clears pages) memory may h = h
  carried t (Err err) new effect memory may h = h

  told : (t : Tables) (answer : Answer) (new : Tables) (effect : Effect) → ReadsOnly operation effect → Fits operation count answer → Told operation count (decided t answer new effect)
  told t answer new effect may h = record { fits = λ memory. carried t answer new effect memory may h }

neither : (t rest : Bool) → t ≡ false → rest ≡ false → (if t then true else rest) ≡ false
neither t rest e f = rw (e, f)

-- ---- a row
record Known (n count : ℕ) (s : State) (o : Option Operation) : Type 0 where
  fits : Fits n count (step_known s o).answer

module _ {n count : ℕ} {s : State} where
  unknown : is_in bare n ≡ false → Known n count s None
  unknown b = record { fits = plain (two_listed n b) }

  -- the operation of a number, else the operations of those that follow
  numbered : (k : ℕ) (operation : Operation) (rest : Option Operation) → Told k count (control s.tables operation) → (eqb n k ≡ false → Known n count s rest) →
      Known n count s (if eqb n k then Some operation else rest)
  unfolding step
  numbered k operation rest h others = which (eqb n k) refl
    where
      which : (t : Bool) → eqb n k ≡ t → Known n count s (if t then Some operation else rest)
      which true e = record { fits = rw (eqb-true n k e) (h.fits s.memory) }
      which false e = others e

-- all of them: every answer is made of the parts above
every_number : (s : State) (n a b c d e : ℕ) → Known n d s (operation_of n a b c d e)
unfolding refusal_lists control add_vm_answer remove_vm_answer assign_answer reclaim_answer share_answer unshare_answer map_may map_answer unmap_may unmap_answer insert_answer remove_may remove_answer port_answer fill_answer empty_answer access_answer retire_may retire_answer
every_number s n a b c d e = search (numbered, unknown, neither, told, check, early, unsearched, searched, dropping, done, tt {0}) depth 60 fits 5000

-- ---- the four numbers
-- a refusal without an index, whichever it is
pub plain_good : (row : List ℕ) (refusal : Refusal) → AnswerGood row (refused refusal)
plain_good row refusal =
    record {
      refused_dropped = λ e. refl;
      refused_word = λ e. refl;
      accepted_index = λ e. refl;
      dropped_of_drop = λ e. refl;
      word_of_read = λ e. refl;
      index_of_region = λ e. refl;
      index_of_search = λ e. refl;
      index_inside = λ e. absurd (omega arith);
    }

good_of : (row : List ℕ) (answer : Answer) → Fits (operation_at row) (count_at row) answer → AnswerGood row answer
good_of row (Ok ok) (taken h f) =
    record {
      refused_dropped = λ e. absurd (omega arith);
      refused_word = λ e. absurd (omega arith);
      accepted_index = λ e. refl;
      dropped_of_drop = h;
      word_of_read = f;
      index_of_region = λ e. refl;
      index_of_search = λ e. refl;
      index_inside = λ e. absurd (omega arith);
    }
good_of row (Err err) (plain may) = plain_good row err.refusal
good_of row (Err err) (found may region searching inside) =
    record {
      refused_dropped = λ e. refl;
      refused_word = λ e. refl;
      accepted_index = λ e. absurd (true≢false (sym (rw e at searching)));
      dropped_of_drop = λ e. refl;
      word_of_read = λ e. refl;
      index_of_region = λ e. absurd (true≢false (sym region ∙ e));
      index_of_search = λ e. absurd (true≢false (sym searching ∙ e));
      index_inside = λ e. inside;
    }

pub answer_fits : (s : State) (row : List ℕ) → Fits (operation_at row) (count_at row) (step_row s row).answer
unfolding step_row operation_in
answer_fits s row = (every_number s (get_or row 0 0) (get_or row 1 0) (get_or row 2 0) (get_or row 3 0) (get_or row 4 0) (get_or row 5 0)).fits

pub answer_good : (s : State) (row : List ℕ) → AnswerGood row (step_row s row).answer
answer_good s row = good_of row (step_row s row).answer (answer_fits s row)

-- of the one-operation entry too, where the state is not valid
pub entry_good : (s : State) (row : List ℕ) (result : Stepped) → JudgedRow s row result → AnswerGood row result.answer
entry_good s row result (valid v e) = rw e (answer_good s row)
entry_good s row result (not_valid n e) = rw e (plain_good row StateNotValid)
