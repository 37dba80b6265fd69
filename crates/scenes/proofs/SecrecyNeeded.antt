-- No premise of secrecy is idle: the statement for VM 1 without any one of them, and with all the others, is false; but of `near` one half,
-- who writes, follows from the other. The runs are those of SecrecyWorked; the answers that differ are none of VM 1's reads.
use Prim.{Unit, tt}
use Prim.Native.Nat.{ℕ, zero, suc, ◌*◌, ◌<◌}
use mathlib.Core.Bool.{Bool, true, true≢false}
use mathlib.Core.List.{List, [], ◌∷◌}
use mathlib.Core.Logic.{inl, inr}
use Rattle.std.specs.Prelude.{Option, None, Some, Ok, Err}
use mathlib.Core.Path.{◌≡◌, refl, sym, ap, ◌∙◌}
use native.Mathlib.Omega.{arith}
use lib.Dec.{eqb, lit<}
use lib.ListN.{length, get_or, replicate, length-set, length-replicate}
use Rattle.numbers.specs.Limits.{PAGE_WORDS, WRITE}
use Rattle.numbers.specs.Meaning.{Answer, accept, answer_numbers, operation_number}
use Rattle.numbers.specs.declared.Operation.{Operation}
use Rattle.numbers.specs.declared.Side.TheVariants.{Cpu}
use Rattle.model.specs.State.{Tables, State}
use Rattle.model.specs.Effect.{Store, Effect, decided, kept, quiet, memory_index, word_in}
use Rattle.model.specs.EarlyLaws.{never_both}
use Rattle.model.specs.Ledger.{add_vm_answer}
use Rattle.model.specs.Step.{control}
use Rattle.model.specs.Sequence.{operation_in, row_at, after, beginning}
use Rattle.model.specs.Valid.{ValidTables, Valid}
use Rattle.model.specs.Good.{StoreOn, Touches, Reaches, MayReach}
use Rattle.model.specs.Secrecy.{PrivateTo, effect_in, without_value_in, NearStores, stop, same, other, Near, alike, stores, Differ, Alike, Asked, Premise, StayAlike, SharesEqual}
use Rattle.model.proofs.Computes.{computes}
use Rattle.model.proofs.Worked.{started}
use Rattle.model.proofs.Kept.{good, after_valid}
use Rattle.model.proofs.Secret.{confined}
use Rattle.model.proofs.Secrecy.{secrecy_one, set_of}
use Rattle.scenes.proofs.SecrecyWorked.{barrier, add_third, carried, before_stale, stale, lodging, lodged, spanning, ending, itself, no_share, asked_same, MayWrite, asked_write, differ_write, at_start, carried_valid, Alone, private_to, begun, begun_valid, after_share, may_write, private}

-- ---- the statement for VM 1, over what is known of the two states and what is given of each two rows
abbrev pub Statement : (State → State → Type 0) → (State → State → List ℕ → List ℕ → Type 0) → Type 0
Statement Known Given =
    (s s' : State) → Known s s' → (rows rows' : List ℕ) (count : ℕ) →
    ((k : ℕ) → k < count → Given (after rows k (beginning s [])).state (after rows' k (beginning s' [])).state (row_at rows k) (row_at rows' k)) →
    StayAlike (eqb 1) (PrivateTo 1) (beginning s []) (beginning s' []) rows rows' count

-- what is known: alike, or a part of it
abbrev pub AlikeOne : State → State → Type 0
AlikeOne s s' = Alike (eqb 1) (PrivateTo 1) s s'

abbrev pub SameTables : State → State → Type 0
SameTables s s' = s.tables ≡ s'.tables

abbrev pub SameSize : State → State → Type 0
SameSize s s' = length s.memory ≡ length s'.memory

abbrev pub SameWords : State → State → Type 0
SameWords s s' = (page word : ℕ) → word < PAGE_WORDS → (PrivateTo 1 s.tables page → ⊥) → word_in s.memory page word ≡ word_in s'.memory page word

-- what is given: all that is asked, or a part of it
abbrev pub All : State → State → List ℕ → List ℕ → Type 0
All s s' r r' = Asked (eqb 1) (PrivateTo 1) s s' r r'

abbrev pub NearBy : (ℕ → Bool) → State → List ℕ → List ℕ → Type 0
NearBy members s r r' = Near members (PrivateTo 1) s.tables (effect_in s.tables (operation_in r)) (effect_in s.tables (operation_in r'))

-- with all of it, it is the theorem
pub with_all : Statement (λ s s'. Valid s × AlikeOne s s') All
with_all s s' (v, like) rows rows' count given = secrecy_one 1 (beginning s []) (beginning s' []) rows rows' count v like given

-- two answers to a read that are not the same
unequal : (a b : ℕ) → (a ≡ b → ⊥) → accept 0 a ≡ accept 0 b → ⊥
unequal a b n e = n (ap (λ (x : Answer). get_or (answer_numbers x) 3 0) e)

-- ---- without `Valid`: a device of VM 2 reads VM 1's value by a slot that was left
incident_rows : ℕ → List ℕ
incident_rows value =
    23 ∷ 0 ∷ 16 ∷ 0 ∷ value ∷ 0 ∷ 0 ∷ 0 ∷
    22 ∷ 0 ∷ 16 ∷ 0 ∷ 0 ∷ 0 ∷ 0 ∷ 0 ∷
    []

may_write_stale : MayWrite (eqb 1) Cpu stale.tables 0 16 0 0
unfolding computes
may_write_stale = record { allowed = refl; writer = refl; reached = refl }

alone_stale : Alone 1 0 stale.tables
unfolding computes
alone_stale = record { vm_ok = refl; page_ok = refl; held = refl; unshared = refl }

-- the slot aside, all is valid
private_stale : PrivateTo 1 stale.tables 0
private_stale = private_to 1 0 stale.tables (λ w h. ((carried_valid started at_start before_stale).tables.pairs.each w h).filled) alone_stale

asked_incident : Premise (eqb 1) (PrivateTo 1) (beginning stale []) (beginning stale []) (incident_rows 5) (incident_rows 6) 2
unfolding incident_rows after operation_in
asked_incident zero h = asked_write (eqb 1) (PrivateTo 1) Cpu stale stale 0 16 0 0 5 6 may_write_stale private_stale
asked_incident (suc zero) h = asked_same _ _ _ _ _ refl
asked_incident (suc (suc k)) h = absurd (omega arith)

pub valid_needed : Statement AlikeOne All → ⊥
unfolding computes incident_rows
valid_needed all =
    let stay = all stale stale (itself (eqb 1) (PrivateTo 1) stale) (incident_rows 5) (incident_rows 6) 2 asked_incident in
    unequal 5 6 (λ z. omega arith) ((stay.answers 1 (lit< tt)).whole (λ seen. true≢false (sym seen.0)))

-- ---- without `words` or `tables`: VM 2 reads its own page
lodged_valid : (page value : ℕ) → Valid (lodged page value)
lodged_valid page value =
    let v = carried_valid started at_start (lodging page) in
    record { tables = v.tables; memory = length-set (carried started (lodging page)).memory (memory_index 3 0) value ∙ v.memory }

read_row : List ℕ
read_row = 21 ∷ 1 ∷ 16 ∷ 0 ∷ 0 ∷ 0 ∷ 0 ∷ 0 ∷ []

asked_read : (s s' : State) → Premise (eqb 1) (PrivateTo 1) (beginning s []) (beginning s' []) read_row read_row 1
unfolding read_row after operation_in
asked_read s s' zero h = asked_same _ _ _ _ _ refl
asked_read s s' (suc k) h = absurd (omega arith)

pub words_needed : Statement (λ s s'. Valid s × SameTables s s' × SameSize s s') All → ⊥
unfolding computes read_row
words_needed all =
    let same = length-set (carried started (lodging 3)).memory (memory_index 3 0) in
    let stay = all (lodged 3 5) (lodged 3 6) (lodged_valid 3 5, refl, same 5 ∙ sym (same 6)) read_row read_row 1 (asked_read (lodged 3 5) (lodged 3 6)) in
    unequal 5 6 (λ z. omega arith) ((stay.answers 0 (lit< tt)).whole (λ seen. true≢false (sym seen.0)))

same_memory : (lodged 3 9).memory ≡ (lodged 4 9).memory
unfolding computes
same_memory = refl

-- here the second state is valid too
pub tables_needed : Statement (λ s s'. Valid s × Valid s' × SameSize s s' × SameWords s s') All → ⊥
unfolding computes read_row
tables_needed all =
    let words : SameWords (lodged 3 9) (lodged 4 9) = λ page word h n. ap (λ (m : List ℕ). word_in m page word) same_memory in
    let stay = all (lodged 3 9) (lodged 4 9) (lodged_valid 3 9, lodged_valid 4 9, ap length same_memory, words) read_row read_row 1 (asked_read (lodged 3 9) (lodged 4 9)) in
    unequal 9 0 (λ z. omega arith) ((stay.answers 0 (lit< tt)).whole (λ seen. true≢false (sym seen.0)))

-- ---- without `size`: a device of VM 2 writes a word past the end of one memory, and reads it
ending_valid : Valid (ending 8)
unfolding computes
ending_valid = record { tables = (carried_valid started at_start spanning).tables; memory = length-replicate {A = ℕ} (PAGE_WORDS * 8) 0 }

zero_at_lem : (n i : ℕ) → ◌≡◌ {A = ℕ} (get_or (replicate n 0) i 0) 0
zero_at_lem zero i = refl
zero_at_lem (suc n) zero = refl
zero_at_lem (suc n) (suc i) = zero_at_lem n i

last_rows : List ℕ
last_rows =
    24 ∷ 0 ∷ 16 ∷ 0 ∷ 9 ∷ 0 ∷ 0 ∷ 0 ∷
    22 ∷ 0 ∷ 16 ∷ 0 ∷ 0 ∷ 0 ∷ 0 ∷ 0 ∷
    []

asked_last : (s s' : State) → Premise (eqb 1) (PrivateTo 1) (beginning s []) (beginning s' []) last_rows last_rows 2
unfolding last_rows after operation_in
asked_last s s' zero h = asked_same _ _ _ _ _ refl
asked_last s s' (suc zero) h = asked_same _ _ _ _ _ refl
asked_last s s' (suc (suc k)) h = absurd (omega arith)

pub size_needed : Statement (λ s s'. Valid s × SameTables s s' × SameWords s s') All → ⊥
unfolding computes last_rows
size_needed all =
    let words : SameWords (ending 8) (ending 7) = λ page word h n. zero_at_lem (PAGE_WORDS * 8) (memory_index page word) ∙ sym (zero_at_lem (PAGE_WORDS * 7) (memory_index page word)) in
    let stay = all (ending 8) (ending 7) (ending_valid, refl, words) last_rows last_rows 2 (asked_last (ending 8) (ending 7)) in
    unequal 9 0 (λ z. omega arith) ((stay.answers 1 (lit< tt)).whole (λ seen. true≢false (sym seen.0)))

-- ---- without `shape`: a barrier in one run, "add VM 3" in the other, and then "add VM 3" in both
quiet_kept : (x : Answer) → kept x quiet quiet ≡ quiet
quiet_kept (Ok ok) = refl
quiet_kept (Err err) = refl

-- they are near, whatever the tables, and no two values of one operation
pub barrier_near : (members : ℕ → Bool) (Secret : Tables → ℕ → Type 0) (t : Tables) → Near members Secret t (effect_in t (operation_in barrier)) (effect_in t (operation_in add_third))
unfolding operation_in control decided
barrier_near members Secret t = rw (quiet_kept (add_vm_answer t.known 3)) alike

-- the number of a row's operation
abbrev number_in : Option Operation → ℕ
number_in None = 0
number_in (Some operation) = operation_number operation

pub barrier_unlike : without_value_in (operation_in barrier) ≡ without_value_in (operation_in add_third) → ⊥
unfolding operation_in
barrier_unlike shape = let z : ◌≡◌ {A = ℕ} 25 1 = ap number_in shape in omega arith

barrier_rows : List ℕ
barrier_rows =
    25 ∷ 0 ∷ 0 ∷ 0 ∷ 0 ∷ 0 ∷ 0 ∷ 0 ∷
    1 ∷ 3 ∷ 0 ∷ 0 ∷ 0 ∷ 0 ∷ 0 ∷ 0 ∷
    []

add_rows : List ℕ
add_rows =
    1 ∷ 3 ∷ 0 ∷ 0 ∷ 0 ∷ 0 ∷ 0 ∷ 0 ∷
    1 ∷ 3 ∷ 0 ∷ 0 ∷ 0 ∷ 0 ∷ 0 ∷ 0 ∷
    []

pub shape_needed : Statement (λ s s'. Valid s × AlikeOne s s') (λ s s' r r'. NearBy (eqb 1) s r r' × SharesEqual (eqb 1) s.tables (operation_in r) s.memory s'.memory) → ⊥
unfolding computes barrier_rows add_rows
shape_needed all =
    let stay = all started started (at_start, itself (eqb 1) (PrivateTo 1) started) barrier_rows add_rows 2 given in
    never_both (sym (stay.answers 1 (lit< tt)).but_word)
  where
    given : (k : ℕ) → k < 2 →
        NearBy (eqb 1) (after barrier_rows k (beginning started [])).state (row_at barrier_rows k) (row_at add_rows k) ×
        SharesEqual (eqb 1) (after barrier_rows k (beginning started [])).state.tables (operation_in (row_at barrier_rows k)) (after barrier_rows k (beginning started [])).state.memory (after add_rows k (beginning started [])).state.memory
    given zero h = (barrier_near (eqb 1) (PrivateTo 1) started.tables, no_share (eqb 1) started started barrier refl)
    given (suc zero) h = (alike, no_share (eqb 1) (after barrier_rows 1 (beginning started [])).state (after add_rows 1 (beginning started [])).state add_third refl)
    given (suc (suc k)) h = absurd (omega arith)

-- ---- without `near`: VM 1 writes the value to page 0, which it has shared, and VM 2 maps it and reads it
lent_rows : ℕ → List ℕ
lent_rows value =
    5 ∷ 1 ∷ 2 ∷ 0 ∷ 0 ∷ 0 ∷ 0 ∷ 0 ∷
    23 ∷ 0 ∷ 16 ∷ 0 ∷ value ∷ 0 ∷ 0 ∷ 0 ∷
    7 ∷ 2 ∷ 40 ∷ 0 ∷ 1 ∷ 0 ∷ 0 ∷ 0 ∷
    15 ∷ 1 ∷ 2 ∷ 0 ∷ 0 ∷ 0 ∷ 0 ∷ 0 ∷
    21 ∷ 1 ∷ 40 ∷ 0 ∷ 0 ∷ 0 ∷ 0 ∷ 0 ∷
    []

-- any page will do
abbrev pub AnyPage : Tables → ℕ → Type 0
AnyPage t page = Unit {0}

may_write_lent : MayWrite (eqb 1) Cpu (after (lent_rows 5) 1 begun).state.tables 0 16 0 0
unfolding computes lent_rows
may_write_lent = record { allowed = refl; writer = refl; reached = refl }

asked_lent : Premise (eqb 1) AnyPage begun begun (lent_rows 5) (lent_rows 6) 5
unfolding lent_rows after operation_in
asked_lent zero h = record { differ = record { shape = refl; near = alike }; shares_equal = λ left right page word e m o l. refl }
asked_lent (suc zero) h = asked_write (eqb 1) AnyPage Cpu (after (lent_rows 5) 1 begun).state (after (lent_rows 6) 1 begun).state 0 16 0 0 5 6 may_write_lent tt
asked_lent (suc (suc zero)) h = asked_same _ _ _ _ _ refl
asked_lent (suc (suc (suc zero))) h = asked_same _ _ _ _ _ refl
asked_lent (suc (suc (suc (suc zero)))) h = asked_same _ _ _ _ _ refl
asked_lent (suc (suc (suc (suc (suc k))))) h = absurd (omega arith)

-- all that is asked, but that the page which VM 1 writes may be any
pub near_needed : Statement (λ s s'. Valid s × AlikeOne s s') (Asked (eqb 1) AnyPage) → ⊥
unfolding computes lent_rows
near_needed all =
    let stay = all begun.state begun.state (begun_valid, itself (eqb 1) (PrivateTo 1) begun.state) (lent_rows 5) (lent_rows 6) 5 asked_lent in
    unequal 5 6 (λ z. omega arith) ((stay.answers 4 (lit< tt)).whole (λ seen. true≢false (sym seen.0)))

-- that the writer is VM 1 need not be asked: no other VM reaches a page private to it
module _ (t : Tables) (v : ValidTables t) where
  own_stores : (vm : ℕ) {xs ys : List Store} → ((page : ℕ) → StoreOn page xs → MayReach t vm page) → NearStores (λ who. true) (PrivateTo 1) t vm xs ys → NearStores (eqb 1) (PrivateTo 1) t vm xs ys
  own_stores vm r stop = stop
  own_stores vm r (same near) = same (own_stores vm (λ page o. r page (inr o)) near)
  own_stores vm r (other {place = place} m p near) =
      other (confined (eqb 1) t v vm place.page (set_of 1 t v place.page p) (r place.page (inl refl))) p (own_stores vm (λ page o. r page (inr o)) near)

  own_effect : {effect effect' : Effect} → ((bit vm page : ℕ) → Touches bit effect vm page → Reaches bit t vm page) → Near (λ who. true) (PrivateTo 1) t effect effect' → Near (eqb 1) (PrivateTo 1) t effect effect'
  own_effect r alike = alike
  own_effect r (stores {vm = vm} near) = stores (own_stores vm (λ page o. (r WRITE vm page (refl, refl, o)).may) near)

  reached : (found : Option Operation) (bit vm page : ℕ) → Touches bit (effect_in t found) vm page → Reaches bit t vm page
  reached None bit vm page z = absurd z
  reached (Some operation) bit vm page z = (good t v operation).reach bit vm page z

pub writer_follows : Statement (λ s s'. Valid s × AlikeOne s s') (λ s s' r r'. (without_value_in (operation_in r) ≡ without_value_in (operation_in r')) × NearBy (λ who. true) s r r' × SharesEqual (eqb 1) s.tables (operation_in r) s.memory s'.memory)
writer_follows s s' (v, like) rows rows' count given = with_all s s' (v, like) rows rows' count asked
  where
    asked : Premise (eqb 1) (PrivateTo 1) (beginning s []) (beginning s' []) rows rows' count
    asked k h =
        let (shape, near, shares) = given k h in
        let t = (after rows k (beginning s [])).state.tables in
        let valid = (after_valid rows k (beginning s []) v).tables in
        record { differ = record { shape = shape; near = own_effect t valid (reached t valid (operation_in (row_at rows k))) near }; shares_equal = shares }

-- ---- without `shares_equal`: VM 1 writes the value to page 0 and shares it, and VM 2 maps it and reads it
shown_rows : ℕ → List ℕ
shown_rows value =
    5 ∷ 1 ∷ 2 ∷ 1 ∷ 0 ∷ 0 ∷ 0 ∷ 0 ∷
    23 ∷ 0 ∷ 16 ∷ 0 ∷ value ∷ 0 ∷ 0 ∷ 0 ∷
    5 ∷ 1 ∷ 2 ∷ 0 ∷ 0 ∷ 0 ∷ 0 ∷ 0 ∷
    7 ∷ 2 ∷ 40 ∷ 0 ∷ 1 ∷ 0 ∷ 0 ∷ 0 ∷
    15 ∷ 1 ∷ 2 ∷ 0 ∷ 0 ∷ 0 ∷ 0 ∷ 0 ∷
    21 ∷ 1 ∷ 40 ∷ 0 ∷ 0 ∷ 0 ∷ 0 ∷ 0 ∷
    []

-- the same row twice
differ_same : (t : Tables) (ns : List ℕ) → Differ (eqb 1) (PrivateTo 1) t (operation_in ns) (operation_in ns)
differ_same t ns = record { shape = refl; near = alike }

differ_shown : (k : ℕ) → k < 6 → Differ (eqb 1) (PrivateTo 1) (after (shown_rows 5) k begun).state.tables (operation_in (row_at (shown_rows 5) k)) (operation_in (row_at (shown_rows 6) k))
unfolding shown_rows after
differ_shown zero h = differ_same _ _
differ_shown (suc zero) h = differ_write (eqb 1) (PrivateTo 1) Cpu after_share.tables 0 16 0 0 5 6 may_write private
differ_shown (suc (suc zero)) h = differ_same _ _
differ_shown (suc (suc (suc zero))) h = differ_same _ _
differ_shown (suc (suc (suc (suc zero)))) h = differ_same _ _
differ_shown (suc (suc (suc (suc (suc zero))))) h = differ_same _ _
differ_shown (suc (suc (suc (suc (suc (suc k)))))) h = absurd (omega arith)

pub shares_equal_needed : Statement (λ s s'. Valid s × AlikeOne s s') (λ s s' r r'. Differ (eqb 1) (PrivateTo 1) s.tables (operation_in r) (operation_in r')) → ⊥
unfolding computes shown_rows
shares_equal_needed all =
    let stay = all begun.state begun.state (begun_valid, itself (eqb 1) (PrivateTo 1) begun.state) (shown_rows 5) (shown_rows 6) 6 differ_shown in
    unequal 5 6 (λ z. omega arith) ((stay.answers 5 (lit< tt)).whole (λ seen. true≢false (sym seen.0)))
