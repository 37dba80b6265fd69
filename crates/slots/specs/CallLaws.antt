-- What a search answers, and how the calls over words are those over slots.
use Rattle.std.specs.Prelude.{ℕ, zero, suc, ◌+◌, ◌^◌, ◌<◌, ◌≤◌, Bool, true, false, ◌&&◌, List, map, ◌≡◌, refl, eqb, ltb, length, get_or, set, Option, Some, None, Result, Ok, Err}
use Rattle.std.proofs.Common.{true≢false, ◌∙◌, length-set, get_or-set_same, get_or-set_other, ext_get_or, ltb-true, ltb-false, lt-ltb, eqb-true, ne_eqb}
use Rattle.std.proofs.Math.Logic.{⊎_elim}
use Rattle.std.specs.Option.{unwrap_or}
use Rattle.std.specs.Result.{is_ok}
use Rattle.std.proofs.Math.Path.{sym, ap}
use native.Mathlib.Omega.{arith}
use Rattle.std.proofs.lemmas.List.{length-map, get_or-replicate}
use Rattle.std.proofs.Math.ListN.{get_or-map, get_or-eq_default}
use Rattle.std.proofs.lemmas.Bool.{eqb-false}
use Rattle.numbers.specs.Decides.{Decides}
use Rattle.numbers.specs.DecidesLaws.{decides_as, decides_and, decides_equal, decides_less, refutes}
use Rattle.numbers.specs.Limits.{SLOTS, PORTS, VMS, GUEST_PAGES, PAGES, ACCESSES, GENERATIONS}
use Rattle.numbers.specs.Meaning.{refusal_number}
use Rattle.numbers.specs.MeaningLaws.{refusal_above}
use Rattle.numbers.specs.Packing.{PORT_FIELD, VM_FIELD, GUEST_FIELD, entry, slot_word, slot_key, port_of, vm_of, guest_of, entry_of, filled_of, key_of, WordFits}
use Rattle.numbers.specs.PackingLaws.{word_port, word_filled, word_key, word_whole, key_whole, key_vm, key_guest, parts_fit}
use Rattle.numbers.specs.declared.Refusal.{Refusal}
use Rattle.numbers.specs.declared.Refusal.TheVariants.{StateNotValid, OutOfRange}
use Rattle.table.specs.Scan.{lowest, lowest_from}
use Rattle.numbers.specs.CaseLaws.{cases, equal}
use Rattle.table.specs.ScanLaws.{lowest_within, lowest_found, lowest_none}
use Rattle.table.specs.Table.{find}
use Rattle.table.specs.TableLaws.{find_at, find_none}
use Rattle.pages.specs.BitLaws.{below_or}
use Rattle.model.specs.EarlyLaws.{both}
use Rattle.model.specs.Views.{is_vm, is_guest, is_access, is_generation, is_port, is_slot, is_page}
use Rattle.slots.specs.Calls.{holds, find_slot, found, HoldsAt, Searched, lowest_held, none_held, Change, change, change_number, change_at, fill_in_range, fill_slot, fill_word, empty_slot, empty_word}
use Rattle.slots.specs.SlotLaws.{slot_of_word, turns_there, length-laid, word_laid, stored_whole, stored_none}
use Rattle.slots.specs.Slots.{word_of, slot_of, empty, turns_of, Fitting, laid, loaded, stored}
use Rattle.slots.specs.declared.Slot.{Slot}

-- ---- the lowest number that passes a test
module _ (p q : ℕ → Bool) where
  from_same : (i n : ℕ) → ((k : ℕ) → i ≤ k → k < i + n → p k ≡ q k) → lowest_from p i n ≡ lowest_from q i n
  from_same i zero h = refl
  from_same i (suc n) h = rw (h i (omega arith) (omega arith), from_same (suc i) n (λ k a b. h k (omega arith) (omega arith)))

  -- tests that agree have the same
  lowest_same : (n : ℕ) → ((k : ℕ) → k < n → p k ≡ q k) → lowest p n ≡ lowest q n
  lowest_same n h = from_same 0 n (λ k a b. h k (omega arith))

module _ (p : ℕ → Bool) (n : ℕ) where
  lowest_is : (r : ℕ) → r < n → p r ≡ true → ((k : ℕ) → k < r → p k ≡ false) → r ≡ lowest p n
  lowest_is r h t before = ⊎_elim less (λ g. ⊎_elim more (λ e. omega arith) (below_or r (lowest p n))) (below_or (lowest p n) r)
    where
      less : lowest p n < r → r ≡ lowest p n
      less l = absurd (true≢false (sym (lowest_found p n (omega arith)).0 ∙ before (lowest p n) l))

      passed : r < lowest p n → p r ≡ false
      passed l = ⊎_elim (λ f. (lowest_found p n f).1 r l) (λ f. lowest_none p n f r h) (below_or (lowest p n) n)

      more : r < lowest p n → r ≡ lowest p n
      more l = absurd (true≢false (sym t ∙ passed l))

  lowest_lacks : ((k : ℕ) → k < n → p k ≡ false) → lowest p n ≡ n
  lowest_lacks none = ⊎_elim (λ l. absurd (true≢false (sym (lowest_found p n l).0 ∙ none (lowest p n) l))) (λ g. omega (arith, lowest_within p n)) (below_or (lowest p n) n)

-- ---- the search
module _ (slots : List Slot) (port vm guest : ℕ) where
  abbrev at : ℕ → Slot
  at i = get_or slots i empty

  abbrev test : ℕ → Bool
  test i = holds port vm guest (at i)

  inside : (i : ℕ) → filled_of (at i).entry ≡ 1 → i < length slots
  inside i f = ⊎_elim (λ l. l) (λ g. absurd (let z : filled_of (at i).entry ≡ 0 = rw (get_or-eq_default slots empty {n = i} g) in omega arith)) (below_or i (length slots))

  -- the test of slot i is exact
  tells : (i : ℕ) → Decides (test i) (HoldsAt slots port vm guest i)
  tells i =
      decides_as
      (decides_and (decides_and (decides_and (decides_equal (filled_of (at i).entry) 1) (decides_equal (at i).port port)) (decides_equal (at i).vm vm)) (decides_equal (at i).guest guest))
      (λ h. record { there = inside i h.0.0.0; filled = h.0.0.0; same_port = h.0.0.1; same_vm = h.0.1; same_guest = h.1 })
      (λ h. (((h.filled, h.same_port), h.same_vm), h.same_guest))

  fails : (i : ℕ) → (HoldsAt slots port vm guest i → ⊥) → test i ≡ false
  fails i n = ⊎_elim (λ t. absurd (n ((tells i).sound t))) (λ f. f) (cases (test i))

  -- the search answers as it is to
  pub find_searched : Searched slots port vm guest (find_slot slots port vm guest)
  unfolding find_slot
  find_searched =
      ⊎_elim (λ l. let (t, b) = lowest_found test SLOTS l in lowest_held l ((tells _).sound t) (λ k h. refutes (tells k) (b k h)))
      (λ g. none_held (omega (arith, lowest_within test SLOTS)) (λ k h. refutes (tells k) (lowest_none test SLOTS g k h)))
      (below_or (lowest test SLOTS) SLOTS)

  -- and no other answer would do
  pub searched_find : (r : ℕ) → Searched slots port vm guest r → r ≡ find_slot slots port vm guest
  unfolding find_slot
  searched_find r (lowest_held l h b) = lowest_is test SLOTS r l ((tells r).complete h) (λ k g. fails k (b k g))
  searched_find r (none_held e n) = e ∙ sym (lowest_lacks test SLOTS (λ k h. fails k (n k h)))

-- ---- the place that a search answers
pub found_within : (i : ℕ) → i < SLOTS → found i ≡ Some i
found_within i h = rw (lt-ltb i SLOTS h)

pub find_within : (slots : List Slot) (port vm guest : ℕ) → find_slot slots port vm guest ≤ SLOTS
unfolding find_slot
find_within slots port vm guest = lowest_within (λ i. holds port vm guest (get_or slots i empty)) SLOTS

-- what was found, and SLOTS where nothing was, is what the search answers
pub found_or : (slots : List Slot) (port vm guest : ℕ) → unwrap_or (found (find_slot slots port vm guest)) SLOTS ≡ find_slot slots port vm guest
found_or slots port vm guest =
    let r = find_slot slots port vm guest in
    ⊎_elim (λ t. rw t) (λ f. rw f (omega (arith, ltb-false r SLOTS f, find_within slots port vm guest))) (cases (ltb r SLOTS))

-- ---- the search over words, by their keys
-- numbers that fit the fields of a slot
abbrev pub InFields : ℕ → ℕ → ℕ → Type 0
InFields port vm guest = (port < PORT_FIELD) × (vm < VM_FIELD) × (guest < GUEST_FIELD)

pub fields_decides : (port vm guest : ℕ) → Decides (ltb port PORT_FIELD && ltb vm VM_FIELD && ltb guest GUEST_FIELD) (InFields port vm guest)
fields_decides port vm guest =
    decides_as (decides_and (decides_and (decides_less port PORT_FIELD) (decides_less vm VM_FIELD)) (decides_less guest GUEST_FIELD)) (λ h. (h.0.0, h.0.1, h.1)) (λ h. ((h.0, h.1), h.2))

module _ (ws : List ℕ) (port vm guest : ℕ) where
  slot_at : (i : ℕ) → get_or (map slot_of ws) i empty ≡ slot_of (get_or ws i 0)
  slot_at i = get_or-map slot_of ws i 0

  -- what the slot of a word holds, said of the word
  of_word : (i : ℕ) → HoldsAt (map slot_of ws) port vm guest i
      → (i < length ws) × (filled_of (entry_of (get_or ws i 0)) ≡ 1) × (port_of (get_or ws i 0) ≡ port) × (vm_of (get_or ws i 0) ≡ vm) × (guest_of (get_or ws i 0) ≡ guest)
  of_word i h =
      (rw length-map at h.there, rw (slot_at i) at h.filled, rw (slot_at i) at h.same_port, rw (slot_at i) at h.same_vm, rw (slot_at i) at h.same_guest)

  -- no slot holds a number that does not fit its field
  pub unfit_nowhere : ((i : ℕ) → i < length ws → get_or ws i 0 < 2 ^ 64) → (InFields port vm guest → ⊥) → SLOTS ≡ find_slot (map slot_of ws) port vm guest
  unfit_nowhere bits unfit = searched_find (map slot_of ws) port vm guest SLOTS (none_held refl (λ k l h. unfit (fits k h)))
    where
      fits : (i : ℕ) → HoldsAt (map slot_of ws) port vm guest i → InFields port vm guest
      fits i h =
          let (l, f, p, v, g) = of_word i h in
          let b = bits i l in
          (omega arith, omega arith, omega arith)

  holds_key : (i : ℕ) → HoldsAt (map slot_of ws) port vm guest i → key_of (get_or ws i 0) ≡ slot_key port vm guest
  holds_key i h =
      let w = get_or ws i 0 in
      let (l, f, p, v, g) = of_word i h in
      let e : key_of (slot_word (port_of w) (vm_of w) (guest_of w) (entry_of w)) ≡ slot_key (port_of w) (vm_of w) (guest_of w) =
      word_key (port_of w) (parts_fit w) f in
      ap key_of (sym (word_whole w)) ∙ e ∙ (λ j. slot_key (p j) (v j) (g j))

  module _ (fit : InFields port vm guest) where
    key_holds : (i : ℕ) → i < length ws → key_of (get_or ws i 0) ≡ slot_key port vm guest → HoldsAt (map slot_of ws) port vm guest i
    key_holds i l e =
        let w = get_or ws i 0 in
        let (p, v, g) = fit in
        let f : WordFits vm guest (entry_of w) = record { vm_fits = v; guest_fits = g; low_fits = omega arith } in
        let whole : slot_word port vm guest (entry_of w) ≡ w = key_whole port vm guest w e in
        record {
          there = rw length-map l;
          filled = rw (slot_at i) (sym (word_filled port f) ∙ ap filled_of whole ∙ omega arith);
          same_port = rw (slot_at i) (ap port_of (sym whole) ∙ word_port port f);
          same_vm = rw (slot_at i) (key_vm port vm guest w v g e);
          same_guest = rw (slot_at i) (key_guest port vm guest w v g e);
        }

    module _ (n : length ws ≡ SLOTS) where
      pub key_found : (i : ℕ) → find key_of ws (slot_key port vm guest) ≡ Some i → i ≡ find_slot (map slot_of ws) port vm guest
      key_found i e =
          let f = find_at key_of ws (slot_key port vm guest) i e in
          searched_find (map slot_of ws) port vm guest i
          (lowest_held (omega (arith, f.within)) (key_holds i f.within (eqb-true _ _ f.passes))
          (λ k l h. eqb-false _ _ (f.before k l) (holds_key k h)))

      pub key_nowhere : find key_of ws (slot_key port vm guest) ≡ None → SLOTS ≡ find_slot (map slot_of ws) port vm guest
      key_nowhere e =
          searched_find (map slot_of ws) port vm guest SLOTS
          (none_held refl (λ k l h. find_none key_of ws (slot_key port vm guest) e k (omega arith) (holds_key k h)))

      -- found by its key or nowhere, a word's slot is what the search answers
      pub key_searched : find key_of ws (slot_key port vm guest) ≡ found (find_slot (map slot_of ws) port vm guest)
      key_searched = searched _ refl
        where
          searched : (o : Option ℕ) → find key_of ws (slot_key port vm guest) ≡ o → o ≡ found (find_slot (map slot_of ws) port vm guest)
          searched (Some i) e =
              let f = find_at key_of ws (slot_key port vm guest) i e in
              sym (found_within i (omega (arith, f.within))) ∙ ap found (key_found i e)
          searched None e = ap found (key_nowhere e)

-- the same where the code has asked whether the numbers fit
pub find_by_key : (ws : List ℕ) (port vm guest : ℕ) → (ltb port PORT_FIELD && ltb vm VM_FIELD && ltb guest GUEST_FIELD) ≡ true → length ws ≡ SLOTS →
    find key_of ws (slot_key port vm guest) ≡ found (find_slot (map slot_of ws) port vm guest)
find_by_key ws port vm guest fit n = key_searched ws port vm guest ((fields_decides port vm guest).sound fit) n

-- ---- slots that were loaded are those of the words
laid_beyond : (slots : List Slot) (k i : ℕ) → k ≤ i → i < SLOTS → get_or (laid slots k) i 0 ≡ 0
laid_beyond slots zero i h l = get_or-replicate SLOTS i 0 0 l
laid_beyond slots (suc k) i h l = get_or-set_other (laid slots k) k i (word_of (get_or slots k empty)) 0 (λ e. omega arith) ∙ laid_beyond slots k i (omega arith) l

module _ (slots : List Slot) (wanted : ℕ) (there : length slots ≡ wanted) (fit : Fitting wanted slots) where
  loaded_slot : (i : ℕ) → i < SLOTS → slot_of (get_or (loaded wanted slots) i 0) ≡ get_or slots i empty
  loaded_slot i l = ⊎_elim inside beyond (below_or i (turns_of (length slots) wanted))
    where
      inside : i < turns_of (length slots) wanted → slot_of (get_or (loaded wanted slots) i 0) ≡ get_or slots i empty
      inside h = ap slot_of (word_laid slots (turns_of (length slots) wanted) i h l) ∙ slot_of_word (get_or slots i empty) (fit i h)

      outside : turns_of (length slots) wanted ≤ i → length slots ≤ i
      outside h = ⊎_elim (λ b. absurd (omega (arith, h, turns_there (length slots) wanted i there b l))) (λ g. g) (below_or i (length slots))

      beyond : turns_of (length slots) wanted ≤ i → slot_of (get_or (loaded wanted slots) i 0) ≡ get_or slots i empty
      beyond h = ap slot_of (laid_beyond slots (turns_of (length slots) wanted) i h l) ∙ sym (get_or-eq_default slots empty (outside h))

  pub find_loaded : (ws : List ℕ) → ws ≡ loaded wanted slots → (port vm guest : ℕ) → find_slot (map slot_of ws) port vm guest ≡ find_slot slots port vm guest
  unfolding find_slot
  find_loaded ws e port vm guest =
      rw e
      (lowest_same (λ i. holds port vm guest (get_or (map slot_of (loaded wanted slots)) i empty)) (λ i. holds port vm guest (get_or slots i empty)) SLOTS
      (λ k h. ap (holds port vm guest) (slot_at (loaded wanted slots) port vm guest k ∙ loaded_slot k h)))

-- one word of a whole cache, set and stored, sets its slot
stored_set : (slots : List Slot) → length slots ≡ SLOTS → Fitting SLOTS slots → (place w : ℕ) → stored true (set (loaded SLOTS slots) place w) slots ≡ set slots place (slot_of w)
stored_set slots n fit place w =
    stored_whole ws slots m n ∙ ext_get_or empty (map slot_of ws) (set slots place (slot_of w)) (all ∙ sym (length-set slots place (slot_of w) ∙ n)) (λ i h. get_or-map slot_of ws i 0 ∙ word i (omega (arith, h, all)))
  where
    ws : List ℕ
    ws = set (loaded SLOTS slots) place w

    k : length (loaded SLOTS slots) ≡ SLOTS
    k = length-laid slots (turns_of (length slots) SLOTS)

    m : length ws ≡ SLOTS
    m = length-set (loaded SLOTS slots) place w ∙ k

    all : length (map slot_of ws) ≡ SLOTS
    all = length-map ws slot_of ∙ m

    word : (i : ℕ) → i < SLOTS → slot_of (get_or ws i 0) ≡ get_or (set slots place (slot_of w)) i empty
    word i l =
        ⊎_elim
        (λ e. rw e
        (ap slot_of (get_or-set_same (loaded SLOTS slots) place w 0 (omega (arith, k))) ∙ sym (get_or-set_same slots place (slot_of w) empty (omega arith))))
        (λ o. ap slot_of (get_or-set_other (loaded SLOTS slots) place i w 0 o) ∙ loaded_slot slots SLOTS n fit i l ∙ sym (get_or-set_other slots place i (slot_of w) empty o))
        (equal i place)

-- ---- the numbers of a fill that are in range
pub fill_numbers : (place port vm guest page access generation : ℕ) → fill_in_range place port vm guest page access generation ≡ true
    → (place < SLOTS) × (port < PORTS) × (vm < VMS) × (guest < GUEST_PAGES) × (page < PAGES) × (access < ACCESSES) × (generation < GENERATIONS)
fill_numbers place port vm guest page access generation r =
    let a = both (is_slot place && is_port port && is_vm vm && is_guest guest && is_page PAGES page && is_access access) (is_generation generation) r in
    let b = both (is_slot place && is_port port && is_vm vm && is_guest guest && is_page PAGES page) (is_access access) a.0 in
    let c = both (is_slot place && is_port port && is_vm vm && is_guest guest) (is_page PAGES page) b.0 in
    let d = both (is_slot place && is_port port && is_vm vm) (is_guest guest) c.0 in
    let e = both (is_slot place && is_port port) (is_vm vm) d.0 in
    let f = both (is_slot place) (is_port port) e.0 in
    (ltb-true _ _ f.0, ltb-true _ _ f.1, ltb-true _ _ e.1, ltb-true _ _ d.1, ltb-true _ _ c.1, ltb-true _ _ b.1, ltb-true _ _ a.1)

-- ---- what is accepted has the number 0
pub accepted_number : {A : Type 0} → (answer : Result A Refusal) → is_ok answer ≡ eqb (change_number answer) 0
accepted_number (Ok done) = refl
accepted_number (Err refusal) = sym (ne_eqb (refusal_number refusal) 0 (λ e. omega (arith, refusal_above refusal, e)))

-- ---- a change of one word is a change of its slot, and a refusal stores nothing
module _ (slots : List Slot) (ws : List ℕ) (c : (ws ≡ loaded SLOTS slots) × Fitting SLOTS slots) (number : ℕ) (left : List ℕ) (after : List Slot) (s : after ≡ stored (eqb number 0) left slots) where
  refused_slots : (k : ℕ) → 0 < k → change number left ≡ change k ws → change number after ≡ change k slots
  refused_slots k h e =
      let a : number ≡ k = ap (λ (d : Change ℕ). d.number) e in
      let z : after ≡ slots = s ∙ stored_none number left slots (omega (arith, h, a)) in
      λ i. change (a i) (z i)

  accepted_slots : length slots ≡ SLOTS → (place w : ℕ) → change number left ≡ change 0 (set ws place w) → change number after ≡ change 0 (set slots place (slot_of w))
  accepted_slots n place w e =
      let a : number ≡ 0 = ap (λ (d : Change ℕ). d.number) e in
      let b : left ≡ set (loaded SLOTS slots) place w = ap (λ (d : Change ℕ). d.left) e ∙ ap (λ (l : List ℕ). set l place w) c.0 in
      let z : after ≡ set slots place (slot_of w) = s ∙ (λ i. stored (eqb (a i) 0) (b i) slots) ∙ stored_set slots n c.1 place w in
      λ i. change (a i) (z i)

  changed_slots : (in_range : Bool) (place w : ℕ) (slot : Slot) → (in_range ≡ true → slot_of w ≡ slot)
      → change number left ≡ change_at (length slots) in_range ws place w → change number after ≡ change_at (length slots) in_range slots place slot
  changed_slots in_range place w slot same e = ⊎_elim (λ t. ⊎_elim (accepted t) (outside t) (cases in_range)) short (cases (eqb (length slots) SLOTS))
    where
      goal : Type 0
      goal = change number after ≡ change_at (length slots) in_range slots place slot

      short : eqb (length slots) SLOTS ≡ false → goal
      short f = rw f (refused_slots (refusal_number StateNotValid) (omega arith) (rw f at e))

      outside : eqb (length slots) SLOTS ≡ true → in_range ≡ false → goal
      outside t f = rw (t, f) (refused_slots (refusal_number OutOfRange) (omega arith) (rw (t, f) at e))

      accepted : eqb (length slots) SLOTS ≡ true → in_range ≡ true → goal
      accepted t r = rw (t, r) (accepted_slots (eqb-true _ _ t) place w (rw (t, r) at e) ∙ ap (λ (one : Slot). change 0 (set slots place one)) (same r))

  pub fill_slots : (place port vm guest page access generation : ℕ)
      → change number left ≡ fill_word (length slots) ws place port vm guest page access generation → change number after ≡ fill_slot slots place port vm guest page access generation
  unfolding fill_slot fill_word
  fill_slots place port vm guest page access generation e =
      changed_slots (fill_in_range place port vm guest page access generation) place (slot_word port vm guest (entry page access generation))
      (record { port = port; vm = vm; guest = guest; entry = entry page access generation }) same e
    where
      same : fill_in_range place port vm guest page access generation ≡ true → slot_of (slot_word port vm guest (entry page access generation)) ≡ record { port = port; vm = vm; guest = guest; entry = entry page access generation }
      same r =
          let i = fill_numbers place port vm guest page access generation r in
          slot_of_word (record { port = port; vm = vm; guest = guest; entry = entry page access generation }) (omega arith, omega arith, omega arith, omega arith)

  pub empty_slots : (place : ℕ) → change number left ≡ empty_word (length slots) ws place → change number after ≡ empty_slot slots place
  unfolding empty_slot empty_word
  empty_slots place e = changed_slots (is_slot place) place 0 empty (λ r. refl) e
