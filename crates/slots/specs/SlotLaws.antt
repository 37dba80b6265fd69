-- Packing loses nothing; a whole cache is loaded as its words and stored as their slots, and a refusal stores nothing.
use Rattle.std.specs.Prelude.{ℕ, zero, suc, ◌+◌, ◌<◌, ◌≤◌, Bool, true, false, List, ◌≡◌, refl, eqb, ltb, length, get_or, set}
use Rattle.std.proofs.Common.{⊎_elim, sym, ◌∙◌, subst, arith, length-set, get_or-set_same, get_or-set_other, ext_get_or, ltb-true, ltb-false, eq-eqb, ne_eqb}
use Rattle.std.proofs.lemmas.List.{length-replicate, length-map}
use Rattle.std.proofs.Math.ListN.{get_or-map}
use Rattle.numbers.specs.CaseLaws.{cases}
use Rattle.numbers.specs.Limits.{SLOTS}
use Rattle.numbers.specs.Packing.{WordFits}
use Rattle.numbers.specs.PackingLaws.{word_port, word_vm, word_guest, word_entry}
use Rattle.pages.specs.BitLaws.{below_or}
use Rattle.slots.specs.Slots.{word_of, slot_of, empty, Fits, words, slots_of, first_of, turns_of, laid, loaded, stores_of, over, stored}
use Rattle.slots.specs.declared.Slot.{Slot}

-- ---- one slot
pub word_of_slot : (w : ℕ) → word_of (slot_of w) ≡ w
word_of_slot w = omega arith

pub slot_of_word : (s : Slot) → Fits s → slot_of (word_of s) ≡ s
slot_of_word s (p, v, g, e) =
    let f : WordFits s.vm s.guest s.entry = record { vm_fits = v; guest_fits = g; low_fits = e } in
    λ i. record { port = word_port s.port f i; vm = word_vm s.port f i; guest = word_guest s.port f i; entry = word_entry s.port f i }

-- slots that fit, and one more
pub fit_next : (slots : List Slot) (k : ℕ) → ((i : ℕ) → i < k → Fits (get_or slots i empty)) → Fits (get_or slots k empty) → (i : ℕ) → i < k + 1 → Fits (get_or slots i empty)
fit_next slots k before at i h =
    ⊎_elim (before i) (λ b. let e : k ≡ i = omega arith in subst (λ (j : ℕ). Fits (get_or slots j empty)) e at) (below_or i k)

-- ---- what is gone through
first_within : (count : ℕ) → (first_of count ≤ count) × (first_of count ≤ SLOTS)
first_within count = ⊎_elim (λ t. rw t (omega arith, omega (arith, ltb-true count SLOTS t))) (λ f. rw f (omega (arith, ltb-false count SLOTS f), omega arith)) (cases (ltb count SLOTS))

pub turns_within : (count wanted : ℕ) → (turns_of count wanted ≤ count) × (turns_of count wanted ≤ SLOTS)
turns_within count wanted = ⊎_elim (λ t. rw t (first_within count)) (λ f. rw f (omega arith, omega arith)) (cases (eqb count wanted))

pub stores_within : (count : ℕ) (accepted : Bool) → (stores_of count accepted ≤ count) × (stores_of count accepted ≤ SLOTS)
stores_within count true = turns_within count SLOTS
stores_within count false = (omega arith, omega arith)

pub turns_whole : (count : ℕ) → count ≡ SLOTS → turns_of count SLOTS ≡ SLOTS
turns_whole count e = rw e

-- of as many slots as are wanted each of the first is gone through
pub turns_there : (count wanted i : ℕ) → count ≡ wanted → i < count → i < SLOTS → i < turns_of count wanted
turns_there count wanted i e h l = rw (eq-eqb count wanted e) (⊎_elim (λ t. rw t h) (λ f. rw f l) (cases (ltb count SLOTS)))

-- ---- loading
-- the word of slot i, where an empty slot's word is 0
pub word_there : (slots : List Slot) (i : ℕ) → get_or (words slots) i 0 ≡ word_of (get_or slots i empty)
word_there slots i = get_or-map word_of slots i empty

pub length-laid : (slots : List Slot) (k : ℕ) → length (laid slots k) ≡ SLOTS
length-laid slots zero = length-replicate {A = ℕ} SLOTS 0
length-laid slots (suc k) = length-set (laid slots k) k (word_of (get_or slots k empty)) ∙ length-laid slots k

pub word_laid : (slots : List Slot) (k i : ℕ) → i < k → i < SLOTS → get_or (laid slots k) i 0 ≡ word_of (get_or slots i empty)
word_laid slots zero i h l = absurd (omega arith)
word_laid slots (suc k) i h l =
    ⊎_elim (λ b. get_or-set_other (laid slots k) k i w 0 (λ e. omega (arith, b, e)) ∙ word_laid slots k i b l)
    (λ b. let e : k ≡ i = omega arith in
    subst (λ (j : ℕ). get_or (set (laid slots k) k w) j 0 ≡ word_of (get_or slots j empty)) e (get_or-set_same (laid slots k) k w 0 (let n = length-laid slots k in omega arith)))
    (below_or i k)
  where
    w : ℕ
    w = word_of (get_or slots k empty)

-- a cache of 64 slots is loaded as its words
pub loaded_whole : (slots : List Slot) → length slots ≡ SLOTS → loaded SLOTS slots ≡ words slots
loaded_whole slots e =
    let n : length (words slots) ≡ length slots = length-map slots word_of in
    let m : length (loaded SLOTS slots) ≡ SLOTS = length-laid slots (turns_of (length slots) SLOTS) in
    let t : turns_of (length slots) SLOTS ≡ SLOTS = turns_whole (length slots) e in
    ext_get_or 0 (loaded SLOTS slots) (words slots) (m ∙ sym (n ∙ e)) (λ i h. word_laid slots (turns_of (length slots) SLOTS) i (omega arith) (omega arith) ∙ sym (word_there slots i))

-- ---- storing
pub length_over : (ws : List ℕ) (slots : List Slot) (k : ℕ) → length (over ws slots k) ≡ length slots
length_over ws slots zero = refl
length_over ws slots (suc k) = length-set (over ws slots k) k (slot_of (get_or ws k 0)) ∙ length_over ws slots k

pub slot_over : (ws : List ℕ) (slots : List Slot) (k i : ℕ) → i < k → k ≤ length slots → get_or (over ws slots k) i empty ≡ slot_of (get_or ws i 0)
slot_over ws slots zero i h l = absurd (omega arith)
slot_over ws slots (suc k) i h l =
    ⊎_elim (λ b. get_or-set_other before k i s empty (λ e. omega (arith, b, e)) ∙ slot_over ws slots k i b (omega arith))
    (λ b. let e : k ≡ i = omega arith in
    subst (λ (j : ℕ). get_or (set before k s) j empty ≡ slot_of (get_or ws j 0)) e (get_or-set_same before k s empty (let n = length_over ws slots k in omega arith)))
    (below_or i k)
  where
    before : List Slot
    before = over ws slots k

    s : Slot
    s = slot_of (get_or ws k 0)

-- 64 words that were accepted are stored into a cache of 64 slots as their slots
pub stored_whole : (ws : List ℕ) (slots : List Slot) → length ws ≡ SLOTS → length slots ≡ SLOTS → stored true ws slots ≡ slots_of ws
stored_whole ws slots e f =
    let t : turns_of (length slots) SLOTS ≡ SLOTS = turns_whole (length slots) f in
    let m : length (stored true ws slots) ≡ length slots = length_over ws slots (turns_of (length slots) SLOTS) in
    ext_get_or empty (stored true ws slots) (slots_of ws) (m ∙ f ∙ sym (length-map ws slot_of ∙ e))
    (λ i h. slot_over ws slots (turns_of (length slots) SLOTS) i (omega arith) (omega arith) ∙ sym (get_or-map slot_of ws i 0))

-- a refusal, its number not 0, stores nothing
pub stored_none : (number : ℕ) (ws : List ℕ) (slots : List Slot) → 0 < number → stored (eqb number 0) ws slots ≡ slots
stored_none number ws slots h = rw (ne_eqb number 0 (λ e. omega (arith, h, e)))
