-- What the functions over one cache give, as include/tiligormis.h says it: a slot searched, filled, emptied.
use Rattle.std.specs.Prelude.{ℕ, ◌<◌, Bool, not, ◌&&◌, List, ◌≡◌, eqb, ltb, length, get_or, set, Option, Some, None, Result, Ok, Err}
use Rattle.std.specs.Prelude.{if◌then◌else◌}
use Rattle.numbers.specs.Limits.{SLOTS, PAGES}
use Rattle.numbers.specs.Meaning.{refusal_number}
use Rattle.numbers.specs.Packing.{entry, slot_word, filled_of}
use Rattle.numbers.specs.declared.Refusal.{Refusal}
use Rattle.numbers.specs.declared.Refusal.TheVariants.{StateNotValid, OutOfRange}
use Rattle.table.specs.Scan.{lowest}
use Rattle.model.specs.Views.{is_vm, is_guest, is_access, is_generation, is_port, is_slot, is_page, is_filled}
use Rattle.slots.specs.Slots.{empty}
use Rattle.slots.specs.declared.Slot.{Slot}

-- ---- the search
-- the slot is filled, and holds this port, VM and guest page
abbrev pub holds : ℕ → ℕ → ℕ → Slot → Bool
holds port vm guest slot = is_filled slot.entry && eqb slot.port port && eqb slot.vm vm && eqb slot.guest guest

-- the lowest such slot of the first SLOTS, SLOTS where there is none; a slot past the last counts as empty
unfoldable pub find_slot : List Slot → ℕ → ℕ → ℕ → ℕ
find_slot slots port vm guest = lowest (λ i. holds port vm guest (get_or slots i empty)) SLOTS

-- the place that a search answered, and none where it answered SLOTS
abbrev pub found : ℕ → Option ℕ
found place = if ltb place SLOTS then Some place else None

-- slot i is there, filled, and holds the three numbers
pub record HoldsAt (slots : List Slot) (port vm guest i : ℕ) : Type 0 where
  pub there : i < length slots
  pub filled : filled_of (get_or slots i empty).entry ≡ 1
  pub same_port : (get_or slots i empty).port ≡ port
  pub same_vm : (get_or slots i empty).vm ≡ vm
  pub same_guest : (get_or slots i empty).guest ≡ guest

-- what a search is to answer, said without searching
pub data Searched (slots : List Slot) (port vm guest r : ℕ) : Type 0 where
  lowest_held : r < SLOTS → HoldsAt slots port vm guest r → ((k : ℕ) → k < r → HoldsAt slots port vm guest k → ⊥) → Searched slots port vm guest r
  none_held : r ≡ SLOTS → ((k : ℕ) → k < SLOTS → HoldsAt slots port vm guest k → ⊥) → Searched slots port vm guest r

-- ---- a change of one slot, or of its word
-- what it gives: its number, and all the slots as it leaves them
pub record Change (A : Type 0) : Type 0 where
  pub number : ℕ
  pub left : List A

abbrev pub change : {A : Type 0} → ℕ → List A → Change A
change number left = record { number = number; left = left }

-- the number of what a change answers: 0, or a refusal's
abbrev pub change_number : {A : Type 0} → Result A Refusal → ℕ
change_number (Ok done) = 0
change_number (Err refusal) = refusal_number refusal

-- refused, it changes nothing: with 1 where the cache has not SLOTS slots, with 2 where a number is out of range
abbrev pub change_at : {A : Type 0} → ℕ → Bool → List A → ℕ → A → Change A
change_at count in_range all place one =
    if not (eqb count SLOTS) then change (refusal_number StateNotValid) all
    else if not in_range then change (refusal_number OutOfRange) all
    else change 0 (set all place one)

-- ---- a slot filled
abbrev pub fill_in_range : ℕ → ℕ → ℕ → ℕ → ℕ → ℕ → ℕ → Bool
fill_in_range place port vm guest page access generation =
    is_slot place && is_port port && is_vm vm && is_guest guest && is_page PAGES page && is_access access && is_generation generation

unfoldable pub fill_slot : List Slot → ℕ → ℕ → ℕ → ℕ → ℕ → ℕ → ℕ → Change Slot
fill_slot slots place port vm guest page access generation =
    change_at (length slots) (fill_in_range place port vm guest page access generation) slots place
    (record { port = port; vm = vm; guest = guest; entry = entry page access generation })

-- the same of the words of a cache that has so many slots
unfoldable pub fill_word : ℕ → List ℕ → ℕ → ℕ → ℕ → ℕ → ℕ → ℕ → ℕ → Change ℕ
fill_word count words place port vm guest page access generation =
    change_at count (fill_in_range place port vm guest page access generation) words place
    (slot_word port vm guest (entry page access generation))

-- ---- a slot emptied
unfoldable pub empty_slot : List Slot → ℕ → Change Slot
empty_slot slots place = change_at (length slots) (is_slot place) slots place empty

unfoldable pub empty_word : ℕ → List ℕ → ℕ → Change ℕ
empty_word count words place = change_at count (is_slot place) words place 0
