-- A slot record and its packed word, and a cache of slots as the words of the core.
use Rattle.std.specs.Prelude.{ℕ, zero, suc, ◌<◌, Bool, not, List, map, eqb, ltb, length, get_or, set, replicate}
use Rattle.std.specs.Prelude.{if◌then◌else◌}
use Rattle.numbers.specs.Limits.{SLOTS}
use Rattle.numbers.specs.Packing.{PORT_FIELD, VM_FIELD, GUEST_FIELD, GUEST_BIT, slot_word, port_of, vm_of, guest_of, entry_of}
use Rattle.slots.specs.declared.Slot.{Slot}

-- ---- one slot
abbrev pub word_of : Slot → ℕ
word_of s = slot_word s.port s.vm s.guest s.entry

abbrev pub slot_of : ℕ → Slot
slot_of w = record { port = port_of w; vm = vm_of w; guest = guest_of w; entry = entry_of w }

abbrev pub empty : Slot
empty = record { port = 0; vm = 0; guest = 0; entry = 0 }

-- every number within its field, as in any record that a machine holds
abbrev pub Fits : Slot → Type 0
Fits s = (s.port < PORT_FIELD) × (s.vm < VM_FIELD) × (s.guest < GUEST_FIELD) × (s.entry < GUEST_BIT)

-- ---- a cache of slots
abbrev pub words : List Slot → List ℕ
words = map word_of

abbrev pub slots_of : List ℕ → List Slot
slots_of = map slot_of

-- ---- how many slots of so many are gone through: the first SLOTS, and none where another number of them is wanted
abbrev pub first_of : ℕ → ℕ
first_of count = if ltb count SLOTS then count else SLOTS

abbrev pub turns_of : ℕ → ℕ → ℕ
turns_of count wanted = if not (eqb count wanted) then 0 else first_of count

-- ---- loading
-- the words of the first k slots, laid over SLOTS empty words
abbrev pub laid : List Slot → ℕ → List ℕ
laid slots zero = replicate SLOTS 0
laid slots (suc k) = set (laid slots k) k (word_of (get_or slots k empty))

abbrev pub loaded : ℕ → List Slot → List ℕ
loaded wanted slots = laid slots (turns_of (length slots) wanted)

-- every slot that is loaded fits
abbrev pub Fitting : ℕ → List Slot → Type 0
Fitting wanted slots = (i : ℕ) → i < turns_of (length slots) wanted → Fits (get_or slots i empty)

-- ---- storing: where the call was refused, nothing is stored
abbrev pub stores_of : ℕ → Bool → ℕ
stores_of count accepted = if not accepted then 0 else turns_of count SLOTS

-- the first k slots replaced by those of the words
abbrev pub over : List ℕ → List Slot → ℕ → List Slot
over ws slots zero = slots
over ws slots (suc k) = set (over ws slots k) k (slot_of (get_or ws k 0))

abbrev pub stored : Bool → List ℕ → List Slot → List Slot
stored accepted ws slots = over ws slots (stores_of (length slots) accepted)
