-- How entries, slots and pairs stand in one 64-bit word (docs/MACHINE.md, 3): from the lowest bit, generation 16,
-- access 3, page 12, one that says filled, guest page 16, VM 8, port 8. The word 0 is empty.
use Rattle.std.specs.Prelude.{ℕ, ◌+◌, ◌*◌, ◌/◌, ◌%◌, ◌<◌, min, max}

-- ---- fields: how many numbers each can hold, and its lowest bit, which stands right above the field below it
-- generation, the lowest field
abbrev pub GENERATION_BIT : ℕ
GENERATION_BIT = 1

abbrev pub GENERATION_FIELD : ℕ
GENERATION_FIELD = 65536

abbrev pub ACCESS_BIT : ℕ
ACCESS_BIT = GENERATION_BIT * GENERATION_FIELD

abbrev pub ACCESS_FIELD : ℕ
ACCESS_FIELD = 8

abbrev pub PAGE_BIT : ℕ
PAGE_BIT = ACCESS_BIT * ACCESS_FIELD

abbrev pub PAGE_FIELD : ℕ
PAGE_FIELD = 4096

-- the one bit that says filled
abbrev pub FILLED_BIT : ℕ
FILLED_BIT = PAGE_BIT * PAGE_FIELD

-- below it stands the entry
abbrev pub GUEST_BIT : ℕ
GUEST_BIT = FILLED_BIT * 2

abbrev pub GUEST_FIELD : ℕ
GUEST_FIELD = 65536

abbrev pub VM_BIT : ℕ
VM_BIT = GUEST_BIT * GUEST_FIELD

abbrev pub VM_FIELD : ℕ
VM_FIELD = 256

abbrev pub PORT_BIT : ℕ
PORT_BIT = VM_BIT * VM_FIELD

-- the highest field, up to bit 63
abbrev pub PORT_FIELD : ℕ
PORT_FIELD = 256

-- what VM, guest page and the bit that says filled can be together
abbrev pub ADDRESS_FIELD : ℕ
ADDRESS_FIELD = VM_FIELD * GUEST_FIELD * 2

-- ---- numbers that fit their fields: of an entry, of a word over any low half, of a pair
pub record EntryFits (page access generation : ℕ) : Type 0 where
  pub page_fits : page < PAGE_FIELD
  pub access_fits : access < ACCESS_FIELD
  pub generation_fits : generation < GENERATION_FIELD

pub record WordFits (vm guest low : ℕ) : Type 0 where
  pub vm_fits : vm < VM_FIELD
  pub guest_fits : guest < GUEST_FIELD
  pub low_fits : low < GUEST_BIT

pub record PairFits (left right page : ℕ) : Type 0 where
  pub left_fits : left < VM_FIELD
  pub right_fits : right < GUEST_FIELD
  pub page_fits : page < PAGE_FIELD

-- ---- packing
-- an entry's low half: what a translation gives
abbrev pub entry : ℕ → ℕ → ℕ → ℕ
entry page access generation = FILLED_BIT + page * PAGE_BIT + access * ACCESS_BIT + generation

abbrev pub slot_word : ℕ → ℕ → ℕ → ℕ → ℕ
slot_word port vm guest low = ((port * VM_FIELD + vm) * GUEST_FIELD + guest) * GUEST_BIT + low

-- a map's word has no port
abbrev pub map_word : ℕ → ℕ → ℕ → ℕ
map_word vm guest low = slot_word 0 vm guest low

-- a pair's word has its two ends, in the order given, in the places of VM and guest page
abbrev pub pair_word : ℕ → ℕ → ℕ → ℕ
pair_word left right page = slot_word 0 left right (entry page 0 0)

-- ---- keys: the bits above the entry, and the one that says filled, so that no filled word has key 0
abbrev pub slot_key : ℕ → ℕ → ℕ → ℕ
slot_key port vm guest = ((port * VM_FIELD + vm) * GUEST_FIELD + guest) * 2 + 1

abbrev pub key : ℕ → ℕ → ℕ
key vm guest = (vm * GUEST_FIELD + guest) * 2 + 1

-- the same for either order of the ends
abbrev pub pair_key : ℕ → ℕ → ℕ → ℕ
pair_key left right page = ((min left right * GUEST_FIELD + max left right) * PAGE_FIELD + page) * 2 + 1

-- ---- unpacking
abbrev pub port_of : ℕ → ℕ
port_of w = w / PORT_BIT

abbrev pub vm_of : ℕ → ℕ
vm_of w = w / VM_BIT % VM_FIELD

abbrev pub guest_of : ℕ → ℕ
guest_of w = w / GUEST_BIT % GUEST_FIELD

abbrev pub entry_of : ℕ → ℕ
entry_of w = w % GUEST_BIT

abbrev pub filled_of : ℕ → ℕ
filled_of w = w / FILLED_BIT % 2

abbrev pub page_of : ℕ → ℕ
page_of w = w / PAGE_BIT % PAGE_FIELD

abbrev pub access_of : ℕ → ℕ
access_of w = w / ACCESS_BIT % ACCESS_FIELD

abbrev pub generation_of : ℕ → ℕ
generation_of w = w % GENERATION_FIELD

-- a map's word by VM and guest page, a slot's by port, VM and guest page
abbrev pub key_of : ℕ → ℕ
key_of w = w / FILLED_BIT

-- a slot's word by VM and guest page alone
abbrev pub address_of : ℕ → ℕ
address_of w = w / FILLED_BIT % ADDRESS_FIELD

abbrev pub left_of : ℕ → ℕ
left_of w = vm_of w

abbrev pub right_of : ℕ → ℕ
right_of w = guest_of w

abbrev pub pair_key_of : ℕ → ℕ
pair_key_of w = ((min (left_of w) (right_of w) * GUEST_FIELD + max (left_of w) (right_of w)) * PAGE_FIELD + page_of w) * 2 + filled_of w
