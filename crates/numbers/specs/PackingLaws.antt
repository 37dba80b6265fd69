-- Unpacking gives back what was packed, and every filled word is the packing of its parts.
-- The laws ask for the width of a field, never for a limit of the machine.
use Rattle.std.specs.Prelude.{ℕ, ◌+◌, ◌*◌, ◌/◌, ◌<◌, min, max, ◌≡◌}
use Rattle.std.proofs.Common.{sym, ap, ◌∙◌, arith}
use Rattle.numbers.specs.Packing.{ACCESS_BIT, ACCESS_FIELD, PAGE_BIT, PAGE_FIELD, FILLED_BIT, GUEST_BIT, GUEST_FIELD, VM_FIELD, PORT_BIT, ADDRESS_FIELD, entry, slot_word, map_word, pair_word, slot_key, key, pair_key, port_of, vm_of, guest_of, entry_of, filled_of, page_of, access_of, generation_of, key_of, address_of, left_of, right_of, pair_key_of, EntryFits, WordFits, PairFits}

-- ---- an entry
module _ {page access generation : ℕ} (f : EntryFits page access generation) where
  pub entry_fits : entry page access generation < GUEST_BIT
  entry_fits = omega arith

  pub entry_filled : filled_of (entry page access generation) ≡ 1
  entry_filled = omega arith

  pub entry_page : page_of (entry page access generation) ≡ page
  entry_page = omega arith

  pub entry_access : access_of (entry page access generation) ≡ access
  entry_access = omega arith

  pub entry_generation : generation_of (entry page access generation) ≡ generation
  entry_generation = omega arith

-- ---- a word over any low half
module _ (port : ℕ) {vm guest low : ℕ} (f : WordFits vm guest low) where
  pub word_port : port_of (slot_word port vm guest low) ≡ port
  word_port = omega arith

  pub word_vm : vm_of (slot_word port vm guest low) ≡ vm
  word_vm = omega arith

  pub word_guest : guest_of (slot_word port vm guest low) ≡ guest
  word_guest = omega arith

  pub word_entry : entry_of (slot_word port vm guest low) ≡ low
  word_entry = omega arith

  -- page, access and generation of a word are those of its low half
  pub word_filled : filled_of (slot_word port vm guest low) ≡ filled_of low
  word_filled = omega arith

  pub word_page : page_of (slot_word port vm guest low) ≡ page_of low
  word_page = omega arith

  pub word_access : access_of (slot_word port vm guest low) ≡ access_of low
  word_access = omega arith

  pub word_generation : generation_of (slot_word port vm guest low) ≡ generation_of low
  word_generation = omega arith

  -- the keys of a filled word
  pub word_key : filled_of low ≡ 1 → key_of (slot_word port vm guest low) ≡ slot_key port vm guest
  word_key filled = omega arith

  pub word_address : filled_of low ≡ 1 → address_of (slot_word port vm guest low) ≡ key vm guest
  word_address filled = omega arith

-- ---- any word is the packing of its four parts
pub word_whole : (w : ℕ) → slot_word (port_of w) (vm_of w) (guest_of w) (entry_of w) ≡ w
word_whole w = omega arith

-- a filled word's low half is the packing of its three
pub entry_whole : (w : ℕ) → filled_of w ≡ 1 → entry (page_of w) (access_of w) (generation_of w) ≡ entry_of w
entry_whole w f =
    let a : w / ACCESS_BIT / ACCESS_FIELD ≡ w / PAGE_BIT = omega arith in
    let b : w / PAGE_BIT / PAGE_FIELD ≡ w / FILLED_BIT = omega arith in
    let c : w / FILLED_BIT / 2 ≡ w / GUEST_BIT = omega arith in
    omega arith

-- ---- the map's word that a slot's stands for: all of it but the port
abbrev pub unported : ℕ → ℕ
unported w = map_word (vm_of w) (guest_of w) (entry_of w)

module _ (w : ℕ) where
  -- what is unpacked fits
  pub parts_fit : WordFits (vm_of w) (guest_of w) (entry_of w)
  parts_fit = record { vm_fits = omega arith; guest_fits = omega arith; low_fits = omega arith }

  pub unported_vm : vm_of (unported w) ≡ vm_of w
  unported_vm = word_vm 0 parts_fit

  pub unported_guest : guest_of (unported w) ≡ guest_of w
  unported_guest = word_guest 0 parts_fit

  pub unported_filled : filled_of (unported w) ≡ filled_of w
  unported_filled = omega arith

  pub unported_page : page_of (unported w) ≡ page_of w
  unported_page = omega arith

  pub unported_access : access_of (unported w) ≡ access_of w
  unported_access = omega arith

  pub unported_key : key_of (unported w) ≡ address_of w
  unported_key =
      let a : w / FILLED_BIT / ADDRESS_FIELD ≡ port_of w = omega arith in
      let b : unported w + port_of w * PORT_BIT ≡ w = omega arith in
      omega arith

-- ---- keys
-- a map's key says its VM and guest page
pub key_same : (vm guest vm' guest' : ℕ) → guest < GUEST_FIELD → guest' < GUEST_FIELD → key vm guest ≡ key vm' guest' → (vm ≡ vm') × (guest ≡ guest')
key_same vm guest vm' guest' h h' e =
    let a : vm * GUEST_FIELD + guest ≡ vm' * GUEST_FIELD + guest' = omega arith in
    let b : (vm * GUEST_FIELD + guest) / GUEST_FIELD ≡ vm = omega arith in
    let c : (vm' * GUEST_FIELD + guest') / GUEST_FIELD ≡ vm' = omega arith in
    let d : vm ≡ vm' = sym b ∙ rw a c in
    (d, omega arith)

-- a word's key says all but its entry
pub key_whole : (port vm guest w : ℕ) → key_of w ≡ slot_key port vm guest → slot_word port vm guest (entry_of w) ≡ w
key_whole port vm guest w e = omega arith

pub key_vm : (port vm guest w : ℕ) → vm < VM_FIELD → guest < GUEST_FIELD → key_of w ≡ slot_key port vm guest → vm_of w ≡ vm
key_vm port vm guest w v g e = ap vm_of (sym (key_whole port vm guest w e)) ∙ word_vm port (record { vm_fits = v; guest_fits = g; low_fits = omega arith })

pub key_guest : (port vm guest w : ℕ) → vm < VM_FIELD → guest < GUEST_FIELD → key_of w ≡ slot_key port vm guest → guest_of w ≡ guest
key_guest port vm guest w v g e = ap guest_of (sym (key_whole port vm guest w e)) ∙ word_guest port (record { vm_fits = v; guest_fits = g; low_fits = omega arith })

-- a filled word's key is never that of an empty one
pub key_filled : (w : ℕ) → filled_of w ≡ 1 → 0 < key_of w
key_filled w f = omega arith

pub address_filled : (w : ℕ) → filled_of w ≡ 1 → 0 < address_of w
address_filled w f = omega arith

-- a slot's key says its address
pub slot_address : (port vm guest w : ℕ) → vm < VM_FIELD → guest < GUEST_FIELD → key_of w ≡ slot_key port vm guest → address_of w ≡ key vm guest
slot_address port vm guest w v g e = omega arith

-- of a map's word, which has no port, the two keys are one
pub address_key : (w : ℕ) → port_of w ≡ 0 → address_of w ≡ key_of w
address_key w p = omega arith

-- ---- pairs
module _ {left right page : ℕ} (f : PairFits left right page) where
  pub pair_left : left_of (pair_word left right page) ≡ left
  pair_left = omega arith

  pub pair_right : right_of (pair_word left right page) ≡ right
  pair_right = omega arith

  pub pair_page : page_of (pair_word left right page) ≡ page
  pair_page = omega arith

  -- it is filled, and the rest of it is 0
  pub pair_filled : filled_of (pair_word left right page) ≡ 1
  pair_filled = omega arith

  pub pair_port : port_of (pair_word left right page) ≡ 0
  pair_port = omega arith

  pub pair_access : access_of (pair_word left right page) ≡ 0
  pair_access = omega arith

  pub pair_generation : generation_of (pair_word left right page) ≡ 0
  pair_generation = omega arith

  pub pair_key_lem : pair_key_of (pair_word left right page) ≡ pair_key left right page
  pair_key_lem = rw (pair_left, pair_right, pair_page, pair_filled)

-- the order of the ends does not matter
pub pair_either : (left right page : ℕ) → pair_key left right page ≡ pair_key right left page
pair_either left right page = omega arith

-- a pair's key says its page, and its ends but for their order
pub pair_same : (left right page left' right' page' : ℕ) → left < GUEST_FIELD → right < GUEST_FIELD → page < PAGE_FIELD → left' < GUEST_FIELD → right' < GUEST_FIELD →
    page' < PAGE_FIELD → pair_key left right page ≡ pair_key left' right' page' → (page ≡ page') × (min left right ≡ min left' right') × (max left right ≡ max left' right')
pair_same left right page left' right' page' l r p l' r' p' e =
    let a : (min left right * GUEST_FIELD + max left right) * PAGE_FIELD + page ≡ (min left' right' * GUEST_FIELD + max left' right') * PAGE_FIELD + page' = omega arith in
    (omega arith, omega arith, omega arith)
