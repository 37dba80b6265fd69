-- The parts of the contracts, by name. `May` or `Answer` is what an answer says, `Ready` what a deed asks of its
-- arguments, `Done` what it does, `Left` what the operation leaves: its answer, and each list new or as it was.
use Rattle.std.specs.Prelude.{ℕ, ◌<◌, List, ◌≡◌, Option, Some, Result, Ok, Err}
use Rattle.std.specs.Prelude.{if◌then◌else◌}
use Rattle.numbers.specs.Limits.{VMS, GUEST_PAGES, PAGES, PORTS, ACCESSES, GENERATIONS}
use Rattle.numbers.specs.Packing.{key, key_of, slot_key, slot_word, entry_of}
use Rattle.numbers.specs.Meaning.{Answer}
use Rattle.numbers.specs.declared.Refused.{Refused}
use Rattle.numbers.specs.declared.VmId.{VmId}
use Rattle.table.specs.Table.{place, lookup, is_found, set_at}
use Rattle.maps.specs.declared.Mapping.{Mapping}
use Rattle.model.specs.Effect.{accepted, kept}
use Rattle.model.specs.Maps.{matching_slots, without_slots, map_table, unmap_table}
use Rattle.model.specs.Ports.{vm_on, port_ports, fill_place, fill_cache, next_hand, fill_hand, empty_cache}

-- what an answer that hands on what it found says without it
abbrev pub answer_of : {A : Type 0} → Result A Refused → Answer
answer_of (Ok found) = accepted
answer_of (Err err) = Err err

-- ---- map
-- the entry's numbers are in range, and its place is the one of its key, else the lowest empty one
pub record MapReady (table : List ℕ) (m : Mapping) (at : ℕ) : Type 0 where
  pub vm_ok : m.vm.0 < VMS
  pub guest_ok : m.guest.0 < GUEST_PAGES
  pub page_ok : m.page.0 < PAGES
  pub access_ok : m.access < ACCESSES
  pub generation_ok : m.generation < GENERATIONS
  pub spot : place key_of table (key m.vm.0 m.guest.0) ≡ Some at

-- the answer is the one that it should be, and where it accepts the deed is ready
pub record MapMay (should : Answer) (table : List ℕ) (m : Mapping) (told : Result ℕ Refused) : Type 0 where
  pub answer : answer_of told ≡ should
  pub ready : {at : ℕ} → told ≡ Ok at → MapReady table m at

-- a table with the mapping's entry
abbrev pub mapped : List ℕ → Mapping → List ℕ
mapped table m = map_table table m.vm.0 m.guest.0 m.page.0 m.access m.generation

-- the entry stands in both maps, and its slots went, so many
pub record MapDone (map₀ walker₀ cache₀ : List ℕ) (m : Mapping) (count : ℕ) (map₁ walker₁ cache₁ : List ℕ) : Type 0 where
  pub dropped : count ≡ matching_slots cache₀ m.vm.0 m.guest.0
  pub map : map₁ ≡ mapped map₀ m
  pub walker : walker₁ ≡ mapped walker₀ m
  pub cache : cache₁ ≡ without_slots cache₀ m.vm.0 m.guest.0

-- an accepted map does so to each list, a refused one leaves it
pub record MapLeft (should : Answer) (map₀ walker₀ cache₀ : List ℕ) (m : Mapping) (told : Answer) (map₁ walker₁ cache₁ : List ℕ) : Type 0 where
  pub answer : told ≡ should
  pub map : map₁ ≡ kept should map₀ (mapped map₀ m)
  pub walker : walker₁ ≡ kept should walker₀ (mapped walker₀ m)
  pub cache : cache₁ ≡ kept should cache₀ (without_slots cache₀ m.vm.0 m.guest.0)

-- ---- unmap
-- the numbers are in range
pub record UnmapReady (vm guest : ℕ) : Type 0 where
  pub vm_ok : vm < VMS
  pub guest_ok : guest < GUEST_PAGES

-- the entry is in neither map, and its slots went, so many
pub record UnmapDone (map₀ walker₀ cache₀ : List ℕ) (vm guest count : ℕ) (map₁ walker₁ cache₁ : List ℕ) : Type 0 where
  pub dropped : count ≡ matching_slots cache₀ vm guest
  pub map : map₁ ≡ unmap_table map₀ vm guest
  pub walker : walker₁ ≡ unmap_table walker₀ vm guest
  pub cache : cache₁ ≡ without_slots cache₀ vm guest

-- an accepted unmap does so to each list, a refused one leaves it
pub record UnmapLeft (should : Answer) (map₀ walker₀ cache₀ : List ℕ) (vm guest : ℕ) (told : Answer) (map₁ walker₁ cache₁ : List ℕ) : Type 0 where
  pub answer : told ≡ should
  pub map : map₁ ≡ kept should map₀ (unmap_table map₀ vm guest)
  pub walker : walker₁ ≡ kept should walker₀ (unmap_table walker₀ vm guest)
  pub cache : cache₁ ≡ kept should cache₀ (without_slots cache₀ vm guest)

-- ---- ports and slots
-- an accepted switch puts the target on the port, a refused one leaves the ports
pub record PortLeft (should : Answer) (ports₀ : List ℕ) (port : ℕ) (target : Option VmId) (told : Answer) (ports₁ : List ℕ) : Type 0 where
  pub answer : told ≡ should
  pub ports : ports₁ ≡ kept should ports₀ (port_ports ports₀ port target)

-- the numbers are in range
pub record FillReady (port vm guest : ℕ) : Type 0 where
  pub port_ok : port < PORTS
  pub vm_ok : vm < VMS
  pub guest_ok : guest < GUEST_PAGES

-- the VM is the one on the port, and the word the one that the walker has for it
pub record FillFound (ports walker : List ℕ) (port guest on found : ℕ) : Type 0 where
  pub ready : FillReady port on guest
  pub vm : on ≡ vm_on ports port
  pub word : found ≡ lookup key_of walker (key on guest)

-- the answer is the one that it should be, and where it accepts it hands on what it found
pub record FillAnswer (should : Answer) (ports walker : List ℕ) (port guest : ℕ) (told : Result (VmId × ℕ) Refused) : Type 0 where
  pub answer : answer_of told ≡ should
  pub given : {vm : VmId} {found : ℕ} → told ≡ Ok (vm, found) → FillFound ports walker port guest vm.0 found

-- the slot has the word that was found; the hand steps only where its slot was taken
pub record FillDone (cache₀ : List ℕ) (hand₀ port vm guest found : ℕ) (cache₁ : List ℕ) (hand₁ : ℕ) : Type 0 where
  pub cache : cache₁ ≡ set_at cache₀ (fill_place cache₀ hand₀ (slot_key port vm guest)) (slot_word port vm guest (entry_of found))
  pub hand : hand₁ ≡ (if is_found (place key_of cache₀ (slot_key port vm guest)) then hand₀ else next_hand hand₀)

-- an accepted fill does so with what the walker has for the VM on the port, a refused one leaves cache and hand
pub record FillLeft (should : Answer) (ports walker : List ℕ) (port guest : ℕ) (cache₀ : List ℕ) (hand₀ : ℕ) (told : Answer) (cache₁ : List ℕ) (hand₁ : ℕ) : Type 0 where
  pub answer : told ≡ should
  pub cache : cache₁ ≡ kept should cache₀ (fill_cache cache₀ hand₀ ports walker port guest)
  pub hand : hand₁ ≡ kept should hand₀ (fill_hand cache₀ hand₀ ports port guest)

-- an accepted one empties the slot, a refused one leaves the cache
pub record EmptyLeft (should : Answer) (cache₀ : List ℕ) (slot : ℕ) (told : Answer) (cache₁ : List ℕ) : Type 0 where
  pub answer : told ≡ should
  pub cache : cache₁ ≡ kept should cache₀ (empty_cache cache₀ slot)
