-- Operations 7 to 10: map and unmap, for CPU or DMA (docs/MACHINE.md, 7).
use Rattle.std.specs.Prelude.{ℕ, not, ◌&&◌, List}
use Rattle.std.specs.Prelude.{if◌then◌else◌}
use Rattle.numbers.specs.Packing.{entry, map_word, key, key_of, address_of}
use Rattle.numbers.specs.Meaning.{Answer}
use Rattle.numbers.specs.declared.Refusal.TheVariants.{OutOfRange, VmUnknown, PageNotHeld, MappingDiffers, NoRoom}
use Rattle.numbers.specs.declared.Side.{Side}
use Rattle.table.specs.Scan.{count}
use Rattle.table.specs.Table.{has_key, find, place, is_found, put, erase}
use Rattle.model.specs.Views.{is_vm, is_guest, is_page, is_access, is_generation, knows, may_map}
use Rattle.model.specs.Effect.{accepted, accepted_dropping, refused, and_then}

-- ---- early checks
abbrev pub map_early : ℕ → ℕ → ℕ → ℕ → ℕ → ℕ → ℕ → Answer
map_early known pages vm guest page access generation =
    if not (is_vm vm && is_guest guest && is_page pages page && is_access access && is_generation generation) then refused OutOfRange
    else if not (knows known vm) then refused VmUnknown
    else accepted

abbrev pub unmap_early : ℕ → ℕ → ℕ → Answer
unmap_early known vm guest =
    if not (is_vm vm && is_guest guest) then refused OutOfRange
    else if not (knows known vm) then refused VmUnknown
    else accepted

-- ---- slots of a VM and guest page, on whichever port: how many there are, and the cache without them
unfoldable pub matching_slots : List ℕ → ℕ → ℕ → ℕ
matching_slots cache vm guest = count (has_key address_of (key vm guest)) cache

unfoldable pub without_slots : List ℕ → ℕ → ℕ → List ℕ
without_slots cache vm guest = erase address_of cache (key vm guest)

-- ---- 7, 8: map; a present key is replaced and needs no free entry
-- whether it may, and then with how many slots dropped
unfoldable pub map_may : Side → ℕ → ℕ → List ℕ → List ℕ → List ℕ → ℕ → ℕ → ℕ → ℕ → ℕ → Answer
map_may side known pages sets pairs map vm guest page access generation =
    and_then (map_early known pages vm guest page access generation)
    (if not (may_map side sets pairs vm page) then refused PageNotHeld
    else if not (is_found (place key_of map (key vm guest))) then refused NoRoom
    else accepted)

unfoldable pub map_answer : Side → ℕ → ℕ → List ℕ → List ℕ → List ℕ → List ℕ → ℕ → ℕ → ℕ → ℕ → ℕ → Answer
map_answer side known pages sets pairs map cache vm guest page access generation =
    and_then (map_may side known pages sets pairs map vm guest page access generation) (accepted_dropping (matching_slots cache vm guest))

-- the edit of the software map, and the same of the walker's
unfoldable pub map_table : List ℕ → ℕ → ℕ → ℕ → ℕ → ℕ → List ℕ
map_table table vm guest page access generation = put key_of table (key vm guest) (map_word vm guest (entry page access generation))

-- ---- 9, 10: unmap, which ends no claim
unfoldable pub unmap_may : ℕ → List ℕ → ℕ → ℕ → Answer
unmap_may known map vm guest =
    and_then (unmap_early known vm guest)
    (if not (is_found (find key_of map (key vm guest))) then refused MappingDiffers
    else accepted)

unfoldable pub unmap_answer : ℕ → List ℕ → List ℕ → ℕ → ℕ → Answer
unmap_answer known map cache vm guest = and_then (unmap_may known map vm guest) (accepted_dropping (matching_slots cache vm guest))

unfoldable pub unmap_table : List ℕ → ℕ → ℕ → List ℕ
unmap_table table vm guest = erase key_of table (key vm guest)
