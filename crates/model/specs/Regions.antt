-- Operations 11 to 14: insert and remove a region, for CPU or DMA (docs/MACHINE.md, 7). Every check searches the whole
-- region for its lowest failing page before the next begins, and nothing is written before the last has passed.
use Rattle.std.specs.Prelude.{ℕ, zero, suc, ◌+◌, Bool, false, not, ◌&&◌, ◌||◌, List, [], ◌∷◌, eqb, ltb, leb}
use Rattle.std.specs.Prelude.{if◌then◌else◌}
use Rattle.numbers.specs.Packing.{entry, map_word, key, key_of, vm_of, guest_of}
use Rattle.numbers.specs.Meaning.{Answer, refuse}
use Rattle.numbers.specs.declared.Refusal.{Refusal}
use Rattle.numbers.specs.declared.Refusal.TheVariants.{OutOfRange, BadSpan, VmUnknown, PageNotHeld, PageClaimed, NoSuchUnit, MappingDiffers, MappingPresent, StillInUse, NoRoom}
use Rattle.numbers.specs.declared.Side.{Side}
use Rattle.numbers.specs.declared.Side.TheVariants.{Cpu, Dma}
use Rattle.table.specs.Scan.{count, wipe, lowest, repeat}
use Rattle.table.specs.Table.{find, lookup, is_found, put, room_for}
use Rattle.pages.specs.Rows.{add, remove, dma_row}
use Rattle.units.specs.Spans.{region_span}
use Rattle.numbers.specs.declared.Region.{Region}
use Rattle.model.specs.Views.{is_vm, is_access, knows, in_pool, in_shared, claims, other_side, claimed_elsewhere, edge_on, targeted, but_key, is_filled}
use Rattle.model.specs.Effect.{accepted, accepted_dropping, refused, and_then}
use Rattle.model.specs.Ledger.{assign_sets, reclaim_sets}

-- ---- a region's pages: the k-th guest page, its page, its key and its entry, whose generation is 0
abbrev pub guest_in : Region → ℕ → ℕ
guest_in region k = region.guest.0 + k

abbrev pub page_in : Region → ℕ → ℕ
page_in region k = region.page.0 + k

abbrev pub key_in : Region → ℕ → ℕ
key_in region k = key region.vm.0 (guest_in region k)

abbrev pub region_entry : Region → ℕ → ℕ
region_entry region k = map_word region.vm.0 (guest_in region k) (entry (page_in region k) region.access 0)

-- a filled word of the region's VM whose guest page lies in the region
abbrev pub in_region : Region → ℕ → Bool
in_region region w =
    is_filled w && eqb (vm_of w) region.vm.0 && leb region.guest.0 (guest_of w) && ltb (guest_of w) (region.guest.0 + region.count)

-- ---- early checks; spans are judged by 3 and never by 2
abbrev pub region_early : ℕ → ℕ → Region → Answer
region_early known pages region =
    if not (is_vm region.vm.0 && is_access region.access) then refused OutOfRange
    else if not (region_span region pages) then refused BadSpan
    else if not (knows known region.vm.0) then refused VmUnknown
    else accepted

-- the lowest page that fails a check refuses with its index, else the next check follows
abbrev pub clash_at : ℕ → ℕ → Refusal → Answer → Answer
clash_at k count refusal next = if ltb k count then refuse refusal k else next

abbrev pub clash : (ℕ → Bool) → Region → Refusal → Answer → Answer
clash fails region refusal next = clash_at (lowest fails region.count) region.count refusal next

-- ---- 11, 13: insert
-- what page k may fail: a CPU page comes from the pool; its key must be unmapped; no other may claim it
abbrev pub not_free : Side → List ℕ → Region → ℕ → Bool
not_free Cpu sets region k = not (in_pool sets (page_in region k))
not_free Dma sets region k = false

abbrev pub present : List ℕ → Region → ℕ → Bool
present map region k = is_found (find key_of map (key_in region k))

abbrev pub claimed : Side → List ℕ → Region → ℕ → Bool
claimed Cpu sets region k = claimed_elsewhere Dma sets region.vm.0 (page_in region k)
claimed Dma sets region k =
    claimed_elsewhere Dma sets region.vm.0 (page_in region k) || claimed_elsewhere Cpu sets region.vm.0 (page_in region k) || in_shared sets (page_in region k)

-- unit says whether a unit has the region's five fields and a mark that suits the side (`assignable`)
unfoldable pub insert_answer : Side → ℕ → ℕ → Bool → List ℕ → List ℕ → Region → Answer
insert_answer side known pages unit sets map region =
    and_then (region_early known pages region)
    (if not unit then refused NoSuchUnit
    else clash (not_free side sets region) region PageNotHeld
    (clash (present map region) region MappingPresent
    (clash (claimed side sets region) region PageClaimed
    (if not (room_for map region.count) then refused NoRoom
    else accepted))))

-- one page more; the pool is left alone by DMA
abbrev pub insert_page : Side → ℕ → ℕ → List ℕ → List ℕ
insert_page Cpu vm page sets = assign_sets sets vm page
insert_page Dma vm page sets = add sets (dma_row vm) page

unfoldable pub insert_sets : Side → List ℕ → Region → List ℕ
insert_sets side sets region = repeat (λ k. insert_page side region.vm.0 (page_in region k)) 0 region.count sets

unfoldable pub insert_table : List ℕ → Region → List ℕ
insert_table table region = repeat (λ k ws. put key_of ws (key_in region k) (region_entry region k)) 0 region.count table

-- ---- 12, 14: remove
abbrev pub not_held : Side → List ℕ → Region → ℕ → Bool
not_held side sets region k = not (claims side sets region.vm.0 (page_in region k))

abbrev pub differs : List ℕ → Region → ℕ → Bool
differs map region k = not (eqb (lookup key_of map (key_in region k)) (region_entry region k))

-- another mapping of the side targets the page, or, for CPU, an edge names it
abbrev pub in_use : Side → List ℕ → List ℕ → Region → ℕ → Bool
in_use Cpu pairs map region k = targeted (but_key (key_in region k)) map (page_in region k) || edge_on pairs (page_in region k)
in_use Dma pairs map region k = targeted (but_key (key_in region k)) map (page_in region k)

-- whether it may, and then with how many slots dropped
unfoldable pub remove_may : Side → ℕ → ℕ → Bool → List ℕ → List ℕ → List ℕ → Region → Answer
remove_may side known pages unit sets pairs map region =
    and_then (region_early known pages region)
    (if not unit then refused NoSuchUnit
    else clash (not_held side sets region) region PageNotHeld
    (clash (differs map region) region MappingDiffers
    (clash (in_use side pairs map region) region StillInUse
    accepted)))

unfoldable pub remove_answer : Side → ℕ → ℕ → Bool → List ℕ → List ℕ → List ℕ → List ℕ → Region → Answer
remove_answer side known pages unit sets pairs map cache region =
    and_then (remove_may side known pages unit sets pairs map region) (accepted_dropping (count (in_region region) cache))

abbrev pub remove_page : Side → ℕ → ℕ → List ℕ → List ℕ
remove_page Cpu vm page sets = reclaim_sets sets vm page
remove_page Dma vm page sets = remove sets (dma_row vm) page

unfoldable pub remove_sets : Side → List ℕ → Region → List ℕ
remove_sets side sets region = repeat (λ k. remove_page side region.vm.0 (page_in region k)) 0 region.count sets

-- the table without the region's entries, the cache without its slots
unfoldable pub remove_table : List ℕ → Region → List ℕ
remove_table table region = wipe (in_region region) table

-- the pages that the VM does not claim on the other side either, from page k on
abbrev pub remove_clears_from : Side → List ℕ → Region → ℕ → ℕ → List ℕ
remove_clears_from side sets region k zero = []
remove_clears_from side sets region k (suc n) =
    if claims (other_side side) sets region.vm.0 (page_in region k) then remove_clears_from side sets region (suc k) n
    else page_in region k ∷ remove_clears_from side sets region (suc k) n

unfoldable pub remove_clears : Side → List ℕ → Region → List ℕ
remove_clears side sets region = remove_clears_from side sets region 0 region.count
