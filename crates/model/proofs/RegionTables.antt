-- The maps and the cache that inserting and removing a region leave.
use Prim.Native.Nat.{ℕ, suc, ◌+◌, ◌-◌, ◌≤◌, ◌<◌}
use mathlib.Core.Bool.{true, false, true≢false}
use mathlib.Core.List.{List}
use mathlib.Core.Logic.{⊎_elim}
use mathlib.Core.Path.{◌≡◌, refl, sym, ◌∙◌}
use native.Mathlib.Omega.{arith}
use borrow.Author.Tests.{eq-eqb, ne_eqb, le-leb, lt-ltb}
use Rattle.numbers.specs.CaseLaws.{equal}
use Rattle.numbers.specs.Limits.{PAGES, GUEST_PAGES}
use Rattle.numbers.specs.Packing.{key_of, vm_of, guest_of, filled_of, page_of, slot_key, VM_FIELD, GUEST_FIELD}
use Rattle.numbers.specs.PackingLaws.{key_same, key_vm, key_guest}
use Rattle.numbers.specs.declared.Side.{Side}
use Rattle.table.specs.ScanLaws.{has_wipe_inv}
use Rattle.table.specs.Table.{Has, is_found, word_at, free_entries, find, lookup, put}
use Rattle.table.specs.TableLaws.{lookup_nothing, lookup_put_other, place_room, free_put_new}
use Rattle.std.specs.Prelude.{Option, Some, None}
use Rattle.numbers.specs.declared.Region.{Region}
use Rattle.model.specs.State.{Tables, route, with_route}
use Rattle.model.specs.Views.{claims, targeted, but_key}
use Rattle.model.specs.EarlyLaws.{RegionPassed}
use Rattle.model.specs.Regions.{guest_in, page_in, key_in, region_entry, in_region, present, insert_table, remove_table}
use Rattle.model.specs.ShapeLaws.{same_inserted, same_removed}
use Rattle.model.specs.Valid.{EntryGood, SameMap, CacheGood, ValidTables}
use Rattle.model.specs.Step.{insert_route, remove_route}
use Rattle.model.proofs.ViewLaws.{may_own, not_targeted}
use Rattle.model.proofs.RoutesKept.{MapsGood, entry_key, entry_made, maps_put, maps_wipe, cache_put_new, cache_wipe_both, region_unported}
use Rattle.model.proofs.OneRoute.{route_of_lem, maps_of, maps_route, route_valid}
use Rattle.table.specs.RepeatLaws.{repeat_both}
use Rattle.model.proofs.RegionLaws.{NoneFails}

-- a key that is not found looks up as empty
missing : (ws : List ℕ) (k : ℕ) → is_found (find key_of ws k) ≡ false → lookup key_of ws k ≡ 0
unfolding lookup
missing ws k e = go (find key_of ws k) e
  where
    go : (f : Option ℕ) → is_found f ≡ false → word_at ws f ≡ 0
    go (Some i) e = absurd (true≢false e)
    go None e = refl

-- ---- insert: the first k entries are in, and the places for the others are kept
record Filling (side : Side) (t : Tables) (region : Region) (k : ℕ) (map walker : List ℕ) : Type 0 where
  maps : MapsGood side t.setup.pages t.known t.sets t.pairs map walker
  slots : CacheGood walker (route side t).cache
  room : region.count ≤ free_entries map + k
  absent : (j : ℕ) → k ≤ j → j < region.count → lookup key_of map (key_in region j) ≡ 0

abbrev fill_in : Region → ℕ → List ℕ → List ℕ
fill_in region k ws = put key_of ws (key_in region k) (region_entry region k)

module _ (side : Side) (t : Tables) (v : ValidTables t) (region : Region) (early : RegionPassed t.known t.setup.pages region)
    (held : (k : ℕ) → k < region.count → claims side t.sets region.vm.0 (page_in region k) ≡ true) where
  -- an entry of the region packs what it says, and the VM may map it
  module _ (k : ℕ) (h : k < region.count) where
    page_fits : page_in region k < t.setup.pages
    page_fits = omega (arith, early.page_ok)

    guest_fits : guest_in region k < GUEST_PAGES
    guest_fits = omega (arith, early.guest_ok)

    in-pages : page_in region k < PAGES
    in-pages = omega (arith, page_fits, v.setup.most_pages)

    made_key : key_of (region_entry region k) ≡ key_in region k
    made_key = entry_key region.vm.0 (guest_in region k) (page_in region k) region.access 0 early.vm_ok guest_fits in-pages early.access_ok (omega arith)

    made : EntryGood side t.setup.pages t.known t.sets t.pairs (region_entry region k)
    made =
        entry_made region.vm.0 (guest_in region k) (page_in region k) region.access 0 early.vm_ok guest_fits in-pages early.access_ok (omega arith) side t.setup.pages t.known t.sets t.pairs page_fits early.knows_vm
        (may_own side t.sets t.pairs region.vm.0 (page_in region k) (held k h))

  -- no two pages of the region have one key
  keys_differ : (k j : ℕ) → k < j → j < region.count → key_in region k ≡ key_in region j → ⊥
  keys_differ k j l h e = let q = key_same region.vm.0 (guest_in region k) region.vm.0 (guest_in region j) (guest_fits k (omega arith)) (guest_fits j h) e in omega (arith, q.1)

  fill_next : (k : ℕ) (map walker : List ℕ) → k < region.count → Filling side t region k map walker → Filling side t region (suc k) (fill_in region k map) (fill_in region k walker)
  unfolding SameMap
  fill_next k map walker h r =
      let z : 0 < key_in region k = omega arith in
      let lacks = r.absent k (omega arith) h in
      let none = lookup_nothing key_of refl map (key_in region k) z lacks in
      let some : 0 < free_entries map = omega (arith, r.room) in
      let (i, p) = place_room key_of map (key_in region k) (λ e. some) in
      let n : region_entry region k ≡ 0 → ⊥ = λ e. omega arith in
      record {
        maps = maps_put side t.setup.pages t.known t.sets t.pairs map walker r.maps (key_in region k) (region_entry region k) i (made k h) (made_key k h) p;
        slots = cache_put_new walker (route side t).cache r.slots (key_in region k) (region_entry region k) (made_key k h) (sym (r.maps.same (key_in region k) z) ∙ lacks);
        room = omega (arith, r.room, free_put_new key_of map (key_in region k) (region_entry region k) none some n);
        absent = λ j l b. lookup_put_other key_of refl map (key_in region k) (region_entry region k) (key_in region j) (made_key k h) (omega arith) (keys_differ k j l b) ∙ r.absent j (omega arith) b;
      }

  module _ (absent : NoneFails (present (route side t).map region) region) (room : region.count ≤ free_entries (route side t).map) where
    filled : Filling side t region region.count (insert_table (route side t).map region) (insert_table (route side t).walker region)
    unfolding insert_table
    filled =
        repeat_both (fill_in region) (Filling side t region) region.count fill_next (route side t).map (route side t).walker
        (record { maps = maps_of side t v; slots = (route_of_lem side t v).cache; room = omega arith; absent = λ j a h. missing (route side t).map (key_in region j) (absent j h) })

    pub insert_route_lem : ValidTables (with_route side t (insert_route (route side t) region))
    insert_route_lem =
        route_valid side t (insert_route (route side t) region) v
        (same_inserted (route side t) region)
        (maps_route side t (route side t) _ _ _ (route_of_lem side t v) filled.maps filled.slots)

-- ---- remove
-- a word of one of the region's keys is one that goes
in-region : (region : Region) (k w : ℕ) → region.vm.0 < VM_FIELD → guest_in region k < GUEST_FIELD → k < region.count → key_of w ≡ key_in region k → in_region region w ≡ true
in-region region k w v g h e =
    let q : key_of w ≡ slot_key 0 region.vm.0 (guest_in region k) = omega arith in
    let vm : vm_of w ≡ region.vm.0 = key_vm 0 region.vm.0 (guest_in region k) w v g q in
    let guest : guest_of w ≡ guest_in region k = key_guest 0 region.vm.0 (guest_in region k) w v g q in
    let f : filled_of w ≡ 1 = omega arith in
    rw (eq-eqb (filled_of w) 1 f, eq-eqb (vm_of w) region.vm.0 vm, le-leb region.guest.0 (guest_of w) (omega arith))
    (lt-ltb (guest_of w) (region.guest.0 + region.count) (omega arith))

-- no entry that stays targets a page of the region, where none but the region's own did
pub none_stays : (known pages : ℕ) (region : Region) → RegionPassed known pages region → (map : List ℕ) → ((k : ℕ) → k < region.count → targeted (but_key (key_in region k)) map (page_in region k) ≡ false) →
    (w : ℕ) → Has (remove_table map region) w → filled_of w ≡ 1 → region.page.0 ≤ page_of w → page_of w < region.page.0 + region.count → ⊥
unfolding remove_table
none_stays known pages region early map unused w h f low high =
    let k = page_of w - region.page.0 in
    let b : k < region.count = omega arith in
    let (r, out) = has_wipe_inv (in_region region) map w h in
    ⊎_elim (λ e. true≢false (sym (in-region region k w (omega (arith, early.vm_ok)) (omega (arith, early.guest_ok)) b e) ∙ out))
    (λ n. not_targeted (but_key (key_in region k)) map (page_in region k) w (unused k b) r (rw (ne_eqb (key_of w) (key_in region k) n)) f (omega arith))
    (equal (key_of w) (key_in region k))

pub remove_route_lem : (side : Side) (t : Tables) → ValidTables t → (region : Region) → ValidTables (with_route side t (remove_route (route side t) region))
unfolding remove_table
remove_route_lem side t v region =
    let r = route side t in
    let g = route_of_lem side t v in
    let p = in_region region in
    route_valid side t (remove_route r region) v (same_removed r region)
    (maps_route side t r _ _ _ g (maps_wipe side t.setup.pages t.known t.sets t.pairs r.map r.walker (maps_of side t v) p) (cache_wipe_both r.walker r.cache g.cache p p (region_unported region) g.walker.once))
