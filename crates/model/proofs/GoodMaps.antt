-- Operations 7 to 10 owe what a step owes: map and unmap, for CPU or DMA.
use Prim.Native.Nat.{ℕ, ◌<◌}
use mathlib.Core.Bool.{true, not}
use mathlib.Core.List.{List}
use mathlib.Core.Path.{◌≡◌}
use native.Mathlib.Omega.{arith}
use borrow.Author.Tests.{not-false}
use Rattle.numbers.specs.Limits.{PAGES}
use Rattle.numbers.specs.Packing.{key_of, key}
use Rattle.numbers.specs.Meaning.{accept}
use Rattle.numbers.specs.declared.Operation.TheVariants as op
use Rattle.numbers.specs.declared.SideOperation.TheVariants as sided
use Rattle.numbers.specs.declared.VmId.{VmId}
use Rattle.numbers.specs.declared.GuestPage.{GuestPage}
use Rattle.numbers.specs.declared.PhysPage.{PhysPage}
use Rattle.numbers.specs.declared.Side.{Side}
use Rattle.table.specs.Table.{has_key, is_found, place, erase}
use Rattle.table.specs.TableLaws.{found_at}
use Rattle.std.specs.Prelude.{Some}
use Rattle.model.specs.State.{Tables, route}
use Rattle.model.specs.Views.{may_map}
use Rattle.model.specs.Maps.{map_early, map_may, map_answer, map_table, unmap_table, without_slots}
use Rattle.model.specs.Step.{map_route, unmap_route, answer_of}
use Rattle.model.specs.EarlyLaws.{past, then_passed, MapPassed, map-passed}
use Rattle.model.specs.ShapeLaws.{same_mapped, same_unmapped}
use Rattle.model.specs.Valid.{ValidTables}
use Rattle.model.proofs.Refused.{AcceptedGood}
use Rattle.model.proofs.RoutesKept.{entry_key, entry_made, maps_put, maps_wipe, cache_replace, cache_erase}
use Rattle.model.proofs.OneRoute.{GoodRoute, route_of_lem, maps_of, maps_route, route_good}

-- ---- map
-- what an accepted map tells
pub record MapAllPassed (side : Side) (known pages : ℕ) (sets pairs map : List ℕ) (vm guest page access generation : ℕ) : Type 0 where
  pub early : MapPassed known pages vm guest page access generation
  pub may : may_map side sets pairs vm page ≡ true
  pub spot : ℕ
  pub placed : place key_of map (key vm guest) ≡ Some spot

pub map-may_passed : (side : Side) (known pages : ℕ) (sets pairs map : List ℕ) (vm guest page access generation : ℕ) {dropped word : ℕ} →
    map_may side known pages sets pairs map vm guest page access generation ≡ accept dropped word → MapAllPassed side known pages sets pairs map vm guest page access generation
unfolding map_may
map-may_passed side known pages sets pairs map vm guest page access generation e =
    let (d, w, early, a) = then_passed (map_early known pages vm guest page access generation) _ e in
    let (may, b) = past (not (may_map side sets pairs vm page)) _ _ _ a in
    let (found, c) = past (not (is_found (place key_of map (key vm guest)))) _ _ _ b in
    let (i, p) = found_at _ (not-false _ found) in
    record { early = map-passed known pages vm guest page access generation early; may = not-false _ may; spot = i; placed = p }

pub map-all_passed : (side : Side) (known pages : ℕ) (sets pairs map cache : List ℕ) (vm guest page access generation : ℕ) {dropped word : ℕ} →
    map_answer side known pages sets pairs map cache vm guest page access generation ≡ accept dropped word → MapAllPassed side known pages sets pairs map vm guest page access generation
unfolding map_answer
map-all_passed side known pages sets pairs map cache vm guest page access generation e =
    let (d, w, may, a) = then_passed (map_may side known pages sets pairs map vm guest page access generation) _ e in map-may_passed side known pages sets pairs map vm guest page access generation may

map-kept : (side : Side) (t : Tables) → ValidTables t → (vm guest page access generation : ℕ) →
    MapAllPassed side t.known t.setup.pages t.sets t.pairs (route side t).map vm guest page access generation → GoodRoute side t (map_route (route side t) vm guest page access generation)
unfolding map_table without_slots
map-kept side t v vm guest page access generation a =
    let g = route_of_lem side t v in
    let f = a.early in
    let b : page < PAGES = omega (arith, v.setup.most_pages) in
    let q = entry_key vm guest page access generation f.vm_ok f.guest_ok b f.access_ok f.generation_ok in
    let e = entry_made vm guest page access generation f.vm_ok f.guest_ok b f.access_ok f.generation_ok side t.setup.pages t.known t.sets t.pairs f.page_ok f.knows_vm a.may in
    maps_route side t (route side t) _ _ _ g
    (maps_put side t.setup.pages t.known t.sets t.pairs (route side t).map (route side t).walker (maps_of side t v) (key vm guest) _ a.spot e q a.placed)
    (cache_replace (route side t).walker (route side t).cache (key vm guest) _ q g.cache)

pub map-good : (side : Side) (t : Tables) → ValidTables t → (vm : VmId) (guest : GuestPage) (page : PhysPage) (access generation : ℕ) {dropped word : ℕ} →
    answer_of t (op.On side (sided.MapPage vm guest page access generation)) ≡ accept dropped word → AcceptedGood t (op.On side (sided.MapPage vm guest page access generation))
map-good side t v vm guest page access generation e =
    route_good side t v _ _ _ (same_mapped (route side t) vm.0 guest.0 page.0 access generation)
    (map-kept side t v vm.0 guest.0 page.0 access generation
    (map-all_passed side t.known t.setup.pages t.sets t.pairs (route side t).map (route side t).cache vm.0 guest.0 page.0 access generation e))

-- ---- unmap, which takes an entry and its slots whatever they are
unmap_kept : (side : Side) (t : Tables) → ValidTables t → (vm guest : ℕ) → GoodRoute side t (unmap_route (route side t) vm guest)
unfolding unmap_table without_slots erase
unmap_kept side t v vm guest =
    let g = route_of_lem side t v in
    maps_route side t (route side t) _ _ _ g
    (maps_wipe side t.setup.pages t.known t.sets t.pairs (route side t).map (route side t).walker (maps_of side t v) (has_key key_of (key vm guest)))
    (cache_erase (route side t).walker (route side t).cache (key vm guest) g.walker.once g.cache)

pub unmap_good : (side : Side) (t : Tables) → ValidTables t → (vm : VmId) (guest : GuestPage) → AcceptedGood t (op.On side (sided.UnmapPage vm guest))
unmap_good side t v vm guest = route_good side t v _ _ _ (same_unmapped (route side t) vm.0 guest.0) (unmap_kept side t v vm.0 guest.0)
