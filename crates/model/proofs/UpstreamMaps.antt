-- Operations 7 to 10 are upstream's steps: map and unmap, for CPU or DMA.
use Prim.Native.Nat.{ℕ, ◌<◌}
use mathlib.Core.Bool.{true, false, not, ◌&&◌, true≢false}
use mathlib.Core.List.{List}
use mathlib.Core.Logic.{⊎_elim}
use Rattle.std.specs.Prelude.{Option, None, Some}
use mathlib.Core.Path.{◌≡◌, refl, sym, ap, ◌∙◌}
use native.Mathlib.Omega.{arith}
use lib.Dec.{eqb}
use borrow.Author.Tests.{eq-eqb, ne_eqb, eqb-true, not-false}
use Rattle.numbers.specs.CaseLaws.{cases, equal}
use Rattle.std.specs.Prelude.{if◌then◌else◌}
use Rattle.numbers.specs.Limits.{VMS, GUEST_PAGES, PAGES, ACCESSES, GENERATIONS}
use Rattle.numbers.specs.Packing.{key, key_of, slot_key, address_of, map_word, entry}
use Rattle.numbers.specs.PackingLaws.{key_filled, entry_page, entry_access, entry_generation, word_page, word_access, word_generation}
use Rattle.numbers.specs.Meaning.{accept}
use Rattle.numbers.specs.declared.GuestPage.{GuestPage}
use Rattle.numbers.specs.declared.Operation.TheVariants as op
use Rattle.numbers.specs.declared.PhysPage.{PhysPage}
use Rattle.numbers.specs.declared.Side.{Side}
use Rattle.numbers.specs.declared.SideOperation.TheVariants as sided
use Rattle.numbers.specs.declared.VmId.{VmId}
use Rattle.table.specs.Table.{has_key, find, lookup, place, erase, is_found}
use Rattle.table.specs.TableLaws.{lookup_put_same, lookup_put_other, lookup_erase_same, lookup_erase_other, lookup_wipe_same, lookup_wipe_other}
use Rattle.table.specs.AgreeLaws.{agree_place}
use Rattle.model.specs.State.{Tables, Route, State, route, with_side}
use Rattle.model.specs.Valid.{SameMap, CacheGood, ValidTables}
use Rattle.model.specs.EarlyLaws.{past, both, then_passed, unmap_passed}
use Rattle.model.specs.Step.{map_route, unmap_route, answer_of}
use Rattle.model.specs.Effect.{apply, cleared_pages}
use Rattle.model.specs.Maps.{map_table, unmap_early, unmap_answer, unmap_table, without_slots, unmap_may}
use Rattle.model.specs.Upstream.{S2Entry, is_some, map_at, flushed, seen, map_seen, tlb_seen, software_view, SameS2Map, SameTlb}
use Rattle.model.specs.UpstreamStep.{MapStep, UnmapStep, UnmapInvalidateStep, HardwareMapStep}
use Rattle.model.specs.UpstreamRun.{entry_of, map_calls, HardwareRun, stop, go}
use Rattle.model.proofs.ViewLaws.{not_so}
use Rattle.model.proofs.RoutesKept.{entry_key, entry_ok, word_ok}
use Rattle.model.proofs.OneRoute.{route_of_lem, maps_of}
use Rattle.model.proofs.GoodMaps.{MapAllPassed, map-all_passed}
use Rattle.model.proofs.UpstreamLaws.{seen_is, key_test, of_slot_key, map_found, not_some, found_erase_same}
use Rattle.model.proofs.UpstreamWf.{slot_seen}
use Rattle.model.proofs.UpstreamFollows.{same_hardware, software_once, hardware_once, AcceptedFollows}
use Rattle.model.proofs.UpstreamRoutes.{shown, with_own, map_of_lem, walk_of_lem, tlb_of_lem, may_target, route_software, route_hardware}

-- ---- what the views show after an edit
-- the entry of a word just made
pub entry_shown : (vm gpa page access generation : ℕ) → vm < VMS → gpa < GUEST_PAGES → page < PAGES → access < ACCESSES → generation < GENERATIONS →
    seen (map_word vm gpa (entry page access generation)) ≡ Some (entry_of page access generation)
entry_shown vm gpa page access generation v g p a n =
    let e = entry_ok vm gpa page access generation v g p a n in
    let f = word_ok vm gpa page access generation v g p a n in
    let i = word_page 0 f ∙ entry_page e in
    let j = word_access 0 f ∙ entry_access e in
    let k = word_generation 0 f ∙ entry_generation e in
    seen_is (map_word vm gpa (entry page access generation)) (λ z. omega arith) ∙ rw (i, j, k)

-- a table with one key's word replaced
at_key : (table table' : List ℕ) (vm gpa : ℕ) (answer : Option S2Entry) → gpa < GUEST_PAGES → seen (lookup key_of table' (key vm gpa)) ≡ answer →
    ((other : ℕ) → 0 < other → (key vm gpa ≡ other → ⊥) → lookup key_of table' other ≡ lookup key_of table other) →
    SameS2Map (map_seen table') (map_at (map_seen table) vm gpa answer)
at_key table table' vm gpa answer h here there v g l h' =
    rw (key_test vm gpa v g h h')
    (⊎_elim (λ e. rw (eq-eqb (key vm gpa) (key v g) e) (rw (← e) here)) (λ n. rw (ne_eqb (key vm gpa) (key v g) n) (ap seen (there (key v g) (omega arith) n)))
    (equal (key vm gpa) (key v g)))

pub put_seen : (table : List ℕ) (vm gpa page access generation i : ℕ) → vm < VMS → gpa < GUEST_PAGES → page < PAGES → access < ACCESSES → generation < GENERATIONS →
    place key_of table (key vm gpa) ≡ Some i →
    SameS2Map (map_seen (map_table table vm gpa page access generation)) (map_at (map_seen table) vm gpa (Some (entry_of page access generation)))
unfolding map_table
put_seen table vm gpa page access generation i v g p a n at =
    let w = map_word vm gpa (entry page access generation) in
    let k = entry_key vm gpa page access generation v g p a n in
    at_key table (map_table table vm gpa page access generation) vm gpa (Some (entry_of page access generation)) g
    (rw (lookup_put_same key_of table (key vm gpa) w i k at) (entry_shown vm gpa page access generation v g p a n))
    (λ other o d. lookup_put_other key_of refl table (key vm gpa) w other k o d)

pub erase_seen : (table : List ℕ) (vm gpa : ℕ) → gpa < GUEST_PAGES → SameS2Map (map_seen (unmap_table table vm gpa)) (map_at (map_seen table) vm gpa None)
unfolding unmap_table seen
erase_seen table vm gpa g =
    at_key table (unmap_table table vm gpa) vm gpa None g
    (rw (lookup_erase_same key_of refl table (key vm gpa) (omega arith)))
    (λ other o d. lookup_erase_other key_of refl table (key vm gpa) other o d)

-- the slots of a VM and guest page dropped, whatever the port
pub slots_seen : (cache : List ℕ) (vm gpa : ℕ) → gpa < GUEST_PAGES → SameTlb (tlb_seen (without_slots cache vm gpa)) (flushed (tlb_seen cache) vm gpa)
unfolding without_slots erase seen
slots_seen cache vm gpa h c v g l l' h' = rw (key_test vm gpa v g h h') (⊎_elim dropped kept (equal (key vm gpa) (key v g)))
  where
    goal : Type 0
    goal = tlb_seen (without_slots cache vm gpa) c v g ≡ (if eqb (key vm gpa) (key v g) then None else tlb_seen cache c v g)

    address : (w : ℕ) → key_of w ≡ slot_key c v g → address_of w ≡ key v g
    address w e = (of_slot_key w c v g l' h' e).address_is

    dropped : key vm gpa ≡ key v g → goal
    dropped e =
        rw (
          eq-eqb (key vm gpa) (key v g) e,
          lookup_wipe_same key_of refl (has_key address_of (key vm gpa)) cache (slot_key c v g) (omega arith)
              (λ w q. eq-eqb (address_of w) (key vm gpa) (address w q ∙ sym e)),
        )

    kept : (key vm gpa ≡ key v g → ⊥) → goal
    kept n =
        rw (ne_eqb (key vm gpa) (key v g) n)
        (ap seen (lookup_wipe_other key_of refl (has_key address_of (key vm gpa)) cache (slot_key c v g) (omega arith)
        (λ w q. ne_eqb (address_of w) (key vm gpa) (λ z. n (sym z ∙ address w q)))))

-- ---- hardware
module _ (side : Side) (t : Tables) (memory : List ℕ) (r : Route) where
  pub unmap_step : (vm gpa : ℕ) → gpa < GUEST_PAGES → UnmapInvalidateStep side vm gpa (shown side t memory r) (shown side t memory (unmap_route r vm gpa))
  unmap_step vm gpa g =
      rw (walk_of_lem side t memory r, tlb_of_lem side t memory r)
      (route_hardware side t memory r (unmap_route r vm gpa) _ _ refl (erase_seen r.walker vm gpa g) (slots_seen r.cache vm gpa g))

  -- a key that the walker lacks is in no slot, so dropping its slots drops none
  slots_none : (vm gpa : ℕ) → vm < VMS → gpa < GUEST_PAGES → CacheGood r.walker r.cache → is_found (find key_of r.walker (key vm gpa)) ≡ false →
      SameTlb (tlb_seen (without_slots r.cache vm gpa)) (tlb_seen r.cache)
  slots_none vm gpa l h good f c v g c' v' g' = slots_seen r.cache vm gpa h c v g c' v' g' ∙ ⊎_elim (λ e. rw e (sym (none_there e))) (λ e. rw e) (cases (eqb v vm && eqb g gpa))
    where
      absent : (eqb v vm && eqb g gpa) ≡ true → is_some (map_seen r.walker v g) ≡ false
      absent e = let q = both (eqb v vm) (eqb g gpa) e in rw (eqb-true v vm q.0, eqb-true g gpa q.1) (map_found r.walker vm gpa ∙ f)

      none_there : (eqb v vm && eqb g gpa) ≡ true → tlb_seen r.cache c v g ≡ None
      none_there e = not_some _ (not_so _ (λ s. true≢false (sym s ∙ ap is_some (slot_seen r.walker r.cache good c v g v' g' s) ∙ absent e)))

  module _ (vm gpa page access generation i : ℕ) (v : vm < VMS) (g : gpa < GUEST_PAGES) (p : page < PAGES) (a : access < ACCESSES) (n : generation < GENERATIONS)
      (at : place key_of r.walker (key vm gpa) ≡ Some i) where
    -- onto an absent key; and onto one that has just been unmapped and invalidated
    reach_new : CacheGood r.walker r.cache → is_found (find key_of r.walker (key vm gpa)) ≡ false →
        HardwareMapStep side vm gpa (entry_of page access generation) (shown side t memory r) (shown side t memory (map_route r vm gpa page access generation))
    reach_new good f =
        record {
          absent = rw (walk_of_lem side t memory r) (map_found r.walker vm gpa ∙ f);
          next =
              rw (walk_of_lem side t memory r, tlb_of_lem side t memory r)
              (route_hardware side t memory r (map_route r vm gpa page access generation) _ _ refl
              (put_seen r.walker vm gpa page access generation i v g p a n at) (slots_none vm gpa v g good f));
        }

    reach_again : HardwareMapStep side vm gpa (entry_of page access generation) (shown side t memory (unmap_route r vm gpa))
        (shown side t memory (map_route r vm gpa page access generation))
    unfolding map_table unmap_table
    reach_again =
        let w = map_word vm gpa (entry page access generation) in
        let k = entry_key vm gpa page access generation v g p a n in
        record {
          absent =
              rw (walk_of_lem side t memory (unmap_route r vm gpa)) (map_found (unmap_table r.walker vm gpa) vm gpa ∙ found_erase_same key_of refl r.walker (key vm gpa) (omega arith));
          next =
              rw (walk_of_lem side t memory (unmap_route r vm gpa), tlb_of_lem side t memory (unmap_route r vm gpa))
              (route_hardware side t memory (unmap_route r vm gpa) (map_route r vm gpa page access generation) _ _ refl
              (at_key (unmap_table r.walker vm gpa) (map_table r.walker vm gpa page access generation) vm gpa _ g
              (rw (lookup_put_same key_of r.walker (key vm gpa) w i k at) (entry_shown vm gpa page access generation v g p a n))
              (λ other o d. lookup_put_other key_of refl r.walker (key vm gpa) w other k o d ∙ sym (lookup_erase_other key_of refl r.walker (key vm gpa) other o d)))
              (λ c u q c' u' q'. refl));
        }

    pub map-run : CacheGood r.walker r.cache →
        HardwareRun (map_calls side r vm gpa (entry_of page access generation)) (shown side t memory r) (shown side t memory (map_route r vm gpa page access generation))
    map-run good =
        ⊎_elim (λ y. rw y (go (unmap_step vm gpa g) (go reach_again (stop (same_hardware _))))) (λ f. rw f (go (reach_new good f) (stop (same_hardware _))))
        (cases (is_found (find key_of r.walker (key vm gpa))))

-- ---- the operations
module _ (side : Side) (s : State) (valid : ValidTables s.tables) where
  -- the walker has a place where the software map has one
  walker_place : (k i : ℕ) → 0 < k → place key_of (route side s.tables).map k ≡ Some i → (j : ℕ) × (place key_of (route side s.tables).walker k ≡ Some j)
  unfolding SameMap
  walker_place k i o p =
      let m = maps_of side s.tables valid in
      agree_place key_of refl (route side s.tables).map (route side s.tables).walker k i o m.as_long (λ w h. key_filled w (m.walker.each w h).filled)
      m.walker.once m.same p

  below_pages : (page : ℕ) → page < s.tables.setup.pages → page < PAGES
  below_pages page h = omega (arith, valid.setup.most_pages)

  map-software : (vm gpa page access generation : ℕ) →
      MapAllPassed side s.tables.known s.tables.setup.pages s.tables.sets s.tables.pairs (route side s.tables).map vm gpa page access generation →
      MapStep side vm gpa (entry_of page access generation) (software_view s.tables)
      (software_view (with_side side s.tables (map_route (route side s.tables) vm gpa page access generation) s.tables.sets))
  map-software vm gpa page access generation a =
      let r = route side s.tables in
      let f = a.early in
      record {
        known = f.knows_vm;
        may = may_target side s.tables valid vm page f.knows_vm a.may;
        next =
            rw (map_of_lem side s.tables)
            (route_software side s.tables (map_route r vm gpa page access generation) _
            (put_seen r.map vm gpa page access generation a.spot f.vm_ok f.guest_ok (below_pages page f.page_ok) f.access_ok f.generation_ok a.placed));
      }

  pub map-follows : (vm : VmId) (guest : GuestPage) (page : PhysPage) (access generation : ℕ) {dropped word : ℕ} →
      answer_of s.tables (op.On side (sided.MapPage vm guest page access generation)) ≡ accept dropped word →
      AcceptedFollows s (op.On side (sided.MapPage vm guest page access generation))
  unfolding apply cleared_pages
  map-follows vm guest page access generation e =
      let t = s.tables in
      let r = route side t in
      let a = map-all_passed side t.known t.setup.pages t.sets t.pairs r.map r.cache vm.0 guest.0 page.0 access generation e in
      let f = a.early in
      let (j, p) = walker_place (key vm.0 guest.0) a.spot (omega arith) a.placed in
      record {
        software = software_once (map-software vm.0 guest.0 page.0 access generation a);
        hardware =
            rw (with_own side t) at
            (map-run side t s.memory r vm.0 guest.0 page.0 access generation j f.vm_ok f.guest_ok (below_pages page.0 f.page_ok) f.access_ok
            f.generation_ok p (route_of_lem side t valid).cache);
      }

  unmap_software : (vm gpa : ℕ) → gpa < GUEST_PAGES → is_found (find key_of (route side s.tables).map (key vm gpa)) ≡ true →
      UnmapStep side vm gpa (software_view s.tables) (software_view (with_side side s.tables (unmap_route (route side s.tables) vm gpa) s.tables.sets))
  unmap_software vm gpa g found =
      let r = route side s.tables in
      record {
        present = rw (map_of_lem side s.tables) (map_found r.map vm gpa ∙ found);
        next = rw (map_of_lem side s.tables) (route_software side s.tables (unmap_route r vm gpa) _ (erase_seen r.map vm gpa g));
      }

  pub unmap_follows : (vm : VmId) (guest : GuestPage) {dropped word : ℕ} → answer_of s.tables (op.On side (sided.UnmapPage vm guest)) ≡ accept dropped word →
      AcceptedFollows s (op.On side (sided.UnmapPage vm guest))
  unfolding unmap_answer unmap_may apply cleared_pages
  unmap_follows vm guest e =
      let t = s.tables in
      let r = route side t in
      let (n, k, may, _) = then_passed (unmap_may t.known r.map vm.0 guest.0) _ e in
      let (d, w, early, a) = then_passed (unmap_early t.known vm.0 guest.0) _ may in
      let g = (unmap_passed t.known vm.0 guest.0 early).guest_ok in
      let (found, b) = past (not (is_found (find key_of r.map (key vm.0 guest.0)))) _ _ _ a in
      record {
        software = software_once (unmap_software vm.0 guest.0 g (not-false _ found));
        hardware = hardware_once (rw (with_own side t) at (unmap_step side t s.memory r vm.0 guest.0 g));
      }
