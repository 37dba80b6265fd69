-- Operations 11 to 14 are upstream's steps: one software step for the region, one hardware step for each of its pages.
use Prim.Native.Nat.{ℕ, zero, suc, ◌+◌, ◌≤◌, ◌<◌}
use mathlib.Core.Bool.{Bool, true, false, not, ◌||◌, true≢false}
use mathlib.Core.List.{List, ◌++◌}
use mathlib.Core.Logic.{⊎_elim}
use Rattle.std.specs.Prelude.{Some}
use mathlib.Core.Path.{◌≡◌, refl, sym, ap, ◌∙◌}
use native.Mathlib.Omega.{arith}
use borrow.Author.Tests.{not-false, eqb-true, eq-eqb, ne_eqb}
use Rattle.numbers.specs.Limits.{VMS, GUEST_PAGES, PAGES}
use Rattle.numbers.specs.Packing.{key, key_of, page_of}
use Rattle.numbers.specs.PackingLaws.{key_same}
use Rattle.numbers.specs.Meaning.{accept}
use Rattle.numbers.specs.declared.Operation.TheVariants as op
use Rattle.numbers.specs.declared.Side.{Side}
use Rattle.numbers.specs.declared.Side.TheVariants.{Cpu, Dma}
use Rattle.numbers.specs.declared.SideOperation.TheVariants as sided
use Rattle.table.specs.Table.{lookup, put, free_entries, Distinct}
use Rattle.table.specs.TableLaws.{lookup_has, lookup_put_other, place_room, free_put}
use Rattle.table.specs.Scan.{repeat}
use Rattle.units.specs.Units.{assignable}
use Rattle.numbers.specs.declared.Region.{Region}
use Rattle.model.specs.State.{Tables, Route, State, route, with_side, with_maps}
use Rattle.model.specs.Maps.{map_table}
use Rattle.model.specs.Views.{in_pool, in_shared, claims, claimed_elsewhere, paired, edge_on, targeted, but_key}
use Rattle.model.specs.EarlyLaws.{past, then_passed, RegionPassed}
use Rattle.model.specs.Regions.{guest_in, page_in, key_in, region_entry, region_early, present, claimed, not_held, differs, insert_answer, insert_sets, insert_table, remove_may, remove_answer, remove_sets, remove_clears}
use Rattle.model.specs.Step.{insert_route, remove_route, answer_of}
use Rattle.model.specs.Effect.{apply, cleared_pages}
use Rattle.model.specs.Valid.{SameMap, MapGood, ValidTables}
use Rattle.model.specs.Upstream.{S2Entry, is_some, entries_of, pages_of, seen, map_seen, HardwareView, software_view}
use Rattle.model.specs.UpstreamStep.{with_pages, without_pages, RegionFits, InsertEnabled, InsertRegionStep, RemoveEnabled, RemoveRegionStep, HardwareMapStep, UnmapInvalidateStep}
use Rattle.model.specs.UpstreamRun.{HardwareCall, HardwareRun, stop, go, entry_of, insert_calls, remove_calls}
use Rattle.model.proofs.ViewLaws.{neither, not_so, not_elsewhere, not_targeted, no_edge_on}
use Rattle.model.proofs.OneRoute.{route_of_lem, maps_of}
use Rattle.model.proofs.RoutesKept.{maps_free}
use Rattle.model.proofs.RegionLaws.{NoneFails, InsertPassed, insert_passed, RemovePassed, remove_passed}
use Rattle.model.proofs.RegionSets.{Turned, insert_sets_lem, remove_sets_lem}
use Rattle.model.proofs.UpstreamLaws.{map_found, seen_some, seen_filled, found_looked}
use Rattle.model.proofs.UpstreamFollows.{same_hardware, software_once, AcceptedFollows}
use Rattle.model.proofs.UpstreamMemory.{clear_run}
use Rattle.model.proofs.UpstreamMaps.{put_seen}
use Rattle.model.proofs.UpstreamWf.{pool_no_span, edge_pair}
use Rattle.model.proofs.UpstreamRoutes.{shown, with_own, sets_unseen, map_of_lem, walk_of_lem, tlb_of_lem, route_hardware}
use Rattle.model.proofs.UpstreamRegionViews.{in_span_lem, span_in, page_place, entry_in, entry_some, key_place, entry_key_in, keys_apart, insert_seen, map-wiped, up_to, removed_none, map-wiped_more, tlb_wiped_more}
use Rattle.model.proofs.UpstreamRegionSets.{claims_given, claims_taken, pool_given, pool_taken, pool_left, pool_kept, pool_now, sets_of_lem, region_software}

-- ---- the unit
insert_unit : (side : Side) (known pages : ℕ) (unit : Bool) (sets map : List ℕ) (region : Region) {dropped word : ℕ} →
    insert_answer side known pages unit sets map region ≡ accept dropped word → unit ≡ true
unfolding insert_answer
insert_unit side known pages unit sets map region e =
    let (d, w, early, a) = then_passed (region_early known pages region) _ e in
    not-false _ (past (not unit) _ _ _ a).0

-- ---- a region that passes the early check ends within bounds, since N does
region_fits : (t : Tables) → ValidTables t → (region : Region) → RegionPassed t.known t.setup.pages region → RegionFits region
region_fits t valid region early = record { vm_fits = early.vm_ok; guests_fit = early.guest_ok; pages_fit = omega arith }

page_fits : (region : Region) → RegionFits region → (page : ℕ) → pages_of region page ≡ true → page < PAGES
page_fits region fits page e = omega (arith, (in_span_lem region.page.0 region.count page e).1)

module _ (t : Tables) (valid : ValidTables t) (region : Region) where
  -- ---- insert: what upstream asks for
  -- what no page of the region fails holds of each of its pages
  each_page : (P : ℕ → Type 0) → ((k : ℕ) → k < region.count → P (page_in region k)) → (page : ℕ) → pages_of region page ≡ true → P page
  each_page P each page e = let (k, h, q) = page_place region page e in rw q at (each k h)

  lacks_keys : (table : List ℕ) → NoneFails (present table region) region → (vm gpa : ℕ) → is_some (entries_of region vm gpa) ≡ true → is_some (map_seen table vm gpa) ≡ false
  lacks_keys table absent vm gpa e =
      let (k, h, a, b) = key_place region vm gpa (sym (entry_some region vm gpa) ∙ e) in
      map_found table vm gpa ∙ rw (a, b) (absent k h)

  -- no other VM claims a page of a DMA region on either side, and it is not in the shared span
  unclaimed_dma : NoneFails (claimed Dma t.sets region) region → (page : ℕ) → pages_of region page ≡ true →
      (claimed_elsewhere Dma t.sets region.vm.0 page ≡ false) × (claimed_elsewhere Cpu t.sets region.vm.0 page ≡ false) × (in_shared t.sets page ≡ false)
  unclaimed_dma passes page e =
      let (k, h, q) = page_place region page e in
      let dma = claimed_elsewhere Dma t.sets region.vm.0 page in
      let cpu = claimed_elsewhere Cpu t.sets region.vm.0 page in
      let (others, apart) = neither (dma || cpu) (in_shared t.sets page) (rw q at (passes k h)) in
      let (a, b) = neither dma cpu others in
      (a, b, apart)

  insert_enabled : (side : Side) → InsertPassed side t.known t.setup.pages t.sets (route side t).map region → (assign : Region → Bool) → assign region ≡ true →
      InsertEnabled assign side region (software_view t)
  insert_enabled Cpu p assign unit =
      let free : (page : ℕ) → pages_of region page ≡ true → in_pool t.sets page ≡ true = each_page _ (λ k h. not-false _ (p.free k h)) in
      let fits = region_fits t valid region p.early in
      record {
        fits = fits;
        wf = p.early.some_page;
        known = p.early.knows_vm;
        assign = unit;
        free = free;
        no_key = lacks_keys t.cpu.map p.absent;
        no_dma =
            λ page v l e k n. not_elsewhere Dma t.sets region.vm.0 page v (each_page (λ x. claimed_elsewhere Dma t.sets region.vm.0 x ≡ false) p.unclaimed page e) l n;
        no_span = λ page e. pool_no_span t valid page (page_fits region fits page e) (free page e);
      }
  insert_enabled Dma p assign unit =
      record {
        fits = region_fits t valid region p.early;
        wf = p.early.some_page;
        known = p.early.knows_vm;
        assign = unit;
        no_key = lacks_keys t.dma.map p.absent;
        no_other = λ page v l e k n.
            let (dma, cpu, apart) = unclaimed_dma p.unclaimed page e in
            (not_elsewhere Dma t.sets region.vm.0 page v dma l n, not_elsewhere Cpu t.sets region.vm.0 page v cpu l n);
        no_span = λ page e. (unclaimed_dma p.unclaimed page e).2;
      }

  -- ---- insert: the software step
  insert_turned : (side : Side) → InsertPassed side t.known t.setup.pages t.sets (route side t).map region →
      Turned side true t.setup.pages t.setup.shared_base t.setup.shared_count t.known region t.sets region.count (insert_sets side t.sets region)
  insert_turned side p =
      insert_sets_lem t.setup.pages t.setup.shared_base t.setup.shared_count t.known t.sets region valid.lengths.sets valid.setup.most_pages
      p.early valid.pages side p.free p.unclaimed

  insert_pool : (side : Side) → InsertPassed side t.known t.setup.pages t.sets (route side t).map region → (page : ℕ) → page < PAGES →
      in_pool (insert_sets side t.sets region) page ≡ pool_now side (in_pool t.sets) (without_pages (in_pool t.sets) region) page
  insert_pool Cpu p =
      let r = insert_turned Cpu p in
      pool_given t.setup.pages t.setup.shared_base t.setup.shared_count t.known region p.early.vm_ok p.early.page_ok t.sets _ valid.pages
      r.good r.edited
  insert_pool Dma p = pool_left region (omega (arith, p.early.page_ok, valid.setup.most_pages)) t.sets

  insert_step : (side : Side) (assign : Region → Bool) → assign region ≡ true → InsertPassed side t.known t.setup.pages t.sets (route side t).map region →
      InsertRegionStep assign side region (software_view t) (software_view (with_side side t (insert_route (route side t) region) (insert_sets side t.sets region)))
  insert_step side assign unit p =
      let r = (insert_turned side p).edited in
      let map = insert_seen t.known t.setup.pages region p.early valid.setup.most_pages (route side t).map p.room in
      record {
        enabled = insert_enabled side p assign unit;
        next =
            rw (sets_of_lem side t, map_of_lem side t)
            (region_software t (insert_route (route side t) region) (insert_sets side t.sets region) region.vm.0 p.early.knows_vm _ _ _ map
            r.shared side (claims_given side region t.sets _ r)
            (λ s other page h n. r.outside s other page h (λ e q. absurd (n e q))) (insert_pool side p));
      }

-- ---- insert: one hardware step for each page
module _ (side : Side) (t : Tables) (memory : List ℕ) (r : Route) (known pages : ℕ) (region : Region) (early : RegionPassed known pages region) (most : pages ≤ PAGES) where
  abbrev put_in : ℕ → List ℕ → List ℕ
  put_in k ws = put key_of ws (key_in region k) (region_entry region k)

  -- from page k on there is room, and the keys are absent
  record Ready (k : ℕ) (ws : List ℕ) : Type 0 where
    room : region.count ≤ free_entries ws + k
    absent : (j : ℕ) → k ≤ j → j < region.count → lookup key_of ws (key_in region j) ≡ 0

  ready_next : (k : ℕ) (ws : List ℕ) → k < region.count → Ready k ws → Ready (suc k) (put_in k ws)
  ready_next k ws h a =
      record {
        room = omega (arith, a.room, free_put key_of ws (key_in region k) (region_entry region k));
        absent =
            λ j l b. lookup_put_other key_of refl ws (key_in region k) (region_entry region k) (key_in region j) (entry_key_in known pages region early most k h)
            (omega arith) (keys_apart known pages region early most k j h b (λ q. omega arith)) ∙ a.absent j (omega arith) b;
      }

  reach_one : (k : ℕ) (ms ws : List ℕ) → k < region.count → Ready k ws →
      HardwareMapStep side region.vm.0 (guest_in region k) (entry_of (page_in region k) region.access 0) (shown side t memory (with_maps r ms ws r.cache))
      (shown side t memory (with_maps r (put_in k ms) (put_in k ws) r.cache))
  unfolding map_table
  reach_one k ms ws h a =
      let free : 0 < free_entries ws = omega (arith, a.room) in
      let (i, at) = place_room key_of ws (key_in region k) (λ q. free) in
      record {
        absent = rw (walk_of_lem side t memory (with_maps r ms ws r.cache)) (seen_filled _ ∙ rw (a.absent k (omega arith) h));
        next =
            rw (walk_of_lem side t memory (with_maps r ms ws r.cache), tlb_of_lem side t memory (with_maps r ms ws r.cache))
            (route_hardware side t memory (with_maps r ms ws r.cache) (with_maps r (put_in k ms) (put_in k ws) r.cache) _ _ refl
            (put_seen ws region.vm.0 (guest_in region k) (page_in region k) region.access 0 i early.vm_ok (omega (arith, early.guest_ok))
            (omega (arith, early.page_ok)) early.access_ok (omega arith) at)
            (λ c v g c' v' g'. refl));
      }

  insert_from : (k n : ℕ) → k + n ≡ region.count → (ms ws : List ℕ) → Ready k ws →
      HardwareRun (insert_calls side region k n) (shown side t memory (with_maps r ms ws r.cache))
      (shown side t memory (with_maps r (repeat put_in k n ms) (repeat put_in k n ws) r.cache))
  insert_from k zero e ms ws a = stop (same_hardware _)
  insert_from k (suc n) e ms ws a =
      let h : k < region.count = omega arith in
      go (reach_one k ms ws h a) (insert_from (suc k) n (omega arith) (put_in k ms) (put_in k ws) (ready_next k ws h a))

  pub insert_run : region.count ≤ free_entries r.walker → NoneFails (present r.walker region) region →
      HardwareRun (insert_calls side region 0 region.count) (shown side t memory r) (shown side t memory (insert_route r region))
  unfolding insert_table
  insert_run room absent =
      insert_from 0 region.count (omega arith) r.map r.walker
      (record { room = omega arith; absent = λ j l h. eqb-true _ 0 (not-false _ (sym (found_looked key_of refl r.walker (key_in region j) (omega arith)) ∙ absent j h)) })

-- ---- remove: what upstream asks for
remove_unit : (side : Side) (known pages : ℕ) (unit : Bool) (sets pairs map cache : List ℕ) (region : Region) {dropped word : ℕ} →
    remove_answer side known pages unit sets pairs map cache region ≡ accept dropped word → unit ≡ true
unfolding remove_answer remove_may
remove_unit side known pages unit sets pairs map cache region e =
    let (k, r, may, _) = then_passed (remove_may side known pages unit sets pairs map region) _ e in
    let (d, w, early, a) = then_passed (region_early known pages region) _ may in
    not-false _ (past (not unit) _ _ _ a).0

module _ (t : Tables) (valid : ValidTables t) (region : Region) (early : RegionPassed t.known t.setup.pages region) where
  -- each key has the region's entry
  has_entries : (table : List ℕ) → NoneFails (differs table region) region → (vm gpa : ℕ) → is_some (entries_of region vm gpa) ≡ true →
      map_seen table vm gpa ≡ entries_of region vm gpa
  has_entries table same vm gpa e = let (k, h, a, b) = key_place region vm gpa (sym (entry_some region vm gpa) ∙ e) in at k h a b
    where
      at : (k : ℕ) → k < region.count → vm ≡ region.vm.0 → gpa ≡ guest_in region k → map_seen table vm gpa ≡ entries_of region vm gpa
      at k h a b =
          let f : lookup key_of table (key_in region k) ≡ region_entry region k = eqb-true _ _ (not-false _ (same k h)) in
          rw (a, b) (ap seen f ∙ entry_in t.known t.setup.pages region early valid.setup.most_pages k h)

  -- no other key targets one of its pages
  no_others : (side : Side) (table : List ℕ) → MapGood side t.setup.pages t.known t.sets t.pairs table →
      ((k : ℕ) → k < region.count → targeted (but_key (key_in region k)) table (page_in region k) ≡ false) →
      (vm gpa : ℕ) (e : S2Entry) → vm < VMS → gpa < GUEST_PAGES → map_seen table vm gpa ≡ Some e → is_some (entries_of region vm gpa) ≡ false → pages_of region e.page ≡ false
  no_others side table good unused vm gpa e v g q f = not_so _ (λ x. let (k, h, i) = page_place region e.page x in clash k h i)
    where
      w : ℕ
      w = lookup key_of table (key vm gpa)

      clash : (k : ℕ) → k < region.count → page_in region k ≡ e.page → ⊥
      clash k h i =
          let (n, same) = seen_some w e q in
          let (there, key-is) = lookup_has key_of table (key vm gpa) n in
          let differs : key_of w ≡ key_in region k → ⊥ = λ z. let (a, b) = key_same vm gpa region.vm.0 (guest_in region k) g (omega (arith, early.guest_ok)) (sym key-is ∙ z) in
          true≢false (sym (rw (a, b) (rw (eq-eqb region.vm.0 region.vm.0 refl)
          (span_in region.guest.0 region.count (guest_in region k) (omega arith) (omega arith)))) ∙ sym (entry_some region vm gpa) ∙ f) in
          not_targeted (but_key (key_in region k)) table (page_in region k) w (unused k h) there (rw (ne_eqb (key_of w) (key_in region k) differs))
          (good.each w there).filled (ap (λ (x : S2Entry). x.page) same ∙ sym i)

  owned_pages : (side : Side) → NoneFails (not_held side t.sets region) region → (page : ℕ) → pages_of region page ≡ true →
      claims side t.sets region.vm.0 page ≡ true
  owned_pages side held page e = let (k, h, q) = page_place region page e in rw q at (not-false (claims side t.sets region.vm.0 (page_in region k)) (held k h))

  remove_enabled : (side : Side) → RemovePassed side t.known t.setup.pages t.sets t.pairs (route side t).map region → (assign : Region → Bool) →
      assign region ≡ true → RemoveEnabled assign side region (software_view t)
  remove_enabled Cpu p assign unit =
      let alone : ℕ → Bool = λ k. targeted (but_key (key_in region k)) t.cpu.map (page_in region k) in
      let split : (k : ℕ) → k < region.count → (alone k ≡ false) × (edge_on t.pairs (page_in region k) ≡ false) = λ k h. neither _ _ (p.unused k h) in
      let fits = region_fits t valid region early in
      record {
        fits = fits;
        wf = early.some_page;
        known = early.knows_vm;
        assign = unit;
        owned = owned_pages Cpu p.held;
        installed = has_entries t.cpu.map p.mapped;
        no_other = no_others Cpu t.cpu.map valid.cpu.map (λ k h. (split k h).0);
        no_edge = λ left right page l r e. not_so _ (λ x. let (k, b, q) = page_place region page x in
            edge_free left right page k l r (page_fits region fits page x) e q (split k b).1);
      }
    where
      edge_free : (left right page k : ℕ) → left < VMS → right < VMS → page < PAGES → paired t.pairs left right page ≡ true → page_in region k ≡ page →
          edge_on t.pairs (page_in region k) ≡ false → ⊥
      edge_free left right page k l r h e q f =
          let (w, i, good, same) = edge_pair t valid left right page l r h e in
          let on : page_of w ≡ page = ⊎_elim (λ x. x.2) (λ x. x.2) same in
          no_edge_on t.pairs (page_in region k) w f i good.filled (on ∙ sym q)
  remove_enabled Dma p assign unit =
      record {
        fits = region_fits t valid region early;
        wf = early.some_page;
        known = early.knows_vm;
        assign = unit;
        owned = owned_pages Dma p.held;
        installed = has_entries t.dma.map p.mapped;
        no_other = no_others Dma t.dma.map valid.dma.map p.unused;
      }

  -- ---- remove: the software step
  remove_turned : (side : Side) → NoneFails (not_held side t.sets region) region →
      Turned side false t.setup.pages t.setup.shared_base t.setup.shared_count t.known region t.sets region.count (remove_sets side t.sets region)
  remove_turned side held =
      remove_sets_lem t.setup.pages t.setup.shared_base t.setup.shared_count t.known t.sets region valid.lengths.sets
      valid.setup.most_pages early valid.pages side held

  remove_pool : (side : Side) → NoneFails (not_held side t.sets region) region → (page : ℕ) → page < PAGES →
      in_pool (remove_sets side t.sets region) page ≡ pool_now side (in_pool t.sets) (with_pages (in_pool t.sets) region) page
  remove_pool Cpu held =
      let r = remove_turned Cpu held in
      pool_taken t.setup.pages t.setup.shared_base t.setup.shared_count t.known region early.vm_ok early.page_ok t.sets _ valid.pages
      r.good (owned_pages Cpu held) r.edited
  remove_pool Dma held = pool_kept region (omega (arith, early.page_ok, valid.setup.most_pages)) t.sets

  remove_step : (side : Side) (assign : Region → Bool) → assign region ≡ true →
      RemovePassed side t.known t.setup.pages t.sets t.pairs (route side t).map region →
      RemoveRegionStep assign side region (software_view t) (software_view (with_side side t (remove_route (route side t) region) (remove_sets side t.sets region)))
  remove_step side assign unit p =
      let r = (remove_turned side p.held).edited in
      let once = (route_of_lem side t valid).map.once in
      record {
        enabled = remove_enabled side p assign unit;
        next =
            rw (sets_of_lem side t, map_of_lem side t)
            (region_software t (remove_route (route side t) region) (remove_sets side t.sets region) region.vm.0 early.knows_vm _ _ _
            (λ vm gpa v g. map-wiped region (route side t).map vm gpa once v g ∙ rw (entry_some region vm gpa)) r.shared side (claims_taken side region t.sets _ r)
            (λ s other page h n. r.outside s other page h (λ e q. absurd (n e q))) (remove_pool side p.held));
      }

-- ---- remove: one hardware step for each page, then what follows
module _ (side : Side) (t : Tables) (memory : List ℕ) (r : Route) (region : Region) (once : Distinct key_of r.walker) (once' : Distinct key_of r.cache) where
  unmap_one : (k : ℕ) → UnmapInvalidateStep side region.vm.0 (guest_in region k) (shown side t memory (remove_route r (up_to region k)))
      (shown side t memory (remove_route r (up_to region (suc k))))
  unmap_one k =
      rw (walk_of_lem side t memory (remove_route r (up_to region k)), tlb_of_lem side t memory (remove_route r (up_to region k)))
      (route_hardware side t memory (remove_route r (up_to region k)) (remove_route r (up_to region (suc k))) _ _ refl
      (λ vm gpa v g. map-wiped_more region k vm gpa v g r.walker once)
      (λ port vm gpa c v g. tlb_wiped_more region k vm gpa v g r.cache port once'))

  remove_from : (k n : ℕ) → k + n ≡ region.count → (calls : List HardwareCall) (h : HardwareView) → HardwareRun calls (shown side t memory (remove_route r region)) h →
      HardwareRun (remove_calls side region k n ++ calls) (shown side t memory (remove_route r (up_to region k))) h
  remove_from k zero e calls h rest = let q : k ≡ region.count = omega arith in rw q rest
  remove_from k (suc n) e calls h rest = go (unmap_one k) (remove_from (suc k) n (omega arith) calls h rest)

  pub remove_run : (calls : List HardwareCall) (h : HardwareView) → HardwareRun calls (shown side t memory (remove_route r region)) h →
      HardwareRun (remove_calls side region 0 region.count ++ calls) (shown side t memory r) h
  remove_run calls h rest =
      rw (removed_none region r.map, removed_none region r.walker, removed_none region r.cache) at (remove_from 0 region.count (omega arith) calls h rest)

-- ---- the operations
module _ (side : Side) (s : State) (valid : ValidTables s.tables) (region : Region) where
  pub insert_follows : {dropped word : ℕ} → answer_of s.tables (op.On side (sided.InsertRegion region)) ≡ accept dropped word →
      AcceptedFollows s (op.On side (sided.InsertRegion region))
  unfolding SameMap apply cleared_pages
  insert_follows e =
      let t = s.tables in
      let p = insert_passed side t.known t.setup.pages _ t.sets (route side t).map region e in
      let m = maps_of side t valid in
      let unit = insert_unit side t.known t.setup.pages _ t.sets (route side t).map region e in
      let room : region.count ≤ free_entries (route side t).walker = omega (
        arith,
        p.room,
        maps_free side t.setup.pages t.known t.sets t.pairs
            (route side t).map (route side t).walker m,
      ) in
      let absent : NoneFails (present (route side t).walker region) region = λ k h. found_looked key_of refl (route side t).walker (key_in region k)
      (omega arith) ∙ rw (← m.same (key_in region k) (omega arith)) (sym (found_looked key_of refl (route side t).map (key_in region k) (omega arith)) ∙ p.absent k h) in
      record {
        software = software_once (insert_step t valid region side (assignable t.setup.units t.setup.unit_count side) unit p);
        hardware =
            rw (sets_unseen side t s.memory (insert_route (route side t) region) (insert_sets side t.sets region))
            (rw (with_own side t) at (insert_run side t s.memory (route side t) t.known t.setup.pages region p.early valid.setup.most_pages room absent));
      }

  pub remove_follows : {dropped word : ℕ} → answer_of s.tables (op.On side (sided.RemoveRegion region)) ≡ accept dropped word →
      AcceptedFollows s (op.On side (sided.RemoveRegion region))
  unfolding apply
  remove_follows e =
      let t = s.tables in
      let r = route side t in
      let p = remove_passed side t.known t.setup.pages _ t.sets t.pairs r.map r.cache region e in
      let unit = remove_unit side t.known t.setup.pages _ t.sets t.pairs r.map r.cache region e in
      let good = route_of_lem side t valid in
      record {
        software = software_once (remove_step t valid region p.early side (assignable t.setup.units t.setup.unit_count side) unit p);
        hardware =
            rw (sets_unseen side t (cleared_pages (remove_clears side t.sets region) s.memory) (remove_route r region) (remove_sets side t.sets region))
            (rw (with_own side t) at
            (remove_run side t s.memory r region good.walker.once good.cache.once _ _
            (clear_run (with_side side t (remove_route r region) t.sets) (remove_clears side t.sets region) s.memory)));
      }
