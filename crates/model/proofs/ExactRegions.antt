-- Operations 11 to 14 are accepted exactly where their conditions hold, on either side.
use Prim.{Unit as Anything, tt}
use Prim.Native.Nat.{ℕ, ◌+◌, ◌≤◌, ◌<◌}
use mathlib.Core.Bool.{true, true≢false}
use mathlib.Core.Logic.{◌⊎◌, inl, inr, ⊎_elim}
use mathlib.Core.Path.{◌≡◌, sym, ap, ◌∙◌}
use native.Mathlib.Omega.{arith}
use lib.Dec.{eqb}
use lib.ListN.{get_or}
use Rattle.numbers.specs.CaseLaws.{cases, equal}
use Rattle.numbers.specs.Limits.{VMS, GUEST_PAGES, ACCESSES}
use Rattle.numbers.specs.Decides.{Decides}
use Rattle.numbers.specs.DecidesLaws.{says_no, always, decides_as, decides_itself, decides_less, decides_most, decides_equal, decides_not, decides_and, decides_or, twice_not}
use Rattle.numbers.specs.Packing.{vm_of, guest_of, page_of, access_of, generation_of, entry, key_of, EntryFits, WordFits}
use Rattle.numbers.specs.PackingLaws.{entry_fits, entry_page, entry_access, entry_generation, word_vm, word_guest, word_page, word_access, word_generation, key_same}
use Rattle.numbers.specs.declared.Side.{Side}
use Rattle.numbers.specs.declared.Side.TheVariants.{Cpu, Dma}
use Rattle.table.specs.ScanLaws.{some_below}
use Rattle.table.specs.Table.{Has, lookup, free_entries}
use Rattle.table.specs.TableLaws.{lookup_has}
use Rattle.units.specs.Units.{suits, same_region, is_unit, no_unit, assignable}
use Rattle.numbers.specs.declared.Region.{Region}
use Rattle.units.specs.declared.Unit.{Unit}
use Rattle.model.specs.State.{Tables, route}
use Rattle.model.specs.Views.{knows, in_pool, in_shared, targeted, but_key}
use Rattle.model.specs.Valid.{ValidTables}
use Rattle.model.specs.Start.{unit_region}
use Rattle.model.specs.Regions.{page_in, guest_in, key_in, region_entry, region_early, not_free, claimed, in_use, insert_answer, remove_may, remove_answer}
use Rattle.model.specs.Conditions.{accepts, Claims, Edge, Maps, Mapped, IsUnit, RegionGood, Insertable, Inserts, Unshared, Removes}
use Rattle.model.proofs.OneRoute.{route_of_lem}
use Rattle.model.proofs.ExactLaws.{where_so, after_early, after_check, no_clash, dropping_exact}
use Rattle.model.proofs.ExactViews.{claimed_exact, mapped_exact, targets_exact, edge_on_exact, map-key, whole, mapped_lookup, mapping}

-- ---- units
-- two regions of the same five fields are one
one_region : (r s : Region) → ((((r.vm.0 ≡ s.vm.0) × (r.guest.0 ≡ s.guest.0)) × (r.page.0 ≡ s.page.0)) × (r.count ≡ s.count)) × (r.access ≡ s.access) → r ≡ s
one_region r s ((((vm, guest), page), count), access) = rw (vm, guest, page, count, access)

region_exact : (r s : Region) → Decides (same_region r s) (r ≡ s)
region_exact r s =
    decides_as
    (decides_and (decides_and (decides_and (decides_and (decides_equal _ _) (decides_equal _ _)) (decides_equal _ _)) (decides_equal _ _)) (decides_equal _ _))
    (one_region r s)
    (λ e. ((((ap (λ (x : Region). x.vm.0) e, ap (λ (x : Region). x.guest.0) e), ap (λ (x : Region). x.page.0) e), ap (λ (x : Region). x.count) e), ap (λ (x : Region). x.access) e))

unit_exact : (side : Side) (t : Tables) (region : Region) → Decides (assignable t.setup.units t.setup.unit_count side region) (IsUnit side t region)
unfolding assignable
unit_exact side t region =
    decides_as
    (some_below _ (λ k. Fields (get_or t.setup.units k no_unit)) t.setup.unit_count (λ k h. fields (get_or t.setup.units k no_unit)))
    (λ (k, h, (m, same)). record { place = k; within = h; fields = same; mark = m })
    (λ u. (u.place, u.within, (u.mark, u.fields)))
  where
    Fields : Unit → Type 0
    Fields unit = (suits unit.mark side ≡ true) × (unit.region ≡ region)

    fields : (unit : Unit) → Decides (is_unit side region unit) (Fields unit)
    fields unit = decides_and (decides_itself (suits unit.mark side)) (region_exact unit.region region)

-- ---- early checks, with the unit
early_exact : (side : Side) (t : Tables) (region : Region) →
    Decides (accepts (region_early t.known t.setup.pages region))
    (((region.vm.0 < VMS) × (region.access < ACCESSES))
    × ((((0 < region.count) × (region.guest.0 + region.count ≤ GUEST_PAGES)) × (region.page.0 + region.count ≤ t.setup.pages)) × ((knows t.known region.vm.0 ≡ true) × Anything {0})))
early_exact side t region =
    where_so _ _ _ _ (decides_and (decides_less _ VMS) (decides_less _ ACCESSES))
    (where_so _ _ _ _ (decides_and (decides_and (decides_less 0 _) (decides_most _ GUEST_PAGES)) (decides_most _ _)) (where_so _ _ _ _ (decides_itself _) always))

-- ---- 11, 13: what one page may fail
abbrev NotFree : Side → Tables → ℕ → Type 0
NotFree Cpu t page = in_pool t.sets page ≡ true → ⊥
NotFree Dma t page = ⊥

not_free_exact : (side : Side) (t : Tables) (region : Region) (k : ℕ) → Decides (not_free side t.sets region k) (NotFree side t (page_in region k))
not_free_exact Cpu t region k = decides_not (decides_itself _)
not_free_exact Dma t region k = says_no (λ p. p)

-- another VM claims the page on the side
abbrev Elsewhere : Side → Tables → ℕ → ℕ → Type 0
Elsewhere side t vm page = (other : ℕ) × (other < VMS) × ((other ≡ vm → ⊥) × Claims side t other page)

abbrev Taken : Side → Tables → ℕ → ℕ → Type 0
Taken Cpu t vm page = Elsewhere Dma t vm page
Taken Dma t vm page = (Elsewhere Dma t vm page ⊎ Elsewhere Cpu t vm page) ⊎ (in_shared t.sets page ≡ true)

taken_exact : (side : Side) (t : Tables) (region : Region) (k : ℕ) → Decides (claimed side t.sets region k) (Taken side t region.vm.0 (page_in region k))
taken_exact Cpu t region k = claimed_exact Dma t.sets _ _
taken_exact Dma t region k = decides_or (decides_or (claimed_exact Dma t.sets _ _) (claimed_exact Cpu t.sets _ _)) (decides_itself _)

insertable : (side : Side) (t : Tables) (vm page : ℕ) → (NotFree side t page → ⊥) → (Taken side t vm page → ⊥) → Insertable side t vm page
insertable Cpu t vm page free mine = (⊎_elim (λ e. e) (λ f. absurd (free (λ e. true≢false (sym e ∙ f)))) (cases (in_pool t.sets page)), λ other h n e. mine (other, h, (n, e)))
insertable Dma t vm page free mine = (λ e. mine (inr e), each)
  where
    each : (side : Side) (other : ℕ) → other < VMS → (other ≡ vm → ⊥) → Claims side t other page → ⊥
    each Cpu other h n e = mine (inl (inr (other, h, (n, e))))
    each Dma other h n e = mine (inl (inl (other, h, (n, e))))

insertable_free : (side : Side) (t : Tables) (vm page : ℕ) → Insertable side t vm page → NotFree side t page → ⊥
insertable_free Cpu t vm page p n = n p.0
insertable_free Dma t vm page p n = n

insertable_mine : (side : Side) (t : Tables) (vm page : ℕ) → Insertable side t vm page → Taken side t vm page → ⊥
insertable_mine Cpu t vm page p (other, h, (n, e)) = p.1 other h n e
insertable_mine Dma t vm page p (inl (inl (other, h, (n, e)))) = p.1 Dma other h n e
insertable_mine Dma t vm page p (inl (inr (other, h, (n, e)))) = p.1 Cpu other h n e
insertable_mine Dma t vm page p (inr e) = p.0 e

module _ (side : Side) (t : Tables) (v : ValidTables t) (region : Region) where
  -- what the early checks and the unit let through
  abbrev Early : Type 0
  Early =
      ((region.vm.0 < VMS) × (region.access < ACCESSES))
      × ((((0 < region.count) × (region.guest.0 + region.count ≤ GUEST_PAGES)) × (region.page.0 + region.count ≤ t.setup.pages)) × ((knows t.known region.vm.0 ≡ true) × Anything {0}))

  region_good : Early → IsUnit side t region → RegionGood side t region
  region_good ((vm, access), (((some, guests), pages), (known, _))) unit =
      record { vm_ok = vm; access_ok = access; some_pages = some; guests_ok = guests; pages_ok = pages; known = known; is_unit = unit }

  region_early_lem : RegionGood side t region → Early
  region_early_lem g = ((g.vm_ok, g.access_ok), (((g.some_pages, g.guests_ok), g.pages_ok), (g.known, tt)))

  pub insert_exact : Decides (accepts (insert_answer side t.known t.setup.pages (assignable t.setup.units t.setup.unit_count side region) t.sets (route side t).map region)) (Inserts side t region)
  unfolding insert_answer
  insert_exact =
      decides_as
      (after_early (region_early t.known t.setup.pages region) _ (early_exact side t region)
      (λ (_, (((_, guests), _), _)).
      where_so _ _ _ _ (unit_exact side t region)
      (no_clash _ (λ k. NotFree side t (page_in region k)) region _ _ (λ k h. not_free_exact side t region k)
      (no_clash _ (λ k. Mapped (route side t).map region.vm.0 (guest_in region k)) region _ _ (λ k h. mapped_exact (route_of_lem side t v).map region.vm.0 (guest_in region k) (omega arith))
      (no_clash _ (λ k. Taken side t region.vm.0 (page_in region k)) region _ _ (λ k h. taken_exact side t region k)
      (where_so _ _ _ _ (decides_most region.count (free_entries (route side t).map)) always))))))
      (λ (early, (unit, (free, (absent, (mine, (room, _)))))).
      record { good = region_good early unit; pages = λ k h. insertable side t _ _ (free k h) (mine k h); unmapped = absent; room = room })
      (λ c. (
        region_early_lem c.good,
        (c.good.is_unit, ((λ k h. insertable_free side t _ _ (c.pages k h)), (c.unmapped, ((λ k h. insertable_mine side t _ _ (c.pages k h)), (c.room, tt))))),
      ))

  -- ---- 12, 14: what one page may fail
  -- the entry of page k stands as insert put it
  abbrev Stands : ℕ → Type 0
  Stands k = Maps (route side t).map region.vm.0 (guest_in region k) (page_in region k) region.access 0

  stands_exact : RegionGood side t region → (k : ℕ) → k < region.count → Decides (eqb (lookup key_of (route side t).map (key_in region k)) (region_entry region k)) (Stands k)
  stands_exact g k h = decides_as (decides_equal _ _) to fro
    where
      entry_ok : EntryFits (page_in region k) region.access 0
      entry_ok = record { page_fits = omega (arith, g.pages_ok, v.setup.most_pages); access_fits = g.access_ok; generation_fits = omega arith }

      word_ok : WordFits region.vm.0 (guest_in region k) (entry (page_in region k) region.access 0)
      word_ok = record { vm_fits = omega (arith, g.vm_ok); guest_fits = omega (arith, g.guests_ok); low_fits = entry_fits entry_ok }

      filled : region_entry region k ≡ 0 → ⊥
      filled z = omega arith

      to : lookup key_of (route side t).map (key_in region k) ≡ region_entry region k → Stands k
      to e =
          record {
            word = region_entry region k;
            stored = rw e at (lookup_has key_of (route side t).map (key_in region k) (λ z. filled (sym e ∙ z))).0;
            vm_is = word_vm 0 word_ok;
            guest_is = word_guest 0 word_ok;
            page_is = word_page 0 word_ok ∙ entry_page entry_ok;
            access_is = word_access 0 word_ok ∙ entry_access entry_ok;
            generation_is = word_generation 0 word_ok ∙ entry_generation entry_ok;
          }

      fro : Stands k → lookup key_of (route side t).map (key_in region k) ≡ region_entry region k
      fro m =
          let good = (route_of_lem side t v).map in
          mapped_lookup good region.vm.0 (guest_in region k) (page_in region k) region.access 0 m ∙ sym (whole good region.vm.0 (guest_in region k) (page_in region k) region.access 0 m)

  -- another mapping of the side onto page k
  abbrev Another : ℕ → Type 0
  Another k = (w : ℕ) × Has (route side t).map w × ((key_of w ≡ key_in region k → ⊥) × (page_of w ≡ page_in region k))

  another_exact : (k : ℕ) → Decides (targeted (but_key (key_in region k)) (route side t).map (page_in region k)) (Another k)
  another_exact k = targets_exact (route_of_lem side t v).map (but_key (key_in region k)) (λ w. key_of w ≡ key_in region k → ⊥) (page_in region k) (λ w h. decides_not (decides_equal (key_of w) (key_in region k)))

  only_own : RegionGood side t region → (k vm guest access generation : ℕ) → k < region.count → (Another k → ⊥) → Maps (route side t).map vm guest (page_in region k) access generation → (vm ≡ region.vm.0) × (guest ≡ guest_in region k)
  only_own g k vm guest access generation h none m = ⊎_elim same (λ n. absurd (none (m.word, m.stored, (n, m.page_is)))) (equal (key_of m.word) (key_in region k))
    where
      same : key_of m.word ≡ key_in region k → (vm ≡ region.vm.0) × (guest ≡ guest_in region k)
      same e =
          let r = (route_of_lem side t v).map.each m.word m.stored in
          let (a, b) = key_same (vm_of m.word) (guest_of m.word) region.vm.0 (guest_in region k) (omega arith) (omega (arith, g.guests_ok)) (sym (map-key m.word r.port r.filled) ∙ e) in
          (sym m.vm_is ∙ a, sym m.guest_is ∙ b)

  no_other : (k : ℕ) → ((vm guest access generation : ℕ) → Maps (route side t).map vm guest (page_in region k) access generation → (vm ≡ region.vm.0) × (guest ≡ guest_in region k)) → Another k → ⊥
  no_other k alone (w, h, (n, e)) =
      let r = (route_of_lem side t v).map.each w h in
      let (a, b) = alone (vm_of w) (guest_of w) (access_of w) (generation_of w) (rw e at (mapping w h)) in
      n (map-key w r.port r.filled ∙ rw (a, b))

-- what uses a page of a region: another mapping, or for CPU an edge
abbrev Used : (side : Side) (t : Tables) → ValidTables t → Region → ℕ → Type 0
Used Cpu t v region k = Another Cpu t v region k ⊎ ((left : ℕ) × (right : ℕ) × Edge t left right (page_in region k))
Used Dma t v region k = Another Dma t v region k

used_exact : (side : Side) (t : Tables) (v : ValidTables t) (region : Region) (k : ℕ) → Decides (in_use side t.pairs (route side t).map region k) (Used side t v region k)
used_exact Cpu t v region k = decides_or (another_exact Cpu t v region k) (edge_on_exact t v (page_in region k))
used_exact Dma t v region k = another_exact Dma t v region k

used_another : (side : Side) (t : Tables) (v : ValidTables t) (region : Region) (k : ℕ) → Another side t v region k → Used side t v region k
used_another Cpu t v region k a = inl a
used_another Dma t v region k a = a

unshared : (side : Side) (t : Tables) (v : ValidTables t) (region : Region) (k : ℕ) → (Used side t v region k → ⊥) → Unshared side t (page_in region k)
unshared Cpu t v region k n = λ left right e. n (inr (left, right, e))
unshared Dma t v region k n = tt

unused : (side : Side) (t : Tables) (v : ValidTables t) (region : Region) (k : ℕ) → (Another side t v region k → ⊥) → Unshared side t (page_in region k) → Used side t v region k → ⊥
unused Cpu t v region k n u = ⊎_elim n (λ (left, right, e). u left right e)
unused Dma t v region k n u = n

pub remove_exact : (side : Side) (t : Tables) (v : ValidTables t) (region : Region) →
    Decides (accepts (remove_answer side t.known t.setup.pages (assignable t.setup.units t.setup.unit_count side region) t.sets t.pairs (route side t).map (route side t).cache region)) (Removes side t region)
unfolding remove_answer remove_may
remove_exact side t v region =
    dropping_exact (remove_may side t.known t.setup.pages (assignable t.setup.units t.setup.unit_count side region) t.sets t.pairs (route side t).map region) _
    (decides_as
    (after_early (region_early t.known t.setup.pages region) _ (early_exact side t region)
    (λ early.
    after_check _ _ _ _ (unit_exact side t region)
    (λ unit.
    no_clash _ (λ k. Claims side t region.vm.0 (page_in region k) → ⊥) region _ _ (λ k h. decides_not (decides_itself _))
    (no_clash _ (λ k. Stands side t v region k → ⊥) region _ _ (λ k h. decides_not (stands_exact side t v region (region_good side t v region early unit) k h))
    (no_clash _ (λ k. Used side t v region k) region _ _ (λ k h. used_exact side t v region k) always)))))
    to fro)
  where
    Passed : Type 0
    Passed =
        Early side t v region
        × (IsUnit side t region
        × (((k : ℕ) → k < region.count → (Claims side t region.vm.0 (page_in region k) → ⊥) → ⊥)
        × (((k : ℕ) → k < region.count → (Stands side t v region k → ⊥) → ⊥) × (((k : ℕ) → k < region.count → Used side t v region k → ⊥) × Anything {0}))))

    to : Passed → Removes side t region
    to (early, (unit, (held, (stands, (free, _))))) =
        let g = region_good side t v region early unit in
        record {
          good = g;
          held = λ k h. twice_not (decides_itself _) (held k h);
          entries = λ k h. twice_not (stands_exact side t v region g k h) (stands k h);
          alone = λ k vm guest access generation h m. only_own side t v region g k vm guest access generation h (λ a. free k h (used_another side t v region k a)) m;
          no_edge = λ k h. unshared side t v region k (free k h);
        }

    fro : Removes side t region → Passed
    fro c = (
      region_early_lem side t v region c.good,
      (
        c.good.is_unit,
        (
          (λ k h n. n (c.held k h)),
          (
            (λ k h n. n (c.entries k h)),
            ((λ k h. unused side t v region k (no_other side t v region k (λ vm guest access generation m. c.alone k vm guest access generation h m)) (c.no_edge k h)), tt),
          ),
        ),
      ),
    )
