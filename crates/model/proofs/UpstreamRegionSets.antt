-- The page sets that a region's edits leave, as upstream's software view shows them.
use Prim.Native.Nat.{ℕ, ◌+◌, ◌≤◌, ◌<◌}
use mathlib.Core.Bool.{Bool, true, false, not, ◌&&◌, ◌||◌, true≢false}
use mathlib.Core.List.{List}
use mathlib.Core.Logic.{⊎_elim}
use mathlib.Core.Path.{◌≡◌, refl, sym, ◌∙◌}
use native.Mathlib.Omega.{arith}
use Rattle.numbers.specs.CaseLaws.{cases, equal}
use Rattle.numbers.specs.Limits.{VMS, PAGES}
use Rattle.numbers.specs.declared.Side.{Side}
use Rattle.numbers.specs.declared.Side.TheVariants.{Cpu, Dma}
use Rattle.pages.specs.BitLaws.{below_or}
use Rattle.pages.specs.Rows.{holds, pool_row, shared_row, cpu_row, dma_row}
use Rattle.pages.specs.RowLaws.{holds_add_other, holds_remove_other}
use Rattle.numbers.specs.declared.Region.{Region}
use Rattle.model.specs.State.{Tables, Route, with_side}
use Rattle.model.specs.Views.{knows, in_pool, in_shared, owns, holds_dma, claims}
use Rattle.model.specs.Regions.{page_in, insert_sets, remove_sets, insert_page, remove_page}
use Rattle.model.specs.Valid.{Home, pool, shared, cpu, PagesGood}
use Rattle.model.specs.Upstream.{S2Map, pages_of, map_seen, with_set, software_view, SameS2Map, SameSoftware}
use Rattle.model.specs.UpstreamStep.{sets_of, with_sets_of, with_map_of, with_pool_of, with_pages, without_pages}
use Rattle.table.specs.RepeatLaws.{repeat_keeps}
use Rattle.model.proofs.EditedSets.{Edited, Outside, other_differs}
use Rattle.model.proofs.ViewLaws.{not_so}
use Rattle.model.proofs.UpstreamLedger.{set_edited}
use Rattle.model.proofs.UpstreamRegionViews.{in_span_lem, span_in}

-- ---- the VM's claims, given and taken
span_outside : (region : Region) (page : ℕ) → pages_of region page ≡ false → Outside region.page.0 region.count page
span_outside region page f l =
    ⊎_elim (λ h. absurd (true≢false (sym (span_in region.page.0 region.count page l h) ∙ f))) (λ h. h) (below_or page (region.page.0 + region.count))

module _ (side : Side) (region : Region) (sets sets' : List ℕ) where
  -- inside the region what the edit says, and outside it what was
  claims_edited : {given : Bool} → Edited side region.vm.0 given region.page.0 region.count sets sets' → (now : Bool → Bool) (page : ℕ) → page < PAGES →
      now true ≡ given → now false ≡ claims side sets region.vm.0 page → claims side sets' region.vm.0 page ≡ now (pages_of region page)
  claims_edited r now page h inside outside =
      ⊎_elim (λ t. rw t (let q = in_span_lem region.page.0 region.count page t in r.inside page q.0 q.1 ∙ sym inside))
      (λ f. rw f (r.outside side region.vm.0 page h (λ a b. span_outside region page f) ∙ sym outside))
      (cases (pages_of region page))

  pub claims_given : Edited side region.vm.0 true region.page.0 region.count sets sets' → (page : ℕ) → page < PAGES →
      claims side sets' region.vm.0 page ≡ with_pages (claims side sets region.vm.0) region page
  claims_given r page h = claims_edited r (λ b. b || claims side sets region.vm.0 page) page h refl refl

  pub claims_taken : Edited side region.vm.0 false region.page.0 region.count sets sets' → (page : ℕ) → page < PAGES →
      claims side sets' region.vm.0 page ≡ without_pages (claims side sets region.vm.0) region page
  claims_taken r page h = claims_edited r (λ b. not b && claims side sets region.vm.0 page) page h refl refl

-- ---- the pool: a CPU region's pages leave it and come back
module _ (pages base count known : ℕ) (region : Region) (v : region.vm.0 < VMS) (fits : region.page.0 + region.count ≤ pages) (sets sets' : List ℕ)
    (g : PagesGood pages base count known sets) (g' : PagesGood pages base count known sets') where
  pub pool_given : Edited Cpu region.vm.0 true region.page.0 region.count sets sets' → (page : ℕ) → page < PAGES →
      in_pool sets' page ≡ without_pages (in_pool sets) region page
  pool_given r page h = ⊎_elim mine (λ f. rw f (r.pool page h (span_outside region page f))) (cases (pages_of region page))
    where
      mine : pages_of region page ≡ true → in_pool sets' page ≡ without_pages (in_pool sets) region page
      mine t =
          let (l, b) = in_span_lem region.page.0 region.count page t in
          rw t (not_so _ (λ e. let q = g'.one_home pool_row (cpu_row region.vm.0) page pool (cpu region.vm.0 v) (omega arith) e (r.inside page l b) in omega arith))

  pub pool_taken : ((page : ℕ) → pages_of region page ≡ true → owns sets region.vm.0 page ≡ true) →
      Edited Cpu region.vm.0 false region.page.0 region.count sets sets' → (page : ℕ) → page < PAGES → in_pool sets' page ≡ with_pages (in_pool sets) region page
  pool_taken held r page h = ⊎_elim mine (λ f. rw f (r.pool page h (span_outside region page f))) (cases (pages_of region page))
    where
      -- its new home is neither the shared span nor a VM's
      home : (row : ℕ) → Home row → page < pages → holds sets' row page ≡ true → pages_of region page ≡ true → in_pool sets' page ≡ true
      home row pool l e t = e
      home row shared l e t =
          let o = sym (r.shared page h) ∙ e in
          absurd (let q = g.one_home shared_row (cpu_row region.vm.0) page shared (cpu region.vm.0 v) l o (held page t) in omega arith)
      home row (cpu vm w) l e t =
          let (a, b) = in_span_lem region.page.0 region.count page t in
          ⊎_elim (λ q. absurd (true≢false (sym e ∙ rw q (r.inside page a b))))
          (λ n. let o = sym (r.outside Cpu vm page h (λ s q. absurd (n q))) ∙ e in absurd (let q = g.one_home (cpu_row vm) (cpu_row region.vm.0) page (cpu vm w)
          (cpu region.vm.0 v) l o (held page t) in n (omega arith)))
          (equal vm region.vm.0)

      mine : pages_of region page ≡ true → in_pool sets' page ≡ with_pages (in_pool sets) region page
      mine t =
          let (a, b) = in_span_lem region.page.0 region.count page t in
          let l : page < pages = omega arith in
          let (row, (x, e)) = g'.some_home page l in
          rw t (home row x l e t)

-- a DMA region's do not
module _ (region : Region) (fits : region.page.0 + region.count ≤ PAGES) (sets : List ℕ) where
  abbrev SamePool : ℕ → List ℕ → Type 0
  SamePool k ws = (page : ℕ) → page < PAGES → in_pool ws page ≡ in_pool sets page

  pub pool_left : SamePool region.count (insert_sets Dma sets region)
  unfolding insert_sets
  pool_left =
      repeat_keeps (λ k. insert_page Dma region.vm.0 (page_in region k)) SamePool region.count
      (λ k ws h r page l. holds_add_other ws (dma_row region.vm.0) (page_in region k) pool_row page (omega arith) l (λ q e. omega arith) ∙ r page l) sets (λ page l. refl)

  pub pool_kept : SamePool region.count (remove_sets Dma sets region)
  unfolding remove_sets
  pool_kept =
      repeat_keeps (λ k. remove_page Dma region.vm.0 (page_in region k)) SamePool region.count
      (λ k ws h r page l. holds_remove_other ws (dma_row region.vm.0) (page_in region k) pool_row page (omega arith) l (λ q e. omega arith) ∙ r page l) sets (λ page l. refl)

-- ---- the whole view: one side's map, one VM's claims on it and, for CPU, the pool
abbrev pub pool_now : Side → (ℕ → Bool) → (ℕ → Bool) → ℕ → Bool
pool_now Cpu old new = new
pool_now Dma old new = old

pub sets_of_lem : (side : Side) (t : Tables) → sets_of side (software_view t) ≡ record { vms = knows t.known; pages = claims side t.sets }
sets_of_lem Cpu t = refl
sets_of_lem Dma t = refl

module _ (t : Tables) (r : Route) (sets : List ℕ) (vm : ℕ) (k : knows t.known vm ≡ true) (free edit : ℕ → Bool) (map : S2Map) (m : SameS2Map (map_seen r.map) map)
    (span : (page : ℕ) → page < PAGES → in_shared sets page ≡ in_shared t.sets page) where
  pub region_software : (side : Side) → ((page : ℕ) → page < PAGES → claims side sets vm page ≡ edit page) →
      ((s : Side) (other page : ℕ) → page < PAGES → (s ≡ side → other ≡ vm → ⊥) → claims s sets other page ≡ claims s t.sets other page) →
      ((page : ℕ) → page < PAGES → in_pool sets page ≡ pool_now side (in_pool t.sets) free page) →
      SameSoftware (software_view (with_side side t r sets))
      (with_map_of side (with_sets_of side (with_pool_of side (software_view t) free) (with_set (record { vms = knows t.known; pages = claims side t.sets }) vm edit)) map)
  region_software Cpu own others pooled =
      record {
        all_vms = λ v h. refl;
        hypervisor_owned = pooled;
        vm_owned = set_edited t.known vm (owns t.sets) (owns sets) edit k own (λ v page h l n. others Cpu v page l (λ e q. n q));
        shared_pages = λ left right page l r h. refl;
        s2_map = m;
        iommu_s2_map = λ v gpa h g. refl;
        iommu_owned = record { vms = λ v h. refl; pages = λ v page h l e. others Dma v page l (λ s. absurd (other_differs Cpu s)) };
        iommu_shared = span;
      }
  region_software Dma own others pooled =
      record {
        all_vms = λ v h. refl;
        hypervisor_owned = pooled;
        vm_owned = record { vms = λ v h. refl; pages = λ v page h l e. others Cpu v page l (λ s. absurd (other_differs Dma s)) };
        shared_pages = λ left right page l r h. refl;
        s2_map = λ v gpa h g. refl;
        iommu_s2_map = m;
        iommu_owned = set_edited t.known vm (holds_dma t.sets) (holds_dma sets) edit k own (λ v page h l n. others Dma v page l (λ e q. n q));
        iommu_shared = span;
      }
