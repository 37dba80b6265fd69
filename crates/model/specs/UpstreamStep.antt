-- Upstream's steps and guards over its views, in its order: what is required of the view before, then what the view after is.
-- A CPU step and its DMA twin are one definition over a side; where they ask for different things each has its own.
use Rattle.std.specs.Prelude.{ℕ, ◌+◌, ◌≤◌, ◌<◌, Bool, true, false, not, ◌&&◌, ◌||◌, ◌≡◌, eqb, Option, None, Some}
use Rattle.std.specs.Prelude.{if◌then◌else◌}
use Rattle.numbers.specs.Limits.{VMS, PAGES, GUEST_PAGES}
use Rattle.numbers.specs.declared.Side.{Side}
use Rattle.numbers.specs.declared.Side.TheVariants.{Cpu, Dma}
use Rattle.numbers.specs.declared.Region.{Region}
use Rattle.model.specs.Upstream.{
  S2Entry,
  S2Map,
  Tlb,
  PageSets,
  is_some,
  plus,
  minus,
  with_set,
  without_set,
  map_at,
  tlb_at,
  flushed,
  union_right,
  without_keys,
  pages_of,
  entries_of,
  SoftwareView,
  HardwareView,
  SameSoftware,
  SameHardware,
  Owned,
  OwnedOrShared,
  OwnedOrSpan,
}

-- ---- one field replaced, the seven others as they were
-- the eight fields, in upstream's order
abbrev pub software : (ℕ → Bool) → (ℕ → Bool) → PageSets → (ℕ → ℕ → ℕ → Bool) → S2Map → S2Map → PageSets → (ℕ → Bool) → SoftwareView
software vms pool sets edges map dma_map dmaSets span =
    record {
      all_vms = vms;
      hypervisor_owned = pool;
      vm_owned = sets;
      shared_pages = edges;
      s2_map = map;
      iommu_s2_map = dma_map;
      iommu_owned = dmaSets;
      iommu_shared = span;
    }

abbrev pub with_vms : SoftwareView → (ℕ → Bool) → SoftwareView
with_vms s vms = software vms s.hypervisor_owned s.vm_owned s.shared_pages s.s2_map s.iommu_s2_map s.iommu_owned s.iommu_shared

abbrev pub with_pool : SoftwareView → (ℕ → Bool) → SoftwareView
with_pool s pool = software s.all_vms pool s.vm_owned s.shared_pages s.s2_map s.iommu_s2_map s.iommu_owned s.iommu_shared

abbrev pub with_edges : SoftwareView → (ℕ → ℕ → ℕ → Bool) → SoftwareView
with_edges s edges = software s.all_vms s.hypervisor_owned s.vm_owned edges s.s2_map s.iommu_s2_map s.iommu_owned s.iommu_shared

-- vm_owned and s2_map for CPU, iommu_owned and iommu_s2_map for DMA
abbrev pub sets_of : Side → SoftwareView → PageSets
sets_of Cpu s = s.vm_owned
sets_of Dma s = s.iommu_owned

abbrev pub with_sets_of : Side → SoftwareView → PageSets → SoftwareView
with_sets_of Cpu s sets = software s.all_vms s.hypervisor_owned sets s.shared_pages s.s2_map s.iommu_s2_map s.iommu_owned s.iommu_shared
with_sets_of Dma s sets = software s.all_vms s.hypervisor_owned s.vm_owned s.shared_pages s.s2_map s.iommu_s2_map sets s.iommu_shared

abbrev pub map_of : Side → SoftwareView → S2Map
map_of Cpu s = s.s2_map
map_of Dma s = s.iommu_s2_map

abbrev pub with_map_of : Side → SoftwareView → S2Map → SoftwareView
with_map_of Cpu s map = software s.all_vms s.hypervisor_owned s.vm_owned s.shared_pages map s.iommu_s2_map s.iommu_owned s.iommu_shared
with_map_of Dma s map = software s.all_vms s.hypervisor_owned s.vm_owned s.shared_pages s.s2_map map s.iommu_owned s.iommu_shared

-- ---- software/step.rs: map_step, iommu_map_step
abbrev pub MayTarget : Side → SoftwareView → ℕ → ℕ → Type 0
MayTarget Cpu s vm page = OwnedOrShared s vm page
MayTarget Dma s vm page = (s.iommu_owned.vms vm ≡ true) × OwnedOrSpan s vm page

pub record MapStep (side : Side) (vm gpa : ℕ) (entry : S2Entry) (s s' : SoftwareView) : Type 0 where
  pub known : s.all_vms vm ≡ true
  pub may : MayTarget side s vm entry.page
  pub next : SameSoftware s' (with_map_of side s (map_at (map_of side s) vm gpa (Some entry)))

-- ---- unmap_step, iommu_unmap_step
pub record UnmapStep (side : Side) (vm gpa : ℕ) (s s' : SoftwareView) : Type 0 where
  pub present : is_some (map_of side s vm gpa) ≡ true
  pub next : SameSoftware s' (with_map_of side s (map_at (map_of side s) vm gpa None))

-- ---- assign_page_step, reclaim_page_step
pub record AssignPageStep (vm page : ℕ) (s s' : SoftwareView) : Type 0 where
  pub known : s.all_vms vm ≡ true
  pub free : s.hypervisor_owned page ≡ true
  pub no_dma : (v : ℕ) → v < VMS → s.all_vms v ≡ true → (v ≡ vm → ⊥) → s.iommu_owned.pages v page ≡ false
  pub no_span : s.iommu_shared page ≡ false
  pub next : SameSoftware s' (with_sets_of Cpu (with_pool s (minus s.hypervisor_owned page)) (with_set s.vm_owned vm (plus (s.vm_owned.pages vm) page)))

pub record ReclaimPageStep (vm page : ℕ) (s s' : SoftwareView) : Type 0 where
  pub known : s.all_vms vm ≡ true
  pub owned : Owned s vm page
  pub next : SameSoftware s' (with_sets_of Cpu (with_pool s (plus s.hypervisor_owned page)) (with_set s.vm_owned vm (minus (s.vm_owned.pages vm) page)))

-- ---- share_page_step, unshare_page_step: an edge and its reverse come and go together
abbrev pub is_edge : ℕ → ℕ → ℕ → ℕ → ℕ → ℕ → Bool
is_edge left right page l r p = eqb l left && eqb r right && eqb p page

abbrev pub plus_edge : (ℕ → ℕ → ℕ → Bool) → ℕ → ℕ → ℕ → ℕ → ℕ → ℕ → Bool
plus_edge edges left right page l r p = is_edge left right page l r p || is_edge right left page l r p || edges l r p

abbrev pub minus_edge : (ℕ → ℕ → ℕ → Bool) → ℕ → ℕ → ℕ → ℕ → ℕ → ℕ → Bool
minus_edge edges left right page l r p = not (is_edge left right page l r p || is_edge right left page l r p) && edges l r p

pub record SharePageStep (left right page : ℕ) (s s' : SoftwareView) : Type 0 where
  pub apart : left ≡ right → ⊥
  pub known : (s.all_vms left ≡ true) × (s.all_vms right ≡ true)
  pub owned : Owned s left page
  pub next : SameSoftware s' (with_edges s (plus_edge s.shared_pages left right page))

pub record UnsharePageStep (left right page : ℕ) (s s' : SoftwareView) : Type 0 where
  pub stored : (s.shared_pages left right page ≡ true) × (s.shared_pages right left page ≡ true)
  pub next : SameSoftware s' (with_edges s (minus_edge s.shared_pages left right page))

-- ---- add_vm_step, remove_vm_step, with their guards
abbrev pub no_pages : ℕ → Bool
no_pages page = false

pub record AddVmStep (vm : ℕ) (s s' : SoftwareView) : Type 0 where
  -- add_vm_enabled
  pub fresh : s.all_vms vm ≡ false
  pub next : SameSoftware s' (with_sets_of Dma (with_sets_of Cpu (with_vms s (plus s.all_vms vm)) (with_set s.vm_owned vm no_pages)) (with_set s.iommu_owned vm no_pages))

pub record RemoveVmEnabled (vm : ℕ) (s : SoftwareView) : Type 0 where
  pub known : s.all_vms vm ≡ true
  pub no_cpu : (page : ℕ) → page < PAGES → s.vm_owned.pages vm page ≡ false
  pub no_dma : (page : ℕ) → page < PAGES → s.iommu_owned.pages vm page ≡ false
  pub no_mapping : (v gpa : ℕ) → v < VMS → gpa < GUEST_PAGES → is_some (s.s2_map v gpa) ≡ true → v ≡ vm → ⊥
  pub no_dma_mapping : (v gpa : ℕ) → v < VMS → gpa < GUEST_PAGES → is_some (s.iommu_s2_map v gpa) ≡ true → v ≡ vm → ⊥
  pub no_edge : (left right page : ℕ) → left < VMS → right < VMS → page < PAGES → s.shared_pages left right page ≡ true → (left ≡ vm → ⊥) × (right ≡ vm → ⊥)

pub record RemoveVmStep (vm : ℕ) (s s' : SoftwareView) : Type 0 where
  pub enabled : RemoveVmEnabled vm s
  pub next : SameSoftware s' (with_sets_of Dma (with_sets_of Cpu (with_vms s (minus s.all_vms vm)) (without_set s.vm_owned vm)) (without_set s.iommu_owned vm))

-- ---- a region whose keys and pages are all in range, where views are asked: refusals 2 and 3 see to it. Upstream has no such
-- clause; each guard asks for it as well, so that what it says of a region's pages and keys it says of every one.
pub record RegionFits (region : Region) : Type 0 where
  pub vm_fits : region.vm.0 < VMS
  pub guests_fit : region.guest.0 + region.count ≤ GUEST_PAGES
  pub pages_fit : region.page.0 + region.count ≤ PAGES

-- ---- insert_region_step, iommu_insert_region_step, with their guards
-- which regions are assignable is left open upstream: here it is a parameter, one for each side
module _ (assignable : Region → Bool) where
  pub record InsertRegionEnabled (region : Region) (s : SoftwareView) : Type 0 where
    pub fits : RegionFits region
    pub wf : 0 < region.count
    pub known : s.all_vms region.vm.0 ≡ true
    pub assign : assignable region ≡ true
    pub free : (page : ℕ) → pages_of region page ≡ true → s.hypervisor_owned page ≡ true
    pub no_key : (vm gpa : ℕ) → is_some (entries_of region vm gpa) ≡ true → is_some (s.s2_map vm gpa) ≡ false
    pub no_dma : (page v : ℕ) → v < VMS → pages_of region page ≡ true → s.all_vms v ≡ true → (v ≡ region.vm.0 → ⊥) → s.iommu_owned.pages v page ≡ false
    pub no_span : (page : ℕ) → pages_of region page ≡ true → s.iommu_shared page ≡ false

  pub record IommuInsertRegionEnabled (region : Region) (s : SoftwareView) : Type 0 where
    pub fits : RegionFits region
    pub wf : 0 < region.count
    pub known : s.all_vms region.vm.0 ≡ true
    pub assign : assignable region ≡ true
    pub no_key : (vm gpa : ℕ) → is_some (entries_of region vm gpa) ≡ true → is_some (s.iommu_s2_map vm gpa) ≡ false
    pub no_other : (page v : ℕ) → v < VMS → pages_of region page ≡ true → s.all_vms v ≡ true → (v ≡ region.vm.0 → ⊥) →
        (s.iommu_owned.pages v page ≡ false) × (s.vm_owned.pages v page ≡ false)
    pub no_span : (page : ℕ) → pages_of region page ≡ true → s.iommu_shared page ≡ false

  -- ---- remove_region_enabled, iommu_remove_region_enabled
  pub record RemoveRegionEnabled (region : Region) (s : SoftwareView) : Type 0 where
    pub fits : RegionFits region
    pub wf : 0 < region.count
    pub known : s.all_vms region.vm.0 ≡ true
    pub assign : assignable region ≡ true
    pub owned : (page : ℕ) → pages_of region page ≡ true → s.vm_owned.pages region.vm.0 page ≡ true
    pub installed : (vm gpa : ℕ) → is_some (entries_of region vm gpa) ≡ true → s.s2_map vm gpa ≡ entries_of region vm gpa
    pub no_other : (vm gpa : ℕ) (e : S2Entry) → vm < VMS → gpa < GUEST_PAGES → s.s2_map vm gpa ≡ Some e → is_some (entries_of region vm gpa) ≡ false →
        pages_of region e.page ≡ false
    pub no_edge : (left right page : ℕ) → left < VMS → right < VMS → s.shared_pages left right page ≡ true → pages_of region page ≡ false

  pub record IommuRemoveRegionEnabled (region : Region) (s : SoftwareView) : Type 0 where
    pub fits : RegionFits region
    pub wf : 0 < region.count
    pub known : s.all_vms region.vm.0 ≡ true
    pub assign : assignable region ≡ true
    pub owned : (page : ℕ) → pages_of region page ≡ true → s.iommu_owned.pages region.vm.0 page ≡ true
    pub installed : (vm gpa : ℕ) → is_some (entries_of region vm gpa) ≡ true → s.iommu_s2_map vm gpa ≡ entries_of region vm gpa
    pub no_other : (vm gpa : ℕ) (e : S2Entry) → vm < VMS → gpa < GUEST_PAGES → s.iommu_s2_map vm gpa ≡ Some e → is_some (entries_of region vm gpa) ≡ false →
        pages_of region e.page ≡ false

-- a set with the region's pages, and without them; a DMA region leaves the pool alone
abbrev pub with_pages : (ℕ → Bool) → Region → ℕ → Bool
with_pages set region page = pages_of region page || set page

abbrev pub without_pages : (ℕ → Bool) → Region → ℕ → Bool
without_pages set region page = not (pages_of region page) && set page

abbrev pub with_pool_of : Side → SoftwareView → (ℕ → Bool) → SoftwareView
with_pool_of Cpu s pool = with_pool s pool
with_pool_of Dma s pool = s

abbrev pub InsertEnabled : (Region → Bool) → Side → Region → SoftwareView → Type 0
InsertEnabled assignable Cpu region s = InsertRegionEnabled assignable region s
InsertEnabled assignable Dma region s = IommuInsertRegionEnabled assignable region s

abbrev pub RemoveEnabled : (Region → Bool) → Side → Region → SoftwareView → Type 0
RemoveEnabled assignable Cpu region s = RemoveRegionEnabled assignable region s
RemoveEnabled assignable Dma region s = IommuRemoveRegionEnabled assignable region s

-- pages from the pool to the VM, and entries into the map; and back
abbrev pub inserted : Side → Region → SoftwareView → SoftwareView
inserted side region s =
    let vm = region.vm.0 in
    let pooled = with_pool_of side s (without_pages s.hypervisor_owned region) in
    let owned = with_sets_of side pooled (with_set (sets_of side s) vm (with_pages ((sets_of side s).pages vm) region)) in
    with_map_of side owned (union_right (map_of side s) (entries_of region))

abbrev pub removed : Side → Region → SoftwareView → SoftwareView
removed side region s =
    let vm = region.vm.0 in
    let pooled = with_pool_of side s (with_pages s.hypervisor_owned region) in
    let owned = with_sets_of side pooled (with_set (sets_of side s) vm (without_pages ((sets_of side s).pages vm) region)) in
    with_map_of side owned (without_keys (map_of side s) (entries_of region))

pub record InsertRegionStep (assignable : Region → Bool) (side : Side) (region : Region) (s s' : SoftwareView) : Type 0 where
  pub enabled : InsertEnabled assignable side region s
  pub next : SameSoftware s' (inserted side region s)

pub record RemoveRegionStep (assignable : Region → Bool) (side : Side) (region : Region) (s s' : SoftwareView) : Type 0 where
  pub enabled : RemoveEnabled assignable side region s
  pub next : SameSoftware s' (removed side region s)

-- ---- hardware: tlb and s2map for CPU, iommu_tlb and iommu_s2map for DMA
abbrev pub walk_of : Side → HardwareView → S2Map
walk_of Cpu h = h.s2map
walk_of Dma h = h.iommu_s2map

abbrev pub tlb_of : Side → HardwareView → Tlb
tlb_of Cpu h = h.tlb
tlb_of Dma h = h.iommu_tlb

abbrev pub with_walk : Side → HardwareView → S2Map → Tlb → HardwareView
with_walk Cpu h map tlb = record { tlb = tlb; s2map = map; iommu_tlb = h.iommu_tlb; iommu_s2map = h.iommu_s2map; memory = h.memory; active_vm = h.active_vm }
with_walk Dma h map tlb = record { tlb = h.tlb; s2map = h.s2map; iommu_tlb = tlb; iommu_s2map = map; memory = h.memory; active_vm = h.active_vm }

abbrev pub with_active : HardwareView → (ℕ → Option ℕ) → HardwareView
with_active h active = record { tlb = h.tlb; s2map = h.s2map; iommu_tlb = h.iommu_tlb; iommu_s2map = h.iommu_s2map; memory = h.memory; active_vm = active }

abbrev pub with_memory : HardwareView → (ℕ → Option ℕ) → HardwareView
with_memory h memory = record { tlb = h.tlb; s2map = h.s2map; iommu_tlb = h.iommu_tlb; iommu_s2map = h.iommu_s2map; memory = memory; active_vm = h.active_vm }

-- one answer replaced
abbrev pub answer_at : (ℕ → Option ℕ) → ℕ → Option ℕ → ℕ → Option ℕ
answer_at f x answer n = if eqb n x then answer else f n

-- ---- hardware/step.rs: tlb_fill_step
pub record TlbFillStep (cpu vm gpa : ℕ) (h h' : HardwareView) : Type 0 where
  pub active : h.active_vm cpu ≡ Some vm
  pub reachable : is_some (h.s2map vm gpa) ≡ true
  pub next : SameHardware h' (with_walk Cpu h h.s2map (tlb_at h.tlb cpu vm gpa (h.s2map vm gpa)))

-- ---- unmap_invalidate_step, iommu_unmap_invalidate_step
abbrev pub UnmapInvalidateStep : Side → ℕ → ℕ → HardwareView → HardwareView → Type 0
UnmapInvalidateStep side vm gpa h h' = SameHardware h' (with_walk side h (map_at (walk_of side h) vm gpa None) (flushed (tlb_of side h) vm gpa))

-- ---- map_step, iommu_map_step
pub record HardwareMapStep (side : Side) (vm gpa : ℕ) (entry : S2Entry) (h h' : HardwareView) : Type 0 where
  pub absent : is_some (walk_of side h vm gpa) ≡ false
  pub next : SameHardware h' (with_walk side h (map_at (walk_of side h) vm gpa (Some entry)) (tlb_of side h))

-- ---- context_switch_step, dsb_step, isb_step
abbrev pub ContextSwitchStep : ℕ → ℕ → HardwareView → HardwareView → Type 0
ContextSwitchStep cpu vm h h' = SameHardware h' (with_active h (answer_at h.active_vm cpu (Some vm)))

abbrev pub BarrierStep : HardwareView → HardwareView → Type 0
BarrierStep h h' = SameHardware h' h

-- ---- mem_read_step, mem_write_step
pub record MemReadStep (address : ℕ) (h h' : HardwareView) : Type 0 where
  pub backed : is_some (h.memory address) ≡ true
  pub next : SameHardware h' h

abbrev pub MemWriteStep : ℕ → ℕ → HardwareView → HardwareView → Type 0
MemWriteStep address value h h' = SameHardware h' (with_memory h (answer_at h.memory address (Some value)))
