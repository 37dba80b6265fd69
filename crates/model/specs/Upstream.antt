-- Upstream's page model over views of our state: its two views, the clauses of its `wf`, its steps and their guards, in the
-- order and under the names of its files. docs/CONTRACTS.md has a row for every clause and says what is left out.
-- Sets and maps are functions. They are asked, and compared, at numbers in range alone: past it page bits stand for others.
use Rattle.std.specs.Prelude.{ℕ, ◌+◌, ◌-◌, ◌/◌, ◌%◌, ◌<◌, Bool, true, false, not, ◌&&◌, ◌||◌, List, ◌⊎◌, ◌≡◌, eqb, ltb, length, get_or, Option, None, Some}
use Rattle.std.specs.Prelude.{if◌then◌else◌}
use Rattle.numbers.specs.Limits.{VMS, PAGES, GUEST_PAGES, PORTS, READ, WRITE, EXECUTE}
use Rattle.numbers.specs.Packing.{key, slot_key, key_of, page_of, access_of, generation_of}
use Rattle.table.specs.Table.{lookup}
use Rattle.numbers.specs.declared.Region.{Region}
use Rattle.model.specs.State.{Tables, State}
use Rattle.model.specs.Views.{is_idle, knows, in_pool, in_shared, owns, holds_dma, paired}
use Rattle.model.specs.Start.{in_span}
use Rattle.model.specs.Ports.{vm_on}

-- ---- types.rs
pub record AccessPerms : Type 0 where
  pub read : Bool
  pub write : Bool
  pub execute : Bool

-- a stage-2 entry; a cached one is of the same kind
pub record S2Entry : Type 0 where
  pub page : ℕ
  pub access : AccessPerms
  pub generation : ℕ

-- an access number is a choice of the three flags
abbrev pub perms_of : ℕ → AccessPerms
perms_of access = record { read = eqb (access / READ % 2) 1; write = eqb (access / WRITE % 2) 1; execute = eqb (access / EXECUTE % 2) 1 }

-- ---- sets and maps
-- a map is none where it has no key: by VM and guest page, and by CPU or device, VM and guest page
abbrev pub S2Map : Type 0
S2Map = ℕ → ℕ → Option S2Entry

abbrev pub Tlb : Type 0
Tlb = ℕ → ℕ → ℕ → Option S2Entry

-- a page set for each VM that it has
pub record PageSets : Type 0 where
  pub vms : ℕ → Bool
  pub pages : ℕ → ℕ → Bool

abbrev pub is_some : {A : Type 0} → Option A → Bool
is_some None = false
is_some (Some x) = true

abbrev pub plus : (ℕ → Bool) → ℕ → ℕ → Bool
plus set x n = eqb n x || set n

abbrev pub minus : (ℕ → Bool) → ℕ → ℕ → Bool
minus set x n = not (eqb n x) && set n

-- a VM's set replaced; a VM's set taken out
abbrev pub with_set : PageSets → ℕ → (ℕ → Bool) → PageSets
with_set sets vm set = record { vms = plus sets.vms vm; pages = λ v. if eqb v vm then set else sets.pages v }

abbrev pub without_set : PageSets → ℕ → PageSets
without_set sets vm = record { vms = minus sets.vms vm; pages = sets.pages }

-- the map with another answer at one key; a cache with another at one key, and without all that one map key answers for
abbrev pub map_at : S2Map → ℕ → ℕ → Option S2Entry → S2Map
map_at map vm gpa answer v g = if eqb v vm && eqb g gpa then answer else map v g

abbrev pub tlb_at : Tlb → ℕ → ℕ → ℕ → Option S2Entry → Tlb
tlb_at tlb cpu vm gpa answer c v g = if eqb c cpu && (eqb v vm && eqb g gpa) then answer else tlb c v g

abbrev pub flushed : Tlb → ℕ → ℕ → Tlb
flushed tlb vm gpa c v g = if eqb v vm && eqb g gpa then None else tlb c v g

-- both maps' keys, the second's answer where it has one; the first without the second's keys
abbrev pub prefer_right : Option S2Entry → Option S2Entry → Option S2Entry
prefer_right left None = left
prefer_right left (Some e) = Some e

abbrev pub union_right : S2Map → S2Map → S2Map
union_right left right v g = prefer_right (left v g) (right v g)

abbrev pub without_keys : S2Map → S2Map → S2Map
without_keys left right v g = if is_some (right v g) then None else left v g

-- ---- region.rs: a region's pages and entries
abbrev pub pages_of : Region → ℕ → Bool
pages_of region page = in_span region.page.0 region.count page

abbrev pub entries_of : Region → S2Map
entries_of region vm gpa =
    if eqb vm region.vm.0 && in_span region.guest.0 region.count gpa
    then Some (record { page = region.page.0 + (gpa - region.guest.0); access = perms_of region.access; generation = 0 })
    else None

-- ---- software/state.rs
pub record SoftwareView : Type 0 where
  pub all_vms : ℕ → Bool
  pub hypervisor_owned : ℕ → Bool
  pub vm_owned : PageSets
  -- left, right, page
  pub shared_pages : ℕ → ℕ → ℕ → Bool
  pub s2_map : S2Map
  pub iommu_s2_map : S2Map
  pub iommu_owned : PageSets
  pub iommu_shared : ℕ → Bool

-- ---- hardware/state.rs
pub record HardwareView : Type 0 where
  pub tlb : Tlb
  pub s2map : S2Map
  pub iommu_tlb : Tlb
  pub iommu_s2map : S2Map
  pub memory : ℕ → Option ℕ
  pub active_vm : ℕ → Option ℕ

-- ---- the views of our state
-- the entry in a word
abbrev pub entry_in : ℕ → S2Entry
entry_in w = record { page = page_of w; access = perms_of (access_of w); generation = generation_of w }

unfoldable pub seen : ℕ → Option S2Entry
seen w = if eqb w 0 then None else Some (entry_in w)

abbrev pub map_seen : List ℕ → S2Map
map_seen table vm gpa = seen (lookup key_of table (key vm gpa))

abbrev pub tlb_seen : List ℕ → Tlb
tlb_seen cache port vm gpa = seen (lookup key_of cache (slot_key port vm gpa))

unfoldable pub word_seen : List ℕ → ℕ → Option ℕ
word_seen memory address = if ltb address (length memory) then Some (get_or memory address 0) else None

unfoldable pub active_seen : List ℕ → ℕ → Option ℕ
active_seen ports port = if is_idle (vm_on ports port) then None else Some (vm_on ports port)

-- a VM has page sets while it is known
abbrev pub software_view : Tables → SoftwareView
software_view t =
    record {
      all_vms = knows t.known;
      hypervisor_owned = in_pool t.sets;
      vm_owned = record { vms = knows t.known; pages = owns t.sets };
      shared_pages = paired t.pairs;
      s2_map = map_seen t.cpu.map;
      iommu_s2_map = map_seen t.dma.map;
      iommu_owned = record { vms = knows t.known; pages = holds_dma t.sets };
      iommu_shared = in_shared t.sets;
    }

abbrev pub hardware_view : State → HardwareView
hardware_view s =
    record {
      tlb = tlb_seen s.tables.cpu.cache;
      s2map = map_seen s.tables.cpu.walker;
      iommu_tlb = tlb_seen s.tables.dma.cache;
      iommu_s2map = map_seen s.tables.dma.walker;
      memory = word_seen s.memory;
      active_vm = active_seen s.tables.cpu.ports;
    }

-- ---- equal views
abbrev pub SamePages : (ℕ → Bool) → (ℕ → Bool) → Type 0
SamePages a b = (page : ℕ) → page < PAGES → a page ≡ b page

pub record SameSets (a b : PageSets) : Type 0 where
  pub vms : (vm : ℕ) → vm < VMS → a.vms vm ≡ b.vms vm
  pub pages : (vm page : ℕ) → vm < VMS → page < PAGES → a.vms vm ≡ true → a.pages vm page ≡ b.pages vm page

abbrev pub SameS2Map : S2Map → S2Map → Type 0
SameS2Map a b = (vm gpa : ℕ) → vm < VMS → gpa < GUEST_PAGES → a vm gpa ≡ b vm gpa

abbrev pub SameTlb : Tlb → Tlb → Type 0
SameTlb a b = (cpu vm gpa : ℕ) → cpu < PORTS → vm < VMS → gpa < GUEST_PAGES → a cpu vm gpa ≡ b cpu vm gpa

pub record SameSoftware (a b : SoftwareView) : Type 0 where
  pub all_vms : (vm : ℕ) → vm < VMS → a.all_vms vm ≡ b.all_vms vm
  pub hypervisor_owned : SamePages a.hypervisor_owned b.hypervisor_owned
  pub vm_owned : SameSets a.vm_owned b.vm_owned
  pub shared_pages : (left right page : ℕ) → left < VMS → right < VMS → page < PAGES → a.shared_pages left right page ≡ b.shared_pages left right page
  pub s2_map : SameS2Map a.s2_map b.s2_map
  pub iommu_s2_map : SameS2Map a.iommu_s2_map b.iommu_s2_map
  pub iommu_owned : SameSets a.iommu_owned b.iommu_owned
  pub iommu_shared : SamePages a.iommu_shared b.iommu_shared

pub record SameHardware (a b : HardwareView) : Type 0 where
  pub tlb : SameTlb a.tlb b.tlb
  pub s2map : SameS2Map a.s2map b.s2map
  pub iommu_tlb : SameTlb a.iommu_tlb b.iommu_tlb
  pub iommu_s2map : SameS2Map a.iommu_s2map b.iommu_s2map
  pub memory : (address : ℕ) → a.memory address ≡ b.memory address
  pub active_vm : (cpu : ℕ) → cpu < PORTS → a.active_vm cpu ≡ b.active_vm cpu

-- ---- software/state.rs: who may map a page
-- some edge names the page and has the VM at an end
pub record SharedWith (s : SoftwareView) (vm page : ℕ) : Type 0 where
  pub left : ℕ
  pub right : ℕ
  pub left_ok : left < VMS
  pub right_ok : right < VMS
  pub stored : s.shared_pages left right page ≡ true
  pub end : (left ≡ vm) ⊎ (right ≡ vm)

abbrev pub Owned : SoftwareView → ℕ → ℕ → Type 0
Owned s vm page = (s.vm_owned.vms vm ≡ true) × (s.vm_owned.pages vm page ≡ true)

abbrev pub OwnedOrShared : SoftwareView → ℕ → ℕ → Type 0
OwnedOrShared s vm page = Owned s vm page ⊎ SharedWith s vm page

-- the DMA side asks for no edge: a private page, or one of the shared set
abbrev pub OwnedOrSpan : SoftwareView → ℕ → ℕ → Type 0
OwnedOrSpan s vm page = (s.iommu_owned.pages vm page ≡ true) ⊎ (s.iommu_shared page ≡ true)

-- ---- software/state.rs: wf
pub record OwnershipWf (s : SoftwareView) : Type 0 where
  pub dom : (vm : ℕ) → vm < VMS → s.vm_owned.vms vm ≡ s.all_vms vm
  pub apart : (vm vm' page : ℕ) → vm < VMS → vm' < VMS → page < PAGES → s.all_vms vm ≡ true → s.all_vms vm' ≡ true → (vm ≡ vm' → ⊥) → s.vm_owned.pages vm page ≡ true →
      s.vm_owned.pages vm' page ≡ false
  pub pool : (vm page : ℕ) → vm < VMS → page < PAGES → s.all_vms vm ≡ true → s.vm_owned.pages vm page ≡ true → s.hypervisor_owned page ≡ false

pub record EdgeWf (s : SoftwareView) (left right page : ℕ) : Type 0 where
  pub apart : left ≡ right → ⊥
  pub left_known : s.all_vms left ≡ true
  pub right_known : s.all_vms right ≡ true
  pub reverse : s.shared_pages right left page ≡ true

abbrev pub SharingWf : SoftwareView → Type 0
SharingWf s = (left right page : ℕ) → left < VMS → right < VMS → page < PAGES → s.shared_pages left right page ≡ true → EdgeWf s left right page

pub record TranslationWf (s : SoftwareView) : Type 0 where
  pub known : (vm gpa : ℕ) (e : S2Entry) → vm < VMS → gpa < GUEST_PAGES → s.s2_map vm gpa ≡ Some e → s.all_vms vm ≡ true
  pub may : (vm gpa : ℕ) (e : S2Entry) → vm < VMS → gpa < GUEST_PAGES → s.s2_map vm gpa ≡ Some e → OwnedOrShared s vm e.page

pub record IommuOwnershipWf (s : SoftwareView) : Type 0 where
  pub dom : (vm : ℕ) → vm < VMS → s.iommu_owned.vms vm ≡ s.all_vms vm
  pub apart : (vm vm' page : ℕ) → vm < VMS → vm' < VMS → page < PAGES → s.all_vms vm ≡ true → s.all_vms vm' ≡ true → (vm ≡ vm' → ⊥) →
      s.iommu_owned.pages vm page ≡ true → s.iommu_owned.pages vm' page ≡ false
  pub cpu_apart : (vm vm' page : ℕ) → vm < VMS → vm' < VMS → page < PAGES → s.all_vms vm ≡ true → s.all_vms vm' ≡ true → (vm ≡ vm' → ⊥) →
      s.iommu_owned.pages vm page ≡ true → s.vm_owned.pages vm' page ≡ false
  pub span : (vm page : ℕ) → vm < VMS → page < PAGES → s.all_vms vm ≡ true → s.iommu_owned.pages vm page ≡ true → s.iommu_shared page ≡ false
  pub cpu_span : (vm page : ℕ) → vm < VMS → page < PAGES → s.all_vms vm ≡ true → s.vm_owned.pages vm page ≡ true → s.iommu_shared page ≡ false

pub record IommuTranslationWf (s : SoftwareView) : Type 0 where
  pub known : (vm gpa : ℕ) (e : S2Entry) → vm < VMS → gpa < GUEST_PAGES → s.iommu_s2_map vm gpa ≡ Some e → s.all_vms vm ≡ true
  pub has : (vm gpa : ℕ) (e : S2Entry) → vm < VMS → gpa < GUEST_PAGES → s.iommu_s2_map vm gpa ≡ Some e → s.iommu_owned.vms vm ≡ true
  pub may : (vm gpa : ℕ) (e : S2Entry) → vm < VMS → gpa < GUEST_PAGES → s.iommu_s2_map vm gpa ≡ Some e → OwnedOrSpan s vm e.page

pub record IommuWf (s : SoftwareView) : Type 0 where
  pub iommu_ownership_wf : IommuOwnershipWf s
  pub iommu_translation_wf : IommuTranslationWf s

pub record SoftwareWf (s : SoftwareView) : Type 0 where
  pub ownership_wf : OwnershipWf s
  pub sharing_wf : SharingWf s
  pub translation_wf : TranslationWf s
  pub iommu_wf : IommuWf s

-- ---- hardware/state.rs: wf
-- every cached key is reachable, and its entry is the walker's
pub record TlbSafe (tlb : Tlb) (s2map : S2Map) : Type 0 where
  pub reachable : (cpu vm gpa : ℕ) → cpu < PORTS → vm < VMS → gpa < GUEST_PAGES → is_some (tlb cpu vm gpa) ≡ true → is_some (s2map vm gpa) ≡ true
  pub agrees : (cpu vm gpa : ℕ) → cpu < PORTS → vm < VMS → gpa < GUEST_PAGES → is_some (tlb cpu vm gpa) ≡ true → tlb cpu vm gpa ≡ s2map vm gpa

pub record HardwareWf (h : HardwareView) : Type 0 where
  pub tlb_safe : TlbSafe h.tlb h.s2map
  pub iommu_tlb_safe : TlbSafe h.iommu_tlb h.iommu_s2map

-- ---- both, and the agreement that upstream asks of a whole machine: the walkers reach what the software maps say
pub record Synced (s : State) : Type 0 where
  pub cpu : SameS2Map (software_view s.tables).s2_map (hardware_view s).s2map
  pub dma : SameS2Map (software_view s.tables).iommu_s2_map (hardware_view s).iommu_s2map

pub record WellFormed (s : State) : Type 0 where
  pub software : SoftwareWf (software_view s.tables)
  pub hardware : HardwareWf (hardware_view s)
  pub sync : Synced s
