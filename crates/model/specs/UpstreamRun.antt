-- Which steps of upstream's an accepted operation is, and what it is to be a run of them. The numbers of an accepted operation
-- are in range (EarlyLaws), so that nothing it does falls outside of what views are compared at.
use Rattle.std.specs.Prelude.{ℕ, zero, suc, ◌/◌, Bool, true, false, not, ◌&&◌, ◌||◌, List, [], ◌∷◌, ◌++◌, ◌≡◌, eqb, get_or, Option, None, Some}
use Rattle.std.specs.Prelude.{if◌then◌else◌}
use Rattle.numbers.specs.Limits.{PAGE_WORDS}
use Rattle.numbers.specs.Packing.{key, slot_key, key_of, port_of, vm_of, guest_of}
use Rattle.numbers.specs.declared.Side.{Side}
use Rattle.numbers.specs.declared.Side.TheVariants.{Cpu, Dma}
use Rattle.numbers.specs.declared.VmId.{VmId}
use Rattle.numbers.specs.declared.SideOperation.{SideOperation}
use Rattle.numbers.specs.declared.SideOperation.TheVariants as sided
use Rattle.numbers.specs.declared.Operation.{Operation}
use Rattle.numbers.specs.declared.Operation.TheVariants as op
use Rattle.table.specs.Table.{find, place, is_found}
use Rattle.units.specs.Units.{assignable}
use Rattle.numbers.specs.declared.Region.{Region}
use Rattle.model.specs.State.{Tables, Route, Setup, State, route}
use Rattle.model.specs.Effect.{memory_index, kept, Control}
use Rattle.model.specs.Ledger.{reclaim_clears}
use Rattle.model.specs.Regions.{guest_in, page_in, remove_clears}
use Rattle.model.specs.Ports.{vm_on}
use Rattle.model.specs.Access.{access_place}
use Rattle.model.specs.Retire.{goes, retire_clears}
use Rattle.model.specs.Step.{control, carried_out, step}
use Rattle.model.specs.Upstream.{S2Entry, perms_of, is_some, S2Map, with_set, tlb_at, SoftwareView, HardwareView, software_view, hardware_view, SameSoftware, SameHardware}
use Rattle.model.specs.UpstreamStep.{
  software,
  map_of,
  no_pages,
  MapStep,
  UnmapStep,
  AssignPageStep,
  ReclaimPageStep,
  SharePageStep,
  UnsharePageStep,
  AddVmStep,
  RemoveVmStep,
  InsertRegionStep,
  RemoveRegionStep,
  walk_of,
  tlb_of,
  with_walk,
  with_active,
  with_memory,
  answer_at,
  TlbFillStep,
  UnmapInvalidateStep,
  HardwareMapStep,
  ContextSwitchStep,
  BarrierStep,
  MemReadStep,
  MemWriteStep,
}

-- ---- steps of ours that upstream lacks
-- a cache forgets one key (N-10, N-11)
abbrev pub ForgetStep : Side → ℕ → ℕ → ℕ → HardwareView → HardwareView → Type 0
ForgetStep side port vm gpa h h' = SameHardware h' (with_walk side h (walk_of side h) (tlb_at (tlb_of side h) port vm gpa None))

-- a device's cache is filled from its walker: the `fill` of the token machine, in hardware/spec.rs (N-09)
pub record IommuFillStep (device vm gpa : ℕ) (h h' : HardwareView) : Type 0 where
  pub reachable : is_some (h.iommu_s2map vm gpa) ≡ true
  pub next : SameHardware h' (with_walk Dma h h.iommu_s2map (tlb_at h.iommu_tlb device vm gpa (h.iommu_s2map vm gpa)))

-- a CPU runs nothing (N-08)
abbrev pub IdleStep : ℕ → HardwareView → HardwareView → Type 0
IdleStep cpu h h' = SameHardware h' (with_active h (answer_at h.active_vm cpu None))

-- every word of a page becomes zero (N-13)
abbrev pub zero_at : Option ℕ → Option ℕ
zero_at None = None
zero_at (Some word) = Some 0

abbrev pub cleared_at : (ℕ → Option ℕ) → ℕ → ℕ → Option ℕ
cleared_at memory page address = if eqb (address / PAGE_WORDS) page then zero_at (memory address) else memory address

abbrev pub ClearStep : ℕ → HardwareView → HardwareView → Type 0
ClearStep page h h' = SameHardware h' (with_memory h (cleared_at h.memory page))

-- a VM gives up all that it has but its id (N-18). Mappings go: its own, and for CPU those onto its pages
abbrev pub onto_pages_of : Side → SoftwareView → ℕ → S2Entry → Bool
onto_pages_of Cpu s vm e = s.vm_owned.pages vm e.page
onto_pages_of Dma s vm e = false

abbrev pub unless_onto : Side → SoftwareView → ℕ → Option S2Entry → Option S2Entry
unless_onto side s vm None = None
unless_onto side s vm (Some e) = if onto_pages_of side s vm e then None else Some e

abbrev pub map_left : Side → SoftwareView → ℕ → S2Map
map_left side s vm v g = if eqb v vm then None else unless_onto side s vm (map_of side s v g)

-- and every edge with the VM at an end
abbrev pub edges_left : SoftwareView → ℕ → ℕ → ℕ → ℕ → Bool
edges_left s vm l r page = not (eqb l vm || eqb r vm) && s.shared_pages l r page

-- its CPU pages go to the pool, its DMA pages are its no longer
abbrev pub given_up : ℕ → SoftwareView → SoftwareView
given_up vm s =
    software s.all_vms (λ page. s.vm_owned.pages vm page || s.hypervisor_owned page) (with_set s.vm_owned vm no_pages) (edges_left s vm) (map_left Cpu s vm) (map_left Dma s vm)
    (with_set s.iommu_owned vm no_pages) s.iommu_shared

pub record GiveUpStep (vm : ℕ) (s s' : SoftwareView) : Type 0 where
  pub known : s.all_vms vm ≡ true
  pub next : SameSoftware s' (given_up vm s)

-- ---- what a step is called
pub data SoftwareCall : Type 0 where
  map : Side → ℕ → ℕ → S2Entry → SoftwareCall
  unmap : Side → ℕ → ℕ → SoftwareCall
  assign_page : ℕ → ℕ → SoftwareCall
  reclaim_page : ℕ → ℕ → SoftwareCall
  share_page : ℕ → ℕ → ℕ → SoftwareCall
  unshare_page : ℕ → ℕ → ℕ → SoftwareCall
  add_vm : ℕ → SoftwareCall
  remove_vm : ℕ → SoftwareCall
  insert_region : Side → Region → SoftwareCall
  remove_region : Side → Region → SoftwareCall
  -- ours
  give_up : ℕ → SoftwareCall

pub data HardwareCall : Type 0 where
  tlb_fill : ℕ → ℕ → ℕ → HardwareCall
  unmap_invalidate : Side → ℕ → ℕ → HardwareCall
  -- the hardware's map_step
  reach : Side → ℕ → ℕ → S2Entry → HardwareCall
  context_switch : ℕ → ℕ → HardwareCall
  dsb : HardwareCall
  isb : HardwareCall
  mem_read : ℕ → HardwareCall
  mem_write : ℕ → ℕ → HardwareCall
  -- ours
  forget : Side → ℕ → ℕ → ℕ → HardwareCall
  iommu_fill : ℕ → ℕ → ℕ → HardwareCall
  idle : ℕ → HardwareCall
  clear : ℕ → HardwareCall

abbrev pub SoftwareStep : Setup → SoftwareCall → SoftwareView → SoftwareView → Type 0
SoftwareStep setup (map side vm gpa entry) s s' = MapStep side vm gpa entry s s'
SoftwareStep setup (unmap side vm gpa) s s' = UnmapStep side vm gpa s s'
SoftwareStep setup (assign_page vm page) s s' = AssignPageStep vm page s s'
SoftwareStep setup (reclaim_page vm page) s s' = ReclaimPageStep vm page s s'
SoftwareStep setup (share_page left right page) s s' = SharePageStep left right page s s'
SoftwareStep setup (unshare_page left right page) s s' = UnsharePageStep left right page s s'
SoftwareStep setup (add_vm vm) s s' = AddVmStep vm s s'
SoftwareStep setup (remove_vm vm) s s' = RemoveVmStep vm s s'
SoftwareStep setup (insert_region side region) s s' = InsertRegionStep (assignable setup.units setup.unit_count side) side region s s'
SoftwareStep setup (remove_region side region) s s' = RemoveRegionStep (assignable setup.units setup.unit_count side) side region s s'
SoftwareStep setup (give_up vm) s s' = GiveUpStep vm s s'

abbrev pub HardwareStep : HardwareCall → HardwareView → HardwareView → Type 0
HardwareStep (tlb_fill cpu vm gpa) h h' = TlbFillStep cpu vm gpa h h'
HardwareStep (unmap_invalidate side vm gpa) h h' = UnmapInvalidateStep side vm gpa h h'
HardwareStep (reach side vm gpa entry) h h' = HardwareMapStep side vm gpa entry h h'
HardwareStep (context_switch cpu vm) h h' = ContextSwitchStep cpu vm h h'
HardwareStep dsb h h' = BarrierStep h h'
HardwareStep isb h h' = BarrierStep h h'
HardwareStep (mem_read address) h h' = MemReadStep address h h'
HardwareStep (mem_write address value) h h' = MemWriteStep address value h h'
HardwareStep (forget side port vm gpa) h h' = ForgetStep side port vm gpa h h'
HardwareStep (iommu_fill device vm gpa) h h' = IommuFillStep device vm gpa h h'
HardwareStep (idle cpu) h h' = IdleStep cpu h h'
HardwareStep (clear page) h h' = ClearStep page h h'

-- ---- runs: no step leaves an equal view
pub data SoftwareRun (setup : Setup) : List SoftwareCall → SoftwareView → SoftwareView → Type 0 where
  stop : {a b : SoftwareView} → SameSoftware b a → SoftwareRun setup [] a b
  go : {call : SoftwareCall} {calls : List SoftwareCall} {a b c : SoftwareView} → SoftwareStep setup call a b → SoftwareRun setup calls b c →
      SoftwareRun setup (call ∷ calls) a c

pub data HardwareRun : List HardwareCall → HardwareView → HardwareView → Type 0 where
  stop : {a b : HardwareView} → SameHardware b a → HardwareRun [] a b
  go : {call : HardwareCall} {calls : List HardwareCall} {a b c : HardwareView} → HardwareStep call a b → HardwareRun calls b c → HardwareRun (call ∷ calls) a c

-- ---- which steps an operation is, once it is accepted
abbrev pub entry_of : ℕ → ℕ → ℕ → S2Entry
entry_of page access generation = record { page = page; access = perms_of access; generation = generation }

abbrev pub side_software_calls : Side → Tables → SideOperation → List SoftwareCall
side_software_calls side t (sided.MapPage vm guest page access generation) = map side vm.0 guest.0 (entry_of page.0 access generation) ∷ []
side_software_calls side t (sided.UnmapPage vm guest) = unmap side vm.0 guest.0 ∷ []
side_software_calls side t (sided.InsertRegion region) = insert_region side region ∷ []
side_software_calls side t (sided.RemoveRegion region) = remove_region side region ∷ []
side_software_calls side t (sided.GivePort port target) = []
side_software_calls side t (sided.FillSlot port guest) = []
side_software_calls side t (sided.EmptySlot slot) = []
side_software_calls side t (sided.ReadWord port guest word) = []
side_software_calls side t (sided.WriteWord port guest word value) = []

-- over the tables too, as the hardware's are: how many steps an operation is may depend on them
abbrev pub software_calls : Tables → Operation → List SoftwareCall
software_calls t (op.AddVm vm) = add_vm vm.0 ∷ []
software_calls t (op.RemoveVm vm) = remove_vm vm.0 ∷ []
software_calls t (op.AssignPage vm page) = assign_page vm.0 page.0 ∷ []
software_calls t (op.ReclaimPage vm page) = reclaim_page vm.0 page.0 ∷ []
software_calls t (op.SharePage left right page) = share_page left.0 right.0 page.0 ∷ []
software_calls t (op.UnsharePage left right page) = unshare_page left.0 right.0 page.0 ∷ []
software_calls t (op.On side operation) = side_software_calls side t operation
software_calls t op.DataBarrier = []
software_calls t op.InstructionBarrier = []
software_calls t (op.RetireVm vm) = give_up vm.0 ∷ remove_vm vm.0 ∷ []

-- a present key is unmapped and invalidated first
abbrev pub map_calls : Side → Route → ℕ → ℕ → S2Entry → List HardwareCall
map_calls side r vm guest entry =
    if is_found (find key_of r.walker (key vm guest)) then unmap_invalidate side vm guest ∷ reach side vm guest entry ∷ []
    else reach side vm guest entry ∷ []

-- one step a page, from page k on
abbrev pub insert_calls : Side → Region → ℕ → ℕ → List HardwareCall
insert_calls side region k zero = []
insert_calls side region k (suc n) = reach side region.vm.0 (guest_in region k) (entry_of (page_in region k) region.access 0) ∷ insert_calls side region (suc k) n

abbrev pub remove_calls : Side → Region → ℕ → ℕ → List HardwareCall
remove_calls side region k zero = []
remove_calls side region k (suc n) = unmap_invalidate side region.vm.0 (guest_in region k) ∷ remove_calls side region (suc k) n

abbrev pub clear_calls : List ℕ → List HardwareCall
clear_calls [] = []
clear_calls (page ∷ pages) = clear page ∷ clear_calls pages

-- one step for each entry of the walker that goes, in the order of the table
abbrev pub retire_calls : Side → List ℕ → ℕ → List ℕ → List HardwareCall
retire_calls side sets vm [] = []
retire_calls side sets vm (w ∷ ws) = if goes side sets vm w then unmap_invalidate side (vm_of w) (guest_of w) ∷ retire_calls side sets vm ws else retire_calls side sets vm ws

-- HardwareView knows no device's VM
abbrev pub port_calls : Side → ℕ → Option VmId → List HardwareCall
port_calls Cpu port None = idle port ∷ []
port_calls Cpu port (Some vm) = context_switch port vm.0 ∷ []
port_calls Dma port target = []

abbrev pub fill_call : Side → ℕ → ℕ → ℕ → HardwareCall
fill_call Cpu port vm gpa = tlb_fill port vm gpa
fill_call Dma port vm gpa = iommu_fill port vm gpa

abbrev pub forget_call : Side → ℕ → HardwareCall
forget_call side w = forget side (port_of w) (vm_of w) (guest_of w)

-- a full cache gives up the slot at the hand
abbrev pub fill_calls : Side → Route → ℕ → ℕ → List HardwareCall
fill_calls side r port guest =
    let vm = vm_on r.ports port in
    if is_found (place key_of r.cache (slot_key port vm guest)) then fill_call side port vm guest ∷ []
    else forget_call side (get_or r.cache r.hand 0) ∷ fill_call side port vm guest ∷ []

-- an empty slot has nothing to forget
abbrev pub empty_calls : Side → Route → ℕ → List HardwareCall
empty_calls side r slot = let w = get_or r.cache slot 0 in if eqb w 0 then [] else forget_call side w ∷ []

abbrev pub address_in : Route → ℕ → ℕ → ℕ → ℕ
address_in r port guest word = let place = access_place r.ports r.cache r.walker port guest word in memory_index place.page place.word

abbrev pub side_hardware_calls : Side → Tables → SideOperation → List HardwareCall
side_hardware_calls side t (sided.MapPage vm guest page access generation) = map_calls side (route side t) vm.0 guest.0 (entry_of page.0 access generation)
side_hardware_calls side t (sided.UnmapPage vm guest) = unmap_invalidate side vm.0 guest.0 ∷ []
side_hardware_calls side t (sided.InsertRegion region) = insert_calls side region 0 region.count
side_hardware_calls side t (sided.RemoveRegion region) = remove_calls side region 0 region.count ++ clear_calls (remove_clears side t.sets region)
side_hardware_calls side t (sided.GivePort port target) = port_calls side port target
side_hardware_calls side t (sided.FillSlot port guest) = fill_calls side (route side t) port guest.0
side_hardware_calls side t (sided.EmptySlot slot) = empty_calls side (route side t) slot
side_hardware_calls side t (sided.ReadWord port guest word) = mem_read (address_in (route side t) port guest.0 word) ∷ []
side_hardware_calls side t (sided.WriteWord port guest word value) = mem_write (address_in (route side t) port guest.0 word) value ∷ []

abbrev pub hardware_calls : Tables → Operation → List HardwareCall
hardware_calls t (op.AddVm vm) = []
hardware_calls t (op.RemoveVm vm) = []
hardware_calls t (op.AssignPage vm page) = []
hardware_calls t (op.ReclaimPage vm page) = clear_calls (reclaim_clears t.sets vm.0 page.0)
hardware_calls t (op.SharePage left right page) = []
hardware_calls t (op.UnsharePage left right page) = []
hardware_calls t (op.On side operation) = side_hardware_calls side t operation
hardware_calls t op.DataBarrier = dsb ∷ []
hardware_calls t op.InstructionBarrier = isb ∷ []
hardware_calls t (op.RetireVm vm) =
    retire_calls Cpu t.sets vm.0 t.cpu.walker ++ retire_calls Dma t.sets vm.0 t.dma.walker ++ clear_calls (retire_clears t.sets t.setup.pages vm.0)

-- ---- the operation is a run of its steps, and of none where it is refused
pub record Follows (s s' : State) (calls : List SoftwareCall) (calls' : List HardwareCall) : Type 0 where
  pub software : SoftwareRun s.tables.setup calls (software_view s.tables) (software_view s'.tables)
  pub hardware : HardwareRun calls' (hardware_view s) (hardware_view s')

-- what the tables decide, carried out
abbrev pub FollowsControl : State → Control → List SoftwareCall → List HardwareCall → Type 0
FollowsControl s c calls calls' = Follows s (carried_out c s.memory).state (kept c.answer [] calls) (kept c.answer [] calls')

abbrev pub FollowsUpstream : State → Operation → Type 0
FollowsUpstream s operation =
    let answer = (control s.tables operation).answer in
    Follows s (step s operation).state (kept answer [] (software_calls s.tables operation)) (kept answer [] (hardware_calls s.tables operation))
