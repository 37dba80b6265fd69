-- When an operation is accepted (docs/MACHINE.md, 7): everything that it needs, each named once, in words of what the tables
-- show (who is known, owns, holds, shares, maps) and in no order of checks.
use Prim.{Unit as Anything}
use Rattle.std.specs.Prelude.{ℕ, ◌+◌, ◌/◌, ◌%◌, ◌≤◌, ◌<◌, Bool, true, false, List, ◌⊎◌, ◌≡◌, get_or, Ok, Err, Option, None, Some}
use Rattle.numbers.specs.Limits.{VMS, GUEST_PAGES, PAGE_WORDS, PAGES, PORTS, SLOTS, ACCESSES, GENERATIONS, READ, WRITE, IDLE}
use Rattle.numbers.specs.Packing.{vm_of, guest_of, page_of, access_of, generation_of, left_of, right_of}
use Rattle.numbers.specs.Meaning.{Answer}
use Rattle.numbers.specs.declared.Side.{Side}
use Rattle.numbers.specs.declared.Side.TheVariants.{Cpu, Dma}
use Rattle.numbers.specs.declared.VmId.{VmId}
use Rattle.numbers.specs.declared.SideOperation.{SideOperation}
use Rattle.numbers.specs.declared.SideOperation.TheVariants as sided
use Rattle.numbers.specs.declared.Operation.{Operation}
use Rattle.numbers.specs.declared.Operation.TheVariants as op
use Rattle.table.specs.Table.{Has, free_entries}
use Rattle.units.specs.Units.{suits, no_unit}
use Rattle.numbers.specs.declared.Region.{Region}
use Rattle.model.specs.State.{Tables, route}
use Rattle.model.specs.Views.{knows, in_pool, in_shared, owns, holds_dma, claims}
use Rattle.model.specs.Start.{unit_region}
use Rattle.model.specs.Sequence.{operation_in}

-- ---- the answer accepts
abbrev pub accepts : Answer → Bool
accepts (Ok ok) = true
accepts (Err err) = false

-- ---- what the tables show
abbrev pub Knows : Tables → ℕ → Type 0
Knows t vm = knows t.known vm ≡ true

abbrev pub Owns : Tables → ℕ → ℕ → Type 0
Owns t vm page = owns t.sets vm page ≡ true

abbrev pub HoldsDma : Tables → ℕ → ℕ → Type 0
HoldsDma t vm page = holds_dma t.sets vm page ≡ true

abbrev pub Claims : Side → Tables → ℕ → ℕ → Type 0
Claims side t vm page = claims side t.sets vm page ≡ true

abbrev pub InPool : Tables → ℕ → Type 0
InPool t page = in_pool t.sets page ≡ true

abbrev pub InShared : Tables → ℕ → Type 0
InShared t page = in_shared t.sets page ≡ true

-- the two VMs share the page, in whichever order the pair is stored
pub record Edge (t : Tables) (left right page : ℕ) : Type 0 where
  pub pair : ℕ
  pub stored : Has t.pairs pair
  pub ends : ((left_of pair ≡ left) × (right_of pair ≡ right)) ⊎ ((left_of pair ≡ right) × (right_of pair ≡ left))
  pub on : page_of pair ≡ page

-- the table, a side's software map or its walker's, maps the VM's guest page onto the page
pub record Maps (table : List ℕ) (vm guest page access generation : ℕ) : Type 0 where
  pub word : ℕ
  pub stored : Has table word
  pub vm_is : vm_of word ≡ vm
  pub guest_is : guest_of word ≡ guest
  pub page_is : page_of word ≡ page
  pub access_is : access_of word ≡ access
  pub generation_is : generation_of word ≡ generation

-- onto whatever page, with whatever access and generation
pub record Mapped (table : List ℕ) (vm guest : ℕ) : Type 0 where
  pub page : ℕ
  pub access : ℕ
  pub generation : ℕ
  pub mapping : Maps table vm guest page access generation

-- it maps some guest page of the VM onto the page
pub record Targets (table : List ℕ) (vm page : ℕ) : Type 0 where
  pub guest : ℕ
  pub access : ℕ
  pub generation : ℕ
  pub mapping : Maps table vm guest page access generation

-- the VM runs on the CPU, or the device is bound to it
abbrev pub RunsOn : Side → Tables → ℕ → ℕ → Type 0
RunsOn side t port vm = get_or (route side t).ports port IDLE ≡ vm

-- the VM may map the page: for CPU one that it owns or that is shared with it, for DMA one that it holds for DMA or of the span
abbrev pub MayMap : Side → Tables → ℕ → ℕ → Type 0
MayMap Cpu t vm page = Owns t vm page ⊎ ((other : ℕ) × Edge t vm other page)
MayMap Dma t vm page = HoldsDma t vm page ⊎ InShared t page

-- ---- 1 to 6
pub record AddsVm (t : Tables) (vm : ℕ) : Type 0 where
  pub vm_ok : vm < VMS
  pub unknown : Knows t vm → ⊥

pub record RemovesVm (t : Tables) (vm : ℕ) : Type 0 where
  pub vm_ok : vm < VMS
  pub known : Knows t vm
  pub no_page : (side : Side) (page : ℕ) → page < PAGES → Claims side t vm page → ⊥
  pub no_mapping : (side : Side) (guest : ℕ) → Mapped (route side t).map vm guest → ⊥
  pub no_edge : (other page : ℕ) → Edge t vm other page → ⊥
  pub no_port : (side : Side) (port : ℕ) → port < PORTS → RunsOn side t port vm → ⊥

pub record Assigns (t : Tables) (vm page : ℕ) : Type 0 where
  pub vm_ok : vm < VMS
  pub page_ok : page < t.setup.pages
  pub known : Knows t vm
  pub pool : InPool t page
  -- it is no other VM's DMA page
  pub unclaimed : (other : ℕ) → other < VMS → (other ≡ vm → ⊥) → HoldsDma t other page → ⊥

pub record Reclaims (t : Tables) (vm page : ℕ) : Type 0 where
  pub vm_ok : vm < VMS
  pub page_ok : page < t.setup.pages
  pub known : Knows t vm
  pub owned : Owns t vm page
  pub no_mapping : (mapper : ℕ) → Targets t.cpu.map mapper page → ⊥
  pub no_edge : (left right : ℕ) → Edge t left right page → ⊥

pub record Shares (t : Tables) (left right page : ℕ) : Type 0 where
  pub left_ok : left < VMS
  pub right_ok : right < VMS
  pub page_ok : page < t.setup.pages
  pub left_known : Knows t left
  pub right_known : Knows t right
  pub apart : left ≡ right → ⊥
  pub owned : Owns t left page
  -- they share it already, or there is room for a pair
  pub room : Edge t left right page ⊎ (0 < free_entries t.pairs)

pub record Unshares (t : Tables) (left right page : ℕ) : Type 0 where
  pub left_ok : left < VMS
  pub right_ok : right < VMS
  pub page_ok : page < t.setup.pages
  pub left_known : Knows t left
  pub right_known : Knows t right
  pub shared : Edge t left right page
  -- an end that does not own the page maps it no longer
  pub no_mapping : (borrower : ℕ) → (borrower ≡ left) ⊎ (borrower ≡ right) → (Owns t borrower page → ⊥) → Targets t.cpu.map borrower page → ⊥

-- ---- 7 to 10
pub record MapsPage (side : Side) (t : Tables) (vm guest page access generation : ℕ) : Type 0 where
  pub vm_ok : vm < VMS
  pub guest_ok : guest < GUEST_PAGES
  pub page_ok : page < t.setup.pages
  pub access_ok : access < ACCESSES
  pub generation_ok : generation < GENERATIONS
  pub known : Knows t vm
  pub may : MayMap side t vm page
  -- a mapping is replaced, or there is room for one more
  pub room : Mapped (route side t).map vm guest ⊎ (0 < free_entries (route side t).map)

pub record UnmapsPage (side : Side) (t : Tables) (vm guest : ℕ) : Type 0 where
  pub vm_ok : vm < VMS
  pub guest_ok : guest < GUEST_PAGES
  pub known : Knows t vm
  pub mapped : Mapped (route side t).map vm guest

-- ---- 11 to 14
-- some unit has the region's five fields and a mark that suits the side
pub record IsUnit (side : Side) (t : Tables) (region : Region) : Type 0 where
  pub place : ℕ
  pub within : place < t.setup.unit_count
  pub fields : unit_region (get_or t.setup.units place no_unit) ≡ region
  pub mark : suits (get_or t.setup.units place no_unit).mark side ≡ true

-- what insert and remove both need of a region
pub record RegionGood (side : Side) (t : Tables) (region : Region) : Type 0 where
  pub vm_ok : region.vm.0 < VMS
  pub access_ok : region.access < ACCESSES
  pub some_pages : 0 < region.count
  pub guests_ok : region.guest.0 + region.count ≤ GUEST_PAGES
  pub pages_ok : region.page.0 + region.count ≤ t.setup.pages
  pub known : Knows t region.vm.0
  pub is_unit : IsUnit side t region

-- a page that may be inserted: for CPU one of the pool and no other VM's DMA page, for DMA nobody else's and not of the span
abbrev pub Insertable : Side → Tables → ℕ → ℕ → Type 0
Insertable Cpu t vm page = InPool t page × ((other : ℕ) → other < VMS → (other ≡ vm → ⊥) → HoldsDma t other page → ⊥)
Insertable Dma t vm page = (InShared t page → ⊥) × ((side : Side) (other : ℕ) → other < VMS → (other ≡ vm → ⊥) → Claims side t other page → ⊥)

pub record Inserts (side : Side) (t : Tables) (region : Region) : Type 0 where
  pub good : RegionGood side t region
  pub pages : (k : ℕ) → k < region.count → Insertable side t region.vm.0 (region.page.0 + k)
  pub unmapped : (k : ℕ) → k < region.count → Mapped (route side t).map region.vm.0 (region.guest.0 + k) → ⊥
  pub room : region.count ≤ free_entries (route side t).map

-- the region's page is not shared, where that matters
abbrev pub Unshared : Side → Tables → ℕ → Type 0
Unshared Cpu t page = (left right : ℕ) → Edge t left right page → ⊥
Unshared Dma t page = Anything {0}

pub record Removes (side : Side) (t : Tables) (region : Region) : Type 0 where
  pub good : RegionGood side t region
  pub held : (k : ℕ) → k < region.count → Claims side t region.vm.0 (region.page.0 + k)
  -- every entry of the region stands as insert put it
  pub entries : (k : ℕ) → k < region.count → Maps (route side t).map region.vm.0 (region.guest.0 + k) (region.page.0 + k) region.access 0
  -- and is the only mapping onto its page
  pub alone : (k vm guest access generation : ℕ) → k < region.count → Maps (route side t).map vm guest (region.page.0 + k) access generation →
      (vm ≡ region.vm.0) × (guest ≡ region.guest.0 + k)
  pub no_edge : (k : ℕ) → k < region.count → Unshared side t (region.page.0 + k)

-- ---- 15 to 20
abbrev pub TargetGood : Tables → Option VmId → Type 0
TargetGood t None = Anything {0}
TargetGood t (Some vm) = (vm.0 < VMS) × Knows t vm.0

pub record GivesPort (t : Tables) (port : ℕ) (target : Option VmId) : Type 0 where
  pub port_ok : port < PORTS
  pub target_ok : TargetGood t target

pub record Fills (side : Side) (t : Tables) (port guest : ℕ) : Type 0 where
  pub port_ok : port < PORTS
  pub guest_ok : guest < GUEST_PAGES
  pub vm : ℕ
  pub vm_ok : vm < VMS
  pub runs : RunsOn side t port vm
  -- a slot is filled from the walker
  pub mapped : Mapped (route side t).walker vm guest

abbrev pub EmptiesSlot : ℕ → Type 0
EmptiesSlot slot = slot < SLOTS

-- ---- 21 to 24
pub record Accesses (side : Side) (t : Tables) (bit port guest word : ℕ) : Type 0 where
  pub port_ok : port < PORTS
  pub guest_ok : guest < GUEST_PAGES
  pub word_ok : word < PAGE_WORDS
  pub vm : ℕ
  pub page : ℕ
  pub access : ℕ
  pub generation : ℕ
  pub vm_ok : vm < VMS
  pub runs : RunsOn side t port vm
  -- an access goes through the walker: a slot holds what the walker has
  pub mapped : Maps (route side t).walker vm guest page access generation
  pub allowed : access / bit % 2 ≡ 1

-- ---- 27: whatever the VM has, if it is on no CPU and no device is bound to it
pub record Retires (t : Tables) (vm : ℕ) : Type 0 where
  pub vm_ok : vm < VMS
  pub known : Knows t vm
  pub no_port : (side : Side) (port : ℕ) → port < PORTS → RunsOn side t port vm → ⊥

-- ---- all of them
abbrev pub SideConditions : Side → Tables → SideOperation → Type 0
SideConditions side t (sided.MapPage vm guest page access generation) = MapsPage side t vm.0 guest.0 page.0 access generation
SideConditions side t (sided.UnmapPage vm guest) = UnmapsPage side t vm.0 guest.0
SideConditions side t (sided.InsertRegion region) = Inserts side t region
SideConditions side t (sided.RemoveRegion region) = Removes side t region
SideConditions side t (sided.GivePort port target) = GivesPort t port target
SideConditions side t (sided.FillSlot port guest) = Fills side t port guest.0
SideConditions side t (sided.EmptySlot slot) = EmptiesSlot slot
SideConditions side t (sided.ReadWord port guest word) = Accesses side t READ port guest.0 word
SideConditions side t (sided.WriteWord port guest word value) = Accesses side t WRITE port guest.0 word

abbrev pub Conditions : Tables → Operation → Type 0
Conditions t (op.AddVm vm) = AddsVm t vm.0
Conditions t (op.RemoveVm vm) = RemovesVm t vm.0
Conditions t (op.AssignPage vm page) = Assigns t vm.0 page.0
Conditions t (op.ReclaimPage vm page) = Reclaims t vm.0 page.0
Conditions t (op.SharePage left right page) = Shares t left.0 right.0 page.0
Conditions t (op.UnsharePage left right page) = Unshares t left.0 right.0 page.0
Conditions t (op.On side operation) = SideConditions side t operation
Conditions t op.DataBarrier = Anything {0}
Conditions t op.InstructionBarrier = Anything {0}
Conditions t (op.RetireVm vm) = Retires t vm.0

-- ---- a row: it names an operation, and the operation's conditions hold
pub record RowConditions (t : Tables) (row : List ℕ) : Type 0 where
  pub operation : Operation
  pub named : operation_in row ≡ Some operation
  pub conditions : Conditions t operation
