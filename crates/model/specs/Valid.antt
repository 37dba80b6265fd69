-- A valid state (docs/MACHINE.md, 4): groups of rules, each over the tables that it names, in the order of the manual.
use Rattle.std.specs.Prelude.{ℕ, ◌+◌, ◌*◌, ◌^◌, ◌≤◌, ◌<◌, true, false, List, ◌⊎◌, ◌≡◌, length, get_or}
use Rattle.numbers.specs.Limits.{PAGES, PAGE_WORDS, VMS, PORTS, ENTRIES, PAIRS, SLOTS, UNITS, ACCESSES, SETS, SET_WORDS, IDLE}
use Rattle.numbers.specs.Packing.{port_of, vm_of, guest_of, entry_of, filled_of, page_of, access_of, generation_of, left_of, right_of, key_of, address_of, pair_key_of, map_word}
use Rattle.numbers.specs.declared.Side.{Side}
use Rattle.numbers.specs.declared.Side.TheVariants.{Cpu, Dma}
use Rattle.table.specs.Table.{Has, Distinct, lookup}
use Rattle.pages.specs.Rows.{holds, pool_row, shared_row, cpu_row}
use Rattle.units.specs.Spans.{region_span}
use Rattle.units.specs.Units.{no_unit}
use Rattle.units.specs.declared.Unit.{Unit}
use Rattle.model.specs.State.{Tables, Route, Setup, State}
use Rattle.model.specs.Views.{knows, in_pool, in_shared, owns, holds_dma, may_map}
use Rattle.model.specs.Start.{unit_region, in_span}

-- ---- 1: lengths
pub record RouteLengths (r : Route) : Type 0 where
  pub map : length r.map ≡ ENTRIES
  pub walker : length r.walker ≡ ENTRIES
  pub cache : length r.cache ≡ SLOTS
  pub ports : length r.ports ≡ PORTS

pub record Lengths (t : Tables) : Type 0 where
  pub units : length t.setup.units ≡ UNITS
  pub sets : length t.sets ≡ SETS * SET_WORDS
  pub pairs : length t.pairs ≡ PAIRS
  pub cpu : RouteLengths t.cpu
  pub dma : RouteLengths t.dma

-- ---- 2: what start accepts: pages, shared span, units
pub record UnitGood (pages : ℕ) (unit : Unit) : Type 0 where
  pub vm : unit.region.vm.0 < VMS
  pub access : unit.region.access < ACCESSES
  pub span : region_span (unit_region unit) pages ≡ true

pub record SetupGood (s : Setup) : Type 0 where
  pub some_pages : 0 < s.pages
  pub most_pages : s.pages ≤ PAGES
  pub shared : s.shared_base + s.shared_count ≤ s.pages
  pub unit_count : s.unit_count ≤ UNITS
  pub units : (k : ℕ) → k < s.unit_count → UnitGood s.pages (get_or s.units k no_unit)

-- ---- 3: known VMs
-- no id at VMS or above is known
abbrev pub KnownGood : ℕ → Type 0
KnownGood known = known < 2 ^ VMS

-- ---- 4: page sets
-- the rows of which each page is in exactly one: the pool, the shared span, or a VM's CPU pages
pub data Home : ℕ → Type 0 where
  pool : Home pool_row
  shared : Home shared_row
  cpu : (vm : ℕ) → vm < VMS → Home (cpu_row vm)

pub record PagesGood (pages base count known : ℕ) (sets : List ℕ) : Type 0 where
  -- no page bit at N or above
  pub inside : (row page : ℕ) → row < SETS → page < PAGES → pages ≤ page → holds sets row page ≡ false
  -- the shared row is the span
  pub span : (page : ℕ) → page < pages → in_shared sets page ≡ in_span base count page
  -- every page in exactly one home
  pub some_home : (page : ℕ) → page < pages → (row : ℕ) × (Home row × (holds sets row page ≡ true))
  pub one_home : (row row' page : ℕ) → Home row → Home row' → page < pages → holds sets row page ≡ true → holds sets row' page ≡ true → row ≡ row'
  -- at most one VM holds a page for DMA, and that VM owns it or the pool has it
  pub one_dma : (vm vm' page : ℕ) → vm < VMS → vm' < VMS → page < pages → holds_dma sets vm page ≡ true → holds_dma sets vm' page ≡ true → vm ≡ vm'
  pub dma_home : (vm page : ℕ) → vm < VMS → page < pages → holds_dma sets vm page ≡ true → (owns sets vm page ≡ true) ⊎ (in_pool sets page ≡ true)
  -- what holds a page is a known VM
  pub cpu_known : (vm page : ℕ) → vm < VMS → page < pages → owns sets vm page ≡ true → knows known vm ≡ true
  pub dma_known : (vm page : ℕ) → vm < VMS → page < pages → holds_dma sets vm page ≡ true → knows known vm ≡ true

-- ---- 5: sharing pairs
-- a word that packs a pair of two different known VMs on a page that one of them owns
pub record PairGood (pages known : ℕ) (sets : List ℕ) (w : ℕ) : Type 0 where
  pub port : port_of w ≡ 0
  pub filled : filled_of w ≡ 1
  pub access : access_of w ≡ 0
  pub generation : generation_of w ≡ 0
  pub page : page_of w < pages
  pub apart : left_of w ≡ right_of w → ⊥
  pub left : knows known (left_of w) ≡ true
  pub right : knows known (right_of w) ≡ true
  pub owned : (owns sets (left_of w) (page_of w) ≡ true) ⊎ (owns sets (right_of w) (page_of w) ≡ true)

pub record PairsGood (pages known : ℕ) (sets pairs : List ℕ) : Type 0 where
  pub each : (w : ℕ) → Has pairs w → PairGood pages known sets w
  -- a pair stands once, whichever end it names first
  pub once : Distinct pair_key_of pairs

-- ---- 6: a side's maps, stated once for a table and asked of software and walker
-- a word that packs an entry of a known VM onto a page that it may map
pub record EntryGood (side : Side) (pages known : ℕ) (sets pairs : List ℕ) (w : ℕ) : Type 0 where
  pub port : port_of w ≡ 0
  pub filled : filled_of w ≡ 1
  pub page : page_of w < pages
  pub vm : knows known (vm_of w) ≡ true
  pub may : may_map side sets pairs (vm_of w) (page_of w) ≡ true

pub record MapGood (side : Side) (pages known : ℕ) (sets pairs table : List ℕ) : Type 0 where
  pub each : (w : ℕ) → Has table w → EntryGood side pages known sets pairs w
  pub once : Distinct key_of table

-- equal as maps, in whatever order
unfoldable pub SameMap : List ℕ → List ℕ → Type 0
SameMap map walker = (k : ℕ) → 0 < k → lookup key_of map k ≡ lookup key_of walker k

-- ---- 7: a side's cache
-- a slot of a port that holds what the walker has for the slot's VM and guest page
pub record SlotGood (walker : List ℕ) (w : ℕ) : Type 0 where
  pub port : port_of w < PORTS
  pub filled : filled_of w ≡ 1
  pub entry : lookup key_of walker (address_of w) ≡ map_word (vm_of w) (guest_of w) (entry_of w)

pub record CacheGood (walker cache : List ℕ) : Type 0 where
  pub each : (w : ℕ) → Has cache w → SlotGood walker w
  pub once : Distinct key_of cache

-- ---- 8: a side's ports and hand
-- every CPU and device is idle or runs a known VM
abbrev pub PortsGood : ℕ → List ℕ → Type 0
PortsGood known ports = (port : ℕ) → port < PORTS → (get_or ports port IDLE ≡ IDLE) ⊎ (knows known (get_or ports port IDLE) ≡ true)

-- ---- a side: 6 to 8
pub record RouteGood (side : Side) (pages known : ℕ) (sets pairs : List ℕ) (r : Route) : Type 0 where
  pub map : MapGood side pages known sets pairs r.map
  pub walker : MapGood side pages known sets pairs r.walker
  pub same : SameMap r.map r.walker
  pub cache : CacheGood r.walker r.cache
  pub ports : PortsGood known r.ports
  pub hand : r.hand < SLOTS

pub record ValidTables (t : Tables) : Type 0 where
  pub lengths : Lengths t
  pub setup : SetupGood t.setup
  pub known : KnownGood t.known
  pub pages : PagesGood t.setup.pages t.setup.shared_base t.setup.shared_count t.known t.sets
  pub pairs : PairsGood t.setup.pages t.known t.sets t.pairs
  pub cpu : RouteGood Cpu t.setup.pages t.known t.sets t.pairs t.cpu
  pub dma : RouteGood Dma t.setup.pages t.known t.sets t.pairs t.dma

-- ---- all of it, with 9: memory
pub record Valid (s : State) : Type 0 where
  pub tables : ValidTables s.tables
  pub memory : length s.memory ≡ PAGE_WORDS * s.tables.setup.pages
