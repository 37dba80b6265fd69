-- The state of the machine (docs/MACHINE.md, 3): tables, of which CPU and DMA have a route each, and memory.
-- Lists of words stand for lent slices; the tables never depend on memory.
use Rattle.std.specs.Prelude.{ℕ, List}
use Rattle.numbers.specs.declared.Side.{Side}
use Rattle.numbers.specs.declared.Side.TheVariants.{Cpu, Dma}
use Rattle.units.specs.declared.Unit.{Unit}

-- one side's way from a port to memory: the software map, the walker's map, the cache, its replacement hand, and the VM
-- on each CPU or device
pub record Route : Type 0 where
  pub map : List ℕ
  pub walker : List ℕ
  pub cache : List ℕ
  pub hand : ℕ
  pub ports : List ℕ

-- what start fixes for good
pub record Setup : Type 0 where
  pub pages : ℕ
  pub shared_base : ℕ
  pub shared_count : ℕ
  pub units : List Unit
  pub unit_count : ℕ

pub record Tables : Type 0 where
  pub setup : Setup
  -- a bit for each known VM
  pub known : ℕ
  -- rows of page bits
  pub sets : List ℕ
  pub pairs : List ℕ
  pub cpu : Route
  pub dma : Route

pub record State : Type 0 where
  pub tables : Tables
  pub memory : List ℕ

-- ---- a part read, and a part replaced
abbrev pub route : Side → Tables → Route
route Cpu t = t.cpu
route Dma t = t.dma

-- all that operations may replace; a field that none does stands here alone
abbrev pub replaced : Tables → ℕ → List ℕ → List ℕ → Route → Route → Tables
replaced t known sets pairs cpu dma = record { setup = t.setup; known = known; sets = sets; pairs = pairs; cpu = cpu; dma = dma }

-- what an operation of one side replaces: the side's route and the page sets
abbrev pub with_side : Side → Tables → Route → List ℕ → Tables
with_side Cpu t r sets = replaced t t.known sets t.pairs r t.dma
with_side Dma t r sets = replaced t t.known sets t.pairs t.cpu r

abbrev pub with_route : Side → Tables → Route → Tables
with_route side t r = with_side side t r t.sets

abbrev pub with_known : Tables → ℕ → Tables
with_known t known = replaced t known t.sets t.pairs t.cpu t.dma

abbrev pub with_sets : Tables → List ℕ → Tables
with_sets t sets = replaced t t.known sets t.pairs t.cpu t.dma

abbrev pub with_pairs : Tables → List ℕ → Tables
with_pairs t pairs = replaced t t.known t.sets pairs t.cpu t.dma

-- the same edit of both maps, and the cache that it leaves
abbrev pub with_maps : Route → List ℕ → List ℕ → List ℕ → Route
with_maps r map walker cache = record { map = map; walker = walker; cache = cache; hand = r.hand; ports = r.ports }

abbrev pub with_cache : Route → List ℕ → ℕ → Route
with_cache r cache hand = record { map = r.map; walker = r.walker; cache = cache; hand = hand; ports = r.ports }

abbrev pub with_ports : Route → List ℕ → Route
with_ports r ports = record { map = r.map; walker = r.walker; cache = r.cache; hand = r.hand; ports = ports }
