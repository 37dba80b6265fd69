-- The header and the lent lists together are the tables (docs/MACHINE.md, 3): each of them in its place, none twice.
use Rattle.std.specs.Prelude.{ℕ, List, ◌≡◌}
use Rattle.std.specs.Borrow.{Bor, MutBor}
use Rattle.model.specs.State.{Tables, Setup, Route, State}
use Rattle.model.specs.declared.Fixed.{Fixed}
use Rattle.model.specs.declared.SideRegisters.{SideRegisters}
use Rattle.model.specs.declared.Registers.{Registers}
use Rattle.model.specs.declared.Machine.{Machine}
use Rattle.model.specs.declared.Lent.{Lent}

-- what start fixed and what operations may change, together
abbrev pub header_of : Fixed → Registers → Machine
header_of fixed registers = record { fixed = fixed; registers = registers }

abbrev pub setup_of : Fixed → Setup
setup_of fixed =
    record {
      pages = fixed.pages;
      shared_base = fixed.shared_base;
      shared_count = fixed.shared_count;
      units = fixed.units;
      unit_count = fixed.unit_count;
    }

-- a side's registers with the lists of that side
abbrev pub route_of : SideRegisters → List ℕ → List ℕ → List ℕ → Route
route_of r map walker cache = record { map = map; walker = walker; cache = cache; hand = r.hand; ports = r.ports }

-- ---- what is lent
-- a list for each slice
abbrev pub Lists : Type 0
Lists = Lent (List ℕ)

-- the lists behind slices that are lent to be changed, and to be read
abbrev pub lists : Lent (MutBor (List ℕ)) → Lists
lists l =
    record {
      sets = l.sets.now;
      pairs = l.pairs.now;
      cpu_map = l.cpu_map.now;
      cpu_walker = l.cpu_walker.now;
      cpu_cache = l.cpu_cache.now;
      dma_map = l.dma_map.now;
      dma_walker = l.dma_walker.now;
      dma_cache = l.dma_cache.now;
      memory = l.memory.now;
    }

abbrev pub seen_lists : Lent (Bor (List ℕ)) → Lists
seen_lists l =
    record {
      sets = l.sets.now;
      pairs = l.pairs.now;
      cpu_map = l.cpu_map.now;
      cpu_walker = l.cpu_walker.now;
      cpu_cache = l.cpu_cache.now;
      dma_map = l.dma_map.now;
      dma_walker = l.dma_walker.now;
      dma_cache = l.dma_cache.now;
      memory = l.memory.now;
    }

-- each slice is the one that was lent: what is written through it reaches its owner
abbrev pub Same : Lent (MutBor (List ℕ)) → Lent (MutBor (List ℕ)) → Type 0
Same old new =
    (new.sets.ghost_name ≡ old.sets.ghost_name)
    × (new.pairs.ghost_name ≡ old.pairs.ghost_name)
    × (new.cpu_map.ghost_name ≡ old.cpu_map.ghost_name)
    × (new.cpu_walker.ghost_name ≡ old.cpu_walker.ghost_name)
    × (new.cpu_cache.ghost_name ≡ old.cpu_cache.ghost_name)
    × (new.dma_map.ghost_name ≡ old.dma_map.ghost_name)
    × (new.dma_walker.ghost_name ≡ old.dma_walker.ghost_name)
    × (new.dma_cache.ghost_name ≡ old.dma_cache.ghost_name)
    × (new.memory.ghost_name ≡ old.memory.ghost_name)

-- ---- the header with what is lent
abbrev pub tables_of : Machine → Lists → Tables
tables_of m l =
    record {
      setup = setup_of m.fixed;
      known = m.registers.known;
      sets = l.sets;
      pairs = l.pairs;
      cpu = route_of m.registers.cpu l.cpu_map l.cpu_walker l.cpu_cache;
      dma = route_of m.registers.dma l.dma_map l.dma_walker l.dma_cache;
    }

abbrev pub state_of : Machine → Lists → State
state_of m l = record { tables = tables_of m l; memory = l.memory }
