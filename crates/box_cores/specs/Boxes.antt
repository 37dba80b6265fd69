-- A box: a machine header as numbers, and all that is lent with it (docs/MACHINE.md, 13). A cache is of one form or another: words
-- in the cores, slot records at the entries.
use Rattle.std.specs.Prelude.{ℕ, List}
use Rattle.model.specs.Header.{state_of, Lists}
use Rattle.model.specs.State.{State}
use Rattle.model.specs.Valid.{Valid}
use Rattle.box_header.specs.Numbers.{machine_of, HeaderGood, changed, begun}

pub record Box (C : Type 0) : Type 0 where
  pub header : List ℕ
  pub sets : List ℕ
  pub pairs : List ℕ
  pub cpu_map : List ℕ
  pub cpu_walker : List ℕ
  pub cpu_cache : C
  pub dma_map : List ℕ
  pub dma_walker : List ℕ
  pub dma_cache : C
  pub memory : List ℕ

abbrev pub box : {C : Type 0} → List ℕ → List ℕ → List ℕ → List ℕ → List ℕ → C → List ℕ → List ℕ → C → List ℕ → Box C
box header sets pairs cpu_map cpu_walker cpu_cache dma_map dma_walker dma_cache memory =
    record {
      header = header;
      sets = sets;
      pairs = pairs;
      cpu_map = cpu_map;
      cpu_walker = cpu_walker;
      cpu_cache = cpu_cache;
      dma_map = dma_map;
      dma_walker = dma_walker;
      dma_cache = dma_cache;
      memory = memory;
    }

-- a box whose caches are words, from its header and what is lent with it
abbrev pub box_with : List ℕ → Lists → Box (List ℕ)
box_with header l = box header l.sets l.pairs l.cpu_map l.cpu_walker l.cpu_cache l.dma_map l.dma_walker l.dma_cache l.memory

abbrev pub with_header : {C : Type 0} → Box C → List ℕ → Box C
with_header b header = box header b.sets b.pairs b.cpu_map b.cpu_walker b.cpu_cache b.dma_map b.dma_walker b.dma_cache b.memory

-- ---- what is lent in a box, and its state, by the words of its caches
abbrev pub lent_in : {C : Type 0} → (C → List ℕ) → Box C → Lists
lent_in words_of b =
    record {
      sets = b.sets;
      pairs = b.pairs;
      cpu_map = b.cpu_map;
      cpu_walker = b.cpu_walker;
      cpu_cache = words_of b.cpu_cache;
      dma_map = b.dma_map;
      dma_walker = b.dma_walker;
      dma_cache = words_of b.dma_cache;
      memory = b.memory;
    }

abbrev pub state_in : {C : Type 0} → (C → List ℕ) → Box C → State
state_in words_of b = state_of (machine_of b.header) (lent_in words_of b)

pub record BoxValid {C : Type 0} (words_of : C → List ℕ) (b : Box C) : Type 0 where
  pub header : HeaderGood b.header
  pub state : Valid (state_in words_of b)

-- ---- the box of a state, under a header that is given
abbrev pub box_of : {C : Type 0} → (List ℕ → C) → List ℕ → State → Box C
box_of cacheOf header s =
    box header s.tables.sets s.tables.pairs s.tables.cpu.map s.tables.cpu.walker (cacheOf s.tables.cpu.cache) s.tables.dma.map s.tables.dma.walker (cacheOf s.tables.dma.cache) s.memory

-- what an operation leaves of a box: the new state, in the header the numbers that it may change
abbrev pub left_in : {C : Type 0} → (List ℕ → C) → Box C → State → Box C
left_in cacheOf b s = box_of cacheOf (changed b.header s.tables) s

-- what start makes of it: the new state, in the header all numbers
abbrev pub begun_in : {C : Type 0} → (List ℕ → C) → Box C → State → Box C
begun_in cacheOf b s = box_of cacheOf (begun b.header s.tables) s
