-- What a program lends with a header.
use Rattle.std.specs.Prelude.{ℕ, List}
use Rattle.model.specs.Header.{Lists}
use Rattle.batch.specs.declared.Tables.{Tables}

-- the lists of the tables, and the memory's
abbrev pub lists_with : Tables → List ℕ → Lists
lists_with tables memory =
    record {
      sets = tables.sets;
      pairs = tables.pairs;
      cpu_map = tables.cpu_map;
      cpu_walker = tables.cpu_walker;
      cpu_cache = tables.cpu_cache;
      dma_map = tables.dma_map;
      dma_walker = tables.dma_walker;
      dma_cache = tables.dma_cache;
      memory = memory;
    }
