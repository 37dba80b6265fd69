-- `edits::install` meets its contract. The loop has done the pages before k.
use Rattle.std.proofs.Common.{ℕ, List}
use Rattle.numbers.specs.Packing.{key_of}
use Rattle.table.specs.Loops.{Sweeping}
use Rattle.table.specs.Table.{put}
use Rattle.model.specs.Regions.{key_in, region_entry}
use Rattle.regions.proofs.edits.install.Given as goal

abbrev pub invariant-loop-k : goal.invariant-loop-k
invariant-loop-k l = Sweeping (λ (i : ℕ) (ws : List ℕ). put key_of ws (key_in l.placed.region i) (region_entry l.placed.region i)) l.placed.region.count l.initial.map l.map l.k
