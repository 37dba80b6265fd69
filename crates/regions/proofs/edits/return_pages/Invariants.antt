-- `edits::return_pages` meets its contract. The loop has done the pages before k.
use Rattle.std.proofs.Common.{ℕ}
use Rattle.table.specs.Loops.{Sweeping}
use Rattle.model.specs.Regions.{remove_page, page_in}
use Rattle.regions.proofs.edits.return_pages.Given as goal

abbrev pub invariant-loop-k : goal.invariant-loop-k
invariant-loop-k l = Sweeping (λ (i : ℕ). remove_page l.side l.placed.region.vm.0 (page_in l.placed.region i)) l.placed.region.count l.initial.sets l.sets l.k
