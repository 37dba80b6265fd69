-- `edits::clear_pages` meets its contract. The loop has cleared what is to be cleared of the pages before k.
use Rattle.regions.specs.RegionLaws.{Clearing}
use Rattle.regions.proofs.edits.clear_pages.Given as goal

abbrev pub invariant-loop-k : goal.invariant-loop-k
invariant-loop-k l = Clearing l.side l.sets l.placed.region l.initial.memory l.memory l.k
