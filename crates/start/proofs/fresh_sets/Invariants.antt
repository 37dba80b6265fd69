use Rattle.table.specs.Loops.{Sweeping}
use Rattle.model.specs.Start.{first_home}
use Rattle.start.proofs.fresh_sets.Given as goal

abbrev pub invariant-loop-page : goal.invariant-loop-page
invariant-loop-page l = Sweeping (first_home l.told.shared_base l.told.shared_count) l.told.pages l.initial.sets l.sets l.page
