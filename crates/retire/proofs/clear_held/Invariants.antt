-- `retire::clear_held` meets its contract: the pages before this one are done.
use Rattle.std.proofs.Common.{◌*◌, min}
use Rattle.retire.specs.HeldLaws.{Clearing}
use Rattle.retire.proofs.clear_held.Given as goal

abbrev pub invariant-loop-block : goal.invariant-loop-block
invariant-loop-block l = Clearing l.sets l.pages l.vm.0 l.initial.memory l.memory (min (l.block * 64) l.pages)

abbrev pub invariant-loop-page : goal.invariant-loop-page
invariant-loop-page l = Clearing l.sets l.pages l.vm.0 l.fn.memory l.memory l.page
