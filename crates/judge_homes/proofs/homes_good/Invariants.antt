-- `judge_homes::homes_good` meets its contract: at the head of the loop the first VMs are good.
use Rattle.judge_homes.specs.ColumnLaws.{Passing}
use Rattle.judge_homes.proofs.homes_good.Given as goal

abbrev pub invariant-loop-vm : goal.invariant-loop-vm
invariant-loop-vm l = Passing l.known l.sets l.k l.vm l.held l.dma_held
