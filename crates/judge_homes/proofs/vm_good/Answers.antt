-- `judge_homes::vm_good` meets its contract: it is the test that `vm_decides` is of.
use native.Mathlib.Omega.{arith}
use Rattle.judge_homes.specs.WordLaws.{vm_decides}
use Rattle.judge_homes.proofs.vm_good.Goals as goal

pub returns : goal.returns
returns c =
    let a = c.args in
    vm_decides a.known a.pool a.held a.dma_held a.cpu a.dma (omega arith) (omega arith) (omega arith) (omega arith) (omega arith)
