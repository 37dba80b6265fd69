use Rattle.model.specs.Header.{lists}
use Rattle.operate.specs.ArmLaws.{add_vm_step, remove_vm_step, assign_step, reclaim_step, share_step, unshare_step, cpu_step, dma_step, data_barrier_step, instruction_barrier_step, retire_step}
use Rattle.operate.proofs.step.Goals as goal

pub returns-in-AddVm-clause-stepped : goal.returns-in-AddVm-clause-stepped
returns-in-AddVm-clause-stepped c =
    rw (c.in-AddVm.is, c.add_vm.ensures.known, c.add_vm.ensures.answer) (add_vm_step c.args.fixed.now c.args.registers.now (lists c.args.lent.now) _)

pub returns-in-RemoveVm-clause-stepped : goal.returns-in-RemoveVm-clause-stepped
returns-in-RemoveVm-clause-stepped c =
    rw (c.in-RemoveVm.is, c.remove_vm.ensures.known, c.remove_vm.ensures.answer) (remove_vm_step c.args.fixed.now c.args.registers.now (lists c.args.lent.now) _)

pub returns-in-AssignPage-clause-stepped : goal.returns-in-AssignPage-clause-stepped
returns-in-AssignPage-clause-stepped c =
    rw (c.in-AssignPage.is, c.assign_page.ensures.sets, c.assign_page.ensures.answer) (assign_step c.args.fixed.now c.args.registers.now (lists c.args.lent.now) _ _)

pub returns-in-ReclaimPage-clause-stepped : goal.returns-in-ReclaimPage-clause-stepped
returns-in-ReclaimPage-clause-stepped c =
    rw (c.in-ReclaimPage.is, c.reclaim_page.ensures.sets, c.reclaim_page.ensures.memory, c.reclaim_page.ensures.answer) (reclaim_step c.args.fixed.now c.args.registers.now (lists c.args.lent.now) _ _)

pub returns-in-SharePage-clause-stepped : goal.returns-in-SharePage-clause-stepped
returns-in-SharePage-clause-stepped c =
    rw (c.in-SharePage.is, c.share_page.ensures.pairs, c.share_page.ensures.answer) (share_step c.args.fixed.now c.args.registers.now (lists c.args.lent.now) _ _ _)

pub returns-in-UnsharePage-clause-stepped : goal.returns-in-UnsharePage-clause-stepped
returns-in-UnsharePage-clause-stepped c =
    rw (c.in-UnsharePage.is, c.unshare_page.ensures.pairs, c.unshare_page.ensures.answer) (unshare_step c.args.fixed.now c.args.registers.now (lists c.args.lent.now) _ _ _)

pub returns-in-Cpu-clause-stepped : goal.returns-in-Cpu-clause-stepped
returns-in-Cpu-clause-stepped c =
    rw (c.in-On.is, c.in-Cpu.is) (cpu_step c.args.fixed.now c.args.registers.now (lists c.args.lent.now) _ (rw c.in-Cpu.is at c.unit_for-unit.ensures) c.side_step.ensures)

pub returns-in-Dma-clause-stepped : goal.returns-in-Dma-clause-stepped
returns-in-Dma-clause-stepped c =
    rw (c.in-On.is, c.in-Dma.is) (dma_step c.args.fixed.now c.args.registers.now (lists c.args.lent.now) _ (rw c.in-Dma.is at c.unit_for-unit.ensures) c.side_step-in-Dma.ensures)

pub returns-in-DataBarrier-clause-stepped : goal.returns-in-DataBarrier-clause-stepped
returns-in-DataBarrier-clause-stepped c =
    rw (c.in-DataBarrier.is, c.accept.ensures) (data_barrier_step c.args.fixed.now c.args.registers.now (lists c.args.lent.now))

pub returns-in-InstructionBarrier-clause-stepped : goal.returns-in-InstructionBarrier-clause-stepped
returns-in-InstructionBarrier-clause-stepped c =
    rw (c.in-InstructionBarrier.is, c.accept-in-InstructionBarrier.ensures) (instruction_barrier_step c.args.fixed.now c.args.registers.now (lists c.args.lent.now))

pub returns-in-RetireVm-clause-stepped : goal.returns-in-RetireVm-clause-stepped
returns-in-RetireVm-clause-stepped c =
    rw c.in-RetireVm.is (retire_step c.args.fixed.now c.args.registers.now (lists c.args.lent.now) _ c.retire_vm.ensures.left)
