use Rattle.std.proofs.Common.{rules}
use Rattle.model.specs.Ledger.{add_vm_answer}
use Rattle.ledger.proofs.vms.add_vm_answer.Goals as goal

pub returns-then-not-vm : goal.returns-then-not-vm
unfolding add_vm_answer
returns-then-not-vm c = search rules

pub returns-then-knows : goal.returns-then-knows
unfolding add_vm_answer
returns-then-knows c = search rules

pub returns : goal.returns
unfolding add_vm_answer
returns c = search rules
