use Rattle.std.proofs.Common.{sym, ◌∙◌}
use Rattle.ledger.specs.ReadyLaws.{add_vm_passed}
use Rattle.ledger.proofs.vms.add_vm.Goals as goal

pub add_vm_do-requires : goal.add_vm_do-requires
add_vm_do-requires c = add_vm_passed _ _ (sym c.add_vm_answer.ensures ∙ c.in_ok-accepted.was)
