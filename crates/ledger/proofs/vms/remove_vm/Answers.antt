use Rattle.std.proofs.Common.{sym, ◌∙◌}
use Rattle.ledger.specs.ReadyLaws.{remove_vm_passed}
use Rattle.ledger.proofs.vms.remove_vm.Goals as goal

pub remove_vm_do-requires : goal.remove_vm_do-requires
remove_vm_do-requires c = (remove_vm_passed _ _ _ _ _ _ _ _ (sym c.remove_vm_answer.ensures ∙ c.in_ok-accepted.was)).vm_ok
