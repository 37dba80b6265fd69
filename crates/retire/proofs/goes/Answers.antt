use Rattle.std.proofs.Common.{rules}
use Rattle.model.specs.Retire.{goes}
use Rattle.retire.proofs.goes.Goals as goal

pub returns-then-vm_of-vm : goal.returns-then-vm_of-vm
unfolding goes
returns-then-vm_of-vm c = search rules

pub returns-else-vm_of-vm : goal.returns-else-vm_of-vm
unfolding goes
returns-else-vm_of-vm c = search rules

pub returns-else-filled_of-eq1 : goal.returns-else-filled_of-eq1
unfolding goes
returns-else-filled_of-eq1 c = search rules
