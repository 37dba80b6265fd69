use Rattle.std.proofs.Common.{rules, ℕ, ◌<◌, List, ◌≡◌, sym, ◌∙◌}
use Rattle.numbers.specs.Limits.{VMS}
use Rattle.numbers.specs.Meaning.{accept}
use Rattle.model.specs.EarlyLaws.{vm_passed, then_passed}
use Rattle.model.specs.Ledger.{vm_early}
use Rattle.model.specs.Retire.{retire_may, retire_answer}
use Rattle.retire.proofs.retire_vm.Goals as goal

-- a VM that may be retired is in range
in_range : (known : ℕ) (cpus devices : List ℕ) (vm : ℕ) {dropped word : ℕ} → retire_may known cpus devices vm ≡ accept dropped word → vm < VMS
unfolding retire_may
in_range known cpus devices vm e = (vm_passed known vm (then_passed (vm_early known vm) _ e).2).vm_ok

pub returns-in_err-retire_may-clause-left : goal.returns-in_err-retire_may-clause-left
unfolding retire_answer
returns-in_err-retire_may-clause-left c = search rules

pub retire_do-dropped-requires : goal.retire_do-dropped-requires
retire_do-dropped-requires c =
    let vm = in_range _ _ _ _ (sym c.retire_may.ensures ∙ c.in_ok-retire_may.was) in
    let p = c.requires in
    search rules

pub remove_vm_do-requires : goal.remove_vm_do-requires
remove_vm_do-requires c = in_range _ _ _ _ (sym c.retire_may.ensures ∙ c.in_ok-retire_may.was)

pub returns-clause-left : goal.returns-clause-left
unfolding retire_answer
returns-clause-left c = search rules
