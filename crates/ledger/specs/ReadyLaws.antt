-- An operation that may be done has its numbers in range.
use Rattle.std.specs.Prelude.{ℕ, ◌<◌, not, List, ◌≡◌}
use Rattle.std.proofs.Common.{ltb-true}
use Rattle.std.proofs.lemmas.Bool.{not-false}
use Rattle.numbers.specs.Limits.{VMS}
use Rattle.numbers.specs.Meaning.{accept}
use Rattle.model.specs.EarlyLaws.{past, then_passed, VmPassed, vm_passed, PagePassed, page_passed, PairPassed, pair_passed}
use Rattle.model.specs.Ledger.{vm_early, page_early, pair_early, add_vm_answer, remove_vm_answer, assign_answer, reclaim_answer, unshare_answer}
use Rattle.model.specs.Views.{is_vm}

pub add_vm_passed : (known vm : ℕ) {dropped word : ℕ} → add_vm_answer known vm ≡ accept dropped word → vm < VMS
unfolding add_vm_answer
add_vm_passed known vm e = ltb-true vm VMS (not-false _ (past (not (is_vm vm)) _ _ _ e).0)

pub remove_vm_passed : (known : ℕ) (sets pairs cpu_map dma_map cpus devices : List ℕ) (vm : ℕ) {dropped word : ℕ} → remove_vm_answer known sets pairs cpu_map dma_map cpus devices vm ≡ accept dropped word → VmPassed known vm
unfolding remove_vm_answer
remove_vm_passed known sets pairs cpu_map dma_map cpus devices vm e = vm_passed known vm (then_passed (vm_early known vm) _ e).2

pub assign_passed : (known pages : ℕ) (sets : List ℕ) (vm page : ℕ) {dropped word : ℕ} → assign_answer known pages sets vm page ≡ accept dropped word → PagePassed known pages vm page
unfolding assign_answer
assign_passed known pages sets vm page e = page_passed known pages vm page (then_passed (page_early known pages vm page) _ e).2

pub reclaim_passed : (known pages : ℕ) (sets pairs cpu_map : List ℕ) (vm page : ℕ) {dropped word : ℕ} → reclaim_answer known pages sets pairs cpu_map vm page ≡ accept dropped word → PagePassed known pages vm page
unfolding reclaim_answer
reclaim_passed known pages sets pairs cpu_map vm page e = page_passed known pages vm page (then_passed (page_early known pages vm page) _ e).2

pub unshare_passed : (known pages : ℕ) (sets pairs cpu_map : List ℕ) (left right page : ℕ) {dropped word : ℕ} → unshare_answer known pages sets pairs cpu_map left right page ≡ accept dropped word → PairPassed known pages left right page
unfolding unshare_answer
unshare_passed known pages sets pairs cpu_map left right page e = pair_passed known pages left right page (then_passed (pair_early known pages left right page) _ e).2
