use Rattle.std.proofs.Common.{rules, eqb}
use Rattle.model.specs.Views.{on_port}
use Rattle.model.specs.Retire.{retire_may}
use Rattle.retire.proofs.retire_may.Goals as goal

pub returns-in_err-vm_early : goal.returns-in_err-vm_early
unfolding retire_may
returns-in_err-vm_early c = search rules

pub returns-then-any : goal.returns-then-any
unfolding retire_may on_port
returns-then-any c =
    let x = c.any.ensures (eqb c.args.vm.0) (λ w yes e. search rules) in
    let y = c.any-2.ensures (eqb c.args.vm.0) (λ w yes e. search rules) in
    search rules

pub returns : goal.returns
unfolding retire_may on_port
returns c =
    let x = c.any.ensures (eqb c.args.vm.0) (λ w yes e. search rules) in
    let y = c.any-2.ensures (eqb c.args.vm.0) (λ w yes e. search rules) in
    search rules
