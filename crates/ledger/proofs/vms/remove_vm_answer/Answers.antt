use Rattle.std.proofs.Common.{rules, ℕ, Bool, eqb}
use Rattle.model.specs.Views.{edge_of, has_mappings, on_port, of_vm, joins}
use Rattle.model.specs.Ledger.{remove_vm_answer}
use Rattle.ledger.proofs.vms.remove_vm_answer.Goals as goal

pub returns-in_err-vm_early : goal.returns-in_err-vm_early
unfolding remove_vm_answer
returns-in_err-vm_early c = search rules

pub returns-then-busy : goal.returns-then-busy
unfolding remove_vm_answer has_mappings edge_of on_port
returns-then-busy c =
    let of : ℕ → Bool = of_vm c.args.vm.0 in
    let a = c.any.ensures of (λ w yes e. search rules) in
    let b = c.any-2.ensures of (λ w yes e. search rules) in
    let p = c.any-3.ensures (joins c.args.vm.0) (λ w yes e. search rules) in
    let x = c.any-4.ensures (eqb c.args.vm.0) (λ w yes e. search rules) in
    let y = c.any-5.ensures (eqb c.args.vm.0) (λ w yes e. search rules) in
    search rules

pub returns : goal.returns
unfolding remove_vm_answer has_mappings edge_of on_port
returns c =
    let of : ℕ → Bool = of_vm c.args.vm.0 in
    let a = c.any.ensures of (λ w yes e. search rules) in
    let b = c.any-2.ensures of (λ w yes e. search rules) in
    let p = c.any-3.ensures (joins c.args.vm.0) (λ w yes e. search rules) in
    let x = c.any-4.ensures (eqb c.args.vm.0) (λ w yes e. search rules) in
    let y = c.any-5.ensures (eqb c.args.vm.0) (λ w yes e. search rules) in
    search rules
