use Rattle.std.proofs.Common.{rules, ◌&&◌}
use Rattle.model.specs.Views.{targeted, of_vm, on_page}
use Rattle.ledger.proofs.sharing.borrower_maps.Goals as goal

pub returns : goal.returns
unfolding targeted
returns c =
    let asked = c.any.ensures (λ w. of_vm c.args.vm.0 w && on_page c.args.page.0 w) (λ w yes e. search rules) in
    search rules
