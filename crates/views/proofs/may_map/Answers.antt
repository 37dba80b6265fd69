use Rattle.std.proofs.Common.{rules, ◌&&◌}
use Rattle.model.specs.Views.{may_map, shares, joins, on_page}
use Rattle.views.proofs.may_map.Goals as goal

pub returns-then-claims : goal.returns-then-claims
unfolding may_map shares
returns-then-claims c = rw (← c.claims.ensures, c.if-claims.true)

pub returns-in-Cpu : goal.returns-in-Cpu
unfolding may_map shares
returns-in-Cpu c =
    let asked = c.any.ensures (λ w. joins c.args.vm.0 w && on_page c.args.page.0 w) (λ w yes e. search rules) in
    rw (← c.claims.ensures, c.if-claims.false, c.in-Cpu.is, ← asked)

pub returns-in-Dma : goal.returns-in-Dma
unfolding may_map shares
returns-in-Dma c = rw (← c.claims.ensures, c.if-claims.false, c.in-Dma.is, ← c.holds.ensures)
