use mathlib.Core.Path.{sym, ◌∙◌}
use Rattle.model.specs.Views.{may_map}
use Rattle.judge.proofs.routes.Ground.may_map.Goals as goal

pub returns-then-claims : goal.returns-then-claims
unfolding may_map
returns-then-claims c = rw (← c.claims.ensures, c.if-claims.true)

pub returns-in-Cpu : goal.returns-in-Cpu
unfolding may_map
returns-in-Cpu c =
    let n = rw c.in-Cpu.is at (sym c.claims.ensures ∙ c.if-claims.false) in
    rw (← c.claims.ensures, c.if-claims.false, c.in-Cpu.is) (c.holds.ensures ∙ c.args.self.now.lends.shared _ _ c.requires.1 n)

pub returns-in-Dma : goal.returns-in-Dma
unfolding may_map
returns-in-Dma c = rw (← c.claims.ensures, c.if-claims.false, c.in-Dma.is, ← c.holds-in-Dma.ensures)
