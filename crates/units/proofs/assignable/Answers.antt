use mathlib.Core.Path.{sym, ◌∙◌}
use Rattle.table.specs.Loops.{try_next, try_yes, try_no}
use Rattle.units.specs.Units.{assignable}
use Rattle.units.proofs.assignable.Goals as goal

pub returns-then-is_unit : goal.returns-then-is_unit
unfolding assignable
returns-then-is_unit c = try_yes _ _ _ c.loop-k.invariant c.loop-k-test.true (sym c.is_unit.ensures ∙ c.if-is_unit.true)

pub loop-k-preserved : goal.loop-k-preserved
loop-k-preserved c = try_next _ _ _ c.loop-k.invariant c.loop-k-test.true (sym c.is_unit.ensures ∙ c.if-is_unit.false)

pub returns : goal.returns
unfolding assignable
returns c = try_no _ _ _ c.loop-k.invariant c.loop-k-test.false
