use Rattle.table.specs.Loops.{try_next, try_yes, try_no}
use Rattle.box_header.proofs.any_bad_mark.Goals as goal

pub returns-then-k-count : goal.returns-then-k-count
returns-then-k-count c = try_yes _ _ _ c.loop-k.invariant c.loop-k-test.true (rw (← c.is_mark.ensures) c.if-k-count.true)

pub loop-k-preserved : goal.loop-k-preserved
loop-k-preserved c = try_next _ _ _ c.loop-k.invariant c.loop-k-test.true (rw (← c.is_mark.ensures) c.if-k-count.false)

pub returns : goal.returns
returns c = try_no _ _ _ c.loop-k.invariant c.loop-k-test.false
