use Prim.Native.Nat.{◌-◌}
use Rattle.table.specs.Loops.{try_next, try_yes, try_no}
use Rattle.model.specs.Views.{claims, claimed_elsewhere}
use Rattle.views.proofs.claimed_elsewhere.Goals as goal

pub returns-then-other-vm : goal.returns-then-other-vm
unfolding claimed_elsewhere
returns-then-other-vm c = try_yes _ _ _ c.loop-other.invariant c.loop-other-test.true (rw (← c.claims.ensures) c.if-other-vm.true)

pub loop-other-preserved : goal.loop-other-preserved
loop-other-preserved c = try_next _ _ _ c.loop-other.invariant c.loop-other-test.true (rw (← c.claims.ensures) c.if-other-vm.false)

pub returns : goal.returns
unfolding claimed_elsewhere
returns c = try_no _ _ _ c.loop-other.invariant c.loop-other-test.false
