use Rattle.std.specs.Prelude.{◌≡◌, Some, None, Ok}
use Rattle.std.proofs.Common.{arith}
use Rattle.operation_log.specs.Log.{Read}
use Rattle.sequence.specs.RunLaws.{same_join}
use Rattle.replay.specs.RunLaws.{replay_next, replay_end, replay_out, replay_unread}
use Rattle.replay.proofs.run.Goals as goal

pub returns-in-Ok-None-clause-ran : goal.returns-in-Ok-None-clause-ran
returns-in-Ok-None-clause-ran c =
    let e : ◌≡◌ {A = Read} c.next.result (Ok None) = rw c.in-Ok-None.field-0-is at c.in-Ok-None.is in
    rw (c.next.ensures.2, e) (replay_out _ _ c.loop-taken.invariant.0 c.loop-taken-test.true (rw c.loop-taken.invariant.1 at c.next.ensures.0) e)

pub returns-in-Err-clause-ran : goal.returns-in-Err-clause-ran
returns-in-Err-clause-ran c =
    rw (c.next.ensures.2, c.in-Err.is) (replay_unread _ _ c.loop-taken.invariant.0 c.loop-taken-test.true (rw c.loop-taken.invariant.1 at c.next.ensures.0) c.in-Err.is)

pub loop-taken-preserved : goal.loop-taken-preserved
loop-taken-preserved c =
    let e : ◌≡◌ {A = Read} c.next.result (Ok (Some c.in-Ok-Some.record)) = rw c.in-Ok-Some.field-0-is at c.in-Ok-Some.is in (
      rw (c.next.ensures.2, e) (replay_next _ _ c.loop-taken.invariant.0 c.loop-taken-test.true (rw c.loop-taken.invariant.1 at c.next.ensures.0) _ e c.carry.ensures.carried),
      rw c.next.ensures.1 c.loop-taken.invariant.1,
      same_join c.args.lent.now c.loop-taken.lent c.carry.new.lent c.loop-taken.invariant.2 c.carry.ensures.same,
    )

pub returns-clause-ran : goal.returns-clause-ran
returns-clause-ran c =
    let z : c.loop-taken.taken ≡ c.args.most = omega (arith, c.loop-taken.invariant.0.within, c.loop-taken-test.false) in
    rw z at (replay_end _ c.loop-taken.invariant.0 c.loop-taken-test.false)
