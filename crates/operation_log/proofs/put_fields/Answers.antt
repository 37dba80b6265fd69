-- `put_fields` meets its contract: a field behind those that stand there.
use Rattle.operation_log.specs.StepLaws.{field_put}
use Rattle.operation_log.proofs.put_fields.Goals as goal

pub loop-i-preserved : goal.loop-i-preserved
loop-i-preserved c = field_put _ _ _ _ _ _ c.loop-i.invariant c.loop-i-test.true c.put.ensures
