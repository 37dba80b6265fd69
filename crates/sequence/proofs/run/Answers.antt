use Rattle.sequence.specs.RunLaws.{run_next, run_end, same_join}
use Rattle.sequence.proofs.run.Goals as goal

pub loop-k-preserved : goal.loop-k-preserved
loop-k-preserved c =
    (run_next _ _ _ _ _ _ c.loop-k.invariant.0 c.loop-k-test.true c.turn.ensures.turned, same_join c.args.lent.now c.loop-k.lent c.turn.new.lent c.loop-k.invariant.1 c.turn.ensures.same)

pub returns-clause-ran : goal.returns-clause-ran
returns-clause-ran c = run_end _ _ _ _ _ c.loop-k.invariant.0 c.loop-k-test.false
