use Rattle.start.specs.StartLaws.{home_next}
use Rattle.start.proofs.fresh_sets.Goals as goal

pub loop-page-preserved : goal.loop-page-preserved
loop-page-preserved c = home_next _ _ _ _ _ _ _ c.loop-page.invariant c.loop-page-test.true c.first_home.ensures
