use Rattle.model.specs.Views.{knows}
use Rattle.views.proofs.knows.Goals as goal

pub returns : goal.returns
unfolding knows
returns c = c.has_bit.ensures
