use Rattle.std.proofs.Common.{rules}
use Rattle.model.specs.Retire.{retire_sets}
use Rattle.retire.proofs.give_back.Goals as goal

pub returns : goal.returns
unfolding retire_sets
returns c = search rules
