use Rattle.std.proofs.Common.{rules}
use Rattle.model.specs.Views.{joins}
use Rattle.model.specs.Retire.{retire_pairs}
use Rattle.retire.proofs.drop_pairs.Goals as goal

pub returns : goal.returns
unfolding retire_pairs
returns c = (c.wipe.ensures (joins c.args.vm.0) (λ w yes e. search rules)).1
