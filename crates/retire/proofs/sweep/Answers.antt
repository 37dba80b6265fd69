use Rattle.std.proofs.Common.{rules}
use Rattle.model.specs.Retire.{goes, retire_table}
use Rattle.retire.proofs.sweep.Goals as goal

pub returns : goal.returns
unfolding retire_table
returns c =
    let swept = c.wipe.ensures (goes c.args.side c.args.sets.now c.args.vm.0) (λ w yes e. search rules) in
    record { dropped = swept.0; words = swept.1 }
