use Rattle.model.specs.Entries.{valid}
use Rattle.model.specs.Start.{free}
use Rattle.machine.proofs.entries.free.Goals as goal

pub returns : goal.returns
unfolding free
returns c = valid (c.valid.ensures.sound c.if-not-valid.false) (rw (c.free_count.ensures, c.lowest_free.ensures))
