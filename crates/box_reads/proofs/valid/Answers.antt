use Rattle.box_cores.specs.CoreLaws.{valid_core}
use Rattle.box_reads.proofs.valid.Goals as goal

pub returns-then-ready : goal.returns-then-ready
returns-then-ready c = valid_core (c.ready.ensures.sound c.if-ready.true) c.machine_in.ensures c.valid.ensures
