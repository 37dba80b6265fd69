use Rattle.std.proofs.Common.{refl}
use Rattle.box_cores.specs.CoreLaws.{free_core}
use Rattle.box_reads.proofs.free.Goals as goal

pub returns-in-Ok : goal.returns-in-Ok
returns-in-Ok c =
    free_core (c.free_ready.ensures.sound c.if-not-free_ready.false) c.machine_in.ensures (rw c.in-Ok.is at c.free.ensures) refl c.put_free-in-Ok.ensures

pub returns-in-Err : goal.returns-in-Err
returns-in-Err c =
    free_core (c.free_ready.ensures.sound c.if-not-free_ready.false) c.machine_in.ensures (rw c.in-Err.is at c.free.ensures) c.into-in-Err.ensures c.put_free-in-Err.ensures
