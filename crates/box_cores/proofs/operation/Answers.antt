use Rattle.box_cores.specs.CoreLaws.{operation_core}
use Rattle.box_cores.proofs.operation.Goals as goal

pub returns-clause-given : goal.returns-clause-given
returns-clause-given c =
    operation_core (c.row_ready.ensures.sound c.if-not-row_ready.false) c.machine_in-m.ensures c.eight.ensures c.operation-gave.ensures.judged c.number_of-2.ensures c.put_answer-2.ensures c.put_changed.ensures
