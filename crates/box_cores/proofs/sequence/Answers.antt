use Rattle.box_cores.specs.CoreLaws.{sequence_core}
use Rattle.box_cores.proofs.sequence.Goals as goal

pub returns-clause-given : goal.returns-clause-given
returns-clause-given c =
    sequence_core c.args.rows.now
    (c.ready.ensures.sound c.if-not-ready.false) c.machine_in-m.ensures c.sequence-gave.ensures.judged c.number_of.ensures c.put_changed.ensures
