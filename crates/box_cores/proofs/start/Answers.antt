use Rattle.box_cores.specs.CoreLaws.{start_core, short_core}
use Rattle.numbers.specs.DecidesLaws.{refutes}
use Rattle.box_cores.proofs.start.Goals as goal

pub returns-then-not-whole-clause-given : goal.returns-then-not-whole-clause-given
returns-then-not-whole-clause-given c =
    short_core c.if-header-ne-MACHINE_NUMBERS.false (refutes c.whole.ensures c.if-not-whole.true) c.empty_machine.ensures c.into-then-not-whole.ensures c.put_machine.ensures

pub returns-in-Err-clause-given : goal.returns-in-Err-clause-given
returns-in-Err-clause-given c =
    start_core c.if-header-ne-MACHINE_NUMBERS.false (c.whole.ensures.sound c.if-not-whole.false) c.in-Err.ensures.begun c.into-in-Err.ensures (rw c.empty_machine-in-Err.ensures at c.put_machine-in-Err.ensures)
