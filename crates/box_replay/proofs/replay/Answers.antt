use Rattle.model.specs.Header.{lists}
use Rattle.numbers.specs.DecidesLaws.{refutes}
use Rattle.box_cores.specs.Boxes.{box_with}
use Rattle.box_replay.specs.GivenLaws.{replay_core, not_ready}
use Rattle.box_replay.proofs.replay.Goals as goal

pub returns-then-not-ready-clause-given : goal.returns-then-not-ready-clause-given
returns-then-not-ready-clause-given c =
    let a = c.args in
    not_ready a.cpu_slots a.dma_slots (box_with a.header.now (lists a.lent.now)) a.log.now a.place.now a.most a.answers.now a.taken.now (c.one_each.ensures.sound c.if-not-one_each.false) (refutes c.ready.ensures c.if-not-ready.true)

pub returns-clause-given : goal.returns-clause-given
returns-clause-given c =
    let a = c.args in
    replay_core a.cpu_slots a.dma_slots (box_with a.header.now (lists a.lent.now)) a.log.now a.place.now a.most a.answers.now a.taken.now (c.one_each.ensures.sound c.if-not-one_each.false) (c.ready.ensures.sound c.if-not-ready.false)
    c.machine_in-m.ensures c.replay-ran.ensures.judged c.put_changed.ensures
