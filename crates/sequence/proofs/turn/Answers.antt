use Rattle.model.specs.Header.{header_of, lists}
use Rattle.sequence.specs.Run.{progress}
use Rattle.sequence.specs.RunLaws.{turn_done, turn_unknown}
use Rattle.sequence.proofs.turn.Goals as goal

pub returns-in-Some-clause-turned : goal.returns-in-Some-clause-turned
returns-in-Some-clause-turned c =
    rw c.write_answer.ensures (turn_done c.args.rows.now c.args.k (progress (header_of c.args.fixed.now c.args.registers.now) (lists c.args.lent.now) c.args.room.now) _ _ _ c.operation_at.ensures c.in-Some.is c.step-answer.ensures.stepped)

pub returns-in-None-clause-turned : goal.returns-in-None-clause-turned
returns-in-None-clause-turned c =
    rw (c.write_answer-in-None.ensures, c.refuse.ensures) (turn_unknown c.args.rows.now c.args.k (progress (header_of c.args.fixed.now c.args.registers.now) (lists c.args.lent.now) c.args.room.now) _ c.operation_at.ensures c.in-None.is)
