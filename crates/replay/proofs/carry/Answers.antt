use Rattle.std.proofs.Common.{rules}
use Rattle.model.specs.Header.{header_of, lists, state_of}
use Rattle.replay.specs.RunLaws.{carry_whole}
use Rattle.replay.proofs.carry.Goals as goal

pub returns-then-k-room-clause-carried : goal.returns-then-k-room-clause-carried
returns-then-k-room-clause-carried c =
    carry_whole c.args.row c.args.room.now c.args.k (state_of (header_of c.args.fixed.now c.args.registers.now) (lists c.args.lent.now)) (search rules) _ c.if-k-room.true c.turn.ensures.turned
