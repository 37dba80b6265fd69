use Rattle.std.proofs.Common.{subst}
use Rattle.model.specs.Entries.{valid}
use Rattle.model.specs.Header.{Lists, lists, state_of}
use Rattle.model.specs.Valid.{Valid}
use Rattle.sequence.specs.RunLaws.{row_done, row_unknown}
use Rattle.machine.proofs.entries.operation.Goals as goal

pub returns-in-Some-clause-judged : goal.returns-in-Some-clause-judged
returns-in-Some-clause-judged c =
    valid (subst (λ (l : Lists). Valid (state_of c.args.m.now l)) c.seen.ensures (c.valid.ensures.sound c.if-not-valid.false))
    (row_done (state_of c.args.m.now (lists c.args.lent.now)) c.args.row _ _ _ c.operation_in.ensures c.in-Some.is c.operate.ensures.stepped)

pub returns-in-None-clause-judged : goal.returns-in-None-clause-judged
returns-in-None-clause-judged c =
    valid (subst (λ (l : Lists). Valid (state_of c.args.m.now l)) c.seen.ensures (c.valid.ensures.sound c.if-not-valid.false))
    (rw c.refuse-in-None.ensures (row_unknown (state_of c.args.m.now (lists c.args.lent.now)) c.args.row _ c.operation_in.ensures c.in-None.is))
