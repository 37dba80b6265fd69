use Rattle.std.proofs.Common.{rules, ◌≡◌, refl, sym, ◌∙◌, Ok, Err}
use Rattle.numbers.specs.Meaning.{Answer}
use Rattle.model.specs.Header.{lists, state_of}
use Rattle.sequence.specs.RunLaws.{sequence_refused_lem, sequence_done}
use Rattle.sequence.proofs.carry_out.Goals as goal

pub returns-in_err-answer-clause-carried : goal.returns-in_err-answer-clause-carried
returns-in_err-answer-clause-carried c =
    let e : ◌≡◌ {A = Answer} c.from_residual.result (Err c.in_err-answer.field-0.0) = search rules in
    rw e (sequence_refused_lem (state_of c.args.m.now (lists c.args.lent.now)) c.args.rows.now c.args.room.now _ c.shape.ensures c.in_err-answer.was)

pub returns-clause-carried : goal.returns-clause-carried
returns-clause-carried c =
    sequence_done (state_of c.args.m.now (lists c.args.lent.now)) c.args.rows.now c.args.room.now (Ok c.in_ok-answer.answer) (sym c.in_ok-answer.was ∙ c.shape.ensures) _ refl c.run.ensures.ran
