-- `write` meets its contract: a row whose fields do not fit leaves the buffer, and else length, kind and fields are the row's record.
use Rattle.std.specs.Prelude.{◌/◌, take}
use Rattle.std.proofs.Common.{sym, ◌∙◌, ap}
use native.Mathlib.Omega.{arith}
use Rattle.operation_log.specs.Kinds.{FIELD_BYTES}
use Rattle.operation_log.specs.StepLaws.{unfit, filled}
use Rattle.operation_log.proofs.write.Goals as goal

pub returns-then-not-fit : goal.returns-then-not-fit
returns-then-not-fit c =
    unfit c.args.row c.args.log.now c.args.at c.in_ok-body.body _ (sym c.body_length.ensures.length ∙ c.in_ok-body.ensures.ok_part)
    (ap (take (c.in_ok-body.body / FIELD_BYTES)) c.fields_of-all.ensures) c.fit.ensures c.if-not-fit.true

pub returns : goal.returns
returns c =
    filled c.args.row c.args.log.now c.args.at c.in_ok-body.body _ (sym c.body_length.ensures.length ∙ c.in_ok-body.ensures.ok_part)
    (ap (take (c.in_ok-body.body / FIELD_BYTES)) c.fields_of-all.ensures) _ _ _ c.fit.ensures c.if-not-fit.false (omega arith) c.put.ensures c.put-2.ensures c.put_fields.ensures
