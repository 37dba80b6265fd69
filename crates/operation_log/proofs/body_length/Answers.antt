-- `body_length` meets its contract: the list of the bodies is what the kinds' arguments come to.
use Rattle.std.specs.Prelude.{◌≡◌, true}
use native.Mathlib.Omega.{arith}
use borrow.Author.Rules.{rules}
use Rattle.operation_log.specs.Kinds.{is_kind}
use Rattle.operation_log.specs.KindLaws.{bodies, fields_most}
use Rattle.operation_log.proofs.body_length.Goals as goal

pub returns-then-kind-clause-length : goal.returns-then-kind-clause-length
returns-then-kind-clause-length c = let known : is_kind c.args.kind ≡ true = search rules in rw (known, bodies c.args.kind known)

pub returns-then-kind-clause-most : goal.returns-then-kind-clause-most
returns-then-kind-clause-most c = let known : is_kind c.args.kind ≡ true = search rules in omega (arith, bodies c.args.kind known, fields_most c.args.kind known)
