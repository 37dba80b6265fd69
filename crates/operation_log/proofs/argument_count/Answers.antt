-- `argument_count` meets its contract: what is no kind has no arguments, and a kind has a field for each, or two.
use mathlib.Core.Path.{sym, ◌∙◌}
use Rattle.operation_log.specs.KindLaws.{body_none, no_arguments}
use borrow.Author.Rules.{rules}
use Rattle.operation_log.proofs.argument_count.Goals as goal

pub returns-in_default : goal.returns-in_default
returns-in_default c = (sym (no_arguments c.args.kind (body_none c.args.kind (sym c.body_length.ensures.length ∙ c.in_default.is))), search rules)
