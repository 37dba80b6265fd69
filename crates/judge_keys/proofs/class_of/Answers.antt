-- `judge_keys::class_of` meets its contract.
use borrow.Author.Rules.{rules}
use Rattle.judge_keys.specs.Keys.{class_of}
use Rattle.judge_keys.proofs.class_of.Goals as goal

pub returns : goal.returns
unfolding class_of
returns c = search rules
