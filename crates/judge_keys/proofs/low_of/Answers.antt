-- `judge_keys::low_of` meets its contract.
use borrow.Author.Rules.{rules}
use Rattle.judge_keys.specs.Keys.{low_of}
use Rattle.judge_keys.proofs.low_of.Goals as goal

pub returns : goal.returns
unfolding low_of
returns c = search rules
