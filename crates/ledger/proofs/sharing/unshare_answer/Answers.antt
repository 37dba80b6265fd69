use Rattle.std.proofs.Common.{rules}
use Rattle.model.specs.Views.{paired}
use Rattle.model.specs.Ledger.{unshare_answer}
use Rattle.ledger.proofs.sharing.unshare_answer.Goals as goal

pub returns-in_err-pair_early : goal.returns-in_err-pair_early
unfolding unshare_answer
returns-in_err-pair_early c = search rules

pub returns-then-is_none : goal.returns-then-is_none
unfolding unshare_answer paired
returns-then-is_none c = search rules

pub returns-then-borrower_maps : goal.returns-then-borrower_maps
unfolding unshare_answer paired
returns-then-borrower_maps c = search rules

pub returns : goal.returns
unfolding unshare_answer paired
returns c = search rules
