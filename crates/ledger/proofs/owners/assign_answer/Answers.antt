use Rattle.std.proofs.Common.{rules}
use Rattle.model.specs.Ledger.{assign_answer}
use Rattle.ledger.proofs.owners.assign_answer.Goals as goal

pub returns-in_err-page_early : goal.returns-in_err-page_early
unfolding assign_answer
returns-in_err-page_early c = search rules

pub returns-then-not-holds : goal.returns-then-not-holds
unfolding assign_answer
returns-then-not-holds c = search rules

pub returns-then-claimed_elsewhere : goal.returns-then-claimed_elsewhere
unfolding assign_answer
returns-then-claimed_elsewhere c = search rules

pub returns : goal.returns
unfolding assign_answer
returns c = search rules
