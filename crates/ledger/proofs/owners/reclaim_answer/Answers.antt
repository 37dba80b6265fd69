use Rattle.std.proofs.Common.{rules}
use Rattle.model.specs.Views.{targeted, edge_on, on_page}
use Rattle.model.specs.Ledger.{reclaim_answer}
use Rattle.ledger.proofs.owners.reclaim_answer.Goals as goal

pub returns-in_err-page_early : goal.returns-in_err-page_early
unfolding reclaim_answer
returns-in_err-page_early c = search rules

pub returns-then-not-claims : goal.returns-then-not-claims
unfolding reclaim_answer
returns-then-not-claims c = search rules

pub returns-then-any : goal.returns-then-any
unfolding reclaim_answer targeted edge_on
returns-then-any c =
    let mapped = c.any.ensures (on_page c.args.page.0) (λ w yes e. search rules) in
    let shared = c.any-2.ensures (on_page c.args.page.0) (λ w yes e. search rules) in
    search rules

pub returns : goal.returns
unfolding reclaim_answer targeted edge_on
returns c =
    let mapped = c.any.ensures (on_page c.args.page.0) (λ w yes e. search rules) in
    let shared = c.any-2.ensures (on_page c.args.page.0) (λ w yes e. search rules) in
    search rules
