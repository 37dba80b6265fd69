use Rattle.std.proofs.Common.{rules, sym, ◌∙◌}
use Rattle.model.specs.Effect.{apply, cleared_pages}
use Rattle.ledger.specs.ReadyLaws.{reclaim_passed}
use Rattle.ledger.proofs.owners.reclaim_page.Goals as goal

pub returns-in_err-accepted : goal.returns-in_err-accepted
unfolding apply cleared_pages
returns-in_err-accepted c = search rules

pub reclaim_do-requires : goal.reclaim_do-requires
reclaim_do-requires c =
    let r = reclaim_passed _ _ _ _ _ _ _ (sym c.reclaim_answer.ensures ∙ c.in_ok-accepted.was) in
    let p = c.requires in
    search rules
