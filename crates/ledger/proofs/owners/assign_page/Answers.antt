use Rattle.std.proofs.Common.{rules, sym, ◌∙◌}
use Rattle.ledger.specs.ReadyLaws.{assign_passed}
use Rattle.ledger.proofs.owners.assign_page.Goals as goal

pub assign_do-requires : goal.assign_do-requires
assign_do-requires c =
    let r = assign_passed _ _ _ _ _ (sym c.assign_answer.ensures ∙ c.in_ok-accepted.was) in
    let p = c.requires in
    search rules
