use Rattle.std.proofs.Common.{rules, sym, ◌∙◌}
use Rattle.ledger.specs.ReadyLaws.{unshare_passed}
use Rattle.ledger.proofs.sharing.unshare_page.Goals as goal

pub unshare_do-requires : goal.unshare_do-requires
unshare_do-requires c =
    let r = unshare_passed _ _ _ _ _ _ _ _ (sym c.unshare_answer.ensures ∙ c.in_ok-accepted.was) in
    let p = c.requires in
    search rules
