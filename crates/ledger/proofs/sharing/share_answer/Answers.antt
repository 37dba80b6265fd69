use Rattle.std.proofs.Common.{rules, sym, ◌∙◌}
use Rattle.model.specs.EarlyLaws.{pair_passed}
use Rattle.model.specs.Views.{paired}
use Rattle.model.specs.Ledger.{share_answer}
use Rattle.ledger.specs.Parts.{share_place}
use Rattle.ledger.specs.RoomLaws.{room_free}
use Rattle.ledger.proofs.sharing.share_answer.Goals as goal

pub returns-in_err-pair_early : goal.returns-in_err-pair_early
unfolding share_answer
returns-in_err-pair_early c = search rules

pub returns-then-left-right : goal.returns-then-left-right
unfolding share_answer
returns-then-left-right c = search rules

pub returns-then-not-claims : goal.returns-then-not-claims
unfolding share_answer
returns-then-not-claims c = search rules

pub returns-then-is_some : goal.returns-then-is_some
unfolding share_answer share_place paired
returns-then-is_some c =
    let a = c.args in
    let passed = pair_passed a.known a.pages a.left.0 a.right.0 a.page.0 (sym c.pair_early.ensures ∙ c.in_ok-pair_early.was) in
    let few = c.requires.0 in
    search rules

pub returns-in-Some : goal.returns-in-Some
unfolding share_answer share_place paired
returns-in-Some c =
    let a = c.args in
    let passed = pair_passed a.known a.pages a.left.0 a.right.0 a.page.0 (sym c.pair_early.ensures ∙ c.in_ok-pair_early.was) in
    let few = c.requires.0 in
    search (rules, room_free)

pub returns-in-None : goal.returns-in-None
unfolding share_answer paired
returns-in-None c = search (rules, room_free)
