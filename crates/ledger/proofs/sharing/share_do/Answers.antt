use Rattle.std.proofs.Common.{rules, sym, ◌∙◌}
use Rattle.ledger.specs.RoomLaws.{share_within, share_at}
use Rattle.ledger.proofs.sharing.share_do.Goals as goal

pub offset_bounds-pairs-spot : goal.offset_bounds-pairs-spot
offset_bounds-pairs-spot c =
    let within = share_within _ _ _ _ _ (sym c.requires.spot ∙ c.in-Some.is) in
    search rules

pub bounds-pairs-spot : goal.bounds-pairs-spot
bounds-pairs-spot c = share_within _ _ _ _ _ (sym c.requires.spot ∙ c.in-Some.is)

pub returns-in-Some : goal.returns-in-Some
returns-in-Some c = search (rules, share_at)

pub returns-in_default : goal.returns-in_default
returns-in_default c = search (rules, share_at)
