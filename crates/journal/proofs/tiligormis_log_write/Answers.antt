use Rattle.std.proofs.Common.{sym, ◌∙◌}
use Rattle.journal.specs.GivenLaws.{wrote_none}
use Rattle.journal.proofs.tiligormis_log_write.Goals as goal

pub returns-in-Err : goal.returns-in-Err
returns-in-Err c =
    let a = c.args in
    wrote_none a.row.now a.place.now (sym c.shaped.ensures ∙ c.if-not-shaped.false) a.log.now c.eight.ensures c.write.ensures _ c.in-Err.is c.into-in-Err.ensures
