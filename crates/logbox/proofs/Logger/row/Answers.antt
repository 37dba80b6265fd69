use Rattle.std.proofs.Common.{rules, sym, ◌∙◌}
use Rattle.operation_log.specs.LogLaws.{taken_written}
use Rattle.logbox.proofs.Logger.row.Goals as goal

pub invariant_of-self-2 : goal.invariant_of-self-2
invariant_of-self-2 g c =
    let inside = (taken_written _ _ _ _ (sym c.write.ensures.0 ∙ c.in-Ok.is)).inside in
    record { fits = search (rules, inside) }
