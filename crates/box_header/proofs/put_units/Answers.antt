use Rattle.std.proofs.Common.{arith}
use Rattle.table.specs.Loops.{sweep_next}
use Rattle.box_header.proofs.put_units.Goals as goal

pub loop-k-preserved : goal.loop-k-preserved
loop-k-preserved c =
    let e = rw c.unit_numbers.ensures at c.put_numbers.ensures in
    sweep_next _ _ _ _ _ _ c.loop-k.invariant (omega arith) e (omega arith)
