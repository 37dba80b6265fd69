use Rattle.std.proofs.Common.{arith}
use Rattle.numbers.specs.Limits.{UNITS}
use Rattle.start.specs.StartLaws.{write_start, write_end}
use Rattle.start.proofs.units_told.Goals as goal

pub loop-k-init : goal.loop-k-init
loop-k-init c = rw c.no_unit-all.ensures (write_start _ UNITS)

pub returns : goal.returns
returns c = write_end _ _ _ _ c.loop-k.invariant (omega arith)
