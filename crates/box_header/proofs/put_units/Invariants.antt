use Rattle.numbers.specs.Limits.{UNITS}
use Rattle.table.specs.Loops.{Sweeping}
use Rattle.box_header.specs.Numbers.{unit_written}
use Rattle.box_header.proofs.put_units.Given as goal

abbrev pub invariant-loop-k : goal.invariant-loop-k
invariant-loop-k l = Sweeping (unit_written l.fn.units) UNITS l.initial.numbers l.numbers l.k
