use Rattle.numbers.specs.Limits.{UNITS}
use Rattle.table.specs.Loops.{Trying}
use Rattle.box_header.specs.Numbers.{bad_mark}
use Rattle.box_header.proofs.any_bad_mark.Given as goal

abbrev pub invariant-loop-k : goal.invariant-loop-k
invariant-loop-k l = Trying (bad_mark l.units l.count) UNITS l.k
