use Rattle.numbers.specs.Limits.{UNITS}
use Rattle.start.specs.StartLaws.{Writing}
use Rattle.start.proofs.units_told.Given as goal

abbrev pub invariant-loop-k : goal.invariant-loop-k
invariant-loop-k l = Writing l.units UNITS l.all l.k
