use Rattle.judge.specs.Sharing.{Marking}
use Rattle.judge.proofs.homes.Homes.pairs.Given as goal

abbrev pub invariant-loop-w : goal.invariant-loop-w
invariant-loop-w l = Marking l.self.pages l.self.known l.self.sets.now l.pairs l.lent l.w-index
