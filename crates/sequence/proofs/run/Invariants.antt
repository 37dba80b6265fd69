use Rattle.model.specs.Header.{header_of, lists, Same}
use Rattle.sequence.specs.Run.{progress}
use Rattle.sequence.specs.RunLaws.{Running}
use Rattle.sequence.proofs.run.Given as goal

abbrev pub invariant-loop-k : goal.invariant-loop-k
invariant-loop-k l =
    Running l.rows l.count (progress (header_of l.fixed l.initial.registers) (lists l.initial.lent) l.initial.room) (progress (header_of l.fixed l.registers) (lists l.lent) l.room) l.k
    × Same l.initial.lent l.lent
