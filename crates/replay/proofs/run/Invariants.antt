use Rattle.std.specs.Prelude.{◌≡◌}
use Rattle.model.specs.Header.{header_of, lists, Same, state_of}
use Rattle.sequence.specs.Run.{progress}
use Rattle.replay.specs.Replay.{set_out}
use Rattle.replay.specs.Run.{course_of}
use Rattle.replay.specs.RunLaws.{Replaying}
use Rattle.replay.proofs.run.Given as goal

abbrev pub invariant-loop-taken : goal.invariant-loop-taken
invariant-loop-taken l =
    Replaying l.most l.log (set_out (state_of (header_of l.fixed l.initial.registers) (lists l.initial.lent)) l.initial.room l.place)
    (course_of (progress (header_of l.fixed l.registers) (lists l.lent) l.room) l.taken l.reader.at)
    × (l.reader.log.now ≡ l.log)
    × Same l.initial.lent l.lent
