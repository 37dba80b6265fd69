use Rattle.std.proofs.Common.{◌-◌}
use Rattle.replaybox.specs.Room.{LOG_ROOM}
use Rattle.replaybox.proofs.source.Source.fill.Given as goal

abbrev pub decreases-loop-self : goal.decreases-loop-self
decreases-loop-self g l = LOG_ROOM - l.self.filled
