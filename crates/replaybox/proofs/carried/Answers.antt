use Rattle.replay.proofs.Places.{judged_takes, judged_inside}
use Rattle.replaybox.proofs.carried.Goals as goal

pub returns : goal.returns
returns c = (judged_takes _ _ _ _ _ _ c.replay.ensures.judged, judged_inside _ _ _ _ _ _ c.replay.ensures.judged c.requires.1)
