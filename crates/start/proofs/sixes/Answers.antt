use Rattle.start.specs.StartLaws.{sixes_told}
use Rattle.start.proofs.sixes.Goals as goal

pub returns : goal.returns
returns c = sixes_told _ _ c.as_chunks.ensures.front c.as_chunks.ensures.front_len
