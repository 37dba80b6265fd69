use Rattle.std.proofs.Common.{rules}
use Rattle.std.proofs.lemmas.Iterator.{YieldsList-from_slice}
use Rattle.judge.specs.DecideLaws.{decides_all, decides_words}
use Rattle.judge.specs.Parts.{NotEmpty, SlotPacked}
use Rattle.judge.proofs.routes.slots.Goals as goal

pub returns : goal.returns
returns c =
    decides_words _ _ _ (decides_all _ _ _ (λ w. NotEmpty w → SlotPacked w) c.all.ensures.ran (YieldsList-from_slice c.args.cache.now c.iter.ensures.rest) (λ w b q k. search rules))
