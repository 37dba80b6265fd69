use Rattle.std.proofs.Common.{rules}
use Rattle.std.proofs.lemmas.Iterator.{YieldsList-from_slice}
use Rattle.model.specs.Valid.{EntryGood}
use Rattle.judge.specs.DecideLaws.{decides_all, decides_words}
use Rattle.judge.specs.Parts.{NotEmpty}
use Rattle.judge.proofs.routes.Ground.entries.Goals as goal

pub returns : goal.returns
returns c =
    let ground = c.args.self in
    let homes = ground.homes in
    decides_words _ _ _ (decides_all _ _ _ (λ w. NotEmpty w → EntryGood c.args.side homes.pages homes.known homes.sets.now ground.pairs.now w) c.all.ensures.ran (YieldsList-from_slice c.args.table.now c.iter.ensures.rest) (λ w b q k. search rules))
