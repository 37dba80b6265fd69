use Rattle.std.proofs.Common.{rules}
use Rattle.std.proofs.lemmas.Iterator.{YieldsList-from_slice}
use Rattle.numbers.specs.Limits.{IDLE}
use Rattle.judge.specs.DecideLaws.{decides_all, decides_places}
use Rattle.judge.specs.Parts.{PortGood}
use Rattle.judge.proofs.routes.ports.Goals as goal

pub returns-clause-exact : goal.returns-clause-exact
returns-clause-exact c =
    let Good : _ → Type 0 = PortGood c.args.homes.now.known in
    decides_places Good _ _ IDLE _ c.told-ports (decides_all _ _ _ Good c.all.ensures.ran (YieldsList-from_slice c.args.ports.now c.iter.ensures.rest) (λ vm b q k. search rules))
