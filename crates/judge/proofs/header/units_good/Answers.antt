use Rattle.std.proofs.Common.{rules, arith, take, length-take, get_or-take}
use Rattle.std.proofs.lemmas.Iterator.{YieldsList-from_slice}
use Rattle.numbers.specs.DecidesLaws.{decides_as}
use Rattle.units.specs.Units.{no_unit}
use Rattle.model.specs.Valid.{UnitGood}
use Rattle.judge.specs.DecideLaws.{decides_all, decides_places}
use Rattle.judge.proofs.header.units_good.Goals as goal

pub returns-clause-exact : goal.returns-clause-exact
returns-clause-exact c =
    let n = c.args.count in
    let units = c.args.units.now in
    let Good : _ → Type 0 = UnitGood c.args.pages in
    decides_as
    (decides_places Good (take n units) n no_unit _ (simp length-take (omega arith)) (decides_all _ _ _ Good c.all.ensures.ran (YieldsList-from_slice _ c.iter.ensures.rest) (λ unit b q k. search rules)))
    (λ each k l. rw (get_or-take n units k no_unit l) at (each k l))
    (λ each k l. rw (get_or-take n units k no_unit l) (each k l))
