-- `searches::lowest_claimed` meets its contract: what it asks of each page is whether another claims it.
use Rattle.std.proofs.Common.{rules, ◌≡◌, true, false}
use Rattle.std.proofs.lemmas.Iterator.{first_from_Range}
use Rattle.model.specs.Regions.{claimed}
use Rattle.regions.specs.RegionLaws.{failing_is}
use Rattle.regions.proofs.searches.lowest_claimed.Goals as goal

pub returns : goal.returns
returns c =
    let fails = claimed c.args.side c.args.sets.now c.args.placed.region in
    failing_is fails _ _ (first_from_Range _ _ _ _ (λ k. fails k ≡ true) (λ k. fails k ≡ false) c.find.ensures.ran (λ k q e. search rules) (λ k q e. (search rules, search rules)))
