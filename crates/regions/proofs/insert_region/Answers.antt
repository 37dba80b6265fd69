-- `regions::insert_region` meets its contract. Where the answer accepts, the deed is ready.
use Rattle.regions.specs.RegionLaws.{insert_ready}
use Rattle.regions.proofs.insert_region.Goals as goal

pub insert_do-requires : goal.insert_do-requires
insert_do-requires c = insert_ready _ _ _ _ _ _ _ c.requires c.insert_answer.ensures c.in_ok-accepted.was
