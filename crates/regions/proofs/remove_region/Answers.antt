-- `regions::remove_region` meets its contract. Where the answer accepts, the deed is ready.
use Rattle.regions.specs.RegionLaws.{remove_ready}
use Rattle.regions.proofs.remove_region.Goals as goal

pub remove_do-requires : goal.remove_do-requires
remove_do-requires c = remove_ready _ _ _ _ _ _ _ _ _ c.requires c.remove_may.ensures c.in_ok-remove_may.was
