-- `maps::unmap_page` meets its contract. An unmap that may be done has its numbers in range.
use Rattle.std.proofs.Common.{sym, ◌∙◌}
use Rattle.maps.specs.PortLaws.{unmap_ready}
use Rattle.maps.proofs.unmap_page.Goals as goal

pub unmap_do-requires : goal.unmap_do-requires
unmap_do-requires c = unmap_ready _ _ _ _ (sym c.unmap_may.ensures ∙ c.in_ok-unmap_may.was)
