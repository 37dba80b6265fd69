-- `judge_keys::has_word` meets its contract.
use Rattle.judge_keys.specs.PlaceLaws.{shown_place}
use Rattle.judge_keys.proofs.has_word.Goals as goal

pub bounds-map-spot : goal.bounds-map-spot
bounds-map-spot c = shown_place _ _ _ _ c.requires (rw c.low_of.ensures.0 at c.in-Some.ensures)
