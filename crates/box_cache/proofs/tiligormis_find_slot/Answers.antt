-- `tiligormis_find_slot` meets its contract: a search over the words that were loaded is one over the slots.
use Rattle.std.proofs.Common.{refl}
use Rattle.slots.specs.CallLaws.{find_loaded, found_or}
use Rattle.box_cache.proofs.tiligormis_find_slot.Goals as goal

pub returns : goal.returns
returns c = rw (c.unwrap_or.ensures, c.find.ensures, found_or) (find_loaded c.args.slots.now _ refl c.load-words.ensures.1 _ c.load-words.ensures.0 _ _ _)
