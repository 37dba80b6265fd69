-- `tiligormis_empty_slot` meets its contract: what the core leaves of the words that were loaded is what is left of the slots.
use Rattle.slots.specs.CallLaws.{accepted_number, empty_slots}
use Rattle.box_cache.proofs.tiligormis_empty_slot.Goals as goal

pub returns : goal.returns
returns c =
    rw c.number_of.ensures
    (empty_slots c.args.slots.now _ c.load-words.ensures _ _ _ (rw (c.is_ok.ensures.value, accepted_number) at c.store.ensures) _ c.empty-answer.ensures)
