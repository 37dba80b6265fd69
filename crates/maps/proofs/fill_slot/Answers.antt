-- `maps::fill_slot` meets its contract. What the fill found is what the walker has for the VM on the port.
use Rattle.model.specs.Ports.{fill_cache, fill_hand}
use Rattle.maps.proofs.fill_slot.Goals as goal

pub fill_do-requires : goal.fill_do-requires
fill_do-requires c = (c.fill_answer.ensures.given c.in_ok-vm.was).ready

pub returns : goal.returns
unfolding fill_cache fill_hand
returns c =
    let is = c.in_ok-vm.was in
    let f = c.fill_answer.ensures.given is in
    let d = c.fill_do.ensures in
    rw (← c.fill_answer.ensures.answer, is) (record { answer = c.accept.ensures; cache = rw (← f.vm, ← f.word) d.cache; hand = rw (← f.vm) d.hand })
