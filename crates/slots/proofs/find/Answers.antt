-- `find` meets its contract: no slot holds numbers that do not fit. Of others `find_by_key` says that a slot is found by its word's key.
use Rattle.std.proofs.Common.{ap}
use Rattle.numbers.specs.DecidesLaws.{refutes}
use Rattle.slots.specs.CallLaws.{fields_decides, unfit_nowhere}
use Rattle.slots.specs.Calls.{found}
use Rattle.slots.proofs.find.Goals as goal

pub returns-then-not-port-vm : goal.returns-then-not-port-vm
returns-then-not-port-vm c =
    let a = c.args in
    ap found (unfit_nowhere a.words.now a.port a.vm a.guest (λ i l. c.fits-words i) (refutes (fields_decides a.port a.vm a.guest) c.if-not-port-vm.true))
