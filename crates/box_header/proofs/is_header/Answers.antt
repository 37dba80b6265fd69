use Rattle.box_header.specs.PieceLaws.{header_decided}
use Rattle.box_header.proofs.is_header.Goals as goal

pub returns-then-numbers-eq-MACHINE_NUMBERS : goal.returns-then-numbers-eq-MACHINE_NUMBERS
returns-then-numbers-eq-MACHINE_NUMBERS c = rw c.any_bad_mark.ensures (header_decided c.args.numbers.now c.if-numbers-eq-MACHINE_NUMBERS.true)
