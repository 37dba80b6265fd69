use Rattle.std.proofs.Common.{rules, ◌∙◌, ◌≡◌, length}
use Rattle.numbers.specs.Limits.{PORTS}
use Rattle.model.specs.Header.{tables_of}
use Rattle.box_header.specs.Numbers.{no_lists}
use Rattle.box_header.specs.PieceLaws.{three_writes}
use Rattle.box_header.proofs.put_changed.Goals as goal

pub returns : goal.returns
returns c =
    let m = c.args.m.now in
    let l : length m.registers.cpu.ports ≡ PORTS = search rules in
    c.put_numbers-3.ensures ∙ rw (c.put_numbers-2.ensures, c.put_numbers.ensures) (three_writes c.args.numbers.now (tables_of m no_lists) l)
