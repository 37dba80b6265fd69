-- `read` meets its contract: a part and zeros behind it are the part's number, which is below what so many bytes can be.
use Rattle.std.proofs.Common.{arith, refl}
use Rattle.records.specs.LibraryLaws.{read_part}
use Rattle.records.specs.LittleLaws.{little_below}
use Rattle.records.proofs.read.Goals as goal

pub returns : goal.returns
returns g c =
    let is = read_part g.row.N c.args.bytes.now c.copy_from_slice.new.self _ c.args.at c.from_le_bytes.result c.requires.width c.requires.room c.copy_from_slice.ensures.after refl c.from_le_bytes.ensures in
    let below = little_below c.args.bytes.now (λ i. omega (arith, c.type_inv.bytes i)) g.row.N c.args.at in
    (omega (arith, is), omega (arith, is, below))
