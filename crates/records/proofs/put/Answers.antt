-- `put` meets its contract: the first of a number's eight bytes, in the place of as many.
use Rattle.records.specs.LibraryLaws.{put_part}
use Rattle.records.proofs.put.Goals as goal

pub returns : goal.returns
returns g c =
    put_part g.row.N c.args.bytes.now c.copy_from_slice.new.self c.to_le_bytes-lowest.result c.args.at c.args.number c.requires.width c.requires.room
    c.to_le_bytes-lowest.ensures c.copy_from_slice.ensures.after
