-- What the parts of a side's test give each other.
use Rattle.std.specs.Prelude.{ℕ, List}
use Rattle.numbers.specs.declared.Side.{Side}
use Rattle.table.specs.Table.{Has}
use Rattle.judge_keys.specs.Keys.{Packed, Filled}
use Rattle.model.specs.KnownLaws.{knows_below}
use Rattle.model.specs.Valid.{KnownGood, EntryGood}
use Rattle.judge.specs.Parts.{SlotPacked}

-- good entries are packed as the comparison of keys asks
pub packed : {side : Side} {pages known : ℕ} {sets pairs table : List ℕ} → KnownGood known → ((w : ℕ) → Has table w → EntryGood side pages known sets pairs w) → Packed table
unfolding Packed
packed k each w h =
    let g = each w h in
    record { port = g.port; filled = g.filled; vm = knows_below _ _ k g.vm }

pub filled : (cache : List ℕ) → ((w : ℕ) → Has cache w → SlotPacked w) → Filled cache
unfolding Filled
filled cache each w h = (each w h).filled
