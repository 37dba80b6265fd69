-- Units: what region operations may name (docs/MACHINE.md, 5).
use Rattle.std.specs.Prelude.{ℕ, Bool, true, false, ◌&&◌, List, eqb, ltb, get_or, Result, Ok, Err, ◌≡◌}
use Rattle.std.specs.Prelude.{if◌then◌else◌}
use Rattle.numbers.specs.declared.Side.{Side}
use Rattle.numbers.specs.declared.Side.TheVariants as side
use Rattle.table.specs.Scan.{any_below}
use Rattle.units.specs.declared.Mark.{Mark}
use Rattle.units.specs.declared.Mark.TheVariants.{Cpu, Dma, Both}
use Rattle.units.specs.declared.NoMark.{NoMark}
use Rattle.units.specs.declared.Unit.{Unit}
use Rattle.numbers.specs.declared.Region.{Region}

-- the paper's numbers of a mark
abbrev pub mark_number : Mark → ℕ
mark_number Cpu = 1
mark_number Dma = 2
mark_number Both = 3

abbrev pub is_mark : ℕ → Bool
is_mark n = ltb 0 n && ltb n 4

abbrev pub mark_of : ℕ → Mark
mark_of n = if eqb n 2 then Dma else if eqb n 3 then Both else Cpu

-- what reading a number as a mark gives
abbrev pub Marks : ℕ → Result Mark NoMark → Type 0
Marks n mark = mark ≡ (if is_mark n then Ok (mark_of n) else Err (record { 0 = n }))

abbrev pub suits : Mark → Side → Bool
suits Both s = true
suits Cpu side.Cpu = true
suits Cpu side.Dma = false
suits Dma side.Cpu = false
suits Dma side.Dma = true

abbrev pub same_region : Region → Region → Bool
same_region r s = eqb r.vm.0 s.vm.0 && eqb r.guest.0 s.guest.0 && eqb r.page.0 s.page.0 && eqb r.count s.count && eqb r.access s.access

-- the unit's five fields are the region's, and its mark suits the side
abbrev pub is_unit : Side → Region → Unit → Bool
is_unit s region unit = suits unit.mark s && same_region unit.region region

-- what stands past the units that start was given
abbrev pub no_unit : Unit
no_unit =
    record { region = record { vm = record { 0 = 0 }; guest = record { 0 = 0 }; page = record { 0 = 0 }; count = 0; access = 0 }; mark = Cpu }

-- any of the first n units will do, not only the first with these fields
unfoldable pub assignable : List Unit → ℕ → Side → Region → Bool
assignable units n s region = any_below (λ k. is_unit s region (get_or units k no_unit)) n
