-- The header of a machine as numbers alone, the form in which it crosses to C (docs/MACHINE.md, 13).
use Rattle.std.specs.Prelude.{ℕ, ◌+◌, ◌*◌, ◌<◌, Bool, true, not, ◌&&◌, List, [], ◌∷◌, ◌++◌, ◌≡◌, eqb, ltb, length, get_or, take, drop, Option}
use Rattle.std.specs.Prelude.{if◌then◌else◌}
use Rattle.numbers.specs.Limits.{PORTS, UNITS}
use Rattle.numbers.specs.Meaning.{lowest_numbers}
use Rattle.numbers.specs.declared.PhysPage.{PhysPage}
use Rattle.table.specs.Scan.{repeat}
use Rattle.units.specs.Units.{mark_number, is_mark, no_unit}
use Rattle.units.specs.declared.Unit.{Unit}
use Rattle.model.specs.Header.{header_of, tables_of, Lists}
use Rattle.model.specs.Sequence.{write_at}
use Rattle.model.specs.Start.{UNIT_NUMBERS, number_told, units_told}
use Rattle.model.specs.State.{Tables, Setup}
use Rattle.model.specs.declared.Fixed.{Fixed}
use Rattle.model.specs.declared.Registers.{Registers}
use Rattle.model.specs.declared.Machine.{Machine}

-- ---- where its numbers stand: the setup's four, then those that operations change, then the units
abbrev pub UNIT_COUNT_AT : ℕ
UNIT_COUNT_AT = 3

abbrev pub KNOWN_AT : ℕ
KNOWN_AT = 4

abbrev pub CPU_HAND_AT : ℕ
CPU_HAND_AT = 5

abbrev pub DMA_HAND_AT : ℕ
DMA_HAND_AT = 6

abbrev pub CPUS_AT : ℕ
CPUS_AT = 7

abbrev pub DEVICES_AT : ℕ
DEVICES_AT = CPUS_AT + PORTS

abbrev pub UNITS_AT : ℕ
UNITS_AT = DEVICES_AT + PORTS

-- of a unit's numbers, its mark
abbrev pub MARK_AT : ℕ
MARK_AT = 5

abbrev pub MACHINE_NUMBERS : ℕ
MACHINE_NUMBERS = UNITS_AT + UNITS * UNIT_NUMBERS

abbrev pub part : List ℕ → ℕ → ℕ → List ℕ
part numbers at count = take count (drop at numbers)

abbrev pub units_part : List ℕ → List ℕ
units_part numbers = part numbers UNITS_AT (UNITS * UNIT_NUMBERS)

-- ---- what numbers say of a machine, whatever they are
abbrev pub fixed_of : List ℕ → Fixed
fixed_of numbers =
    record {
      pages = get_or numbers 0 0;
      shared_base = get_or numbers 1 0;
      shared_count = get_or numbers 2 0;
      units = units_told (units_part numbers);
      unit_count = get_or numbers UNIT_COUNT_AT 0;
    }

abbrev pub registers_of : List ℕ → Registers
registers_of numbers =
    record {
      known = get_or numbers KNOWN_AT 0;
      cpu = record { ports = part numbers CPUS_AT PORTS; hand = get_or numbers CPU_HAND_AT 0 };
      dma = record { ports = part numbers DEVICES_AT PORTS; hand = get_or numbers DMA_HAND_AT 0 };
    }

abbrev pub machine_of : List ℕ → Machine
machine_of numbers = header_of (fixed_of numbers) (registers_of numbers)

-- as many numbers as a header has, and a mark's number in each unit within the count
pub record HeaderGood (numbers : List ℕ) : Type 0 where
  pub whole : length numbers ≡ MACHINE_NUMBERS
  pub marks : (k : ℕ) → k < UNITS → k < get_or numbers UNIT_COUNT_AT 0 → is_mark (number_told (units_part numbers) k MARK_AT) ≡ true

-- unit k is within the count and its mark is none
abbrev pub bad_mark : List ℕ → ℕ → ℕ → Bool
bad_mark units count k = ltb k count && not (is_mark (number_told units k MARK_AT))

-- ---- what is lent with a header: the lists of tables, with memory, or none at all
abbrev pub lists_of : Tables → List ℕ → Lists
lists_of t memory =
    record {
      sets = t.sets;
      pairs = t.pairs;
      cpu_map = t.cpu.map;
      cpu_walker = t.cpu.walker;
      cpu_cache = t.cpu.cache;
      dma_map = t.dma.map;
      dma_walker = t.dma.walker;
      dma_cache = t.dma.cache;
      memory = memory;
    }

abbrev pub no_lists : Lists
no_lists = record { sets = []; pairs = []; cpu_map = []; cpu_walker = []; cpu_cache = []; dma_map = []; dma_walker = []; dma_cache = []; memory = [] }

-- ---- what an operation leaves: the numbers that it may change, written over those that were there
abbrev pub changing : Tables → List ℕ
changing t = t.known ∷ t.cpu.hand ∷ t.dma.hand ∷ (t.cpu.ports ++ t.dma.ports)

abbrev pub changed : List ℕ → Tables → List ℕ
changed numbers t = write_at numbers KNOWN_AT (changing t)

-- the same of a machine, as the code has it
abbrev pub changed_by : List ℕ → Machine → List ℕ
changed_by numbers m = changed numbers (tables_of m no_lists)

-- ---- what start leaves: all of them
abbrev pub unit_numbers : Unit → List ℕ
unit_numbers unit = unit.region.vm.0 ∷ unit.region.guest.0 ∷ unit.region.page.0 ∷ unit.region.count ∷ unit.region.access ∷ mark_number unit.mark ∷ []

abbrev pub setup_numbers : Setup → List ℕ
setup_numbers s = s.pages ∷ s.shared_base ∷ s.shared_count ∷ s.unit_count ∷ []

abbrev pub unit_written : List Unit → ℕ → List ℕ → List ℕ
unit_written units k numbers = write_at numbers (UNITS_AT + k * UNIT_NUMBERS) (unit_numbers (get_or units k no_unit))

abbrev pub begun : List ℕ → Tables → List ℕ
begun numbers t = repeat (unit_written t.setup.units) 0 UNITS (changed (write_at numbers 0 (setup_numbers t.setup)) t)

abbrev pub begun_by : List ℕ → Machine → List ℕ
begun_by numbers m = begun numbers (tables_of m no_lists)

-- ---- answers as numbers
-- numbers written over a room that has just as many places, and no other
abbrev pub answered : List ℕ → List ℕ → List ℕ
answered room numbers = if eqb (length room) (length numbers) then write_at room 0 numbers else room

-- the free query's two numbers
abbrev pub NO_PAGE : ℕ
NO_PAGE = 18446744073709551615

abbrev pub lowest_number : Option PhysPage → ℕ
lowest_number lowest = get_or (lowest_numbers lowest) 0 NO_PAGE

abbrev pub free_numbers : ℕ → Option PhysPage → List ℕ
free_numbers count lowest = count ∷ lowest_number lowest ∷ []
