-- The model's records of what start is told and leaves, and the two headers that it gives.
use Rattle.std.specs.Prelude.{ℕ, ◌<◌, List, [], ◌≡◌, length, get_or, replicate, Result, Ok, Err}
use Rattle.numbers.specs.Limits.{PORTS, UNITS, IDLE}
use Rattle.numbers.specs.Meaning.{Answer, accept}
use Rattle.numbers.specs.declared.Refused.{Refused}
use Rattle.units.specs.Units.{no_unit}
use Rattle.model.specs.Header.{state_of, Lists}
use Rattle.model.specs.Start.{Told, Started, UNIT_NUMBERS, count_told, number_told, units_told}
use Rattle.start.specs.declared.Told as code
use Rattle.model.specs.declared.SideRegisters.{SideRegisters}
use Rattle.model.specs.declared.Registers.{Registers}
use Rattle.model.specs.declared.Machine.{Machine}

abbrev pub told : ℕ → ℕ → ℕ → List ℕ → Told
told pages shared_base shared_count units = record { pages = pages; shared_base = shared_base; shared_count = shared_count; units = units }

-- the same of what the code is told
abbrev pub told_by : code.Told → Told
told_by t = told t.pages t.shared_base t.shared_count t.units.now

-- the numbers of each unit that is told, in its place
pub record Sixes (sixes : List (List ℕ)) (numbers : List ℕ) : Type 0 where
  pub count : length sixes ≡ count_told numbers
  pub each : (k field : ℕ) → k < count_told numbers → field < UNIT_NUMBERS → get_or (get_or sixes k []) field 0 ≡ number_told numbers k field

-- as many words, all of them 0
abbrev pub zeros : List ℕ → List ℕ
zeros ws = replicate (length ws) 0

-- no VM is known, every port is idle, and replacement begins at the first slot
abbrev pub fresh_side : SideRegisters
fresh_side = record { ports = replicate PORTS IDLE; hand = 0 }

abbrev pub fresh_registers : Registers
fresh_registers = record { known = 0; cpu = fresh_side; dma = fresh_side }

-- the header of the machine that is told
abbrev pub fresh_header : Told → Machine
fresh_header t =
    record {
      fixed = record {
        pages = t.pages;
        shared_base = t.shared_base;
        shared_count = t.shared_count;
        units = units_told t.units;
        unit_count = count_told t.units;
      };
      registers = fresh_registers;
    }

-- the header of the empty machine
abbrev pub empty_header : Machine
empty_header =
    record {
      fixed = record { pages = 0; shared_base = 0; shared_count = 0; units = replicate UNITS no_unit; unit_count = 0 };
      registers = fresh_registers;
    }

-- the answer, and the header with the lists as they are left: the empty header where start is refused
abbrev pub began : Result Machine Refused → Lists → Started
began (Ok m) l = record { answer = accept 0 0; state = state_of m l }
began (Err refused) l = record { answer = Err refused; state = state_of empty_header l }

-- the same of a machine that start is lent
abbrev pub left_by : Answer → Machine → Lists → Started
left_by answer m l = record { answer = answer; state = state_of m l }
