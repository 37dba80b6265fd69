-- What is written of a machine is read again: the laws by which numbers alone carry a state.
use Rattle.std.specs.Prelude.{ℕ, suc, ◌+◌, ◌*◌, ◌≤◌, ◌<◌, List, ◌≡◌, refl, length, get_or, take, drop}
use Rattle.std.proofs.Common.{sym, ap, ◌∙◌, arith, length-append, length-drop, length-take-le, get_or-take, get_or-drop, get_or-append-add, ext_get_or}
use Rattle.std.proofs.Math.ListN.{get_or-append}
use Rattle.std.proofs.lemmas.List.{set-get_or}
use Rattle.numbers.specs.Limits.{PORTS, UNITS}
use Rattle.units.specs.Units.{is_mark, no_unit}
use Rattle.model.specs.Header.{setup_of, tables_of, state_of, Lists}
use Rattle.model.specs.Sequence.{write_at}
use Rattle.model.specs.Start.{UNIT_NUMBERS, number_told, units_told, units_from}
use Rattle.model.specs.State.{Tables, State}
use Rattle.box_header.specs.Numbers.{UNIT_COUNT_AT, KNOWN_AT, CPUS_AT, DEVICES_AT, UNITS_AT, MACHINE_NUMBERS, part, units_part, fixed_of, machine_of, HeaderGood, lists_of, changing, changed, unit_numbers, setup_numbers, begun}
use Rattle.box_header.specs.PieceLaws.{three_writes}
use Rattle.box_header.specs.UnitLaws.{mark_good, length-begun, before_units, unit_here, number_at, units_again}
use Rattle.model.specs.WriteLaws.{length-written, written_before, written_here}
use Rattle.box_header.specs.PutLaws.{drop-written, written_same}

-- ---- parts
part_is : (numbers : List ℕ) (at n : ℕ) (ns : List ℕ) → at + n ≤ length numbers → length ns ≡ n → ((j : ℕ) → j < n → get_or numbers (at + j) 0 ≡ get_or ns j 0) → part numbers at n ≡ ns
part_is numbers at n ns l h same = ext_get_or 0 (part numbers at n) ns (long ∙ sym h) (λ j b. each j (rw long at b))
  where
    long : length (part numbers at n) ≡ n
    long = length-take-le n (drop at numbers) (omega (arith, length-drop at numbers))

    each : (j : ℕ) → j < n → get_or (part numbers at n) j 0 ≡ get_or ns j 0
    each j b = get_or-take n (drop at numbers) j 0 b ∙ (get_or-drop at numbers j 0 ∙ same j b)

-- ---- a header after an operation
pub changed_length : (numbers : List ℕ) (t : Tables) → length (changed numbers t) ≡ length numbers
changed_length numbers t = length-written numbers KNOWN_AT (changing t)

-- what is written back unchanged changes nothing
pub changed_same : (numbers : List ℕ) → length numbers ≡ MACHINE_NUMBERS → (l : Lists) → changed numbers (tables_of (machine_of numbers) l) ≡ numbers
changed_same numbers whole l =
    sym (three_writes numbers (tables_of (machine_of numbers) l) (ports CPUS_AT (omega arith)))
    ∙ rw (set-get_or numbers 4 0, set-get_or numbers 5 0, set-get_or numbers 6 0, rewritten CPUS_AT (omega arith)) (rewritten DEVICES_AT (omega arith))
  where
    ports : (at : ℕ) → at + PORTS ≤ MACHINE_NUMBERS → length (part numbers at PORTS) ≡ PORTS
    ports at h = length-take-le PORTS (drop at numbers) (omega (arith, length-drop at numbers))

    rewritten : (at : ℕ) → at + PORTS ≤ MACHINE_NUMBERS → write_at numbers at (part numbers at PORTS) ≡ numbers
    rewritten at h =
        written_same numbers at (part numbers at PORTS)
        (λ j b. sym (get_or-take PORTS (drop at numbers) j 0 (rw (ports at h) at b) ∙ get_or-drop at numbers j 0))

module _ (numbers : List ℕ) (t : Tables) (whole : length numbers ≡ MACHINE_NUMBERS) (cpus : length t.cpu.ports ≡ PORTS) (devices : length t.dma.ports ≡ PORTS) where
  ends : KNOWN_AT + length (changing t) ≡ UNITS_AT
  ends = omega (arith, length-append t.cpu.ports t.dma.ports)

  units_kept : units_part (changed numbers t) ≡ units_part numbers
  units_kept = ap (take (UNITS * UNIT_NUMBERS)) (drop-written numbers KNOWN_AT (changing t) UNITS_AT (omega (arith, ends)))

  -- numbers that are those of a changed header as far as the units
  module _ (now : List ℕ) (long : length now ≡ MACHINE_NUMBERS) (same : (j : ℕ) → j < UNITS_AT → get_or now j 0 ≡ get_or (changed numbers t) j 0) where
    change_at_lem : (j : ℕ) → j < length (changing t) → get_or now (KNOWN_AT + j) 0 ≡ get_or (changing t) j 0
    change_at_lem j h = same (KNOWN_AT + j) (omega (arith, ends)) ∙ written_here numbers KNOWN_AT (changing t) j h (omega (arith, ends))

    cpus_are : part now CPUS_AT PORTS ≡ t.cpu.ports
    cpus_are = part_is now CPUS_AT PORTS t.cpu.ports (omega arith) cpus each
      where
        each : (j : ℕ) → j < PORTS → get_or now (CPUS_AT + j) 0 ≡ get_or t.cpu.ports j 0
        each j b =
            let z : KNOWN_AT + suc (suc (suc j)) ≡ CPUS_AT + j = omega arith in
            rw z at (change_at_lem (suc (suc (suc j))) (omega (arith, ends))) ∙ get_or-append t.cpu.ports t.dma.ports 0 j (omega arith)

    devices_are : part now DEVICES_AT PORTS ≡ t.dma.ports
    devices_are = part_is now DEVICES_AT PORTS t.dma.ports (omega arith) devices each
      where
        each : (j : ℕ) → j < PORTS → get_or now (DEVICES_AT + j) 0 ≡ get_or t.dma.ports j 0
        each j b =
            let z : KNOWN_AT + suc (suc (suc (length t.cpu.ports + j))) ≡ DEVICES_AT + j = omega arith in
            rw z at (change_at_lem (suc (suc (suc (length t.cpu.ports + j)))) (omega (arith, ends))) ∙ get_or-append-add t.cpu.ports t.dma.ports j 0

    tables_are : (memory : List ℕ) → setup_of (fixed_of now) ≡ t.setup → tables_of (machine_of now) (lists_of t memory) ≡ t
    tables_are memory setup =
        λ i.
        record {
          setup = setup i;
          known = change_at_lem 0 (omega arith) i;
          sets = t.sets;
          pairs = t.pairs;
          cpu = record { map = t.cpu.map; walker = t.cpu.walker; cache = t.cpu.cache; hand = change_at_lem 1 (omega arith) i; ports = cpus_are i };
          dma = record { map = t.dma.map; walker = t.dma.walker; cache = t.dma.cache; hand = change_at_lem 2 (omega arith) i; ports = devices_are i };
        }

pub changed_good : (numbers : List ℕ) (t : Tables) → HeaderGood numbers → length t.cpu.ports ≡ PORTS → length t.dma.ports ≡ PORTS → HeaderGood (changed numbers t)
changed_good numbers t good cpus devices =
    record {
      whole = changed_length numbers t ∙ good.whole;
      marks = λ k h b.
          ap (λ (units : List ℕ). is_mark (number_told units k 5)) (units_kept numbers t good.whole cpus devices)
          ∙ good.marks k h (rw (written_before numbers KNOWN_AT (changing t) UNIT_COUNT_AT (omega arith)) at b);
    }

pub state_changed : (numbers : List ℕ) (s : State) → length numbers ≡ MACHINE_NUMBERS → length s.tables.cpu.ports ≡ PORTS → length s.tables.dma.ports ≡ PORTS → s.tables.setup ≡ setup_of (fixed_of numbers) →
    state_of (machine_of (changed numbers s.tables)) (lists_of s.tables s.memory) ≡ s
state_changed numbers s whole cpus devices setup =
    let t = s.tables in
    let before : (j : ℕ) → j < KNOWN_AT → get_or (changed numbers t) j 0 ≡ get_or numbers j 0 = written_before numbers KNOWN_AT (changing t) in
    let kept : setup_of (fixed_of (changed numbers t)) ≡ setup_of (fixed_of numbers) =
    λ i.
    record {
      pages = before 0 (omega arith) i;
      shared_base = before 1 (omega arith) i;
      shared_count = before 2 (omega arith) i;
      units = units_told (units_kept numbers t whole cpus devices i);
      unit_count = before UNIT_COUNT_AT (omega arith) i;
    } in
    let tables = tables_are numbers t whole cpus devices (changed numbers t) (changed_length numbers t ∙ whole) (λ j b. refl) s.memory (kept ∙ sym setup) in
    λ i. record { tables = tables i; memory = s.memory }

-- ---- a header after start
module _ (numbers : List ℕ) (s : State) (whole : length numbers ≡ MACHINE_NUMBERS) (all : length s.tables.setup.units ≡ UNITS) (cpus : length s.tables.cpu.ports ≡ PORTS) (devices : length s.tables.dma.ports ≡ PORTS) where
  abbrev four : List ℕ
  four = setup_numbers s.tables.setup

  abbrev room : List ℕ
  room = changed (write_at numbers 0 four) s.tables

  whole_room : length room ≡ MACHINE_NUMBERS
  whole_room = changed_length (write_at numbers 0 four) s.tables ∙ (length-written numbers 0 four ∙ whole)

  long : length (begun numbers s.tables) ≡ MACHINE_NUMBERS
  long = length-begun s.tables.setup.units 0 UNITS room ∙ whole_room

  same : (j : ℕ) → j < UNITS_AT → get_or (begun numbers s.tables) j 0 ≡ get_or room j 0
  same j h = before_units s.tables.setup.units 0 UNITS room j (omega arith)

  setup_at : (j : ℕ) → j < KNOWN_AT → get_or (begun numbers s.tables) j 0 ≡ get_or four j 0
  setup_at j h =
      let z : 0 + j ≡ j = omega arith in
      same j (omega arith) ∙ (written_before (write_at numbers 0 four) KNOWN_AT (changing s.tables) j h ∙ rw z at (written_here numbers 0 four j h (omega arith)))

  unit_told_lem : (k field : ℕ) → k < UNITS → field < UNIT_NUMBERS → number_told (units_part (begun numbers s.tables)) k field ≡ get_or (unit_numbers (get_or s.tables.setup.units k no_unit)) field 0
  unit_told_lem k field h b = number_at (begun numbers s.tables) k field h b ∙ unit_here s.tables.setup.units 0 UNITS room k field (omega arith) (omega arith) b (omega (arith, whole_room))

  pub begun_good : HeaderGood (begun numbers s.tables)
  begun_good = record { whole = long; marks = λ k h b. ap is_mark (unit_told_lem k 5 h (omega arith)) ∙ mark_good (get_or s.tables.setup.units k no_unit).mark }

  units_long : length (units_part (begun numbers s.tables)) ≡ UNITS * UNIT_NUMBERS
  units_long = length-take-le (UNITS * UNIT_NUMBERS) (drop UNITS_AT (begun numbers s.tables)) (omega (arith, length-drop UNITS_AT (begun numbers s.tables), long))

  units_are : units_from (units_part (begun numbers s.tables)) 0 UNITS ≡ s.tables.setup.units
  units_are = units_again (units_part (begun numbers s.tables)) s.tables.setup.units UNITS (rw units_long (omega arith)) all unit_told_lem

  pub state_begun : state_of (machine_of (begun numbers s.tables)) (lists_of s.tables s.memory) ≡ s
  state_begun =
      let setup : setup_of (fixed_of (begun numbers s.tables)) ≡ s.tables.setup =
      λ i.
      record {
        pages = setup_at 0 (omega arith) i;
        shared_base = setup_at 1 (omega arith) i;
        shared_count = setup_at 2 (omega arith) i;
        units = units_are i;
        unit_count = setup_at UNIT_COUNT_AT (omega arith) i;
      } in
      let tables = tables_are (write_at numbers 0 four) s.tables (length-written numbers 0 four ∙ whole) cpus devices (begun numbers s.tables) long same s.memory setup in
      λ i. record { tables = tables i; memory = s.memory }
