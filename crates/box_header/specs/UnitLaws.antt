-- The units of a header: what is written of each is there, and read as the unit again.
use Rattle.std.specs.Prelude.{ℕ, zero, suc, ◌+◌, ◌*◌, ◌≤◌, ◌<◌, true, List, ◌≡◌, refl, length, get_or, drop}
use Rattle.std.proofs.Common.{⊎_elim, sym, ap, ◌∙◌, arith, lt-ltb, get_or-take, get_or-drop, ext_get_or}
use Rattle.numbers.specs.Limits.{UNITS}
use Rattle.table.specs.Scan.{repeat}
use Rattle.numbers.specs.CaseLaws.{equal}
use Rattle.units.specs.Units.{mark_number, is_mark, mark_of, no_unit}
use Rattle.units.specs.declared.Mark.{Mark}
use Rattle.units.specs.declared.Mark.TheVariants.{Cpu, Dma, Both}
use Rattle.units.specs.declared.Unit.{Unit}
use Rattle.model.specs.Sequence.{write_at}
use Rattle.model.specs.Start.{UNIT_NUMBERS, count_told, number_told, unit_told, units_from}
use Rattle.model.specs.ToldLaws.{length-units, unit_at}
use Rattle.box_header.specs.Numbers.{UNITS_AT, units_part, unit_numbers, unit_written}
use Rattle.model.specs.WriteLaws.{length-written, written_before, written_here}

-- ---- a mark's number
pub mark_again : (mark : Mark) → mark_of (mark_number mark) ≡ mark
mark_again Cpu = refl
mark_again Dma = refl
mark_again Both = refl

pub mark_good : (mark : Mark) → is_mark (mark_number mark) ≡ true
mark_good Cpu = refl
mark_good Dma = refl
mark_good Both = refl

-- ---- units written, n of them from the i-th on
module _ (units : List Unit) where
  pub length-begun : (i n : ℕ) (room : List ℕ) → length (repeat (unit_written units) i n room) ≡ length room
  length-begun i zero room = refl
  length-begun i (suc n) room = length-begun (suc i) n (unit_written units i room) ∙ length-written room (UNITS_AT + i * UNIT_NUMBERS) (unit_numbers (get_or units i no_unit))

  pub before_units : (i n : ℕ) (room : List ℕ) (j : ℕ) → j < UNITS_AT + i * UNIT_NUMBERS → get_or (repeat (unit_written units) i n room) j 0 ≡ get_or room j 0
  before_units i zero room j h = refl
  before_units i (suc n) room j h =
      before_units (suc i) n (unit_written units i room) j (omega arith) ∙ written_before room (UNITS_AT + i * UNIT_NUMBERS) (unit_numbers (get_or units i no_unit)) j h

  pub unit_here : (i n : ℕ) (room : List ℕ) (k field : ℕ) → i ≤ k → k < i + n → field < UNIT_NUMBERS → UNITS_AT + (i + n) * UNIT_NUMBERS ≤ length room →
      get_or (repeat (unit_written units) i n room) (UNITS_AT + k * UNIT_NUMBERS + field) 0 ≡ get_or (unit_numbers (get_or units k no_unit)) field 0
  unit_here i zero room k field l h b r = absurd (omega arith)
  unit_here i (suc n) room k field l h b r =
      let p = UNITS_AT + i * UNIT_NUMBERS in
      let six = unit_numbers (get_or units i no_unit) in
      ⊎_elim
      (λ e. rw e (before_units (suc i) n (write_at room p six) (p + field) (omega arith) ∙ (written_here room p six field b (omega arith) ∙ ap (λ (m : ℕ). get_or (unit_numbers (get_or units m no_unit)) field 0) (sym e))))
      (λ d. unit_here (suc i) n (write_at room p six) k field (omega arith) (omega arith) b (omega (arith, length-written room p six)))
      (equal k i)

-- ---- units read
pub number_at : (numbers : List ℕ) (k field : ℕ) → k < UNITS → field < UNIT_NUMBERS → number_told (units_part numbers) k field ≡ get_or numbers (UNITS_AT + k * UNIT_NUMBERS + field) 0
number_at numbers k field h b =
    let z : UNITS_AT + (k * UNIT_NUMBERS + field) ≡ UNITS_AT + k * UNIT_NUMBERS + field = omega arith in
    get_or-take (UNITS * UNIT_NUMBERS) (drop UNITS_AT numbers) (k * UNIT_NUMBERS + field) 0 (omega arith) ∙ rw z at (get_or-drop UNITS_AT numbers (k * UNIT_NUMBERS + field) 0)

unit_again : (numbers : List ℕ) (unit : Unit) (k : ℕ) → ((field : ℕ) → field < UNIT_NUMBERS → number_told numbers k field ≡ get_or (unit_numbers unit) field 0) → unit_told numbers k ≡ unit
unit_again numbers unit k told =
    let mark : mark_of (number_told numbers k 5) ≡ unit.mark = ap mark_of (told 5 (omega arith)) ∙ mark_again unit.mark in
    λ i.
    record {
      region = record {
        vm = record { 0 = told 0 (omega arith) i };
        guest = record { 0 = told 1 (omega arith) i };
        page = record { 0 = told 2 (omega arith) i };
        count = told 3 (omega arith) i;
        access = told 4 (omega arith) i;
      };
      mark = mark i;
    }

pub units_again : (numbers : List ℕ) (units : List Unit) (n : ℕ) → n ≤ count_told numbers → length units ≡ n →
    ((k field : ℕ) → k < n → field < UNIT_NUMBERS → number_told numbers k field ≡ get_or (unit_numbers (get_or units k no_unit)) field 0) → units_from numbers 0 n ≡ units
units_again numbers units n l h told = ext_get_or no_unit (units_from numbers 0 n) units (length-units numbers 0 n ∙ sym h) (λ k b. again k (rw (length-units numbers 0 n) at b))
  where
    again : (k : ℕ) → k < n → get_or (units_from numbers 0 n) k no_unit ≡ get_or units k no_unit
    again k b =
        let z : 0 + k ≡ k = omega arith in
        rw z at (unit_at numbers 0 n k b) ∙ rw (lt-ltb k (count_told numbers) (omega arith)) (unit_again numbers (get_or units k no_unit) k (λ field. told k field b))
