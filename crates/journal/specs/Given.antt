-- What the two functions over a log give (docs/MACHINE.md, 14): writing a number, the log and the place; reading a number, the place
-- and the row. A row has eight numbers and a place one; where one has another length the number is 1, and nothing is written.
use Rattle.std.specs.Prelude.{ℕ, Bool, ◌&&◌, Some, None, Result, Ok, Err, List, [], ◌∷◌, eqb, length, get_or, replicate}
use Rattle.std.specs.Prelude.{if◌then◌else◌}
use Rattle.numbers.specs.Limits.{ROW_NUMBERS}
use Rattle.numbers.specs.Meaning.{refusal_number}
use Rattle.numbers.specs.declared.Refusal.TheVariants.{StateNotValid}
use Rattle.operation_log.specs.Log.{log_refusal_number, Read, record_at, written_at, written}
use Rattle.operation_log.specs.declared.LogRefusal.{LogRefusal}

-- a row and a place of their lengths
abbrev pub shaped : List ℕ → List ℕ → Bool
shaped row place = eqb (length row) ROW_NUMBERS && eqb (length place) 1

-- ---- writing a row's record
pub record LogGiven : Type 0 where
  pub number : ℕ
  pub log : List ℕ
  pub place : List ℕ

abbrev pub log_given : ℕ → List ℕ → List ℕ → LogGiven
log_given number log place = record { number = number; log = log; place = place }

-- the record in the log and the place after it, or why not, with both as they were
abbrev pub wrote_by : Result ℕ LogRefusal → List ℕ → List ℕ → List ℕ → LogGiven
wrote_by (Ok next) row log place = log_given 0 (written row log (get_or place 0 0)) (next ∷ [])
wrote_by (Err why) row log place = log_given (log_refusal_number why) log place

abbrev pub log_written : List ℕ → List ℕ → List ℕ → LogGiven
log_written row log place =
    if shaped row place then wrote_by (written_at row (length log) (get_or place 0 0)) row log place
    else log_given (refusal_number StateNotValid) log place

-- ---- reading a record's row
pub record RowGiven : Type 0 where
  pub number : ℕ
  pub place : List ℕ
  pub row : List ℕ

abbrev pub row_given : ℕ → List ℕ → List ℕ → RowGiven
row_given number place row = record { number = number; place = place; row = row }

-- a record's row and the place after it; at the end zeros and the same place; or why not, with both as they were
abbrev pub read_by : Read → List ℕ → List ℕ → RowGiven
read_by (Ok (Some taken)) place row = row_given 0 (taken.next ∷ []) taken.row
read_by (Ok None) place row = row_given 0 place (replicate ROW_NUMBERS 0)
read_by (Err why) place row = row_given (log_refusal_number why) place row

abbrev pub log_read : List ℕ → List ℕ → List ℕ → RowGiven
log_read log place row =
    if shaped row place then read_by (record_at log (get_or place 0 0)) place row
    else row_given (refusal_number StateNotValid) place row
