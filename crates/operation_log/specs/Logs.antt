-- What is said of whole logs: the rows that a log can hold and what of them it holds, the log of many rows, and reading one record
-- after the other.
use Prim.{Unit}
use Rattle.std.specs.Prelude.{ℕ, zero, suc, true, Some, None, Ok, Err, List, [], ◌∷◌, ◌++◌, ◌≡◌, ltb}
use Rattle.std.specs.Prelude.{if◌then◌else◌}
use Rattle.operation_log.specs.Kinds.{is_kind, argument_count}
use Rattle.operation_log.specs.Log.{kind_of, argument, fits, record_of, Read, record_at}
use Rattle.operation_log.specs.declared.LogRefusal.{LogRefusal}
use Rattle.operation_log.specs.declared.Taken.{Taken}

-- ---- one row
-- what a record holds of a row: the kind, its arguments, and 0 past them
abbrev pub used : List ℕ → ℕ → ℕ
used row k = if ltb k (argument_count (kind_of row)) then argument row k else 0

unfoldable pub used_row : List ℕ → List ℕ
used_row row = kind_of row ∷ used row 0 ∷ used row 1 ∷ used row 2 ∷ used row 3 ∷ used row 4 ∷ 0 ∷ 0 ∷ []

-- the writer takes it, where there is room
pub record Writable (row : List ℕ) : Type 0 where
  pub known : is_kind (kind_of row) ≡ true
  pub fit : fits row ≡ true

-- ---- many rows
abbrev pub AllWritable : List (List ℕ) → Type 0
AllWritable [] = Unit {0}
AllWritable (row ∷ rows) = Writable row × AllWritable rows

-- their records, one behind the other
abbrev pub log_of : List (List ℕ) → List ℕ
log_of [] = []
log_of (row ∷ rows) = record_of row ++ log_of rows

-- ---- what reading one after the other found where it stopped: a record where as many as asked for were read
pub data Found : Type 0 where
  Record : Found
  End : Found
  Refused : (why : LogRefusal) → Found

-- the rows that were read, the place where reading stopped, and what it found there
pub record Readings : Type 0 where
  pub rows : List (List ℕ)
  pub place : ℕ
  pub found : Found

abbrev pub stopped : Found → ℕ → Readings
stopped why at = record { rows = []; place = at; found = why }

-- a row ahead of the others
abbrev pub ahead : List ℕ → Readings → Readings
ahead row rest = record { rows = row ∷ rest.rows; place = rest.place; found = rest.found }

-- a record and what is read past it, or what stops it
abbrev pub read_on : Read → ℕ → (Taken → Readings) → Readings
read_on (Ok (Some taken)) at rest = ahead taken.row (rest taken)
read_on (Ok None) at rest = stopped End at
read_on (Err why) at rest = stopped (Refused why) at

-- at most n records from a place on
abbrev pub read_all : ℕ → List ℕ → ℕ → Readings
read_all zero log at = stopped Record at
read_all (suc n) log at = read_on (record_at log at) at (λ taken. read_all n log taken.next)
