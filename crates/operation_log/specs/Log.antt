-- The log (docs/MACHINE.md, 14): records in a row, each a length, a kind and a body. What a row is as a record, what stands at a
-- place of a log, and what writing a row there gives.
use Rattle.std.specs.Prelude.{ℕ, zero, suc, ◌+◌, ◌*◌, ◌-◌, ◌/◌, ◌%◌, Bool, not, ◌&&◌, true, Option, Some, None, Result, Ok, Err, List, [], ◌∷◌, ◌++◌, eqb, ltb, leb, length, get_or, codes}
use Rattle.std.specs.Prelude.{if◌then◌else◌}
use Rattle.model.specs.Sequence.{write_at}
use Rattle.records.specs.Little.{two, four, bytes_of}
use Rattle.operation_log.specs.Kinds.{is_kind, writes_value, field_count, body_length, FIELD_BYTES}
use Rattle.operation_log.specs.declared.LogRefusal.{LogRefusal}
use Rattle.operation_log.specs.declared.LogRefusal.TheVariants.{CutShort, UnknownKind, WrongLength, DoesNotFit}
use Rattle.operation_log.specs.declared.Taken.{Taken}

-- the manual's number of each refusal, of which no answer of the machine carries one, and what it is called
abbrev pub log_refusal_number : LogRefusal → ℕ
log_refusal_number CutShort = 20
log_refusal_number UnknownKind = 21
log_refusal_number WrongLength = 22
log_refusal_number DoesNotFit = 23

abbrev pub log_refusal_text : LogRefusal → List ℕ
log_refusal_text CutShort = codes "cut short"
log_refusal_text UnknownKind = codes "unknown kind"
log_refusal_text WrongLength = codes "wrong length"
log_refusal_text DoesNotFit = codes "does not fit"

-- ---- the parts of a record
abbrev pub LENGTH_BYTES : ℕ
LENGTH_BYTES = 2

abbrev pub KIND_BYTES : ℕ
KIND_BYTES = 2

abbrev pub HEAD_BYTES : ℕ
HEAD_BYTES = LENGTH_BYTES + KIND_BYTES

-- what the length of a record of a kind says: kind and body
abbrev pub length_of : ℕ → ℕ
length_of kind = KIND_BYTES + body_length kind

-- numbers that a field can hold
abbrev pub FIELD : ℕ
FIELD = 4294967296

-- the most fields of a body
abbrev pub FIELDS : ℕ
FIELDS = 5

-- ---- a row as a record
abbrev pub kind_of : List ℕ → ℕ
kind_of row = get_or row 0 0

-- the row's arguments, from 0 on
abbrev pub argument : List ℕ → ℕ → ℕ
argument row k = get_or row (k + 1) 0

-- the fields that a body may have, in order: a value is the fourth argument, its low half first
abbrev pub fields_of : List ℕ → List ℕ
fields_of row =
    if writes_value (kind_of row) then argument row 0 ∷ argument row 1 ∷ argument row 2 ∷ argument row 3 % FIELD ∷ argument row 3 / FIELD ∷ []
    else argument row 0 ∷ argument row 1 ∷ argument row 2 ∷ argument row 3 ∷ argument row 4 ∷ []

-- n of the fields from the i-th on, as bytes
abbrev pub body_from : List ℕ → ℕ → ℕ → List ℕ
body_from fields i zero = []
body_from fields i (suc n) = bytes_of FIELD_BYTES (get_or fields i 0) ++ body_from fields (i + 1) n

unfoldable pub record_of : List ℕ → List ℕ
record_of row =
    bytes_of LENGTH_BYTES (length_of (kind_of row)) ++ (bytes_of KIND_BYTES (kind_of row) ++ body_from (fields_of row) 0 (field_count (kind_of row)))

-- ---- reading
-- field i of the record at a place, which has n; 0 where it has no such field
abbrev pub field_at : List ℕ → ℕ → ℕ → ℕ → ℕ
field_at log at n i = if ltb i n then four log (at + HEAD_BYTES + FIELD_BYTES * i) else 0

abbrev pub fields_at : List ℕ → ℕ → ℕ → List ℕ
fields_at log at n = field_at log at n 0 ∷ field_at log at n 1 ∷ field_at log at n 2 ∷ field_at log at n 3 ∷ field_at log at n 4 ∷ []

-- the row of a kind and of five fields
abbrev pub row_of : ℕ → List ℕ → List ℕ
row_of kind fields =
    if writes_value kind then kind ∷ get_or fields 0 0 ∷ get_or fields 1 0 ∷ get_or fields 2 0 ∷ (get_or fields 3 0 + FIELD * get_or fields 4 0) ∷ 0 ∷ 0 ∷ 0 ∷ []
    else kind ∷ get_or fields 0 0 ∷ get_or fields 1 0 ∷ get_or fields 2 0 ∷ get_or fields 3 0 ∷ get_or fields 4 0 ∷ 0 ∷ 0 ∷ []

-- the row of the record of a kind at a place
abbrev pub row_in : List ℕ → ℕ → ℕ → List ℕ
row_in log at kind = row_of kind (fields_at log at (field_count kind))

-- what stands at a place: a record, nothing where the log has ended, or why there is no record
abbrev pub Read : Type 0
Read = Result (Option Taken) LogRefusal

unfoldable pub record_at : List ℕ → ℕ → Read
record_at log at =
    if leb (length log) at then Ok None
    else if ltb (length log - at) HEAD_BYTES then Err CutShort
    else if ltb (length log - at - LENGTH_BYTES) (two log at) then Err CutShort
    else if not (is_kind (two log (at + LENGTH_BYTES))) then Err UnknownKind
    else if not (eqb (two log at) (length_of (two log (at + LENGTH_BYTES)))) then Err WrongLength
    else Ok (Some (record { row = row_in log at (two log (at + LENGTH_BYTES)); next = at + HEAD_BYTES + body_length (two log (at + LENGTH_BYTES)) }))

-- where a reader is then: past a record, and else at the same place
abbrev pub place_after : Read → ℕ → ℕ
place_after (Ok (Some taken)) at = taken.next
place_after (Ok None) at = at
place_after (Err why) at = at

-- ---- writing: the place after the record, or why it is refused; a refusal leaves the buffer
-- n of the fields from the i-th on hold what four bytes can
abbrev pub fit_from : List ℕ → ℕ → ℕ → Bool
fit_from fields i zero = true
fit_from fields i (suc n) = ltb (get_or fields i 0) FIELD && fit_from fields (i + 1) n

abbrev pub fits : List ℕ → Bool
fits row = fit_from (fields_of row) 0 (field_count (kind_of row))

unfoldable pub written_at : List ℕ → ℕ → ℕ → Result ℕ LogRefusal
written_at row room at =
    if not (is_kind (kind_of row)) then Err UnknownKind
    else if not (fits row) then Err DoesNotFit
    else if not (leb (at + HEAD_BYTES + body_length (kind_of row)) room) then Err DoesNotFit
    else Ok (at + HEAD_BYTES + body_length (kind_of row))

-- what stands in the buffer then
abbrev pub buffered : Result ℕ LogRefusal → List ℕ → List ℕ → ℕ → List ℕ
buffered (Ok next) row log at = write_at log at (record_of row)
buffered (Err why) row log at = log

unfoldable pub written : List ℕ → List ℕ → ℕ → List ℕ
written row log at = buffered (written_at row (length log) at) row log at
