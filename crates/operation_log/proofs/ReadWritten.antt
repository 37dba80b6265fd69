-- What was written is read, and what was read is written: a record, and a whole log (docs/MACHINE.md, 14).
use Prim.{tt}
use Prim.Native.Nat.{ℕ, zero, suc, ◌+◌, ◌-◌, ◌≤◌, ◌<◌}
use mathlib.Core.Bool.{true}
use mathlib.Core.List.{List, [], ◌∷◌, ◌++◌, map, append_assoc, append-nil}
use mathlib.Core.Logic.{◌⊎◌, inl, inr}
use mathlib.Core.Path.{◌≡◌, refl, sym, ap, ap₂, ◌∙◌}
use native.Mathlib.Nat.{sub-zero}
use native.Mathlib.Omega.{arith}
use lib.Dec.{ltb}
use lib.ListN.{length, get_or, take, drop, length-append}
use lib.Seq.{take_all}
use Rattle.std.specs.Prelude.{if◌then◌else◌, Some, None, Result, Ok, Err}
use Rattle.numbers.specs.Meaning.{operation_number, operation_arguments}
use Rattle.numbers.specs.declared.Operation.{Operation}
use Rattle.model.specs.Sequence.{operation_of, operation_in, write_at}
use Rattle.model.specs.WriteLaws.{length-written, written_before, written_behind}
use Rattle.model.proofs.Rows.{RowWritable, row_back}
use Rattle.records.specs.Little.{BYTE, two}
use Rattle.records.specs.LittleLaws.{written_same}
use Rattle.operation_log.specs.Kinds.{is_kind, argument_counts, argument_count, body_length}
use Rattle.operation_log.specs.KindLaws.{each_kind}
use Rattle.operation_log.specs.Log.{LENGTH_BYTES, HEAD_BYTES, kind_of, argument, record_of, row_in, Read, record_at, fits, written_at, buffered, written}
use Rattle.operation_log.specs.Logs.{used_row, AllWritable, log_of, Found, Record, End, Refused, Readings, stopped, ahead, read_on, read_all}
use Rattle.operation_log.specs.LogLaws.{length-record, holds_written, holds_between, Stands, read_stands, end_read, read_end, read_taken, read_held, written_taken, taken_written, parts_join, read_kind, read_writable, record_back}
use Rattle.operation_log.specs.declared.LogRefusal.{LogRefusal}
use Rattle.operation_log.specs.declared.Taken.{Taken}
use Rattle.operation_log.proofs.KindNumbers.{kinds_rows}

-- ---- a record
-- with a row and the place behind it
abbrev pub a_record : List ℕ → ℕ → Read
a_record row next = Ok (Some (record { row = row; next = next }))

module _ (row log : List ℕ) (at : ℕ) where
  written_is : (answer : Result ℕ LogRefusal) → written_at row (length log) at ≡ answer → written row log at ≡ buffered answer row log at
  unfolding written
  written_is answer e = ap (λ (a : Result ℕ LogRefusal). buffered a row log at) e

  -- what was written is read: the numbers that the operation has, and the place that the writer gave
  pub read_written : (next : ℕ) → written_at row (length log) at ≡ Ok next → record_at (written row log at) at ≡ a_record (used_row row) next
  read_written next e =
      let t = taken_written row (length log) at next e in
      let holds = holds_written log at (record_of row) (omega (arith, length-record row, t.past, t.inside)) in
      rw (written_is (Ok next) e, t.past) (read_held (write_at log at (record_of row)) at row t.writable holds)

  -- nothing else of the buffer changes, and nothing at all where the row is refused
  pub written_beside : (next : ℕ) → written_at row (length log) at ≡ Ok next → (j : ℕ) → (j < at) ⊎ (next ≤ j) → get_or (written row log at) j 0 ≡ get_or log j 0
  written_beside next e j (inl h) = rw (written_is (Ok next) e) (written_before log at (record_of row) j h)
  written_beside next e j (inr h) =
      let t = taken_written row (length log) at next e in
      rw (written_is (Ok next) e) (written_behind log at (record_of row) j (omega (arith, length-record row, t.past)))

  pub written_length : length (written row log at) ≡ length log
  written_length = which (written_at row (length log) at) refl
    where
      which : (answer : Result ℕ LogRefusal) → written_at row (length log) at ≡ answer → length (written row log at) ≡ length log
      which (Ok next) e = rw (written_is (Ok next) e) (length-written log at (record_of row))
      which (Err why) e = rw (written_is (Err why) e)

  pub refused_kept : (why : LogRefusal) → written_at row (length log) at ≡ Err why → written row log at ≡ log
  refused_kept why e = written_is (Err why) e

-- ---- operations
-- the numbers past its arguments, which a record has not, say nothing of the operation
pub same_operation : (row : List ℕ) → is_kind (kind_of row) ≡ true → operation_in (used_row row) ≡ operation_in row
unfolding operation_in used_row argument_counts
same_operation row h =
    let a = argument row in
    let up_to : ℕ → ℕ → ℕ = λ kind k. if ltb k (argument_count kind) then a k else 0 in
    each_kind (λ n. operation_of n (up_to n 0) (up_to n 1) (up_to n 2) (up_to n 3) (up_to n 4)) (λ n. operation_of n (a 0) (a 1) (a 2) (a 3) (a 4)) refl (kind_of row) h

-- every operation whose arguments fit is read back from its record
pub operation_back : (operation : Operation) → RowWritable operation → (log : List ℕ) (at : ℕ) → let row = operation_number operation ∷ operation_arguments operation in
    fits row ≡ true → at + HEAD_BYTES + body_length (operation_number operation) ≤ length log →
    (taken : Taken) × (record_at (written row log at) at ≡ Ok (Some taken)) × (operation_in taken.row ≡ Some operation)
operation_back operation w log at fit room =
    let row = operation_number operation ∷ operation_arguments operation in
    let back = row_back operation w in
    let known = (kinds_rows row).complete (operation, back) in
    let put = written_taken row (length log) at (record { known = known; fit = fit }) room in
    (_, read_written row log at _ put, same_operation row known ∙ back)

-- ---- what was read, written
-- the record's bytes are those of the log, and the writer takes its row: there, where it changes nothing, and wherever there is room
pub record Rewritten (log : List ℕ) (at : ℕ) (row : List ℕ) (next : ℕ) : Type 0 where
  pub bytes : take (next - at) (drop at log) ≡ record_of row
  pub taken : written_at row (length log) at ≡ Ok next
  pub same : written row log at ≡ log
  pub anywhere : (room at' : ℕ) → at' + (next - at) ≤ room → written_at row room at' ≡ Ok (at' + (next - at))

module _ (log : List ℕ) (below : (i : ℕ) → get_or log i 0 < BYTE) where
  stands_rewritten : (at kind : ℕ) → Stands log at kind → Rewritten log at (row_in log at kind) (at + HEAD_BYTES + body_length kind)
  stands_rewritten at kind s =
      let row = row_in log at kind in
      let next = at + HEAD_BYTES + body_length kind in
      let size : next - at ≡ HEAD_BYTES + body_length kind = omega arith in
      let bytes : take (next - at) (drop at log) ≡ record_of row = rw size (sym (record_back log below at kind s)) in
      let there : (room at' : ℕ) → at' + (next - at) ≤ room → written_at row room at' ≡ Ok (at' + (next - at)) =
      λ room at' h.
      let end : at' + HEAD_BYTES + body_length (kind_of row) ≡ at' + (next - at) = ap (λ (k : ℕ). at' + HEAD_BYTES + body_length k) (read_kind log below at kind s) ∙ omega arith in
      written_taken row room at' (read_writable log below at kind s) (omega arith) ∙ ap Ok end in
      let inside = s.inside in
      let past : at + (next - at) ≡ next = omega arith in
      let taken : written_at row (length log) at ≡ Ok next = there (length log) at (omega arith) ∙ ap Ok past in
      let same = written_is row log at (Ok next) taken ∙ ap (write_at log at) (sym bytes) ∙ written_same log at (next - at) (omega arith) in
      record { bytes = bytes; taken = taken; same = same; anywhere = there }

  pub written_read : (at : ℕ) (row : List ℕ) (next : ℕ) → record_at log at ≡ a_record row next → Rewritten log at row next
  written_read at row next e =
      let s = read_stands log at _ e in
      let is = read_taken log at _ e in
      rw (ap (λ (t : Taken). t.row) is, ap (λ (t : Taken). t.next) is) (stands_rewritten at (two log (at + LENGTH_BYTES)) s)

-- ---- whole logs
read_one : (n : ℕ) (log : List ℕ) (at : ℕ) (row : List ℕ) (next : ℕ) → record_at log at ≡ a_record row next → read_all (suc n) log at ≡ ahead row (read_all n log next)
read_one n log at row next e = rw e

-- behind other bytes too
read_rows : (rows : List (List ℕ)) (before : List ℕ) → AllWritable rows →
    read_all (length rows) (before ++ log_of rows) (length before) ≡ record { rows = map used_row rows; place = length (before ++ log_of rows); found = Record }
read_rows [] before w = rw append-nil
read_rows (row ∷ rows) before w =
    let log = before ++ (record_of row ++ log_of rows) in
    let read = read_held log (length before) row w.0 (holds_between before (record_of row) (log_of rows)) in
    let size : length (before ++ record_of row) ≡ length before + HEAD_BYTES + body_length (kind_of row) = length-append before (record_of row) ∙ omega (arith, length-record row) in
    let rest = rw (append_assoc before (record_of row) (log_of rows), size) at (read_rows rows (before ++ record_of row) w.1) in
    read_one (length rows) log (length before) (used_row row) _ read ∙ ap (ahead (used_row row)) rest

pub logs_read : (rows : List (List ℕ)) → AllWritable rows → let log = log_of rows in
    (read_all (length rows) log 0 ≡ record { rows = map used_row rows; place = length log; found = Record }) × (record_at log (length log) ≡ Ok None)
logs_read rows w = (read_rows rows [] w, end_read (log_of rows) (length (log_of rows)) (omega arith))

-- of a log whose numbers are bytes: the rows that were read are writable, and their records are its bytes up to where reading stopped
pub record Reread (log : List ℕ) (at : ℕ) (r : Readings) : Type 0 where
  pub onward : at ≤ r.place
  pub writable : AllWritable r.rows
  pub bytes : log_of r.rows ≡ take (r.place - at) (drop at log)
  pub ended : r.found ≡ End → length log ≤ r.place

module _ (log : List ℕ) (below : (i : ℕ) → get_or log i 0 < BYTE) where
  reread_none : (at : ℕ) (why : Found) → (why ≡ End → length log ≤ at) → Reread log at (stopped why at)
  reread_none at why end = let none : at - at ≡ 0 = omega arith in record { onward = omega arith; writable = tt; bytes = rw none; ended = end }

  reread_one : (at kind : ℕ) → Stands log at kind → (rest : Readings) → Reread log (at + HEAD_BYTES + body_length kind) rest → Reread log at (ahead (row_in log at kind) rest)
  reread_one at kind s rest r =
      let size = HEAD_BYTES + body_length kind in
      let more = rest.place - (at + HEAD_BYTES + body_length kind) in
      let next : at + HEAD_BYTES + body_length kind ≡ at + size = omega arith in
      let whole : size + more ≡ rest.place - at = omega (arith, r.onward) in
      record {
        onward = omega (arith, r.onward);
        writable = (read_writable log below at kind s, r.writable);
        bytes =
            ap₂ ◌++◌ (record_back log below at kind s) (r.bytes ∙ ap (λ (p : ℕ). take more (drop p log)) next)
            ∙ parts_join log at size more
            ∙ ap (λ (m : ℕ). take m (drop at log)) whole;
        ended = r.ended;
      }

  reread : (n at : ℕ) → Reread log at (read_all n log at)
  reread zero at = reread_none at Record (λ e. cc)
  reread (suc n) at = which (record_at log at) refl (reread n)
    where
      which : (read : Read) → record_at log at ≡ read → ((place : ℕ) → Reread log place (read_all n log place)) → Reread log at (read_on read at (λ taken. read_all n log taken.next))
      which (Ok None) e rest = reread_none at End (λ q. read_end log at e)
      which (Err why) e rest = reread_none at (Refused why) (λ q. cc)
      which (Ok (Some taken)) e rest =
          let kind = two log (at + LENGTH_BYTES) in
          rw (read_taken log at taken e) (reread_one at kind (read_stands log at taken e) _ (rest (at + HEAD_BYTES + body_length kind)))

  pub logs_written : (n : ℕ) → let r = read_all n log 0 in AllWritable r.rows × (log_of r.rows ≡ take r.place log) × (r.found ≡ End → log_of r.rows ≡ log)
  logs_written n =
      let r = reread n 0 in
      let place = (read_all n log 0).place in
      let bytes = rw (sub-zero place) at r.bytes in
      (r.writable, bytes, λ e. bytes ∙ take_all place log (r.ended e))
