-- Reading what was written, and writing what was read.
use Rattle.std.specs.Prelude.{ℕ, zero, suc, ◌+◌, ◌*◌, ◌-◌, ◌/◌, ◌%◌, ◌≤◌, ◌<◌, Bool, true, false, not, Some, None, Result, Ok, Err, ◌≡◌, refl, eqb, ltb, leb, length, drop}
use Rattle.std.proofs.Common.{true≢false, ⊎_elim, sym, ◌∙◌, add-zero, zero-add, add_assoc, length-append, get_or-append-add, take-add, drop-drop, ltb-true, ltb-false, lt-ltb, le-ltb, leb-true, leb-false, le-leb, eqb-true, eq-eqb}
use mathlib.Core.List.{List, [], ◌∷◌, ◌++◌}
use Rattle.std.proofs.Math.Path.{ap, ap₂}
use Rattle.std.proofs.Math.Nat.{mod-add-div}
use native.Mathlib.Omega.{arith}
use Rattle.std.proofs.Math.ListN.{get_or, take, get_or-append}
use Rattle.std.proofs.lemmas.Bool.{lt-leb, not-false}
use Rattle.numbers.specs.CaseLaws.{cases}
use Rattle.std.specs.Prelude.{if◌then◌else◌}
use Rattle.numbers.specs.Limits.{ROW_NUMBERS}
use Rattle.numbers.specs.DecidesLaws.{decides_and, decides_less, decides_itself}
use Rattle.model.specs.Sequence.{write_at}
use Rattle.model.specs.WriteLaws.{length-written, written_here}
use Rattle.records.specs.Little.{BYTE, little, two, four, bytes_of}
use Rattle.records.specs.LittleLaws.{little_same, little_left, little_right, little_bytes, little_below, bytes_little}
use Rattle.operation_log.specs.Kinds.{is_kind, argument_count, writes_value, FIELD_BYTES, field_count, body_length}
use Rattle.operation_log.specs.KindLaws.{kind_bounds, fields_most, value_arguments}
use Rattle.operation_log.specs.Log.{LENGTH_BYTES, KIND_BYTES, HEAD_BYTES, length_of, FIELD, FIELDS, kind_of, argument, fields_of, body_from, record_of, field_at, fields_at, row_of, row_in, Read, record_at, fit_from, fits, written_at}
use Rattle.operation_log.specs.Logs.{used_row, Writable}
use Rattle.operation_log.specs.declared.LogRefusal.{LogRefusal}
use Rattle.operation_log.specs.declared.LogRefusal.TheVariants.{CutShort, UnknownKind, WrongLength, DoesNotFit}
use Rattle.operation_log.specs.declared.Taken.{Taken}

-- ---- the parts of a record
pub length-body : (fields : List ℕ) (i n : ℕ) → length (body_from fields i n) ≡ FIELD_BYTES * n
length-body fields i zero = refl
length-body fields i (suc n) = omega (arith, length-body fields (i + 1) n)

pub length-record : (row : List ℕ) → length (record_of row) ≡ HEAD_BYTES + body_length (kind_of row)
unfolding record_of
length-record row = omega (arith, length-body (fields_of row) 0 (field_count (kind_of row)))

pub body_field : (fields : List ℕ) (i n k : ℕ) → k < n → get_or fields (i + k) 0 < FIELD → four (body_from fields i n) (FIELD_BYTES * k) ≡ get_or fields (i + k) 0
body_field fields i zero k h l = absurd (omega arith)
body_field fields i (suc n) zero h l =
    let x = get_or fields i 0 in
    let same : get_or fields (i + 0) 0 ≡ x = ap (λ (j : ℕ). get_or fields j 0) (add-zero i) in
    little_left 4 (bytes_of 4 x) (body_from fields (i + 1) n) 0 (omega arith) ∙ little_bytes 4 x (omega arith) ∙ sym same
body_field fields i (suc n) (suc k) h l =
    let rest = body_from fields (i + 1) n in
    let same : get_or fields (i + suc k) 0 ≡ get_or fields (i + 1 + k) 0 = ap (λ (j : ℕ). get_or fields j 0) (omega arith) in
    let place : FIELD_BYTES * suc k ≡ FIELD_BYTES + FIELD_BYTES * k = omega arith in
    ap (four (body_from fields i (suc n))) place
    ∙ little_right 4 (bytes_of 4 (get_or fields i 0)) rest (FIELD_BYTES * k)
    ∙ body_field fields (i + 1) n k (omega arith) (omega arith)
    ∙ sym same

-- each of the fields fits, one by one and all together
pub fit_field : (fields : List ℕ) (i n : ℕ) → fit_from fields i n ≡ true → (k : ℕ) → k < n → get_or fields (i + k) 0 < FIELD
fit_field fields i zero f k h = absurd (omega arith)
fit_field fields i (suc n) f zero h =
    let same : i + 0 ≡ i = omega arith in
    rw same ((decides_and (decides_less (get_or fields i 0) FIELD) (decides_itself (fit_from fields (i + 1) n))).sound f).0
fit_field fields i (suc n) f (suc k) h =
    let same : i + suc k ≡ i + 1 + k = omega arith in
    let rest = ((decides_and (decides_less (get_or fields i 0) FIELD) (decides_itself (fit_from fields (i + 1) n))).sound f).1 in
    rw same (fit_field fields (i + 1) n rest k (omega arith))

pub field_fit : (fields : List ℕ) (i n : ℕ) → ((k : ℕ) → k < n → get_or fields (i + k) 0 < FIELD) → fit_from fields i n ≡ true
field_fit fields i zero below = refl
field_fit fields i (suc n) below =
    let first : get_or fields i 0 < FIELD = rw (add-zero i) at (below 0 (omega arith)) in
    let rest = field_fit fields (i + 1) n (λ k h. rw (add_assoc i 1 k) (below (1 + k) (omega arith))) in
    (decides_and (decides_less (get_or fields i 0) FIELD) (decides_itself (fit_from fields (i + 1) n))).complete (first, rest)

-- the length, the kind and each field, from where they stand
module _ (row : List ℕ) (w : Writable row) where
  record_length : two (record_of row) 0 ≡ length_of (kind_of row)
  unfolding record_of
  record_length =
      let kind = kind_of row in
      little_left 2 (bytes_of 2 (length_of kind)) (bytes_of 2 kind ++ body_from (fields_of row) 0 (field_count kind)) 0 (omega arith)
      ∙ little_bytes 2 (length_of kind) (omega (arith, fields_most kind w.known))

  record_kind : two (record_of row) LENGTH_BYTES ≡ kind_of row
  unfolding record_of
  record_kind =
      let kind = kind_of row in
      let body = body_from (fields_of row) 0 (field_count kind) in
      little_right 2 (bytes_of 2 (length_of kind)) (bytes_of 2 kind ++ body) 0
      ∙ little_left 2 (bytes_of 2 kind) body 0 (omega arith)
      ∙ little_bytes 2 kind (omega (arith, kind_bounds kind w.known))

  record_field : (i : ℕ) → i < field_count (kind_of row) → four (record_of row) (HEAD_BYTES + FIELD_BYTES * i) ≡ get_or (fields_of row) i 0
  unfolding record_of
  record_field i h =
      let kind = kind_of row in
      let zero-first : 0 + i ≡ i = omega arith in
      let fit = fit_field (fields_of row) 0 (field_count kind) w.fit i h in
      let body = body_from (fields_of row) 0 (field_count kind) in
      little_right 4 (bytes_of 2 (length_of kind) ++ bytes_of 2 kind) body (FIELD_BYTES * i)
      ∙ body_field (fields_of row) 0 (field_count kind) i h fit
      ∙ ap (λ (k : ℕ). get_or (fields_of row) k 0) zero-first

-- ---- a log that holds a part at a place
pub record Holds (log : List ℕ) (at : ℕ) (part : List ℕ) : Type 0 where
  pub room : at + length part ≤ length log
  pub same : (k : ℕ) → k < length part → get_or log (at + k) 0 ≡ get_or part k 0

pub holds_written : (log : List ℕ) (at : ℕ) (part : List ℕ) → at + length part ≤ length log → Holds (write_at log at part) at part
holds_written log at part h = record { room = rw length-written h; same = λ k l. written_here log at part k l h }

pub holds_between : (before part behind : List ℕ) → Holds (before ++ (part ++ behind)) (length before) part
holds_between before part behind =
    record { room = simp length-append (omega arith); same = λ k l. get_or-append-add before (part ++ behind) k 0 ∙ get_or-append part behind 0 k l }

-- numbers inside it are read from it
pub held_little : (log : List ℕ) (at : ℕ) (part : List ℕ) → Holds log at part → (n k : ℕ) → k + n ≤ length part → little n log (at + k) ≡ little n part k
held_little log at part h n k l = little_same n log part (at + k) k (λ i b. rw (add_assoc at k i) (h.same (k + i) (omega arith)))

-- ---- a record of a kind stands at a place: the log has all of it, and its length and kind are there
pub record Stands (log : List ℕ) (at kind : ℕ) : Type 0 where
  pub known : is_kind kind ≡ true
  pub inside : at + HEAD_BYTES + body_length kind ≤ length log
  pub length-there : two log at ≡ length_of kind
  pub kind_there : two log (at + LENGTH_BYTES) ≡ kind

abbrev pub taken_of : List ℕ → ℕ → ℕ → Taken
taken_of log at kind = record { row = row_in log at kind; next = at + HEAD_BYTES + body_length kind }

-- such a record is read, and no other
pub stands_read : (log : List ℕ) (at kind : ℕ) → Stands log at kind → record_at log at ≡ Ok (Some (taken_of log at kind))
unfolding record_at
stands_read log at kind s =
    let more : leb (length log) at ≡ false = lt-leb (length log) at (omega (arith, s.inside)) in
    let head : ltb (length log - at) HEAD_BYTES ≡ false = le-ltb (length log - at) HEAD_BYTES (omega (arith, s.inside)) in
    let whole : ltb (length log - at - LENGTH_BYTES) (length_of kind) ≡ false = le-ltb (length log - at - LENGTH_BYTES) (length_of kind) (omega (arith, s.inside)) in
    rw (more, head, s.length-there, whole, s.kind_there, s.known, eq-eqb (length_of kind) (length_of kind) refl)

abbrev is_record : Read → Bool
is_record (Ok (Some taken)) = true
is_record (Ok None) = false
is_record (Err why) = false

abbrev is_end : Read → Bool
is_end (Ok (Some taken)) = false
is_end (Ok None) = true
is_end (Err why) = false

-- what is found and is not what a test stops with was found behind the test
passed_on : (is : Read → Bool) (t : Bool) (stop rest : Read) → is stop ≡ false → is (if t then stop else rest) ≡ true → (t ≡ false) × (is rest ≡ true)
passed_on is true stop rest n e = absurd (true≢false (sym e ∙ n))
passed_on is false stop rest n e = (refl, e)

pub read_stands : (log : List ℕ) (at : ℕ) (taken : Taken) → record_at log at ≡ Ok (Some taken) → Stands log at (two log (at + LENGTH_BYTES))
unfolding record_at
read_stands log at taken e =
    let more = passed_on is_record (leb (length log) at) (Ok None) _ refl (ap is_record e) in
    let head = passed_on is_record (ltb (length log - at) HEAD_BYTES) (Err CutShort) _ refl more.1 in
    let whole = passed_on is_record (ltb (length log - at - LENGTH_BYTES) (two log at)) (Err CutShort) _ refl head.1 in
    let kind = passed_on is_record (not (is_kind (two log (at + LENGTH_BYTES)))) (Err UnknownKind) _ refl whole.1 in
    let size = passed_on is_record (not (eqb (two log at) (length_of (two log (at + LENGTH_BYTES))))) (Err WrongLength) _ refl kind.1 in
    let length-there = eqb-true (two log at) (length_of (two log (at + LENGTH_BYTES))) (not-false _ size.0) in
    record {
      known = not-false _ kind.0;
      inside =
          omega (
            arith,
            leb-false (length log) at more.0,
            ltb-false (length log - at) HEAD_BYTES head.0,
            ltb-false (length log - at - LENGTH_BYTES) (two log at) whole.0,
          );
      length-there = length-there;
      kind_there = refl;
    }

-- the end is found at the log's length and past it, and nowhere else
pub end_read : (log : List ℕ) (at : ℕ) → length log ≤ at → record_at log at ≡ Ok None
unfolding record_at
end_read log at h = rw (le-leb (length log) at h)

pub read_end : (log : List ℕ) (at : ℕ) → record_at log at ≡ Ok None → length log ≤ at
unfolding record_at
read_end log at e = ⊎_elim (leb-true (length log) at) inside (cases (leb (length log) at))
  where
    inside : leb (length log) at ≡ false → length log ≤ at
    inside f =
        let head = passed_on is_end (ltb (length log - at) HEAD_BYTES) (Err CutShort) _ refl (rw f at (ap is_end e)) in
        let whole = passed_on is_end (ltb (length log - at - LENGTH_BYTES) (two log at)) (Err CutShort) _ refl head.1 in
        let kind = passed_on is_end (not (is_kind (two log (at + LENGTH_BYTES)))) (Err UnknownKind) _ refl whole.1 in
        let size = passed_on is_end (not (eqb (two log at) (length_of (two log (at + LENGTH_BYTES))))) (Err WrongLength) _ refl kind.1 in
        absurd (true≢false (sym size.1))

-- ---- what was read: all of the record stands in the log, and its row has eight numbers
pub read_taken : (log : List ℕ) (at : ℕ) (taken : Taken) → record_at log at ≡ Ok (Some taken) → taken ≡ taken_of log at (two log (at + LENGTH_BYTES))
read_taken log at taken e = let there = stands_read log at (two log (at + LENGTH_BYTES)) (read_stands log at taken e) in cc

pub read_inside : (log : List ℕ) (at : ℕ) (taken : Taken) → record_at log at ≡ Ok (Some taken) → taken.next ≤ length log
read_inside log at taken e = rw (read_taken log at taken e) (read_stands log at taken e).inside

row_length : (kind : ℕ) (fields : List ℕ) → length (row_of kind fields) ≡ ROW_NUMBERS
row_length kind fields = ⊎_elim (λ (v : writes_value kind ≡ true). rw v) (λ (v : writes_value kind ≡ false). rw v) (cases (writes_value kind))

pub row_numbers : (log : List ℕ) (at : ℕ) (taken : Taken) → record_at log at ≡ Ok (Some taken) → length taken.row ≡ ROW_NUMBERS
row_numbers log at taken e = let kind = two log (at + LENGTH_BYTES) in rw (read_taken log at taken e) (row_length kind (fields_at log at (field_count kind)))

-- ---- what stands where a row's record was written is that row, as far as its operation has numbers
-- fields as far as there are any
abbrev held : ℕ → List ℕ → ℕ → ℕ
held n fields i = if ltb i n then get_or fields i 0 else 0

abbrev held_row : List ℕ → List ℕ
held_row row =
    let n = field_count (kind_of row) in
    let f = fields_of row in
    row_of (kind_of row) (held n f 0 ∷ held n f 1 ∷ held n f 2 ∷ held n f 3 ∷ held n f 4 ∷ [])

row_used : (row : List ℕ) → held_row row ≡ used_row row
unfolding used_row
row_used row =
    let kind = kind_of row in
    ⊎_elim (λ (v : writes_value kind ≡ true). rw (v, value_arguments kind v, mod-add-div (argument row 3) FIELD)) (λ (v : writes_value kind ≡ false). rw (v, add-zero (argument_count kind)))
    (cases (writes_value kind))

module _ (log : List ℕ) (at : ℕ) (row : List ℕ) (w : Writable row) (h : Holds log at (record_of row)) where
  held_stands : Stands log at (kind_of row)
  held_stands =
      let size = length-record row in
      record {
        known = w.known;
        inside = omega (arith, h.room);
        length-there = ap (two log) (sym (add-zero at)) ∙ held_little log at (record_of row) h 2 0 (omega arith) ∙ record_length row w;
        kind_there = held_little log at (record_of row) h 2 LENGTH_BYTES (omega arith) ∙ record_kind row w;
      }

  held_field : (i : ℕ) → field_at log at (field_count (kind_of row)) i ≡ held (field_count (kind_of row)) (fields_of row) i
  held_field i = which (ltb i (field_count (kind_of row))) refl
    where
      which : (t : Bool) → ltb i (field_count (kind_of row)) ≡ t → (if t then four log (at + HEAD_BYTES + FIELD_BYTES * i) else 0) ≡ (if t then get_or (fields_of row) i 0 else 0)
      which true e =
          let size = length-record row in
          let l = ltb-true i (field_count (kind_of row)) e in
          ap (four log) (add_assoc at HEAD_BYTES (FIELD_BYTES * i)) ∙ held_little log at (record_of row) h 4 (HEAD_BYTES + FIELD_BYTES * i) (omega arith) ∙ record_field row w i l
      which false e = refl

  held_row_lem : row_in log at (kind_of row) ≡ used_row row
  held_row_lem = rw (held_field 0, held_field 1, held_field 2, held_field 3, held_field 4) (row_used row)

  pub read_held : record_at log at ≡ Ok (Some (record { row = used_row row; next = at + HEAD_BYTES + body_length (kind_of row) }))
  read_held = stands_read log at (kind_of row) held_stands ∙ rw held_row_lem

-- ---- the writer takes a row exactly where it is writable and has room
pub written_taken : (row : List ℕ) (room at : ℕ) → Writable row → at + HEAD_BYTES + body_length (kind_of row) ≤ room → written_at row room at ≡ Ok (at + HEAD_BYTES + body_length (kind_of row))
unfolding written_at
written_taken row room at w h = rw (w.known, w.fit, le-leb (at + HEAD_BYTES + body_length (kind_of row)) room h)

put_on : (t : Bool) (why : LogRefusal) (rest : Result ℕ LogRefusal) (next : ℕ) → (if not t then Err why else rest) ≡ Ok next → (t ≡ true) × (rest ≡ Ok next)
put_on true why rest next e = (refl, e)
put_on false why rest next e = cc

pub record Takes (row : List ℕ) (room at next : ℕ) : Type 0 where
  pub writable : Writable row
  pub past : next ≡ at + HEAD_BYTES + body_length (kind_of row)
  pub inside : next ≤ room

pub taken_written : (row : List ℕ) (room at next : ℕ) → written_at row room at ≡ Ok next → Takes row room at next
unfolding written_at
taken_written row room at next e =
    let end = at + HEAD_BYTES + body_length (kind_of row) in
    let known = put_on (is_kind (kind_of row)) UnknownKind _ next e in
    let fit = put_on (fits row) DoesNotFit _ next known.1 in
    let inside = put_on (leb end room) DoesNotFit _ next fit.1 in
    let past : next ≡ end = cc in
    record { writable = record { known = known.0; fit = fit.0 }; past = past; inside = rw past (leb-true end room inside.0) }

-- ---- what was read, written: the kind, and the fields of a row that is made of them
pub kind_row : (kind : ℕ) (fields : List ℕ) → kind_of (row_of kind fields) ≡ kind
kind_row kind fields = ⊎_elim (λ (v : writes_value kind ≡ true). rw v) (λ (v : writes_value kind ≡ false). rw v) (cases (writes_value kind))

pub fields_row : (kind a b c d e : ℕ) → d < FIELD → fields_of (row_of kind (a ∷ b ∷ c ∷ d ∷ e ∷ [])) ≡ a ∷ b ∷ c ∷ d ∷ e ∷ []
fields_row kind a b c d e h = ⊎_elim value (λ (v : writes_value kind ≡ false). simp v) (cases (writes_value kind))
  where
    low : (d + FIELD * e) % FIELD ≡ d
    low = omega arith

    high : (d + FIELD * e) / FIELD ≡ e
    high = omega arith

    value : writes_value kind ≡ true → fields_of (row_of kind (a ∷ b ∷ c ∷ d ∷ e ∷ [])) ≡ a ∷ b ∷ c ∷ d ∷ e ∷ []
    value v = simp (v, low, high)

five : (f : ℕ → ℕ) (k : ℕ) → k < FIELDS → get_or (f 0 ∷ f 1 ∷ f 2 ∷ f 3 ∷ f 4 ∷ []) k 0 ≡ f k
five f zero h = refl
five f (suc zero) h = refl
five f (suc (suc zero)) h = refl
five f (suc (suc (suc zero))) h = refl
five f (suc (suc (suc (suc zero)))) h = refl
five f (suc (suc (suc (suc (suc k))))) h = absurd (omega arith)

-- two parts of a log that follow one another are one
pub parts_join : (log : List ℕ) (p n m : ℕ) → take n (drop p log) ++ take m (drop (p + n) log) ≡ take (n + m) (drop p log)
parts_join log p n m = rw (take-add n m (drop p log), drop-drop n p log)

module _ (log : List ℕ) (below : (i : ℕ) → get_or log i 0 < BYTE) where
  -- fields as they stand in the log are the log's own bytes
  body_back : (fields : List ℕ) (i n p : ℕ) → ((k : ℕ) → k < n → get_or fields (i + k) 0 ≡ four log (p + FIELD_BYTES * k)) → p + FIELD_BYTES * n ≤ length log →
      body_from fields i n ≡ take (FIELD_BYTES * n) (drop p log)
  body_back fields i zero p same h = refl
  body_back fields i (suc n) p same h =
      let at_field : (j k : ℕ) → j ≡ k → get_or fields j 0 ≡ get_or fields k 0 = λ j k e. ap (λ (l : ℕ). get_or fields l 0) e in
      let first = at_field i (i + 0) (omega arith) ∙ same 0 (omega arith) ∙ ap (four log) (add-zero p) in
      let others : (k : ℕ) → k < n → get_or fields (i + 1 + k) 0 ≡ four log (p + FIELD_BYTES + FIELD_BYTES * k) =
      λ k l. at_field (i + 1 + k) (i + suc k) (omega arith) ∙ same (suc k) (omega arith) ∙ ap (four log) (omega arith) in
      let rest = body_back fields (i + 1) n (p + FIELD_BYTES) others (omega arith) in
      let size : FIELD_BYTES + FIELD_BYTES * n ≡ FIELD_BYTES * suc n = omega arith in
      ap₂ ◌++◌ (ap (bytes_of FIELD_BYTES) first ∙ bytes_little log below FIELD_BYTES p (omega arith)) rest
      ∙ parts_join log p FIELD_BYTES (FIELD_BYTES * n)
      ∙ ap (λ (m : ℕ). take m (drop p log)) size

  field_below : (at n i : ℕ) → field_at log at n i < FIELD
  field_below at n i = which (ltb i n)
    where
      which : (t : Bool) → (if t then four log (at + HEAD_BYTES + FIELD_BYTES * i) else 0) < FIELD
      which true = little_below log below 4 (at + HEAD_BYTES + FIELD_BYTES * i)
      which false = omega arith

  module _ (at kind : ℕ) (s : Stands log at kind) where
    pub read_kind : kind_of (row_in log at kind) ≡ kind
    read_kind = kind_row kind (fields_at log at (field_count kind))

    read_field : (k : ℕ) → k < field_count kind → get_or (fields_of (row_in log at kind)) k 0 ≡ four log (at + HEAD_BYTES + FIELD_BYTES * k)
    read_field k h =
        let n = field_count kind in
        let f = field_at log at n in
        let most = fields_most kind s.known in
        ap (λ (fields : List ℕ). get_or fields k 0) (fields_row kind (f 0) (f 1) (f 2) (f 3) (f 4) (field_below at n 3)) ∙ five f k (omega arith) ∙ rw (lt-ltb k n h)

    -- such a row is writable, and its record is the log's own bytes
    pub read_writable : Writable (row_in log at kind)
    read_writable =
        let fields = fields_of (row_in log at kind) in
        let small : (k : ℕ) → k < field_count kind → get_or fields (0 + k) 0 < FIELD =
        λ k h. let first : 0 + k ≡ k = omega arith in rw (first, read_field k h) (little_below log below 4 (at + HEAD_BYTES + FIELD_BYTES * k)) in
        record {
          known = ap is_kind read_kind ∙ s.known;
          fit = ap (λ (k : ℕ). fit_from fields 0 (field_count k)) read_kind ∙ field_fit fields 0 (field_count kind) small;
        }

    pub record_back : record_of (row_in log at kind) ≡ take (HEAD_BYTES + body_length kind) (drop at log)
    unfolding record_of
    record_back =
        let inside = s.inside in
        let fields = fields_of (row_in log at kind) in
        let Size-back = ap (bytes_of 2) (sym s.length-there) ∙ bytes_little log below 2 at (omega arith) in
        let kind-back = ap (bytes_of 2) (sym s.kind_there) ∙ bytes_little log below 2 (at + LENGTH_BYTES) (omega arith) in
        let same : (k : ℕ) → k < field_count kind → get_or fields (0 + k) 0 ≡ four log (at + LENGTH_BYTES + KIND_BYTES + FIELD_BYTES * k) =
        λ k h. ap (λ (j : ℕ). get_or fields j 0) (zero-add k) ∙ read_field k h ∙ ap (λ (p : ℕ). four log (p + FIELD_BYTES * k)) (omega arith) in
        let Fields-back = body_back fields 0 (field_count kind) (at + LENGTH_BYTES + KIND_BYTES) same (omega arith) in
        let whole : LENGTH_BYTES + (KIND_BYTES + body_length kind) ≡ HEAD_BYTES + body_length kind = omega arith in
        ap (λ (k : ℕ). bytes_of LENGTH_BYTES (length_of k) ++ (bytes_of KIND_BYTES k ++ body_from fields 0 (field_count k))) read_kind
        ∙ ap₂ ◌++◌ Size-back (ap₂ ◌++◌ kind-back Fields-back ∙ parts_join log (at + LENGTH_BYTES) KIND_BYTES (body_length kind))
        ∙ parts_join log at LENGTH_BYTES (KIND_BYTES + body_length kind)
        ∙ ap (λ (m : ℕ). take m (drop at log)) whole
