-- The code's steps: the fields of a body that fit, and those that are put; the row of the fields that were read; and the ways on which a
-- record is or is not written.
use Rattle.std.specs.Prelude.{ℕ, zero, suc, ◌+◌, ◌*◌, ◌/◌, ◌≤◌, ◌<◌, Bool, true, false, ◌&&◌, Some, Ok, Err, List, [], ◌∷◌, ◌++◌, ◌≡◌, ltb, leb, nat_lt, length, get_or, take, drop}
use Rattle.std.specs.List.{list_all, flat_map}
use Rattle.std.proofs.Math.Path.{refl, sym}
use Rattle.numbers.specs.CaseLaws.{cases}
use Rattle.std.proofs.Common.{⊎_elim, ap, ◌∙◌, add-one, length-take, drop-cons}
use Rattle.std.proofs.lemmas.List.{take_more}
use Rattle.std.proofs.lemmas.Grind.{flat_map-append}
use native.Mathlib.Omega.{arith}
use borrow.Author.Tests.{le-leb}
use Rattle.model.specs.Sequence.{write_at}
use Rattle.records.specs.Little.{bytes_of}
use Rattle.records.specs.JoinLaws.{write_join}
use Rattle.operation_log.specs.Kinds.{writes_value, field_count, body_length, body_of, FIELD_BYTES}
use Rattle.operation_log.specs.KindLaws.{body_kind, fields_most}
use Rattle.operation_log.specs.Log.{LENGTH_BYTES, KIND_BYTES, HEAD_BYTES, length_of, FIELD, FIELDS, kind_of, fields_of, body_from, record_of, fit_from, fits, written_at, written}
use Rattle.operation_log.specs.declared.LogRefusal.TheVariants.{DoesNotFit}

-- ---- n of the fields from the i-th on: they fit where each does, and their bytes stand one behind the other
module _ (fields : List ℕ) where
  each_fits : (i n : ℕ) → i + n ≤ length fields → list_all (λ field. nat_lt field FIELD) (take n (drop i fields)) ≡ fit_from fields i n
  each_fits i zero h = refl
  each_fits i (suc n) h =
      let inside : i < length fields = omega arith in
      rw (drop-cons fields i 0, ← add-one i) (ap (λ (rest : Bool). ltb (get_or fields i 0) FIELD && rest) (each_fits (i + 1) n (omega arith)))

  each_put : (i n : ℕ) → i + n ≤ length fields → flat_map (bytes_of FIELD_BYTES) (take n (drop i fields)) ≡ body_from fields i n
  each_put i zero h = refl
  each_put i (suc n) h =
      let inside : i < length fields = omega arith in
      rw (drop-cons fields i 0, ← add-one i) (ap (λ (rest : List ℕ). bytes_of FIELD_BYTES (get_or fields i 0) ++ rest) (each_put (i + 1) n (omega arith)))

-- ---- a field put behind those that were put
length-put : (fields : List ℕ) → length (flat_map (bytes_of FIELD_BYTES) fields) ≡ FIELD_BYTES * length fields
length-put [] = refl
length-put (field ∷ fields) = omega (arith, length-put fields)

pub field_put : (room : List ℕ) (at : ℕ) (fields : List ℕ) (i : ℕ) (now next : List ℕ) → now ≡ write_at room at (flat_map (bytes_of FIELD_BYTES) (take i fields)) → i < length fields →
    next ≡ write_at now (at + FIELD_BYTES * i) (bytes_of FIELD_BYTES (get_or fields i 0)) → next ≡ write_at room at (flat_map (bytes_of FIELD_BYTES) (take (i + 1) fields))
field_put room at fields i now next before h e =
    let place : at + length (flat_map (bytes_of FIELD_BYTES) (take i fields)) ≡ at + FIELD_BYTES * i = rw (length-put (take i fields)) (simp length-take (omega arith)) in
    e ∙ rw (before, write_join room at (at + FIELD_BYTES * i) (flat_map (bytes_of FIELD_BYTES) (take i fields)) (bytes_of FIELD_BYTES (get_or fields i 0)) place, take_more fields i 0 h, flat_map-append)

-- ---- a row whose kind has a body of so many bytes
module _ (row log : List ℕ) (at body : ℕ) (fields : List ℕ) (b : body_of (kind_of row) ≡ Some body) (f : fields ≡ take (body / FIELD_BYTES) (fields_of row)) where
  count : body / FIELD_BYTES ≡ field_count (kind_of row)
  count = omega (arith, (body_kind (kind_of row) body b).1)

  room_of : 0 + field_count (kind_of row) ≤ length (fields_of row)
  room_of =
      let five : length (fields_of row) ≡ FIELDS = ⊎_elim (λ (v : writes_value (kind_of row) ≡ true). rw v) (λ (v : writes_value (kind_of row) ≡ false). rw v) (cases (writes_value (kind_of row))) in
      omega (arith, fields_most (kind_of row) (body_kind (kind_of row) body b).0)

  -- its fields fit where the code finds that they do
  pub fits_read : {ok : Bool} → ok ≡ list_all (λ field. nat_lt field FIELD) fields → ok ≡ fits row
  fits_read r = r ∙ rw (f, count) (each_fits (fields_of row) 0 (field_count (kind_of row)) room_of)

  -- and where they do not it is refused
  pub unfit : {ok : Bool} → ok ≡ list_all (λ field. nat_lt field FIELD) fields → ok ≡ false →
      (Err DoesNotFit ≡ written_at row (length log) at) × (log ≡ written row log at)
  unfolding written_at written
  unfit r not-all = let known = body_kind (kind_of row) body b in let none : fits row ≡ false = sym (fits_read r) ∙ not-all in rw (known.0, none) (refl, refl)

  -- length, kind and body, put one behind the other
  pub filled : {ok : Bool} (one two three : List ℕ) → ok ≡ list_all (λ field. nat_lt field FIELD) fields → ok ≡ true → at + HEAD_BYTES + body ≤ length log →
      one ≡ write_at log at (bytes_of LENGTH_BYTES (KIND_BYTES + body)) → two ≡ write_at one (at + LENGTH_BYTES) (bytes_of KIND_BYTES (kind_of row)) →
      three ≡ write_at two (at + HEAD_BYTES) (flat_map (bytes_of FIELD_BYTES) fields) →
      (Ok (at + HEAD_BYTES + body) ≡ written_at row (length log) at) × (three ≡ written row log at)
  unfolding written_at written record_of
  filled one two three r each room first second third =
      let known = body_kind (kind_of row) body b in
      let all : fits row ≡ true = sym (fits_read r) ∙ each in
      let behind : at + LENGTH_BYTES + KIND_BYTES ≡ at + HEAD_BYTES = omega arith in
      let there : leb (at + HEAD_BYTES + body_length (kind_of row)) (length log) ≡ true = le-leb _ _ (omega (arith, known.1)) in
      rw (known.0, all, there) (
        ap (λ (n : ℕ). Ok (at + HEAD_BYTES + n)) known.1,
        third ∙ rw (
          second,
          first,
          f,
          count,
          each_put (fields_of row) 0 (field_count (kind_of row)) room_of,
          known.1,
          write_join (write_at log at (bytes_of LENGTH_BYTES (length_of (kind_of row)))) (at + LENGTH_BYTES) (at + HEAD_BYTES) (bytes_of KIND_BYTES (kind_of row)) (body_from (fields_of row) 0 (field_count (kind_of row))) behind,
          write_join log at (at + LENGTH_BYTES) (bytes_of LENGTH_BYTES (length_of (kind_of row))) (bytes_of KIND_BYTES (kind_of row) ++ body_from (fields_of row) 0 (field_count (kind_of row))) refl,
        ),
      )
