-- From what `operation_log` says to what the functions for C give.
use Rattle.std.specs.Prelude.{ℕ, true, false, Some, None, Result, Ok, Err, List, ◌≡◌, length, get_or, set, replicate}
use Rattle.std.proofs.Common.{ap, ◌∙◌}
use Rattle.numbers.specs.DecidesLaws.{decides_and, decides_equal}
use Rattle.numbers.specs.Limits.{ROW_NUMBERS}
use Rattle.numbers.specs.Meaning.{refusal_number}
use Rattle.numbers.specs.declared.Refusal.TheVariants.{StateNotValid}
use Rattle.operation_log.specs.Log.{log_refusal_number, Read, record_at, written_at, written}
use Rattle.operation_log.specs.declared.LogRefusal.{LogRefusal}
use Rattle.operation_log.specs.declared.Taken.{Taken}
use Rattle.box_replay.specs.GivenLaws.{one_put}
use Rattle.journal.specs.Given.{shaped, log_given, log_written, row_given, log_read}

-- ---- a row or a place of another length
module _ (row place : List ℕ) {number : ℕ} (s : shaped row place ≡ false) (k : number ≡ refusal_number StateNotValid) (log : List ℕ) where
  pub write_unshaped : log_given number log place ≡ log_written row log place
  write_unshaped = rw (s, k)

  pub read_unshaped : row_given number place row ≡ log_read log place row
  read_unshaped = rw (s, k)

-- ---- both of their lengths
module _ (row place : List ℕ) (s : shaped row place ≡ true) where
  lengths : (length row ≡ ROW_NUMBERS) × (length place ≡ 1)
  lengths = (decides_and (decides_equal (length row) ROW_NUMBERS) (decides_equal (length place) 1)).sound s

  pub whole_row : length row ≡ ROW_NUMBERS
  whole_row = lengths.0

  pub one_place : length place ≡ 1
  one_place = lengths.1

  -- ---- writing
  module _ (log : List ℕ) {numbers log' : List ℕ} {out : Result ℕ LogRefusal} (n : numbers ≡ row) (o : (out ≡ written_at numbers (length log) (get_or place 0 0)) × (log' ≡ written numbers log (get_or place 0 0))) where
    there : out ≡ written_at row (length log) (get_or place 0 0)
    there = o.0 ∙ ap (λ (x : List ℕ). written_at x (length log) (get_or place 0 0)) n

    buffer : log' ≡ written row log (get_or place 0 0)
    buffer = o.1 ∙ ap (λ (x : List ℕ). written x log (get_or place 0 0)) n

    pub wrote_past : (next : ℕ) → out ≡ Ok next → log_given 0 log' (set place 0 next) ≡ log_written row log place
    wrote_past next e = rw (s, ← there, e, buffer, one_put place next one_place)

    pub wrote_none : (why : LogRefusal) {number : ℕ} → out ≡ Err why → number ≡ log_refusal_number why → log_given number log' place ≡ log_written row log place
    unfolding written
    wrote_none why e k = rw (s, k, buffer, ← there, e)

  -- ---- reading
  module _ (log : List ℕ) {read : Read} (t : read ≡ record_at log (get_or place 0 0)) where
    pub read_record : {taken : Taken} {row' : List ℕ} → read ≡ Ok (Some taken) → row' ≡ taken.row → row_given 0 (set place 0 taken.next) row' ≡ log_read log place row
    read_record {taken} e r = rw (s, ← t, e, r, one_put place taken.next one_place)

    pub read_end : {row' : List ℕ} → read ≡ Ok None → row' ≡ replicate ROW_NUMBERS 0 → row_given 0 place row' ≡ log_read log place row
    read_end e r = rw (s, ← t, e, r)

    pub read_none : (why : LogRefusal) {number : ℕ} → read ≡ Err why → number ≡ log_refusal_number why → row_given number place row ≡ log_read log place row
    read_none why e k = rw (s, k, ← t, e)
