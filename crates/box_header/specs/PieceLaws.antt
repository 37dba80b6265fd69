-- The header judged and written piece by piece, as the code does it.
use Rattle.std.specs.Prelude.{ℕ, ◌+◌, ◌<◌, Bool, true, false, not, List, [], ◌∷◌, ◌≡◌, ltb, length, get_or}
use Rattle.std.proofs.Common.{true≢false, ⊎_elim, sym, ◌∙◌, arith, lt-ltb, ltb-true}
use Rattle.std.proofs.lemmas.Bool.{not-true, not-false}
use Rattle.numbers.specs.Decides.{Decides}
use Rattle.numbers.specs.Limits.{PORTS, UNITS}
use Rattle.table.specs.Scan.{any_below, repeat}
use Rattle.table.specs.ScanLaws.{any_below_false, any_below_true}
use Rattle.numbers.specs.CaseLaws.{cases}
use Rattle.units.specs.Units.{is_mark}
use Rattle.model.specs.EarlyLaws.{both}
use Rattle.model.specs.Sequence.{write_at}
use Rattle.model.specs.Start.{number_told}
use Rattle.model.specs.State.{Tables}
use Rattle.box_header.specs.Numbers.{UNIT_COUNT_AT, KNOWN_AT, CPUS_AT, DEVICES_AT, MACHINE_NUMBERS, units_part, HeaderGood, bad_mark, changed, setup_numbers, unit_written}
use Rattle.box_header.specs.PutLaws.{written_append}

-- ---- which numbers are a header
module _ (numbers : List ℕ) where
  abbrev bad : ℕ → Bool
  bad = bad_mark (units_part numbers) (get_or numbers UNIT_COUNT_AT 0)

  abbrev mark_at : ℕ → ℕ
  mark_at k = number_told (units_part numbers) k 5

  good_mark : (k : ℕ) → bad k ≡ false → k < get_or numbers UNIT_COUNT_AT 0 → is_mark (mark_at k) ≡ true
  good_mark k e h = not-false (is_mark (mark_at k)) (rw (lt-ltb k (get_or numbers UNIT_COUNT_AT 0) h) at e)

  none_bad : HeaderGood numbers → any_below bad UNITS ≡ true → ⊥
  none_bad g e =
      let (k, h, b) = any_below_true bad UNITS e in
      let (within, none) = both (ltb k (get_or numbers UNIT_COUNT_AT 0)) (not (is_mark (mark_at k))) b in
      true≢false (sym (g.marks k h (ltb-true _ _ within)) ∙ not-true (is_mark (mark_at k)) none)

  pub header_decided : length numbers ≡ MACHINE_NUMBERS → Decides (not (any_below bad UNITS)) (HeaderGood numbers)
  header_decided l =
      record {
        sound = λ e. record { whole = l; marks = λ k h b. good_mark k (any_below_false bad UNITS k (not-true (any_below bad UNITS) e) h) b };
        complete = λ g. ⊎_elim (λ t. absurd (none_bad g t)) (λ f. rw f) (cases (any_below bad UNITS));
      }

-- ---- the numbers that an operation may change, written in three pieces
pub three_writes : (numbers : List ℕ) (t : Tables) → length t.cpu.ports ≡ PORTS →
    write_at (write_at (write_at numbers KNOWN_AT (t.known ∷ t.cpu.hand ∷ t.dma.hand ∷ [])) CPUS_AT t.cpu.ports) DEVICES_AT t.dma.ports ≡ changed numbers t
three_writes numbers t h =
    let e : CPUS_AT + length t.cpu.ports ≡ DEVICES_AT = omega arith in
    sym (rw e at (written_append (write_at numbers KNOWN_AT (t.known ∷ t.cpu.hand ∷ t.dma.hand ∷ [])) CPUS_AT t.cpu.ports t.dma.ports))

-- ---- all of them, written in turn
pub in_turn : (n : ℕ) (numbers one two three : List ℕ) (t : Tables) → one ≡ write_at numbers 0 (setup_numbers t.setup) → two ≡ changed one t →
    three ≡ repeat (unit_written t.setup.units) 0 n two → three ≡ repeat (unit_written t.setup.units) 0 n (changed (write_at numbers 0 (setup_numbers t.setup)) t)
in_turn n numbers one two three t first second third = third ∙ rw (second, first)
