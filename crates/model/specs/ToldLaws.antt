-- What an accepted start was told and lent, and its units one by one.
use Rattle.std.specs.Prelude.{ℕ, zero, suc, ◌+◌, ◌*◌, ◌%◌, ◌≤◌, ◌<◌, true, false, not, ◌&&◌, List, ◌≡◌, refl, eqb, ltb, leb, length, get_or}
use Rattle.std.proofs.Common.{arith, ltb-true, leb-true, eqb-true}
use Rattle.std.proofs.lemmas.Bool.{not-false}
use Rattle.std.specs.Prelude.{if◌then◌else◌}
use Rattle.numbers.specs.Limits.{PAGES, PAGE_WORDS, SETS, SET_WORDS, PAIRS, ENTRIES, SLOTS, UNITS}
use Rattle.numbers.specs.Meaning.{accept}
use Rattle.table.specs.Scan.{any_below}
use Rattle.table.specs.ScanLaws.{any_below_false}
use Rattle.units.specs.Spans.{span_within}
use Rattle.units.specs.Units.{no_unit}
use Rattle.units.specs.declared.Unit.{Unit}
use Rattle.model.specs.EarlyLaws.{past, both, hold}
use Rattle.model.specs.Start.{Told, UNIT_NUMBERS, count_told, unit_told, units_from, bad_field, bad_span, lengths_good, start_answer}
use Rattle.model.specs.Header.{Lists}

-- ---- what an accepted answer tells
pub record LengthsPassed (t : Told) (l : Lists) : Type 0 where
  pub memory : length l.memory ≡ PAGE_WORDS * t.pages
  pub sets : length l.sets ≡ SETS * SET_WORDS
  pub pairs : length l.pairs ≡ PAIRS
  pub cpu_map : length l.cpu_map ≡ ENTRIES
  pub cpu_walker : length l.cpu_walker ≡ ENTRIES
  pub cpu_cache : length l.cpu_cache ≡ SLOTS
  pub dma_map : length l.dma_map ≡ ENTRIES
  pub dma_walker : length l.dma_walker ≡ ENTRIES
  pub dma_cache : length l.dma_cache ≡ SLOTS

pub lengths_passed : (t : Told) (l : Lists) → lengths_good t l ≡ true → LengthsPassed t l
lengths_passed t l e =
    let m = eqb (length l.memory) (PAGE_WORDS * t.pages) in
    let s = eqb (length l.sets) (SETS * SET_WORDS) in
    let p = eqb (length l.pairs) PAIRS in
    let cm = eqb (length l.cpu_map) ENTRIES in
    let cw = eqb (length l.cpu_walker) ENTRIES in
    let ch = eqb (length l.cpu_cache) SLOTS in
    let dm = eqb (length l.dma_map) ENTRIES in
    let dw = eqb (length l.dma_walker) ENTRIES in
    let dh = eqb (length l.dma_cache) SLOTS in
    let l9 = both (m && s && p && cm && cw && ch && dm && dw && dh) (eqb (length t.units % UNIT_NUMBERS) 0) e in
    let l8 = both (m && s && p && cm && cw && ch && dm && dw) dh l9.0 in
    let l7 = both (m && s && p && cm && cw && ch && dm) dw l8.0 in
    let l6 = both (m && s && p && cm && cw && ch) dm l7.0 in
    let l5 = both (m && s && p && cm && cw) ch l6.0 in
    let l4 = both (m && s && p && cm) cw l5.0 in
    let l3 = both (m && s && p) cm l4.0 in
    let l2 = both (m && s) p l3.0 in
    let l1 = both m s l2.0 in
    record {
      memory = eqb-true _ _ l1.0;
      sets = eqb-true _ _ l1.1;
      pairs = eqb-true _ _ l2.1;
      cpu_map = eqb-true _ _ l3.1;
      cpu_walker = eqb-true _ _ l4.1;
      cpu_cache = eqb-true _ _ l5.1;
      dma_map = eqb-true _ _ l6.1;
      dma_walker = eqb-true _ _ l7.1;
      dma_cache = eqb-true _ _ l8.1;
    }

pub record StartPassed (t : Told) (l : Lists) : Type 0 where
  pub lengths : LengthsPassed t l
  pub some_pages : 0 < t.pages
  pub pages_ok : t.pages ≤ PAGES
  pub units_ok : count_told t.units ≤ UNITS
  pub fields_ok : (k : ℕ) → k < count_told t.units → bad_field t.units k ≡ false
  pub spans_ok : (k : ℕ) → k < count_told t.units → bad_span t.pages t.units k ≡ false
  pub shared_ok : t.shared_base + t.shared_count ≤ t.pages

pub start_passed : (t : Told) (l : Lists) {dropped word : ℕ} → start_answer t l ≡ accept dropped word → StartPassed t l
unfolding start_answer
start_passed t l e =
    let count = count_told t.units in
    let a = past (not (lengths_good t l && ltb 0 t.pages && leb t.pages PAGES)) _ _ _ e in
    let b = past (not (leb count UNITS)) _ _ _ a.1 in
    let c = past (any_below (bad_field t.units) count) _ _ _ b.1 in
    let d = past (any_below (bad_span t.pages t.units) count) _ _ _ c.1 in
    let f = past (not (span_within t.shared_base t.shared_count t.pages)) _ _ _ d.1 in
    let g = hold (lengths_good t l && ltb 0 t.pages) (leb t.pages PAGES) a.0 in
    let h = both (lengths_good t l) (ltb 0 t.pages) g.0 in
    record {
      lengths = lengths_passed t l h.0;
      some_pages = ltb-true _ _ h.1;
      pages_ok = leb-true _ _ g.1;
      units_ok = leb-true _ _ (not-false _ b.0);
      fields_ok = λ k r. any_below_false (bad_field t.units) count k c.0 r;
      spans_ok = λ k r. any_below_false (bad_span t.pages t.units) count k d.0 r;
      shared_ok = leb-true _ _ (not-false _ f.0);
    }

-- ---- the units
-- what stands at j where the units below k are written
abbrev pub up_to : List ℕ → ℕ → ℕ → Unit
up_to numbers k j = if ltb j k then unit_told numbers j else no_unit

module _ (numbers : List ℕ) where
  pub length-units : (k n : ℕ) → length (units_from numbers k n) ≡ n
  length-units k zero = refl
  length-units k (suc n) = rw (length-units (suc k) n)

  pub unit_at : (k n j : ℕ) → j < n → get_or (units_from numbers k n) j no_unit ≡ up_to numbers (count_told numbers) (k + j)
  unit_at k zero j h = absurd (omega arith)
  unit_at k (suc n) zero h = let z : k + 0 ≡ k = omega arith in rw z
  unit_at k (suc n) (suc j) h = let z : k + suc j ≡ suc k + j = omega arith in rw z (unit_at (suc k) n j (omega arith))
