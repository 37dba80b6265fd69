-- Laws of the words of a column: which page a bit is, which pages are below a number, and that a row has a page exactly where a
-- word of it is not 0.
use Rattle.std.specs.Prelude.{ℕ, ◌+◌, ◌-◌, ◌*◌, ◌/◌, ◌%◌, ◌^◌, ◌≤◌, ◌<◌, min, true, false, List, ◌≡◌, eqb, ltb, get_or}
use Rattle.std.proofs.Math.Logic.{⊎_elim}
use Rattle.std.proofs.Math.Path.{sym}
use Rattle.std.proofs.Common.{◌∙◌, lt_of_lt_of_le, arith, ne_eqb, lt-ltb, le-ltb, pow-add, pow_pos, pow_mono}
use Rattle.std.proofs.Math.Nat.{div-eq_of_lt}
use Rattle.std.proofs.lemmas.Bool.{eqb-false, not-true}
use Rattle.std.proofs.Math.Pow.{ones_lt, ones_split, high}
use Rattle.numbers.specs.DecidesLaws.{same_answer}
use Rattle.numbers.specs.Limits.{PAGES, SET_WORDS}
use Rattle.table.specs.Scan.{any_below}
use Rattle.table.specs.ScanLaws.{below_any, any_below_true}
use Rattle.pages.specs.Bits.{has_bit, contains}
use Rattle.pages.specs.BitLaws.{below_or}
use Rattle.pages.specs.Columns.{column_word, not_empty, below_word}
use Rattle.pages.specs.Rows.{holds}
use Rattle.pages.specs.WordLaws.{zero_none, some_bit}

-- ---- bit j of column k is page k * 64 + j
pub holds_word : (sets : List ℕ) (k j : ℕ) → j < 64 → (row : ℕ) → holds sets row (k * 64 + j) ≡ has_bit (column_word sets row k) j
unfolding contains
holds_word sets k j l row =
    let d : (row * PAGES + (k * 64 + j)) / 64 ≡ row * SET_WORDS + k = omega arith in
    let m : (row * PAGES + (k * 64 + j)) % 64 ≡ j = omega arith in
    rw (d, m)

module _ (sets : List ℕ) (k j : ℕ) (l : j < 64) (row : ℕ) where
  pub bit_holds : has_bit (column_word sets row k) j ≡ true → holds sets row (k * 64 + j) ≡ true
  bit_holds t = holds_word sets k j l row ∙ t

  pub holds_bit : holds sets row (k * 64 + j) ≡ true → has_bit (column_word sets row k) j ≡ true
  holds_bit t = sym (holds_word sets k j l row) ∙ t

-- ---- the pages below n
ones_in : (m j : ℕ) → j < m → has_bit (2 ^ m - 1) j ≡ true
ones_in m j h =
    let e : m - 1 - j + 1 + j ≡ m = omega arith in
    let cut = rw e at (ones_split (m - 1 - j + 1) j) in
    let odd : (2 ^ (m - 1 - j + 1) - 1) % 2 ≡ 1 = omega (arith, pow_pos (m - 1 - j), pow-add 2 (m - 1 - j) 1) in
    rw (cut, high (2 ^ (m - 1 - j + 1) - 1) j (ones_lt j), odd)

ones_out : (m j : ℕ) → m ≤ j → has_bit (2 ^ m - 1) j ≡ false
ones_out m j h = rw (div-eq_of_lt (lt_of_lt_of_le (ones_lt m) (pow_mono h)))

module _ (n k j : ℕ) (l : j < 64) where
  pub below_bit : has_bit (below_word n k) j ≡ ltb (k * 64 + j) n
  unfolding below_word
  below_bit =
      ⊎_elim
      (λ h. ones_in (min 64 (n - k * 64)) j (omega arith) ∙ sym (lt-ltb (k * 64 + j) n h))
      (λ h. ones_out (min 64 (n - k * 64)) j (omega arith) ∙ sym (le-ltb (k * 64 + j) n h))
      (below_or (k * 64 + j) n)

pub below_fits : (n k : ℕ) → below_word n k < 2 ^ 64
unfolding below_word
below_fits n k = let m : min 64 (n - k * 64) ≤ 64 = omega arith in lt_of_lt_of_le (ones_lt (min 64 (n - k * 64))) (pow_mono m)

-- ---- a row has a page exactly where a word of it is not 0
module _ (sets : List ℕ) (row : ℕ) (fit : (i : ℕ) → get_or sets i 0 < 2 ^ 64) where
  word_page : any_below (not_empty sets row) SET_WORDS ≡ true → any_below (holds sets row) PAGES ≡ true
  word_page t =
      let (k, h, x) = any_below_true (not_empty sets row) SET_WORDS t in
      let (j, l, y) = some_bit (column_word sets row k) (fit _) (eqb-false _ 0 (not-true _ x)) in
      below_any (holds sets row) PAGES (k * 64 + j) (omega arith) (holds_word sets k j l row ∙ y)

  page_word : any_below (holds sets row) PAGES ≡ true → any_below (not_empty sets row) SET_WORDS ≡ true
  page_word t =
      let (page, h, x) = any_below_true (holds sets row) PAGES t in
      let e : page / 64 * 64 + page % 64 ≡ page = omega arith in
      let y : has_bit (column_word sets row (page / 64)) (page % 64) ≡ true = sym (rw e at (holds_word sets (page / 64) (page % 64) (omega arith) row)) ∙ x in
      let n : eqb (column_word sets row (page / 64)) 0 ≡ false = ne_eqb _ 0 (λ z. zero_none _ (page % 64) z y) in
      below_any (not_empty sets row) SET_WORDS (page / 64) (omega arith) (rw n)

  pub holds_any : any_below (not_empty sets row) SET_WORDS ≡ any_below (holds sets row) PAGES
  holds_any = same_answer word_page page_word
