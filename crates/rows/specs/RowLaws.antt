-- A row's numbers are those of the sequence at its place.
use Rattle.std.specs.Prelude.{ℕ, ◌+◌, ◌*◌, ◌<◌, List, ◌≡◌, get_or, drop}
use Rattle.std.proofs.Common.{ap, ◌∙◌, arith, lit<, get_or-take, get_or-drop}
use Rattle.numbers.specs.Limits.{ROW_NUMBERS}
use Rattle.model.specs.Sequence.{operation_of, operation_in, row_at}

module _ (rows : List ℕ) (k : ℕ) where
  cell : (i : ℕ) → i < ROW_NUMBERS → get_or (row_at rows k) i 0 ≡ get_or rows (k * ROW_NUMBERS + i) 0
  cell i h = get_or-take ROW_NUMBERS (drop (k * ROW_NUMBERS) rows) i 0 h ∙ get_or-drop (k * ROW_NUMBERS) rows i 0

  first : get_or (row_at rows k) 0 0 ≡ get_or rows (k * ROW_NUMBERS) 0
  first = let e : k * ROW_NUMBERS + 0 ≡ k * ROW_NUMBERS = omega arith in cell 0 (lit< tt) ∙ ap (λ (n : ℕ). get_or rows n 0) e

  pub row_numbers :
      operation_in (row_at rows k)
      ≡ operation_of (get_or rows (k * ROW_NUMBERS) 0) (get_or rows (k * ROW_NUMBERS + 1) 0) (get_or rows (k * ROW_NUMBERS + 2) 0) (get_or rows (k * ROW_NUMBERS + 3) 0) (get_or rows (k * ROW_NUMBERS + 4) 0) (get_or rows (k * ROW_NUMBERS + 5) 0)
  unfolding operation_in
  row_numbers = λ i. operation_of (first i) (cell 1 (lit< tt) i) (cell 2 (lit< tt) i) (cell 3 (lit< tt) i) (cell 4 (lit< tt) i) (cell 5 (lit< tt) i)
