-- The page sets by columns: column k has the word of each row for the 64 pages from k * 64 on.
use Rattle.std.specs.Prelude.{ℕ, ◌+◌, ◌-◌, ◌*◌, ◌^◌, min, Bool, not, List, eqb, get_or}
use Rattle.numbers.specs.Limits.{SET_WORDS}

-- the word of a row in column k
abbrev pub column_word : List ℕ → ℕ → ℕ → ℕ
column_word sets row k = get_or sets (row * SET_WORDS + k) 0

-- whether it has a page
abbrev pub not_empty : List ℕ → ℕ → ℕ → Bool
not_empty sets row k = not (eqb (column_word sets row k) 0)

-- a bit for each page below n
unfoldable pub below_word : ℕ → ℕ → ℕ
below_word n k = 2 ^ min 64 (n - k * 64) - 1
