-- All pages of a row at once, column by column: one row poured into another, and a row emptied.
use Rattle.std.specs.Prelude.{ℕ, ◌+◌, ◌*◌, List, set}
use Rattle.std.specs.Int.Bits.{bit_or}
use Rattle.numbers.specs.Limits.{SET_WORDS}
use Rattle.table.specs.Scan.{repeat}
use Rattle.pages.specs.Columns.{column_word}

-- the word of a row in column k becomes another
abbrev pub set_column : List ℕ → ℕ → ℕ → ℕ → List ℕ
set_column sets row k w = set sets (row * SET_WORDS + k) w

-- what the one row has in column k goes to the other, which keeps what it has
abbrev pub pour_column : ℕ → ℕ → ℕ → List ℕ → List ℕ
pour_column from to k sets = set_column (set_column sets to k (bit_or (column_word sets to k) (column_word sets from k))) from k 0

unfoldable pub pour : List ℕ → ℕ → ℕ → List ℕ
pour sets from to = repeat (pour_column from to) 0 SET_WORDS sets

abbrev pub empty_column : ℕ → ℕ → List ℕ → List ℕ
empty_column row k sets = set_column sets row k 0

unfoldable pub emptied : List ℕ → ℕ → List ℕ
emptied sets row = repeat (empty_column row) 0 SET_WORDS sets
