-- One bit of a word, and a set of numbers kept as bits of 64-bit words: number i is bit i % 64 of word i / 64.
use Rattle.std.specs.Prelude.{ℕ, ◌+◌, ◌-◌, ◌*◌, ◌/◌, ◌%◌, ◌^◌, Bool, List, eqb, get_or, set}

-- bit k of a word, 0 or 1
abbrev pub bit : ℕ → ℕ → ℕ
bit w k = w / 2 ^ k % 2

-- whether it is 1
abbrev pub has_bit : ℕ → ℕ → Bool
has_bit w k = eqb (bit w k) 1

-- the word with bit k 1, and with bit k 0
abbrev pub with_bit : ℕ → ℕ → ℕ
with_bit w k = w + (1 - bit w k) * 2 ^ k

abbrev pub without_bit : ℕ → ℕ → ℕ
without_bit w k = w - bit w k * 2 ^ k

-- ---- sets of numbers
unfoldable pub contains : List ℕ → ℕ → Bool
contains ws i = has_bit (get_or ws (i / 64) 0) (i % 64)

unfoldable pub insert : List ℕ → ℕ → List ℕ
insert ws i = set ws (i / 64) (with_bit (get_or ws (i / 64) 0) (i % 64))

unfoldable pub delete : List ℕ → ℕ → List ℕ
delete ws i = set ws (i / 64) (without_bit (get_or ws (i / 64) 0) (i % 64))
