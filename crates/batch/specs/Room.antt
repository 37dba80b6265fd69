-- The sizes of the rooms.
use Rattle.std.specs.Prelude.{ℕ, ◌+◌, ◌*◌, List, [], ◌∷◌, ◌++◌, take}
use Rattle.numbers.specs.Limits.{PAGES, PAGE_WORDS, UNITS, ANSWER_NUMBERS}

-- the units after one more: one more than a machine may have is kept, by which start sees that there are too many
abbrev pub units_kept : List (List ℕ) → List ℕ → List (List ℕ)
units_kept units unit = take (UNITS + 1) (units ++ unit ∷ [])

-- rows that are carried out together
abbrev pub BATCH : ℕ
BATCH = 1024

-- the words of the memory that a program lends
abbrev pub MEMORY_WORDS : ℕ
MEMORY_WORDS = PAGES * PAGE_WORDS

-- the most bytes of a number with the byte after it, and of an answer
abbrev pub NUMBER_BYTES : ℕ
NUMBER_BYTES = 21

abbrev pub ANSWER_BYTES : ℕ
ANSWER_BYTES = ANSWER_NUMBERS * NUMBER_BYTES
