-- The size of the array that holds the nine slices of a state, each with a spare word after it.
use Rattle.std.specs.Prelude.{ℕ, ◌+◌, ◌*◌}
use Rattle.numbers.specs.Limits.{PAGE_WORDS, ENTRIES, PAIRS, SLOTS, SETS, SET_WORDS}

-- physical pages of the states
abbrev pub N : ℕ
N = 70

abbrev pub WORDS : ℕ
WORDS = SETS * SET_WORDS + PAIRS + 4 * ENTRIES + 2 * SLOTS + PAGE_WORDS * N + 9
