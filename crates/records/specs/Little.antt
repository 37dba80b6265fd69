-- Numbers in bytes, the lowest first (docs/MACHINE.md, 14).
use Rattle.std.specs.Prelude.{ℕ, zero, suc, ◌+◌, ◌*◌, ◌/◌, ◌%◌, List, [], ◌∷◌, get_or}

-- numbers that a byte can be
abbrev pub BYTE : ℕ
BYTE = 256

-- the number that n bytes make from a place on
abbrev pub little : ℕ → List ℕ → ℕ → ℕ
little zero bytes at = 0
little (suc n) bytes at = get_or bytes at 0 + BYTE * little n bytes (at + 1)

abbrev pub two : List ℕ → ℕ → ℕ
two bytes at = little 2 bytes at

abbrev pub four : List ℕ → ℕ → ℕ
four bytes at = little 4 bytes at

-- the n lowest bytes of a number
abbrev pub bytes_of : ℕ → ℕ → List ℕ
bytes_of zero number = []
bytes_of (suc n) number = number % BYTE ∷ bytes_of n (number / BYTE)
