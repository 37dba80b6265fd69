-- The kinds of record, which are the operations' numbers, and how long the body of each is (docs/MACHINE.md, 14).
use Rattle.std.specs.Prelude.{ℕ, ◌+◌, ◌*◌, Bool, ◌&&◌, ◌||◌, Option, Some, None, List, [], ◌∷◌, eqb, ltb, leb, get_or}
use Rattle.std.specs.Prelude.{if◌then◌else◌}

-- the last kind
abbrev pub KINDS : ℕ
KINDS = 27

abbrev pub is_kind : ℕ → Bool
is_kind kind = ltb 0 kind && leb kind KINDS

-- how many arguments the operation has (docs/MACHINE.md, 7), at the place of its number; 0 is no kind
unfoldable pub argument_counts : List ℕ
argument_counts =
    0
    -- 1 to 6: VMs, ownership and sharing
    ∷ 1 ∷ 1 ∷ 2 ∷ 2 ∷ 3 ∷ 3
    -- 7 to 10: map and unmap
    ∷ 5 ∷ 5 ∷ 2 ∷ 2
    -- 11 to 14: regions
    ∷ 5 ∷ 5 ∷ 5 ∷ 5
    -- 15 to 20: ports, fills, emptied slots
    ∷ 2 ∷ 2 ∷ 2 ∷ 2 ∷ 1 ∷ 1
    -- 21 to 24: reads and writes
    ∷ 3 ∷ 3 ∷ 4 ∷ 4
    -- 25, 26: barriers
    ∷ 0 ∷ 0
    -- 27: a VM retired
    ∷ 1
    ∷ []

abbrev pub argument_count : ℕ → ℕ
argument_count kind = get_or argument_counts kind 0

-- the kinds whose last argument is a value of 64 bits
abbrev pub writes_value : ℕ → Bool
writes_value kind = eqb kind 23 || eqb kind 24

-- an argument is a field of four bytes, a value two of them
abbrev pub FIELD_BYTES : ℕ
FIELD_BYTES = 4

abbrev pub field_count : ℕ → ℕ
field_count kind = argument_count kind + (if writes_value kind then 1 else 0)

abbrev pub body_length : ℕ → ℕ
body_length kind = FIELD_BYTES * field_count kind

-- how long a body is, of what is a kind
abbrev pub body_of : ℕ → Option ℕ
body_of kind = if is_kind kind then Some (body_length kind) else None
