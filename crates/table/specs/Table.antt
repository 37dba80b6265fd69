-- A bounded table: words, of which 0 is an empty place and any other is filed under a key.
-- Over any way of reading a word's key, since maps, caches and pairs are keyed differently (docs/MACHINE.md, 3).
use Rattle.std.specs.Prelude.{ℕ, ◌<◌, Bool, List, ◌≡◌, eqb, leb, length, get_or, set, Option, Some, None}
use Rattle.table.specs.Scan.{first, count, wipe}

-- ---- empty places
abbrev pub is_empty : ℕ → Bool
is_empty w = eqb w 0

unfoldable pub lowest_free : List ℕ → Option ℕ
lowest_free ws = first is_empty ws

unfoldable pub free_entries : List ℕ → ℕ
free_entries ws = count is_empty ws

-- at least n places are empty
abbrev pub room_for : List ℕ → ℕ → Bool
room_for ws n = leb n (free_entries ws)

-- ---- what a place gives
abbrev pub or_else : Option ℕ → Option ℕ → Option ℕ
or_else (Some i) other = Some i
or_else None other = other

abbrev pub is_found : Option ℕ → Bool
is_found (Some i) = Bool.true
is_found None = Bool.false

abbrev pub set_at : List ℕ → Option ℕ → ℕ → List ℕ
set_at ws (Some i) w = set ws i w
set_at ws None w = ws

abbrev pub word_at : List ℕ → Option ℕ → ℕ
word_at ws (Some i) = get_or ws i 0
word_at ws None = 0

-- ---- the word is filled, and stands in the table
pub record Has (ws : List ℕ) (w : ℕ) : Type 0 where
  pub spot : ℕ
  pub within : spot < length ws
  pub holds : get_or ws spot 0 ≡ w
  pub filled : w ≡ 0 → ⊥

-- ---- by key
module _ (key_of : ℕ → ℕ) where
  abbrev pub has_key : ℕ → ℕ → Bool
  has_key k w = eqb (key_of w) k

  unfoldable pub find : List ℕ → ℕ → Option ℕ
  find ws k = first (has_key k) ws

  -- the word of this key, 0 where there is none
  unfoldable pub lookup : List ℕ → ℕ → ℕ
  lookup ws k = word_at ws (find ws k)

  -- where a word of this key goes: over the one that is there, else into the lowest empty place
  unfoldable pub place : List ℕ → ℕ → Option ℕ
  place ws k = or_else (find ws k) (lowest_free ws)

  -- where there is no place the table stays as it is
  unfoldable pub put : List ℕ → ℕ → ℕ → List ℕ
  put ws k w = set_at ws (place ws k) w

  unfoldable pub erase : List ℕ → ℕ → List ℕ
  erase ws k = wipe (has_key k) ws

  -- no key twice
  unfoldable pub Distinct : List ℕ → Type 0
  Distinct ws = (i j : ℕ) → i < j → j < length ws → key_of (get_or ws i 0) ≡ key_of (get_or ws j 0) → key_of (get_or ws j 0) ≡ 0
