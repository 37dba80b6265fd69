-- Searches, for any test: over the words of a table, and over the numbers below a bound.
use Rattle.std.specs.Prelude.{ℕ, zero, suc, ◌+◌, Bool, true, false, List, [], ◌∷◌, map, Option, Some, None}
use Rattle.std.specs.Prelude.{if◌then◌else◌}

-- the lowest place at i or later whose word passes, where ws are the words from i on
abbrev pub first_from : (ℕ → Bool) → ℕ → List ℕ → Option ℕ
first_from p i [] = None
first_from p i (w ∷ ws) = if p w then Some i else first_from p (suc i) ws

abbrev pub first : (ℕ → Bool) → List ℕ → Option ℕ
first p ws = first_from p 0 ws

-- whether a word passes
abbrev pub any : (ℕ → Bool) → List ℕ → Bool
any p [] = false
any p (w ∷ ws) = if p w then true else any p ws

-- how many words pass
abbrev pub count : (ℕ → Bool) → List ℕ → ℕ
count p [] = 0
count p (w ∷ ws) = if p w then count p ws + 1 else count p ws

-- every word that passes is emptied
abbrev pub cleared : (ℕ → Bool) → ℕ → ℕ
cleared p w = if p w then 0 else w

abbrev pub wipe : (ℕ → Bool) → List ℕ → List ℕ
wipe p ws = map (cleared p) ws

-- the lowest number that passes of the n from i on, i + n where none does
abbrev pub lowest_from : (ℕ → Bool) → ℕ → ℕ → ℕ
lowest_from p i zero = i
lowest_from p i (suc n) = if p i then i else lowest_from p (suc i) n

-- the lowest number below n that passes, n where none does
abbrev pub lowest : (ℕ → Bool) → ℕ → ℕ
lowest p n = lowest_from p 0 n

-- whether a number passes of the n from i on; whether one below n does
abbrev pub any_from : (ℕ → Bool) → ℕ → ℕ → Bool
any_from p i zero = false
any_from p i (suc n) = if p i then true else any_from p (suc i) n

abbrev pub any_below : (ℕ → Bool) → ℕ → Bool
any_below p n = any_from p 0 n

-- how many numbers below n pass
abbrev pub count_below : (ℕ → Bool) → ℕ → ℕ
count_below p zero = 0
count_below p (suc n) = if p n then count_below p n + 1 else count_below p n

-- the steps i, i + 1, .. of n in all, each on what the one before left
abbrev pub repeat : {A : Type 0} → (ℕ → A → A) → ℕ → ℕ → A → A
repeat f i zero a = a
repeat f i (suc n) a = repeat f (suc i) n (f i a)
