-- What code that asks a test of each word knows of it.
use Rattle.std.specs.Prelude.{ℕ, Bool, ◌≡◌}

-- each answer that the code's test may give of a word is what p says of it
abbrev pub Tells : (ℕ → Bool → Type 0) → (ℕ → Bool) → Type 0
Tells gives p = (w : ℕ) (yes : Bool) → gives w yes → yes ≡ p w
