-- A number of 64 bits has at most twenty decimal digits.
use Rattle.std.specs.Prelude.{ℕ, ◌-◌, ◌^◌, ◌<◌, ◌≤◌, length}
use Rattle.std.specs.Fmt.{decimal}
use Rattle.std.proofs.lemmas.Fmt.{length-decimal-le}
use native.Mathlib.Nat.{pow-le-pow_right}
use native.Mathlib.Omega.{arith, by_contra}

-- n takes so many digits in a base, at least `width` of them
abbrev pub IsDigitCount : ℕ → ℕ → ℕ → ℕ → Type 0
IsDigitCount base width n count = (width ≤ count) × (n < base ^ count) × (width < count → base ^ (count - 1) ≤ n)

-- however the digits are counted
pub few_digits : (n count : ℕ) → n < 2 ^ 64 → IsDigitCount 10 1 n count → count ≤ 20
few_digits n count h f =
    by_contra count 20
    λ many.
    let least : 10 ^ (count - 1) ≤ n = f.2 (omega arith) in
    let large : 10 ^ 20 ≤ 10 ^ (count - 1) = pow-le-pow_right (omega arith) {i = 20} {j = count - 1} (omega arith) in
    omega arith

-- as they are written
pub few_decimal : (n : ℕ) → n < 2 ^ 64 → length (decimal n) ≤ 20
few_decimal n small = length-decimal-le 20 n (omega arith) (omega (arith, small)) small
