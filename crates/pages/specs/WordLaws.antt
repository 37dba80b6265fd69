-- Laws of whole words: words with the same bits are the same, a word is 0 exactly where it has no bit, and the bits of `&`, `|` and `^`.
use Rattle.std.specs.Prelude.{ℕ, zero, suc, ◌+◌, ◌*◌, ◌/◌, ◌%◌, ◌^◌, ◌<◌, min, max, true, false, ◌&&◌, ◌||◌, ◌⊎◌, ◌≡◌}
use Rattle.std.proofs.Common.{true≢false, ⊎_elim, sym, ◌∙◌, pow-suc, arith, eqb-true, pow_pos, shr-shr}
use Rattle.std.proofs.Math.Bool.{xor, or-true}
use Rattle.std.proofs.Math.Path.{refl}
use Rattle.std.proofs.Math.Nat.{div-eq_of_lt}
use Rattle.std.proofs.lemmas.Bool.{eqb-false}
use Rattle.std.specs.Int.Bits.{bit_and, bit_or, bit_xor, differ, and_step, or_step, xor_step}
use Rattle.std.proofs.lemmas.Nat.{and_shr, or_shr, xor_shr}
use Rattle.std.proofs.Math.Dec.{eqb}
use Rattle.numbers.specs.CaseLaws.{cases}
use Rattle.numbers.specs.DecidesLaws.{decides_itself, decides_and, decides_or}
use Rattle.table.specs.Scan.{any_below}
use Rattle.table.specs.ScanLaws.{any_below_true, any_below_false}
use Rattle.pages.specs.Bits.{bit, has_bit}
use Rattle.pages.specs.BitLaws.{bit_lt}

-- ---- the bits say which word it is
pub has_bit-zero : (j : ℕ) → has_bit 0 j ≡ false
has_bit-zero j = rw (div-eq_of_lt (pow_pos j))

bit_same : (w v j : ℕ) → has_bit w j ≡ has_bit v j → bit w j ≡ bit v j
bit_same w v j e =
    ⊎_elim (λ t. eqb-true (bit w j) 1 t ∙ sym (eqb-true (bit v j) 1 (sym e ∙ t)))
    (λ f. let n = eqb-false (bit w j) 1 f in let m = eqb-false (bit v j) 1 (sym e ∙ f) in omega (arith, bit_lt w j, bit_lt v j))
    (cases (has_bit w j))

bit_suc : (w j : ℕ) → bit w (suc j) ≡ bit (w / 2) j
bit_suc w j = let e : 1 + j ≡ suc j = omega arith in sym (rw (shr-shr w 1 j, e))

bits_same : (n w v : ℕ) → w < 2 ^ n → v < 2 ^ n → ((j : ℕ) → j < n → bit w j ≡ bit v j) → w ≡ v
bits_same zero w v a b h = omega arith
bits_same (suc n) w v a b h =
    let e : 2 ^ suc n ≡ 2 ^ n * 2 = pow-suc 2 n in
    let top : w / 2 ≡ v / 2 = bits_same n (w / 2) (v / 2) (omega arith) (omega arith) (λ j l. sym (bit_suc w j) ∙ h (suc j) (omega arith) ∙ bit_suc v j) in
    let low : w / 1 % 2 ≡ v / 1 % 2 = h 0 (omega arith) in
    omega arith

pub same_bits : (w v : ℕ) → w < 2 ^ 64 → v < 2 ^ 64 → ((j : ℕ) → j < 64 → has_bit w j ≡ has_bit v j) → w ≡ v
same_bits w v a b h = bits_same 64 w v a b (λ j l. bit_same w v j (h j l))

-- ---- a word is 0 exactly where it has no bit
pub zero_none : (w j : ℕ) → w ≡ 0 → has_bit w j ≡ true → ⊥
zero_none w j e t = true≢false (sym t ∙ rw e (has_bit-zero j))

pub none_zero : (w : ℕ) → w < 2 ^ 64 → ((j : ℕ) → j < 64 → has_bit w j ≡ true → ⊥) → w ≡ 0
none_zero w a h = same_bits w 0 a (pow_pos 64) (λ j l. ⊎_elim (λ t. absurd (h j l t)) (λ f. f ∙ sym (has_bit-zero j)) (cases (has_bit w j)))

pub some_bit : (w : ℕ) → w < 2 ^ 64 → (w ≡ 0 → ⊥) → (j : ℕ) × (j < 64) × (has_bit w j ≡ true)
some_bit w a n =
    ⊎_elim (any_below_true (has_bit w) 64)
    (λ f. absurd (n (none_zero w a (λ j l t. true≢false (sym t ∙ any_below_false (has_bit w) 64 j f l)))))
    (cases (any_below (has_bit w) 64))

-- ---- the bits of `&`, `|` and `^`
-- what holds of any two binary digits
digits : (P : ℕ → ℕ → Type 0) → P 0 0 → P 0 1 → P 1 0 → P 1 1 → (x y : ℕ) → x < 2 → y < 2 → P x y
digits P a b c d zero zero h g = a
digits P a b c d zero (suc zero) h g = b
digits P a b c d zero (suc (suc y)) h g = absurd (omega arith)
digits P a b c d (suc zero) zero h g = c
digits P a b c d (suc zero) (suc zero) h g = d
digits P a b c d (suc zero) (suc (suc y)) h g = absurd (omega arith)
digits P a b c d (suc (suc x)) y h g = absurd (omega arith)

module _ (w v j : ℕ) where
  -- what holds of any two digits holds of bit j of the two words
  bits : (P : ℕ → ℕ → Type 0) → P 0 0 → P 0 1 → P 1 0 → P 1 1 → P (bit w j) (bit v j)
  bits P a b c d = digits P a b c d (bit w j) (bit v j) (bit_lt w j) (bit_lt v j)

  pub has_bit-and : has_bit (bit_and w v) j ≡ (has_bit w j && has_bit v j)
  has_bit-and =
      let e : bit_and (w / 2 ^ j) (v / 2 ^ j) % 2 ≡ min (bit w j) (bit v j) = omega (arith, and_step (w / 2 ^ j) (v / 2 ^ j)) in
      rw (and_shr w v j, e) (bits (λ x y. eqb (min x y) 1 ≡ (eqb x 1 && eqb y 1)) refl refl refl refl)

  pub has_bit-or : has_bit (bit_or w v) j ≡ (has_bit w j || has_bit v j)
  has_bit-or =
      let e : bit_or (w / 2 ^ j) (v / 2 ^ j) % 2 ≡ max (bit w j) (bit v j) = omega (arith, or_step (w / 2 ^ j) (v / 2 ^ j)) in
      rw (or_shr w v j, e) (bits (λ x y. eqb (max x y) 1 ≡ (eqb x 1 || eqb y 1)) refl refl refl refl)

  pub has_bit-xor : has_bit (bit_xor w v) j ≡ xor (has_bit w j) (has_bit v j)
  unfolding xor
  has_bit-xor =
      let small = bits (λ x y. differ x y < 2) (omega arith) (omega arith) (omega arith) (omega arith) in
      let e : bit_xor (w / 2 ^ j) (v / 2 ^ j) % 2 ≡ differ (bit w j) (bit v j) = omega (arith, xor_step (w / 2 ^ j) (v / 2 ^ j)) in
      rw (xor_shr w v j, e) (bits (λ x y. eqb (differ x y) 1 ≡ xor (eqb x 1) (eqb y 1)) refl refl refl refl)

-- ---- a bit in both words, in either
module _ (w v j : ℕ) where
  pub and_both : has_bit (bit_and w v) j ≡ true → (has_bit w j ≡ true) × (has_bit v j ≡ true)
  and_both t = (decides_and (decides_itself (has_bit w j)) (decides_itself (has_bit v j))).sound (sym (has_bit-and w v j) ∙ t)

  pub both_and : has_bit w j ≡ true → has_bit v j ≡ true → has_bit (bit_and w v) j ≡ true
  both_and a b = has_bit-and w v j ∙ rw (a, b)

  pub or_either : has_bit (bit_or w v) j ≡ true → (has_bit w j ≡ true) ⊎ (has_bit v j ≡ true)
  or_either t = (decides_or (decides_itself (has_bit w j)) (decides_itself (has_bit v j))).sound (sym (has_bit-or w v j) ∙ t)

  pub either_or : (has_bit w j ≡ true) ⊎ (has_bit v j ≡ true) → has_bit (bit_or w v) j ≡ true
  either_or s = has_bit-or w v j ∙ ⊎_elim (λ t. rw t) (λ t. rw t (or-true (has_bit w j))) s
