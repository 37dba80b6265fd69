-- Laws of one bit of a word, its ties to shift and mask, and the laws of sets of numbers kept as bits of words.
use Rattle.std.specs.Prelude.{ℕ, ◌+◌, ◌-◌, ◌*◌, ◌/◌, ◌%◌, ◌^◌, ◌≤◌, ◌<◌, true, List, ◌⊎◌, ◌≡◌, ltb, get_or, set}
use Rattle.std.proofs.Math.Bool.{false}
use Rattle.std.proofs.Common.{inl, inr, sym, ap, ◌∙◌, mod-lt, mod-eq_of_lt, div-add-mod', one-mul, eqb-true, ltb-true, ltb-false, lit<, pow-add, pow_pos, shl_exact, shr-shr, shr_lt, get_or-set_other}
use Rattle.std.proofs.Math.Logic.{⊎_elim}
use Rattle.std.proofs.Math.Nat.{div-eq_of_lt}
use native.Mathlib.Omega.{arith}
use Rattle.std.proofs.lemmas.Bool.{eqb-false}
use Rattle.std.specs.Int.Bits.{bit_and, bit_or, or_add_and}
use Rattle.std.proofs.lemmas.Nat.{and_block, and_mask, or_lt, mod-pow-add}
use Rattle.std.proofs.lemmas.Nat.Bits.{and_high}
use Rattle.std.proofs.Math.ListN.{length, length-set, get_or-eq_default}
use Rattle.std.proofs.Math.Pow.{pow-lt, split, high, low, field, mod-mod-pow, ones_split}
use Rattle.std.proofs.Math.Seq.{get_or-set_same, set_out}
use Rattle.numbers.specs.CaseLaws.{cases, equal}
use Rattle.pages.specs.Bits.{bit, has_bit, with_bit, without_bit, contains, insert, delete}

-- ---- below a number or not
pub below_or : (a b : ℕ) → (a < b) ⊎ (b ≤ a)
below_or a b = ⊎_elim (λ t. inl (ltb-true a b t)) (λ f. inr (ltb-false a b f)) (cases (ltb a b))

-- ---- one bit
pub bit_lt : (w k : ℕ) → bit w k < 2
bit_lt w k = omega arith

rest : (w k : ℕ) → (1 - bit w k) * 2 ^ k + bit w k * 2 ^ k ≡ 2 ^ k
rest w k =
    let e : 1 - bit w k + bit w k ≡ 1 = omega (arith, bit_lt w k) in
    omega (arith, ap (λ (n : ℕ). n * 2 ^ k) e)

-- the word whose bit k is b and whose other bits are those of w
abbrev put : ℕ → ℕ → ℕ → ℕ
put w k b = (w / 2 ^ k / 2 * 2 + b) * 2 ^ k + w % 2 ^ k

whole : (w k : ℕ) → put w k (bit w k) ≡ w
whole w k = rw (div-add-mod' (w / 2 ^ k) 2) (split w k)

with_put : (w k : ℕ) → with_bit w k ≡ put w k 1
with_put w k = omega (arith, whole w k, rest w k)

without_put : (w k : ℕ) → without_bit w k ≡ put w k 0
without_put w k = omega (arith, whole w k)

-- a bit below k is read from what stands below bit k, a bit above from what stands above
bit_below : (w j d : ℕ) → w % 2 ^ (d + 1 + j) / 2 ^ j % 2 ≡ bit w j
bit_below w j d = rw (field w (d + 1) j) (mod-mod-pow (w / 2 ^ j) d 1)

bit_above : (w k d : ℕ) → w / 2 ^ k / 2 / 2 ^ d % 2 ≡ bit w (k + 1 + d)
bit_above w k d = rw (shr-shr w k 1, shr-shr w (k + 1) d)

module _ (w k b : ℕ) (l : b < 2) where
  put_high : put w k b / 2 ^ k ≡ w / 2 ^ k / 2 * 2 + b
  put_high = high (w / 2 ^ k / 2 * 2 + b) k (mod-lt w (pow_pos k))

  put_low : put w k b % 2 ^ k ≡ w % 2 ^ k
  put_low = low (w / 2 ^ k / 2 * 2 + b) k (mod-lt w (pow_pos k))

  put_half : put w k b / 2 ^ k / 2 ≡ w / 2 ^ k / 2
  put_half = rw put_high (omega arith)

  put_same : bit (put w k b) k ≡ b
  put_same = rw put_high (omega arith)

  put_other : (j : ℕ) → (j ≡ k → ⊥) → bit (put w k b) j ≡ bit w j
  put_other j n = ⊎_elim below above (below_or j k)
    where
      below : j < k → bit (put w k b) j ≡ bit w j
      below h =
          let e : k - j - 1 + 1 + j ≡ k = omega arith in
          let read : (v : ℕ) → v % 2 ^ k / 2 ^ j % 2 ≡ bit v j = λ v. rw e at (bit_below v j (k - j - 1)) in
          sym (read (put w k b)) ∙ rw put_low (read w)

      above : k ≤ j → bit (put w k b) j ≡ bit w j
      above h =
          let e : k + 1 + (j - k - 1) ≡ j = omega arith in
          let read : (v : ℕ) → v / 2 ^ k / 2 / 2 ^ (j - k - 1) % 2 ≡ bit v j = λ v. rw e at (bit_above v k (j - k - 1)) in
          sym (read (put w k b)) ∙ rw put_half (read w)

module _ (w k : ℕ) where
  pub has_bit-with_same : has_bit (with_bit w k) k ≡ true
  has_bit-with_same = rw (with_put w k, put_same w k 1 (omega arith))

  pub has_bit-without_same : has_bit (without_bit w k) k ≡ false
  has_bit-without_same = rw (without_put w k, put_same w k 0 (omega arith))

  pub has_bit-with_other : (j : ℕ) → (j ≡ k → ⊥) → has_bit (with_bit w k) j ≡ has_bit w j
  has_bit-with_other j n = rw (with_put w k, put_other w k 1 (omega arith) j n)

  pub has_bit-without_other : (j : ℕ) → (j ≡ k → ⊥) → has_bit (without_bit w k) j ≡ has_bit w j
  has_bit-without_other j n = rw (without_put w k, put_other w k 0 (omega arith) j n)

  -- what is so already stays as it is
  pub with_bit-idle : has_bit w k ≡ true → with_bit w k ≡ w
  with_bit-idle t = rw (eqb-true (bit w k) 1 t) (omega arith)

  pub without_bit-idle : has_bit w k ≡ false → without_bit w k ≡ w
  without_bit-idle f =
      let z : bit w k ≡ 0 = let n = eqb-false (bit w k) 1 f in omega (arith, bit_lt w k) in
      rw z (omega arith)

-- ---- by shift and mask
pub shl_one : (k : ℕ) → k < 64 → 1 * 2 ^ k % 2 ^ 64 ≡ 2 ^ k
shl_one k h = shl_exact 1 k 64 (lit< tt) (omega arith) ∙ one-mul (2 ^ k)

and_bit : (w k : ℕ) → bit_and w (2 ^ k) ≡ bit w k * 2 ^ k
and_bit w k =
    let e : 2 ^ (1 + k) - 2 ^ k ≡ 2 ^ k = omega (arith, pow-add 2 1 k) in
    rw e at (and_high w 1 k)

pub or_bit : (w k : ℕ) → bit_or w (2 ^ k) ≡ with_bit w k
or_bit w k = omega (arith, or_add_and w (2 ^ k), and_bit w k, rest w k)

-- the mask with bit k alone 0 splits above that bit, and so does the word
pub and_not_bit : (w k : ℕ) → w < 2 ^ 64 → k < 64 → bit_and w (2 ^ 64 - 1 - 2 ^ k) ≡ without_bit w k
and_not_bit w k l h =
    let e : 63 - k + (1 + k) ≡ 64 = omega arith in
    let two : 2 ^ (1 + k) ≡ 2 * 2 ^ k = pow-add 2 1 k in
    let ones = rw e at (ones_split (63 - k) (1 + k)) in
    let mask : 2 ^ 64 - 1 - 2 ^ k ≡ (2 ^ (63 - k) - 1) * 2 ^ (1 + k) + (2 ^ k - 1) = omega arith in
    let hi = w / 2 ^ (1 + k) in
    let lo = w % 2 ^ (1 + k) in
    let top : bit_and hi (2 ^ (63 - k) - 1) ≡ hi = and_mask hi (63 - k) ∙ mod-eq_of_lt (shr_lt (63 - k) (1 + k) (rw e l)) in
    let bottom : bit_and lo (2 ^ k - 1) ≡ w % 2 ^ k = and_mask lo k ∙ mod-mod-pow w 1 k in
    let both = and_block (1 + k) hi (2 ^ (63 - k) - 1) lo (2 ^ k - 1) (mod-lt w (pow_pos (1 + k))) (omega (arith, pow_pos k)) in
    rw (split w (1 + k), top, bottom, ← mask) at both ∙ omega (arith, split w (1 + k), mod-pow-add w 1 k)

-- ---- widths
pub with_bit-fits : (w k n : ℕ) → w < 2 ^ n → k < n → with_bit w k < 2 ^ n
with_bit-fits w k n l h = rw (← or_bit w k) (or_lt n w (2 ^ k) l (pow-lt h))

pub without_bit-fits : (w k n : ℕ) → w < 2 ^ n → without_bit w k < 2 ^ n
without_bit-fits w k n l = omega arith

-- ---- sets
module _ (ws : List ℕ) (i : ℕ) where
  pub contains_out : 64 * length ws ≤ i → contains ws i ≡ false
  unfolding contains
  contains_out h =
      let past : length ws ≤ i / 64 = omega arith in
      rw (get_or-eq_default ws 0 past, div-eq_of_lt (pow_pos (i % 64)))

  -- a new word for i's: it says whether i is in the set
  set_same : (v : ℕ) → i / 64 < length ws → contains (set ws (i / 64) v) i ≡ has_bit v (i % 64)
  unfolding contains
  set_same v h = rw (get_or-set_same ws (i / 64) v 0 h)

  -- and where it differs in i's bit alone, nothing else changes
  set_other : (j v : ℕ) → (j ≡ i → ⊥) → ((k : ℕ) → (k ≡ i % 64 → ⊥) → has_bit v k ≡ has_bit (get_or ws (i / 64) 0) k) →
      contains (set ws (i / 64) v) j ≡ contains ws j
  unfolding contains
  set_other j v n same = ⊎_elim (λ e. ⊎_elim (here e) outside (below_or (i / 64) (length ws))) there (equal (j / 64) (i / 64))
    where
      here : j / 64 ≡ i / 64 → i / 64 < length ws → contains (set ws (i / 64) v) j ≡ contains ws j
      here e h = rw (e, get_or-set_same ws (i / 64) v 0 h) (same (j % 64) (λ q. n (omega arith)))

      outside : length ws ≤ i / 64 → contains (set ws (i / 64) v) j ≡ contains ws j
      outside h = rw (set_out ws (i / 64) v h)

      there : (j / 64 ≡ i / 64 → ⊥) → contains (set ws (i / 64) v) j ≡ contains ws j
      there d = rw (get_or-set_other ws (i / 64) (j / 64) v 0 d)

  pub contains_insert_same : i < 64 * length ws → contains (insert ws i) i ≡ true
  unfolding insert
  contains_insert_same h = set_same _ (omega arith) ∙ has_bit-with_same (get_or ws (i / 64) 0) (i % 64)

  pub contains_insert_other : (j : ℕ) → (j ≡ i → ⊥) → contains (insert ws i) j ≡ contains ws j
  unfolding insert
  contains_insert_other j n = set_other j _ n (has_bit-with_other (get_or ws (i / 64) 0) (i % 64))

  pub contains_delete_same : contains (delete ws i) i ≡ false
  unfolding delete
  contains_delete_same = ⊎_elim within outside (below_or (i / 64) (length ws))
    where
      within : i / 64 < length ws → contains (delete ws i) i ≡ false
      within h = set_same _ h ∙ has_bit-without_same (get_or ws (i / 64) 0) (i % 64)

      outside : length ws ≤ i / 64 → contains (delete ws i) i ≡ false
      outside h = rw (set_out ws (i / 64)) (contains_out (omega arith))

  pub contains_delete_other : (j : ℕ) → (j ≡ i → ⊥) → contains (delete ws i) j ≡ contains ws j
  unfolding delete
  contains_delete_other j n = set_other j _ n (has_bit-without_other (get_or ws (i / 64) 0) (i % 64))

  pub length-insert : length (insert ws i) ≡ length ws
  unfolding insert
  length-insert = simp length-set

  pub length-delete : length (delete ws i) ≡ length ws
  unfolding delete
  length-delete = simp length-set
