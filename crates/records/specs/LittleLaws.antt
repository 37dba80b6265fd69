-- Reading and writing numbers in bytes undo each other, at any width and any place.
use Rattle.std.specs.Prelude.{ℕ, zero, suc, ◌+◌, ◌*◌, ◌/◌, ◌%◌, ◌^◌, ◌≤◌, ◌<◌, List, [], ◌∷◌, ◌++◌, ◌≡◌, refl, length, get_or, take, drop}
use Rattle.std.proofs.Common.{ap, ◌∙◌, add-zero, add_assoc, pow-suc, add-one, arith, drop-cons, get_or-append-add}
use Rattle.std.proofs.Math.ListN.{get_or-append}
use Rattle.std.proofs.lemmas.List.{set-get_or}
use Rattle.model.specs.Sequence.{write_at}
use Rattle.model.specs.WriteLaws.{written_here}
use Rattle.records.specs.Little.{BYTE, little, bytes_of}
use Rattle.records.specs.JoinLaws.{length-bytes}

-- ---- a number is what its bytes are, wherever they stand
pub little_same : (n : ℕ) (a b : List ℕ) (i j : ℕ) → ((k : ℕ) → k < n → get_or a (i + k) 0 ≡ get_or b (j + k) 0) → little n a i ≡ little n b j
little_same zero a b i j same = refl
little_same (suc n) a b i j same =
    let first : get_or a i 0 ≡ get_or b j 0 = simp add-zero at (same 0 (omega arith)) in
    let rest = little_same n a b (i + 1) (j + 1) (λ k h. simp add_assoc (same (1 + k) (omega arith))) in
    rw (first, rest)

-- a number inside a part that was written is read from the part
pub little_inside : (n : ℕ) (log : List ℕ) (at : ℕ) (part : List ℕ) (k : ℕ) → k + n ≤ length part → at + length part ≤ length log → little n (write_at log at part) (at + k) ≡ little n part k
little_inside n log at part k h l = little_same n (write_at log at part) part (at + k) k (λ i b. simp add_assoc (written_here log at part (k + i) (omega arith) l))

-- so of two lists one behind the other
pub little_left : (n : ℕ) (a b : List ℕ) (i : ℕ) → i + n ≤ length a → little n (a ++ b) i ≡ little n a i
little_left n a b i h = little_same n (a ++ b) a i i (λ k l. get_or-append a b 0 (i + k) (omega arith))

pub little_right : (n : ℕ) (a b : List ℕ) (i : ℕ) → little n (a ++ b) (length a + i) ≡ little n b i
little_right n a b i = little_same n (a ++ b) b (length a + i) i (λ k l. simp add_assoc (get_or-append-add a b (i + k) 0))

-- ---- what was written is read
pub little_bytes : (n number : ℕ) → number < BYTE ^ n → little n (bytes_of n number) 0 ≡ number
little_bytes zero number h = omega arith
little_bytes (suc n) number h =
    let p : BYTE ^ suc n ≡ BYTE ^ n * BYTE = pow-suc BYTE n in
    let ih = little_bytes n (number / BYTE) (omega arith) in
    let r = little_right n (number % BYTE ∷ []) (bytes_of n (number / BYTE)) 0 in
    omega arith

pub little_written : (n number : ℕ) (bytes : List ℕ) (at : ℕ) → number < BYTE ^ n → at + n ≤ length bytes → little n (write_at bytes at (bytes_of n number)) at ≡ number
little_written n number bytes at h l =
    let size = length-bytes n number in
    let part = little_inside n bytes at (bytes_of n number) 0 (omega arith) (omega arith) in
    rw add-zero at (part ∙ little_bytes n number h)

-- ---- what was read is written
-- what stands somewhere, written there
pub written_same : (room : List ℕ) (i n : ℕ) → i + n ≤ length room → write_at room i (take n (drop i room)) ≡ room
written_same room i zero h = refl
written_same room i (suc n) h =
    let inside : i < length room = omega arith in
    let next : drop i room ≡ get_or room i 0 ∷ drop (i + 1) room = rw add-one (drop-cons room i 0 inside) in
    ap (λ (l : List ℕ). write_at room i (take (suc n) l)) next
    ∙ ap (λ (r : List ℕ). write_at r (i + 1) (take n (drop (i + 1) room))) (set-get_or room i 0)
    ∙ written_same room (i + 1) n (omega arith)

module _ (bytes : List ℕ) (below : (i : ℕ) → get_or bytes i 0 < BYTE) where
  pub little_below : (n at : ℕ) → little n bytes at < BYTE ^ n
  little_below zero at = omega arith
  little_below (suc n) at =
      let p : BYTE ^ suc n ≡ BYTE ^ n * BYTE = pow-suc BYTE n in
      omega (arith, below at, little_below n (at + 1))

  pub bytes_little : (n at : ℕ) → at + n ≤ length bytes → bytes_of n (little n bytes at) ≡ take n (drop at bytes)
  bytes_little zero at h = refl
  bytes_little (suc n) at h =
      let number = little (suc n) bytes at in
      let low : number % BYTE ≡ get_or bytes at 0 = omega (arith, below at) in
      let high : number / BYTE ≡ little n bytes (at + 1) = omega (arith, below at) in
      let inside : at < length bytes = omega arith in
      rw (low, high, bytes_little n (at + 1) (omega arith), drop-cons bytes at 0, add-one)

  pub written_little : (n at : ℕ) → at + n ≤ length bytes → write_at bytes at (bytes_of n (little n bytes at)) ≡ bytes
  written_little n at h = rw (bytes_little n at h) (written_same bytes at n h)
