-- What each step of a repeated edit keeps, all of them keep.
use Rattle.std.specs.Prelude.{ℕ, zero, suc, ◌+◌, ◌<◌, ◌≡◌}
use Rattle.std.proofs.Common.{arith}
use Rattle.table.specs.Scan.{repeat}

-- of two that are edited alike; the invariant says how many steps are done
module _ {A : Type 0} (f : ℕ → A → A) (P : ℕ → A → A → Type 0) (n : ℕ) (next : (k : ℕ) (a b : A) → k < n → P k a b → P (suc k) (f k a) (f k b)) where
  from : (i m : ℕ) → i + m ≡ n → (a b : A) → P i a b → P n (repeat f i m a) (repeat f i m b)
  from i zero e a b p = let z : i ≡ n = omega arith in rw z at p
  from i (suc m) e a b p = from (suc i) m (omega arith) (f i a) (f i b) (next i a b (omega arith) p)

  pub repeat_both : (a b : A) → P 0 a b → P n (repeat f 0 n a) (repeat f 0 n b)
  repeat_both a b p = from 0 n (omega arith) a b p

-- of one
pub repeat_keeps : {A : Type 0} (f : ℕ → A → A) (P : ℕ → A → Type 0) (n : ℕ) → ((k : ℕ) (a : A) → k < n → P k a → P (suc k) (f k a)) → (a : A) → P 0 a → P n (repeat f 0 n a)
repeat_keeps f P n next a p = repeat_both f (λ k b c. P k b) n (λ k b c. next k b) a a p

-- the last step alone
pub repeat_last : {A : Type 0} (f : ℕ → A → A) (i n : ℕ) (a : A) → repeat f i (suc n) a ≡ f (i + n) (repeat f i n a)
repeat_last f i zero a = let z : i + 0 ≡ i = omega arith in rw z
repeat_last f i (suc n) a = let z : i + suc n ≡ suc i + n = omega arith in rw z (repeat_last f (suc i) n (f i a))
