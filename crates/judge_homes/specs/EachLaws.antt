-- Laws of a test of each number: `all` over a range of them.
use Rattle.std.specs.Prelude.{ℕ, ◌<◌, Bool, true, false, ◌≡◌, refl, length}
use Rattle.std.proofs.Common.{arith}
use Rattle.std.proofs.Math.ListN.{get_or}
use Rattle.std.proofs.lemmas.Iterator.{cases_from_all, YieldsList-from_range}
use Rattle.std.proofs.lemmas.List.FromFn.{length-range_with_len, get_or-range_with_len}
use Rattle.std.specs.Bool.{MatchBool}
use Rattle.std.specs.Fn.{Called}
use Rattle.std.specs.List.{AllWithin, HoldsAt, range_with_len}
use Rattle.std.specs.Iterator.{ChecksAll}
use Rattle.std.specs.declared.ops.Range.{Range}
use Rattle.std.proofs.iter.Yields.{nat_range_steps}
use Rattle.numbers.specs.Decides.{Decides}
use Rattle.numbers.specs.DecidesLaws.{says_yes, says_no, refutes}
use denote.Param.Members.{Mut}

-- what `all` answered of the numbers below n, said of each number
each : (n : ℕ) (P : ℕ → Type 0) (r : Bool) →
    MatchBool r (AllWithin P (range_with_len 0 n) 0 (length (range_with_len 0 n))) ((k : ℕ) × (k < length (range_with_len 0 n)) × HoldsAt (λ x. P x → ⊥) (range_with_len 0 n) k) →
    Decides r ((k : ℕ) → k < n → P k)
each n P true met =
    says_yes (λ k h. let e : get_or (range_with_len 0 n) k 0 ≡ k = omega (arith, get_or-range_with_len 0 n k 0 h) in
    rw e at (met k 0 (omega arith) (omega (arith, length-range_with_len 0 n))))
each n P false (k, h, fails) =
    let l : k < n = omega (arith, length-range_with_len 0 n) in
    let e : get_or (range_with_len 0 n) k 0 ≡ k = omega (arith, get_or-range_with_len 0 n k 0 l) in
    says_no (λ all. (rw e at (fails 0)) (all k l))

-- where the test of each number below n is exact, so is that of all
pub decides_each : {F : Type 0} {g : Mut F (ℕ × Unit {0}) Bool} {s : Range ℕ} (n : ℕ) (P : ℕ → Type 0) (u : Range ℕ) (f : F) (r : Bool) → s ≡ record { start = 0; end = n } → ChecksAll nat_range_steps g s f r u →
    ((x : ℕ) (b : Bool) (q : F) → Called g f (x, tt) b q → (q ≡ f) × Decides b (P x)) → Decides r ((k : ℕ) → k < n → P k)
decides_each n P u f r e d h =
    each n P r
    (cases_from_all u f r P (λ k. P k → ⊥) d (YieldsList-from_range 0 n n e (omega arith))
    (λ x q k. let y = h x true q k in (y.0, y.1.sound refl))
    (λ x q k. refutes (h x false q k).1 refl))
