-- Chains of checks as exact tests: a chain accepts just where nothing that it refuses holds.
use Prim.Native.Nat.{ℕ, ◌<◌}
use mathlib.Core.Bool.{Bool, true, false, not}
use mathlib.Core.Logic.{⊎_elim}
use mathlib.Core.Path.{◌≡◌}
use lib.Dec.{ltb}
use borrow.Author.Tests.{ltb-true, ltb-false}
use Rattle.numbers.specs.CaseLaws.{cases}
use Rattle.std.specs.Prelude.{if◌then◌else◌}
use Rattle.numbers.specs.Decides.{Decides}
use Rattle.numbers.specs.DecidesLaws.{says_no, refutes, decides_as, decides_not, decides_then, decides_and}
use Rattle.numbers.specs.Meaning.{Answer, refuse}
use Rattle.std.specs.Prelude.{Ok, Err}
use Rattle.numbers.specs.declared.Refusal.{Refusal}
use Rattle.table.specs.Scan.{lowest}
use Rattle.table.specs.ScanLaws.{lowest_found, lowest_none}
use Rattle.numbers.specs.declared.Region.{Region}
use Rattle.model.specs.Conditions.{accepts}
use Rattle.model.specs.Effect.{accepted_dropping, and_then}
use Rattle.model.specs.Regions.{clash}

-- ---- chains
-- a check that refuses where its test says true
pub unless : (b : Bool) (refusal : Refusal) (index : ℕ) (rest : Answer) {P Q : Type 0} → Decides b P → Decides (accepts rest) Q →
    Decides (accepts (if b then refuse refusal index else rest)) ((P → ⊥) × Q)
unless true refusal index rest d e = decides_and (decides_not d) e
unless false refusal index rest d e = decides_and (decides_not d) e

-- one that refuses where it says false; what follows need be exact only for what it lets through
pub after_check : (b : Bool) (refusal : Refusal) (index : ℕ) (rest : Answer) {P Q : Type 0} → Decides b P → (P → Decides (accepts rest) Q) →
    Decides (accepts (if not b then refuse refusal index else rest)) (P × Q)
after_check true refusal index rest d e = decides_then d e
after_check false refusal index rest d e = decides_then d e

pub where_so : (b : Bool) (refusal : Refusal) (index : ℕ) (rest : Answer) {P Q : Type 0} → Decides b P → Decides (accepts rest) Q →
    Decides (accepts (if not b then refuse refusal index else rest)) (P × Q)
where_so b refusal index rest d e = after_check b refusal index rest d (λ p. e)

-- an early chain and what follows it
pub after_early : (early next : Answer) {P Q : Type 0} → Decides (accepts early) P → (P → Decides (accepts next) Q) → Decides (accepts (and_then early next)) (P × Q)
after_early (Ok ok) next d e = decides_then d e
after_early (Err err) next d e = decides_then d e

pub and_then_lem : (early next : Answer) {P Q : Type 0} → Decides (accepts early) P → Decides (accepts next) Q →
    Decides (accepts (and_then early next)) (P × Q)
and_then_lem early next d e = after_early early next d (λ p. e)

-- the slots that are dropped change no acceptance
pub dropping_exact : (may : Answer) (dropped : ℕ) {P : Type 0} → Decides (accepts may) P → Decides (accepts (and_then may (accepted_dropping dropped))) P
dropping_exact (Ok ok) dropped e = e
dropping_exact (Err err) dropped e = e

-- a check of every page of a region
pub no_clash : (fails : ℕ → Bool) (F : ℕ → Type 0) (region : Region) (refusal : Refusal) (next : Answer) {Q : Type 0} →
    ((k : ℕ) → k < region.count → Decides (fails k) (F k)) → Decides (accepts next) Q →
    Decides (accepts (clash fails region refusal next)) (((k : ℕ) → k < region.count → F k → ⊥) × Q)
no_clash fails F region refusal next {Q = Q} d e = ⊎_elim found none (cases (ltb (lowest fails region.count) region.count))
  where
    goal : Type 0
    goal = Decides (accepts (clash fails region refusal next)) (((k : ℕ) → k < region.count → F k → ⊥) × Q)

    found : ltb (lowest fails region.count) region.count ≡ true → goal
    found t =
        let h = ltb-true (lowest fails region.count) region.count t in
        let r = lowest_found fails region.count h in
        rw t (says_no (λ p. p.0 _ h ((d _ h).sound r.0)))

    none : ltb (lowest fails region.count) region.count ≡ false → goal
    none f =
        let h = ltb-false (lowest fails region.count) region.count f in
        rw f (decides_as e (λ q. (λ k l. refutes (d k l) (lowest_none fails region.count h k l), q)) (λ p. p.1))
