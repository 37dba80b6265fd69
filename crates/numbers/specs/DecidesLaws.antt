-- Laws of exact tests: known answers, what an answer tells, and tests put together from tests.
use Prim.{Unit, tt}
use Rattle.std.specs.Prelude.{ℕ, ◌≤◌, ◌<◌, Bool, true, false, not, ◌&&◌, ◌||◌, ◌⊎◌, ◌≡◌, refl, eqb, ltb, leb}
use Rattle.std.proofs.Common.{true≢false, inl, inr, ⊎_elim, sym, ◌∙◌, ltb-true, lt-ltb, leb-true, le-leb, eqb-true, eq-eqb}
use Rattle.std.proofs.lemmas.Bool.{not-true, not-false}
use Rattle.numbers.specs.Decides.{Decides}

-- ---- an answer that is known
pub says_yes : {P : Type 0} → P → Decides true P
says_yes p = record { sound = λ e. p; complete = λ q. refl }

pub says_no : {P : Type 0} → (P → ⊥) → Decides false P
says_no n = record { sound = λ e. absurd (true≢false (sym e)); complete = λ p. absurd (n p) }

-- where nothing is asked
pub always : Decides true (Unit {0})
always = says_yes tt

-- ---- what an answer tells
-- a test that says false refutes its statement
pub refutes : {b : Bool} {P : Type 0} → Decides b P → b ≡ false → P → ⊥
refutes d f p = true≢false (sym (d.complete p) ∙ f)

-- a branch on the negated test: what it rules out where it is taken, and what it gives where it is left
pub failed : {b : Bool} {P : Type 0} → Decides b P → not b ≡ true → P → ⊥
failed {b} d e = refutes d (not-true b e)

pub passed : {b : Bool} {P : Type 0} → Decides b P → not b ≡ false → P
passed {b} d e = d.sound (not-false b e)

-- what has an exact test and is not false is so
pub twice_not : {b : Bool} {P : Type 0} → Decides b P → ((P → ⊥) → ⊥) → P
twice_not {b = true} d n = d.sound refl
twice_not {b = false} d n = absurd (n (refutes d refl))

-- two tests, each true where the other is
pub same_answer : {a b : Bool} → (a ≡ true → b ≡ true) → (b ≡ true → a ≡ true) → a ≡ b
same_answer {a = true} f g = sym (f refl)
same_answer {a = false} {b = true} f g = g refl
same_answer {a = false} {b = false} f g = refl

-- ---- the same test of a statement said otherwise
pub decides_as : {b : Bool} {P Q : Type 0} → Decides b P → (P → Q) → (Q → P) → Decides b Q
decides_as d to fro = record { sound = λ e. to (d.sound e); complete = λ q. d.complete (fro q) }

pub decides_itself : (b : Bool) → Decides b (b ≡ true)
decides_itself b = record { sound = λ e. e; complete = λ e. e }

-- ---- comparisons
pub decides_less : (a b : ℕ) → Decides (ltb a b) (a < b)
decides_less a b = record { sound = ltb-true a b; complete = lt-ltb a b }

pub decides_most : (a b : ℕ) → Decides (leb a b) (a ≤ b)
decides_most a b = record { sound = leb-true a b; complete = le-leb a b }

pub decides_equal : (a b : ℕ) → Decides (eqb a b) (a ≡ b)
decides_equal a b = record { sound = eqb-true a b; complete = eq-eqb a b }

-- ---- not, and, or
pub decides_not : {b : Bool} {P : Type 0} → Decides b P → Decides (not b) (P → ⊥)
decides_not {b = true} d = says_no (λ n. n (d.sound refl))
decides_not {b = false} d = says_yes (refutes d refl)

-- the second test need be exact only where the first statement holds
pub decides_then : {a b : Bool} {P Q : Type 0} → Decides a P → (P → Decides b Q) → Decides (a && b) (P × Q)
decides_then {a = true} d e = let p = d.sound refl in decides_as (e p) (λ q. (p, q)) (λ r. r.1)
decides_then {a = false} d e = says_no (λ r. refutes d refl r.0)

pub decides_and : {a b : Bool} {P Q : Type 0} → Decides a P → Decides b Q → Decides (a && b) (P × Q)
decides_and d e = decides_then d (λ p. e)

pub decides_or : {a b : Bool} {P Q : Type 0} → Decides a P → Decides b Q → Decides (a || b) (P ⊎ Q)
decides_or {a = true} d e = says_yes (inl (d.sound refl))
decides_or {a = false} d e = decides_as e inr (⊎_elim (λ p. absurd (refutes d refl p)) (λ q. q))
