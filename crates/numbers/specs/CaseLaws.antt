-- One of two cases: what a test says, whether two numbers are equal, and that nothing is not something.
use Prim.{Unit, tt}
use Rattle.std.specs.Prelude.{ℕ, Bool, true, false, ◌⊎◌, ◌≡◌, refl, eqb, Option, None, Some}
use Rattle.std.proofs.Common.{inl, inr, ⊎_elim, subst, eqb-true}
use Rattle.std.proofs.lemmas.Bool.{eqb-false}

pub cases : (t : Bool) → (t ≡ true) ⊎ (t ≡ false)
cases true = inl refl
cases false = inr refl

pub equal : (a b : ℕ) → (a ≡ b) ⊎ (a ≡ b → ⊥)
equal a b = ⊎_elim (λ t. inl (eqb-true a b t)) (λ f. inr (eqb-false a b f)) (cases (eqb a b))

abbrev IsNone : {A : Type 0} → Option A → Type 0
IsNone None = Unit {0}
IsNone (Some x) = ⊥

pub none_some : {A : Type 0} {x : A} → None ≡ Some x → ⊥
none_some e = subst IsNone e tt
