-- What is true of each kind, by computing it for all of them: the bytes of its body stand in the code's table, and its fields are few.
use Rattle.std.specs.Prelude.{ℕ, zero, suc, ◌+◌, ◌*◌, ◌-◌, ◌≤◌, ◌<◌, true, false, Some, None, List, [], ◌∷◌, ◌≡◌, refl, leb, get_or, drop}
use Rattle.std.proofs.Common.{true≢false, ⊎_elim, sym, ap, ◌∙◌, leb-true}
use native.Mathlib.Omega.{arith, by_contra}
use Rattle.std.proofs.Math.ListN.{get_or-eq_default}
use Rattle.numbers.specs.CaseLaws.{cases, equal}
use Rattle.numbers.specs.DecidesLaws.{decides_and, decides_less, decides_most, decides_or, decides_equal}
use Rattle.operation_log.specs.Kinds.{KINDS, is_kind, argument_counts, argument_count, writes_value, FIELD_BYTES, field_count, body_length, body_of}
use Rattle.operation_log.specs.Log.{FIELDS}

pub kind_bounds : (kind : ℕ) → is_kind kind ≡ true → (0 < kind) × (kind ≤ KINDS)
kind_bounds kind h = (decides_and (decides_less 0 kind) (decides_most kind KINDS)).sound h

-- ---- two functions that are equal at each kind, by computing both, are equal at every kind
abbrev pub tabled : {A : Type 0} → (ℕ → A) → ℕ → List A
tabled f zero = []
tabled f (suc n) = f (suc n) ∷ tabled f n

each : {A : Type 0} (f g : ℕ → A) (m : ℕ) → tabled f m ≡ tabled g m → (n : ℕ) → 0 < n → n ≤ m → f n ≡ g n
each f g zero e n h l = absurd (omega arith)
each f g (suc m) e n h l = ⊎_elim (λ (q : n ≡ suc m). rw q (ap (λ t. get_or t 0 (f 0)) e)) (λ ne. each f g m (ap (drop 1) e) n h (omega arith)) (equal n (suc m))

pub each_kind : {A : Type 0} (f g : ℕ → A) → tabled f KINDS ≡ tabled g KINDS → (kind : ℕ) → is_kind kind ≡ true → f kind ≡ g kind
each_kind f g all kind h = let b = kind_bounds kind h in each f g KINDS all kind b.0 b.1

-- ---- the code's table, from kind 1 on, and its rule
abbrev pub body_bytes : List ℕ
body_bytes = 4 ∷ 4 ∷ 8 ∷ 8 ∷ 12 ∷ 12 ∷ 20 ∷ 20 ∷ 8 ∷ 8 ∷ 20 ∷ 20 ∷ 20 ∷ 20 ∷ 8 ∷ 8 ∷ 8 ∷ 8 ∷ 4 ∷ 4 ∷ 12 ∷ 12 ∷ 20 ∷ 20 ∷ 0 ∷ 0 ∷ 4 ∷ []

pub bodies : (kind : ℕ) → is_kind kind ≡ true → get_or body_bytes (kind - 1) 0 ≡ body_length kind
unfolding argument_counts
bodies = each_kind (λ kind. get_or body_bytes (kind - 1) 0) body_length refl

-- ---- no kind has more fields than a body may have; one with a value has four arguments
pub fields_most : (kind : ℕ) → is_kind kind ≡ true → field_count kind ≤ FIELDS
unfolding argument_counts
fields_most kind h = leb-true (field_count kind) FIELDS (each_kind (λ k. leb (field_count k) FIELDS) (λ k. true) refl kind h)

pub value_arguments : (kind : ℕ) → writes_value kind ≡ true → argument_count kind ≡ 4
unfolding argument_counts
value_arguments kind v = ⊎_elim (λ (e : kind ≡ 23). rw e) (λ (e : kind ≡ 24). rw e) ((decides_or (decides_equal kind 23) (decides_equal kind 24)).sound v)

-- ---- what has a body is a kind, and what has none is not
pub body_kind : (kind body : ℕ) → body_of kind ≡ Some body → (is_kind kind ≡ true) × (body ≡ body_length kind)
body_kind kind body e = ⊎_elim (λ (k : is_kind kind ≡ true). let there : Some (body_length kind) ≡ Some body = rw k at e in (k, cc)) (λ (k : is_kind kind ≡ false). absurd (let none : None ≡ Some body = rw k at e in cc)) (cases (is_kind kind))

pub body_none : (kind : ℕ) → body_of kind ≡ None → is_kind kind ≡ false
body_none kind e = ⊎_elim (λ (k : is_kind kind ≡ true). absurd (let there : Some (body_length kind) ≡ None = rw k at e in cc)) (λ (k : is_kind kind ≡ false). k) (cases (is_kind kind))

-- ---- the arguments by the bytes of the body; what is no kind has none
pub body_value : (kind body : ℕ) → body ≡ body_length kind → writes_value kind ≡ true → body ≡ FIELD_BYTES * (argument_count kind + 1)
body_value kind body b v = rw v at b

pub body_plain : (kind body : ℕ) → body ≡ body_length kind → writes_value kind ≡ false → body ≡ FIELD_BYTES * argument_count kind
body_plain kind body b v = let e : body ≡ FIELD_BYTES * (argument_count kind + 0) = rw v at b in omega arith

pub no_arguments : (kind : ℕ) → is_kind kind ≡ false → argument_count kind ≡ 0
unfolding argument_counts
no_arguments kind h =
    ⊎_elim
    (λ (e : kind ≡ 0). rw e)
    (λ ne.
    let known = (decides_and (decides_less 0 kind) (decides_most kind KINDS)).complete in
    get_or-eq_default argument_counts 0 (by_contra (KINDS + 1) kind (λ small. true≢false (sym (known (omega arith, omega arith)) ∙ h))))
    (equal kind 0)
