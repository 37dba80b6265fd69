-- Exact tests of every element of a list, which `all` asks one by one, and of every filled word of a table.
use Prim.{Unit, tt}
use Rattle.std.specs.Prelude.{ℕ, ◌<◌, Bool, true, false, ◌||◌, List, [], ◌∷◌, ◌⊎◌, ◌≡◌, Option, refl, eqb, length, get_or}
use Rattle.std.specs.Bool.{MatchBool}
use Rattle.std.specs.Fn.{Called}
use Rattle.std.specs.Iterator.{YieldsThen}
use Rattle.std.specs.List.{All, AllWithin, HoldsAt, FoldsTo}
use Rattle.std.specs.Option.{MatchOption}
use Rattle.std.proofs.Common.{inl, inr, ⊎_elim, sym, ◌∙◌, arith}
use Rattle.std.proofs.lemmas.Iterator.{YieldsList, cases_from_all}
use Rattle.std.proofs.lemmas.List.{get_or_default}
use denote.Param.Members.{Mut}
use Rattle.numbers.specs.CaseLaws.{equal}
use Rattle.numbers.specs.Decides.{Decides}
use Rattle.numbers.specs.DecidesLaws.{decides_as, decides_equal, decides_or, says_yes, says_no, refutes}
use Rattle.table.specs.Table.{Has}
use Rattle.judge.specs.Parts.{NotEmpty}

-- ---- a word that may be empty
pub decides_unless_empty : (w : ℕ) {b : Bool} {P : Type 0} → Decides b P → Decides (eqb w 0 || b) (NotEmpty w → P)
decides_unless_empty w {b} {P} d =
    decides_as
    (decides_or (decides_equal w 0) d)
    (λ (e : (w ≡ 0) ⊎ P) f. ⊎_elim (λ z. absurd (f z)) (λ p. p) e)
    (λ h. ⊎_elim inl (λ f. inr (h f)) (equal w 0))

-- ---- what `all` answers
decides_cases : {X : Type 0} (P : X → Type 0) (xs : List X) (r : Bool) → MatchBool r (AllWithin P xs 0 (length xs)) ((k : ℕ) × (k < length xs) × HoldsAt (λ x. P x → ⊥) xs k) → Decides r (All P xs)
decides_cases P xs true m = says_yes (λ k d l. m k d (omega arith) l)
decides_cases P [] false m = absurd (omega arith)
decides_cases P (x ∷ xs) false m = says_no (λ all. m.2 x (all m.0 x m.1))

module _ {S A F X : Type 0} {steps : S → Option A → S → Type 0} {v : A → X} {g : Mut F (A × Unit {0}) Bool} {s : S} {xs : List X} (u : S) (f : F) (r : Bool) (P : X → Type 0) where
  pub decides_all : (ys : List A) × (o : Option A) × (j : F) × YieldsThen steps s ys o u × FoldsTo (λ p x q. Called g p (x, tt) true q) f ys j × MatchOption o (r ≡ true) (λ x. (r ≡ false) × ((h : F) × Called g j (x, tt) false h)) →
      YieldsList steps v s xs → ((x : A) (b : Bool) (q : F) → Called g f (x, tt) b q → (q ≡ f) × Decides b (P (v x))) → Decides r (All P xs)
  decides_all ran chain exact =
      decides_cases P xs r (cases_from_all u f r P (λ x. P x → ⊥) ran chain (λ x q k. let (e, d) = exact x true q k in (e, d.sound refl)) (λ x q k. refutes (exact x false q k).1 refl))

-- ---- every element, by place
pub decides_places : {X : Type 0} (P : X → Type 0) (xs : List X) (n : ℕ) (d : X) (r : Bool) → length xs ≡ n → Decides r (All P xs) → Decides r ((k : ℕ) → k < n → P (get_or xs k d))
decides_places P xs n d r e all = decides_as all (λ all k l. all k d (omega arith)) (λ each k d' l. rw (get_or_default xs k d' d l) (each k (omega arith)))

-- ---- every filled word of a table
pub decides_words : (P : ℕ → Type 0) (ws : List ℕ) (r : Bool) → Decides r (All (λ w. NotEmpty w → P w) ws) → Decides r ((w : ℕ) → Has ws w → P w)
decides_words P ws r all =
    decides_as
    all
    (λ all w h. rw h.holds at (all h.spot 0 h.within (λ e. h.filled (sym h.holds ∙ e))))
    (λ each k d l f. each (get_or ws k d) (record { spot = k; within = l; holds = get_or_default ws k 0 d l; filled = f }))
