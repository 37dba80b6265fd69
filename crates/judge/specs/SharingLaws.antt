-- Pairs by their borrowers: two good pairs have the same key where they lend the same page to the same VM.
use Rattle.std.specs.Prelude.{ℕ, ◌<◌, true, List, ◌⊎◌, ◌≡◌, refl}
use Rattle.std.proofs.Common.{true≢false, sym, ◌∙◌, arith}
use Rattle.std.proofs.Math.Logic.{inl, inr, ⊎_elim}
use Rattle.numbers.specs.CaseLaws.{cases}
use Rattle.numbers.specs.Limits.{VMS}
use Rattle.numbers.specs.Packing.{left_of, right_of, page_of, filled_of, pair_key, pair_key_of}
use Rattle.numbers.specs.PackingLaws.{pair_either, pair_same}
use Rattle.pages.specs.Rows.{cpu_row}
use Rattle.model.specs.KnownLaws.{knows_below}
use Rattle.model.specs.Valid.{KnownGood, PagesGood, PairGood, Home}
use Rattle.model.specs.Views.{owns}
use Rattle.judge.specs.Sharing.{OneOwner, borrower_of}

pub one_owner : (pages base count known : ℕ) (sets : List ℕ) → PagesGood pages base count known sets → OneOwner pages sets
one_owner pages base count known sets g =
    record {
      only = λ vm vm' page v v' p o o'.
          let e : cpu_row vm ≡ cpu_row vm' = g.one_home (cpu_row vm) (cpu_row vm') page (Home.cpu vm v) (Home.cpu vm' v') p o o' in
          omega arith;
    }

-- ---- a pair by its owner and its borrower
pub record Parted (sets : List ℕ) (w owner : ℕ) : Type 0 where
  pub vm : owner < VMS
  pub owned : owns sets owner (page_of w) ≡ true
  pub borrower : borrower_of sets w < VMS
  pub ends : ((left_of w ≡ owner) × (right_of w ≡ borrower_of sets w)) ⊎ ((left_of w ≡ borrower_of sets w) × (right_of w ≡ owner))

module _ (pages known : ℕ) (sets : List ℕ) (w : ℕ) (known-good : KnownGood known) where
  pub parted : PairGood pages known sets w → (owner : ℕ) × Parted sets w owner
  unfolding borrower_of
  parted g =
      let l = knows_below known (left_of w) known-good g.left in
      let r = knows_below known (right_of w) known-good g.right in
      ⊎_elim
      (λ t. (left_of w, record { vm = l; owned = t; borrower = rw t r; ends = inl (refl, rw t) }))
      (λ f. (right_of w, record { vm = r; owned = ⊎_elim (λ t. absurd (true≢false (sym t ∙ f))) (λ t. t) g.owned; borrower = rw f l; ends = inr (rw f, refl) }))
      (cases (owns sets (left_of w) (page_of w)))

-- the borrower of a good pair is a VM
pub borrower_below : {pages known : ℕ} {sets : List ℕ} {w : ℕ} → KnownGood known → PairGood pages known sets w → borrower_of sets w < VMS
borrower_below k g = (parted _ _ _ _ k g).1.borrower

module _ (sets : List ℕ) (w owner : ℕ) (part : Parted sets w owner) where
  -- a VM at an end of the pair is one of the two
  pub end_is : (vm : ℕ) → (left_of w ≡ vm) ⊎ (right_of w ≡ vm) → (owner ≡ vm) ⊎ (borrower_of sets w ≡ vm)
  end_is vm e =
      ⊎_elim
      (λ p. ⊎_elim (λ l. inl (sym p.0 ∙ l)) (λ r. inr (sym p.1 ∙ r)) e)
      (λ p. ⊎_elim (λ l. inr (sym p.0 ∙ l)) (λ r. inl (sym p.1 ∙ r)) e)
      part.ends

  pub is_end_lem : (left_of w ≡ borrower_of sets w) ⊎ (right_of w ≡ borrower_of sets w)
  is_end_lem = ⊎_elim (λ p. inr p.1) (λ p. inl p.0) part.ends

  pub key_parted : filled_of w ≡ 1 → pair_key_of w ≡ pair_key owner (borrower_of sets w) (page_of w)
  key_parted f = ⊎_elim (λ p. rw (p.0, p.1, f)) (λ p. rw (p.0, p.1, f) (pair_either (borrower_of sets w) owner (page_of w))) part.ends

module _ (pages : ℕ) (sets : List ℕ) (one : OneOwner pages sets) (w w' owner owner' : ℕ) (part : Parted sets w owner) (part' : Parted sets w' owner') (page : page_of w < pages) (f : filled_of w ≡ 1) (f' : filled_of w' ≡ 1) where
  same_owner : page_of w ≡ page_of w' → owner ≡ owner'
  same_owner p = one.only owner owner' (page_of w) part.vm part'.vm page part.owned (rw p part'.owned)

  pub same_key : borrower_of sets w ≡ borrower_of sets w' → page_of w ≡ page_of w' → pair_key_of w ≡ pair_key_of w'
  same_key b p = key_parted sets w owner part f ∙ rw (same_owner p, b, p) (sym (key_parted sets w' owner' part' f'))

  pub same_mark : pair_key_of w ≡ pair_key_of w' → (borrower_of sets w ≡ borrower_of sets w') × (page_of w ≡ page_of w')
  same_mark e =
      let q = pair_same owner (borrower_of sets w) (page_of w) owner' (borrower_of sets w') (page_of w') (omega arith) (omega arith) (omega arith) (omega arith) (omega arith) (omega arith)
      (sym (key_parted sets w owner part f) ∙ e ∙ key_parted sets w' owner' part' f') in
      let o = same_owner q.0 in
      (omega arith, q.0)
