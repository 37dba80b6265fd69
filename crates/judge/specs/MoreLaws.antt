-- A table with one word more at its end, and the first words of a table.
use Rattle.std.specs.Prelude.{ℕ, ◌+◌, ◌≤◌, ◌<◌, List, [], ◌∷◌, ◌++◌, ◌⊎◌, ◌≡◌, refl, length, take}
use Rattle.std.proofs.Common.{inl, inr, sym, ap, ◌∙◌, add-one, arith, length-append, take-suc, get_or-take, length-take-le}
use Rattle.std.proofs.Math.Logic.{⊎_elim}
use Rattle.std.proofs.Math.ListN.{get_or, get_or-append}
use Rattle.std.proofs.Math.Seq.{get_or-append_seam}
use Rattle.numbers.specs.CaseLaws.{equal}
use Rattle.table.specs.Table.{Has, Distinct}
use Rattle.judge.specs.Parts.{NotEmpty}

-- the first i + 1 words
pub take_more : (ws : List ℕ) (i : ℕ) → i < length ws → take (i + 1) ws ≡ take i ws ++ (get_or ws i 0 ∷ [])
take_more ws i h = rw (add-one i) (take-suc ws i 0 h)

-- a word of the first i stands below i
pub has_take : (ws : List ℕ) (i w : ℕ) → i ≤ length ws → Has (take i ws) w → (k : ℕ) × (k < i) × (get_or ws k 0 ≡ w)
has_take ws i w h r =
    let l : r.spot < i = omega (arith, length-take-le i ws h, r.within) in
    (r.spot, l, sym (get_or-take i ws r.spot 0 l) ∙ r.holds)

module _ (ws : List ℕ) (w : ℕ) where
  length_more : length (ws ++ (w ∷ [])) ≡ length ws + 1
  length_more = length-append ws (w ∷ [])

  at_old : (k : ℕ) → k < length ws → get_or (ws ++ (w ∷ [])) k 0 ≡ get_or ws k 0
  at_old k h = get_or-append ws (w ∷ []) 0 k h

  at_new : (k : ℕ) → k ≡ length ws → get_or (ws ++ (w ∷ [])) k 0 ≡ w
  at_new k e = rw e (get_or-append_seam ws w [] 0)

  pub has_more_old : (u : ℕ) → Has ws u → Has (ws ++ (w ∷ [])) u
  has_more_old u r =
      record { spot = r.spot; within = omega (arith, length_more, r.within); holds = at_old r.spot r.within ∙ r.holds; filled = r.filled }

  pub has_more_new : NotEmpty w → Has (ws ++ (w ∷ [])) w
  has_more_new f = record { spot = length ws; within = omega (arith, length_more); holds = at_new (length ws) refl; filled = f }

  pub has_more_inv : (u : ℕ) → Has (ws ++ (w ∷ [])) u → Has ws u ⊎ ((u ≡ w) × NotEmpty w)
  has_more_inv u r = ⊎_elim new old (equal r.spot (length ws))
    where
      new : r.spot ≡ length ws → Has ws u ⊎ ((u ≡ w) × NotEmpty w)
      new e = let q : u ≡ w = sym r.holds ∙ at_new r.spot e in inr (q, λ z. r.filled (q ∙ z))

      old : (r.spot ≡ length ws → ⊥) → Has ws u ⊎ ((u ≡ w) × NotEmpty w)
      old n =
          let l : r.spot < length ws = omega (arith, length_more, r.within) in
          inl (record { spot = r.spot; within = l; holds = sym (at_old r.spot l) ∙ r.holds; filled = r.filled })

  -- no key twice, where no earlier word has the new one's
  pub distinct_more : (key_of : ℕ → ℕ) → key_of 0 ≡ 0 → ((u : ℕ) → Has ws u → key_of u ≡ key_of w → key_of w ≡ 0) → Distinct key_of ws → Distinct key_of (ws ++ (w ∷ []))
  unfolding Distinct
  distinct_more key_of o n d i j l h e = ⊎_elim last earlier (equal j (length ws))
    where
      old_i : get_or (ws ++ (w ∷ [])) i 0 ≡ get_or ws i 0
      old_i = at_old i (omega (arith, length_more))

      first : key_of (get_or ws i 0) ≡ key_of w → key_of w ≡ 0
      first q =
          ⊎_elim (λ z. sym q ∙ ap key_of z ∙ o) (λ f. n (get_or ws i 0) (record { spot = i; within = omega (arith, length_more); holds = refl; filled = f }) q) (equal (get_or ws i 0) 0)

      last : j ≡ length ws → key_of (get_or (ws ++ (w ∷ [])) j 0) ≡ 0
      last q = rw (at_new j q) (first (rw (old_i, at_new j q) at e))

      earlier : (j ≡ length ws → ⊥) → key_of (get_or (ws ++ (w ∷ [])) j 0) ≡ 0
      earlier q =
          let k : j < length ws = omega (arith, length_more) in
          rw (at_old j k) (d i j l k (rw (old_i, at_old j k) at e))
