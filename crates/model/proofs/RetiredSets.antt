-- What retiring a VM leaves in the page sets: its CPU pages are in the pool, it claims nothing, and every other claim stays. So the sets
-- are good again.
use Prim.Native.Nat.{ℕ, ◌*◌, ◌≤◌, ◌<◌}
use mathlib.Core.Bool.{true, false, ◌||◌, true≢false, or-true}
use mathlib.Core.List.{List}
use mathlib.Core.Logic.{◌⊎◌, inl, inr, ⊎_elim}
use mathlib.Core.Path.{◌≡◌, refl, sym, ◌∙◌}
use native.Mathlib.Omega.{arith}
use lib.ListN.{length}
use Rattle.numbers.specs.CaseLaws.{equal}
use Rattle.numbers.specs.Limits.{PAGES, VMS, SETS, SET_WORDS}
use Rattle.numbers.specs.declared.Side.{Side}
use Rattle.numbers.specs.declared.Side.TheVariants.{Cpu, Dma}
use Rattle.pages.specs.Rows.{holds, pool_row, shared_row, cpu_row, dma_row}
use Rattle.pages.specs.Pour.{pour}
use Rattle.pages.specs.PourLaws.{length-pour, pour_to, pour_from, pour_other, emptied_same, emptied_other}
use Rattle.model.specs.Views.{in_pool, owns, holds_dma, claims}
use Rattle.model.specs.Retire.{retire_sets}
use Rattle.model.specs.Valid.{Home, pool, shared, cpu, PagesGood}
use Rattle.model.proofs.ViewLaws.{either, not_so}

-- ---- one page
module _ (sets : List ℕ) (vm : ℕ) (v : vm < VMS) (long : length sets ≡ SETS * SET_WORDS) (page : ℕ) (h : page < PAGES) where
  abbrev poured : List ℕ
  poured = pour sets (cpu_row vm) pool_row

  long_poured : length poured ≡ SETS * SET_WORDS
  long_poured = length-pour sets (cpu_row vm) pool_row ∙ long

  mid : (row : ℕ) → (row ≡ dma_row vm → ⊥) → holds (retire_sets sets vm) row page ≡ holds (pour sets (cpu_row vm) pool_row) row page
  unfolding retire_sets
  mid row n = emptied_other (pour sets (cpu_row vm) pool_row) (dma_row vm) (omega (arith, long_poured)) page h row n

  pub retire_pool : in_pool (retire_sets sets vm) page ≡ (in_pool sets page || owns sets vm page)
  retire_pool = mid pool_row (λ e. omega arith) ∙ pour_to sets (cpu_row vm) pool_row (λ e. omega arith) (omega arith) (omega arith) page h

  pub retire_cpu : owns (retire_sets sets vm) vm page ≡ false
  retire_cpu = mid (cpu_row vm) (λ e. omega arith) ∙ pour_from sets (cpu_row vm) pool_row (λ e. omega arith) (omega arith) (omega arith) page h

  pub retire_dma : holds_dma (retire_sets sets vm) vm page ≡ false
  unfolding retire_sets
  retire_dma = emptied_same (pour sets (cpu_row vm) pool_row) (dma_row vm) (omega (arith, long_poured)) page h

  pub retire_other : (row : ℕ) → (row ≡ cpu_row vm → ⊥) → (row ≡ dma_row vm → ⊥) → (row ≡ pool_row → ⊥) → holds (retire_sets sets vm) row page ≡ holds sets row page
  retire_other row n m o = mid row m ∙ pour_other sets (cpu_row vm) pool_row (λ e. omega arith) (omega arith) (omega arith) page h row n o

  -- no VM claims more than before, and another claims what it did
  pub retire_claims : (side : Side) (other : ℕ) → (other ≡ vm → ⊥) → claims side (retire_sets sets vm) other page ≡ claims side sets other page
  retire_claims Cpu other n = retire_other (cpu_row other) (λ e. n (omega arith)) (λ e. omega arith) (λ e. omega arith)
  retire_claims Dma other n = retire_other (dma_row other) (λ e. omega arith) (λ e. n (omega arith)) (λ e. omega arith)

  pub retire_none : (side : Side) → claims side (retire_sets sets vm) vm page ≡ false
  retire_none Cpu = retire_cpu
  retire_none Dma = retire_dma

  -- a claim that is left is another's, and was there before
  pub retire_back : (side : Side) (other : ℕ) → claims side (retire_sets sets vm) other page ≡ true → (other ≡ vm → ⊥) × (claims side sets other page ≡ true)
  retire_back side other e =
      let n : other ≡ vm → ⊥ = λ q. true≢false (sym e ∙ rw q (retire_none side)) in
      (n, sym (retire_claims side other n) ∙ e)

-- ---- the homes of a page: the VM's, the pool, or one that stays as it was
data WhichHome (vm row : ℕ) : Type 0 where
  its : row ≡ cpu_row vm → WhichHome vm row
  pooled : row ≡ pool_row → WhichHome vm row
  kept_home : (row ≡ cpu_row vm → ⊥) → (row ≡ dma_row vm → ⊥) → (row ≡ pool_row → ⊥) → WhichHome vm row

which_home : (vm row : ℕ) → Home row → WhichHome vm row
which_home vm row pool = pooled refl
which_home vm row shared = kept_home (λ e. omega arith) (λ e. omega arith) (λ e. omega arith)
which_home vm row (cpu other l) = ⊎_elim (λ q. its (rw q)) (λ n. kept_home (λ e. n (omega arith)) (λ e. omega arith) (λ e. omega arith)) (equal other vm)

module _ (pages base count known : ℕ) (sets : List ℕ) (vm : ℕ) (v : vm < VMS) (long : length sets ≡ SETS * SET_WORDS) (most : pages ≤ PAGES) (g : PagesGood pages base count known sets) where
  -- a home after is one before, but for the VM's pages, whose home is now the pool
  home_back : (row page : ℕ) → Home row → page < pages → holds (retire_sets sets vm) row page ≡ true → (holds sets row page ≡ true) ⊎ ((row ≡ pool_row) × (owns sets vm page ≡ true))
  home_back row page a l e = go (which_home vm row a)
    where
      go : WhichHome vm row → (holds sets row page ≡ true) ⊎ ((row ≡ pool_row) × (owns sets vm page ≡ true))
      go (its q) = absurd (true≢false (sym e ∙ rw q (retire_cpu sets vm v long page (omega arith))))
      go (pooled q) =
          let e' : in_pool (retire_sets sets vm) page ≡ true = rw q at e in
          ⊎_elim (λ o. inl (rw q o)) (λ o. inr (q, o)) (either (in_pool sets page) (owns sets vm page) (sym (retire_pool sets vm v long page (omega arith)) ∙ e'))
      go (kept_home n m o) = inl (sym (retire_other sets vm v long page (omega arith) row n m o) ∙ e)

  home_on : (row page : ℕ) → Home row → page < pages → holds sets row page ≡ true → (row : ℕ) × (Home row × (holds (retire_sets sets vm) row page ≡ true))
  home_on row page a l e = go (which_home vm row a)
    where
      go : WhichHome vm row → (row : ℕ) × (Home row × (holds (retire_sets sets vm) row page ≡ true))
      go (its q) = let o : owns sets vm page ≡ true = rw q at e in (pool_row, (pool, retire_pool sets vm v long page (omega arith) ∙ rw o (or-true (in_pool sets page))))
      go (pooled q) = let o : in_pool sets page ≡ true = rw q at e in (pool_row, (pool, retire_pool sets vm v long page (omega arith) ∙ rw o))
      go (kept_home n m o) = (row, (a, retire_other sets vm v long page (omega arith) row n m o ∙ e))

  -- two homes of one page after were one before
  same_home : (row row' page : ℕ) → Home row → Home row' → page < pages → holds (retire_sets sets vm) row page ≡ true → holds (retire_sets sets vm) row' page ≡ true → row ≡ row'
  same_home row row' page a b l e e' = go (home_back row page a l e) (home_back row' page b l e')
    where
      mine : (row : ℕ) → Home row → holds sets row page ≡ true → owns sets vm page ≡ true → holds (retire_sets sets vm) row page ≡ true → ⊥
      mine r x o own t =
          let q = g.one_home r (cpu_row vm) page x (cpu vm v) l o own in
          true≢false (sym t ∙ rw q (retire_cpu sets vm v long page (omega arith)))

      go : (holds sets row page ≡ true) ⊎ ((row ≡ pool_row) × (owns sets vm page ≡ true)) → (holds sets row' page ≡ true) ⊎ ((row' ≡ pool_row) × (owns sets vm page ≡ true)) → row ≡ row'
      go (inl o) (inl o') = g.one_home row row' page a b l o o'
      go (inl o) (inr (q, own)) = absurd (mine row a o own e)
      go (inr (q, own)) (inl o) = absurd (mine row' b o own e')
      go (inr (q, own)) (inr (q', own')) = q ∙ sym q'

  retire_inside : (row page : ℕ) → row < SETS → page < PAGES → pages ≤ page → holds (retire_sets sets vm) row page ≡ false
  retire_inside row page r h o = not_so _ (λ t. go t (equal row (dma_row vm)) (equal row (cpu_row vm)) (equal row pool_row))
    where
      go : holds (retire_sets sets vm) row page ≡ true → (row ≡ dma_row vm) ⊎ (row ≡ dma_row vm → ⊥) → (row ≡ cpu_row vm) ⊎ (row ≡ cpu_row vm → ⊥) → (row ≡ pool_row) ⊎ (row ≡ pool_row → ⊥) → ⊥
      go t (inl q) y z = true≢false (sym t ∙ rw q (retire_dma sets vm v long page h))
      go t (inr m) (inl q) z = true≢false (sym t ∙ rw q (retire_cpu sets vm v long page h))
      go t (inr m) (inr n) (inl q) =
          let e : in_pool (retire_sets sets vm) page ≡ true = rw q at t in
          let a = g.inside pool_row page (omega arith) h o in
          let b = g.inside (cpu_row vm) page (omega arith) h o in
          true≢false (sym e ∙ retire_pool sets vm v long page h ∙ rw (a, b))
      go t (inr m) (inr n) (inr k) = true≢false (sym t ∙ retire_other sets vm v long page h row n m k ∙ g.inside row page r h o)

  retire_dma_home : (other page : ℕ) → other < VMS → page < pages → holds_dma (retire_sets sets vm) other page ≡ true → (owns (retire_sets sets vm) other page ≡ true) ⊎ (in_pool (retire_sets sets vm) page ≡ true)
  retire_dma_home other page o l e =
      let (n, was) = retire_back sets vm v long page (omega arith) Dma other e in
      ⊎_elim (λ x. inl (retire_claims sets vm v long page (omega arith) Cpu other n ∙ x)) (λ x. inr (retire_pool sets vm v long page (omega arith) ∙ rw x)) (g.dma_home other page o l was)

  pub pages_retired : PagesGood pages base count known (retire_sets sets vm)
  pages_retired =
      record {
        inside = retire_inside;
        span = λ page l. retire_other sets vm v long page (omega arith) shared_row (λ e. omega arith) (λ e. omega arith) (λ e. omega arith) ∙ g.span page l;
        some_home = λ page l. let (row, (a, e)) = g.some_home page l in home_on row page a l e;
        one_home = same_home;
        one_dma = λ x y page a b l e e'. g.one_dma x y page a b l (retire_back sets vm v long page (omega arith) Dma x e).1 (retire_back sets vm v long page (omega arith) Dma y e').1;
        dma_home = retire_dma_home;
        cpu_known = λ x page a l e. g.cpu_known x page a l (retire_back sets vm v long page (omega arith) Cpu x e).1;
        dma_known = λ x page a l e. g.dma_known x page a l (retire_back sets vm v long page (omega arith) Dma x e).1;
      }
