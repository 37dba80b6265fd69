-- Laws of the loops that clear the pages of a VM, and of those that are passed over.
use Rattle.std.specs.Prelude.{ℕ, zero, suc, ◌+◌, ◌-◌, ◌*◌, ◌/◌, ◌≤◌, ◌<◌, min, true, false, ◌||◌, List, ◌≡◌, refl, length}
use Rattle.std.proofs.Common.{ap, ◌∙◌}
use Rattle.std.proofs.Math.Numerals.{add-one}
use native.Mathlib.Omega.{arith}
use Rattle.pages.specs.Columns.{column_word}
use Rattle.pages.specs.PourLaws.{holds_none}
use Rattle.pages.specs.Rows.{cpu_row, dma_row}
use Rattle.model.specs.Effect.{clear_page, cleared_pages}
use Rattle.model.specs.Retire.{held_from, retire_clears}
use Rattle.model.specs.Views.{owns, holds_dma}

-- the VM holds no page from k on before next, which is no place past the last
pub record Unheld (sets : List ℕ) (pages vm k next : ℕ) : Type 0 where
  pub later : k ≤ next
  pub within : next ≤ pages
  pub none : (page : ℕ) → k ≤ page → page < next → (owns sets vm page || holds_dma sets vm page) ≡ false

-- the pages before k are done
pub record Clearing (sets : List ℕ) (pages vm : ℕ) (start now : List ℕ) (k : ℕ) : Type 0 where
  pub place : k ≤ pages
  pub same : length now ≡ length start
  pub rest : cleared_pages (retire_clears sets pages vm) start ≡ cleared_pages (held_from sets vm k (pages - k)) now

module _ (sets : List ℕ) (pages vm : ℕ) (start : List ℕ) where
  pub clear_start : Clearing sets pages vm start start 0
  unfolding retire_clears
  clear_start = record { place = omega arith; same = refl; rest = let z : pages - 0 ≡ pages = omega arith in rw z }

  pub clear_hit : (now next : List ℕ) (k : ℕ) → Clearing sets pages vm start now k → k < pages → length next ≡ length now →
      (owns sets vm k || holds_dma sets vm k) ≡ true → next ≡ clear_page now k → Clearing sets pages vm start next (k + 1)
  unfolding cleared_pages
  clear_hit now next k r h l t e =
      let z : pages - k ≡ suc (pages - (k + 1)) = omega arith in
      record { place = omega arith; same = l ∙ r.same; rest = r.rest ∙ rw (z, t, e, add-one k) }

  pub clear_miss : (now : List ℕ) (k : ℕ) → Clearing sets pages vm start now k → k < pages →
      (owns sets vm k || holds_dma sets vm k) ≡ false → Clearing sets pages vm start now (k + 1)
  clear_miss now k r h t =
      let z : pages - k ≡ suc (pages - (k + 1)) = omega arith in
      record { place = omega arith; same = r.same; rest = r.rest ∙ rw (z, t, add-one k) }

  -- pages that are not held make no difference
  skip : (d k : ℕ) → k + d ≤ pages → ((page : ℕ) → k ≤ page → page < k + d → (owns sets vm page || holds_dma sets vm page) ≡ false) →
      held_from sets vm k (pages - k) ≡ held_from sets vm (k + d) (pages - (k + d))
  skip zero k l none = let z : k + 0 ≡ k = omega arith in rw z
  skip (suc d) k l none =
      let z : pages - k ≡ suc (pages - suc k) = omega arith in
      let e : k + suc d ≡ suc k + d = omega arith in
      rw (z, none k (omega arith) (omega arith), e) (skip d (suc k) (omega arith) (λ page a b. none page (omega arith) (omega arith)))

  pub clear_skip : (now : List ℕ) (k next : ℕ) → Clearing sets pages vm start now k → Unheld sets pages vm k next → Clearing sets pages vm start now next
  clear_skip now k next r u =
      let z : k + (next - k) ≡ next = omega (arith, u.later) in
      record { place = u.within; same = r.same; rest = r.rest ∙ ap (λ (ks : List ℕ). cleared_pages ks now) (rw z at (skip (next - k) k (omega (arith, u.later, u.within)) (λ page a b. u.none page a (omega (arith, u.later))))) }

  pub clear_end : (now : List ℕ) (k : ℕ) → Clearing sets pages vm start now k → pages ≤ k → now ≡ cleared_pages (retire_clears sets pages vm) start
  unfolding cleared_pages
  clear_end now k r h = let z : pages - k ≡ 0 = omega arith in rw (r.rest, z)

-- ---- 64 pages at once
module _ (sets : List ℕ) (pages vm : ℕ) where
  -- a word of both its sets is 0
  pub unheld_block : (block : ℕ) → column_word sets (cpu_row vm) (block * 64 / 64) ≡ 0 → column_word sets (dma_row vm) (block * 64 / 64) ≡ 0 →
      Unheld sets pages vm (min (block * 64) pages) (min ((block + 1) * 64) pages)
  unheld_block block c d = record { later = omega arith; within = omega arith; none = beside }
    where
      beside : (page : ℕ) → min (block * 64) pages ≤ page → page < min ((block + 1) * 64) pages → (owns sets vm page || holds_dma sets vm page) ≡ false
      beside page a b =
          let e : page / 64 ≡ block * 64 / 64 = omega arith in
          rw (holds_none page sets (cpu_row vm) (rw e c), holds_none page sets (dma_row vm) (rw e d))
