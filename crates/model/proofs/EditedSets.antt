-- Edits of the page sets that change one VM's claims on a span of pages, on one side: what stays, what ends, and who held it.
use Prim.Native.Nat.{ℕ, suc, ◌+◌, ◌*◌, ◌≤◌, ◌<◌}
use mathlib.Core.Bool.{Bool, true, false, true≢false, or-true}
use mathlib.Core.List.{List}
use mathlib.Core.Logic.{◌⊎◌, inl, inr, ⊎_elim}
use mathlib.Core.Path.{◌≡◌, refl, sym, ◌∙◌}
use native.Mathlib.Omega.{arith}
use lib.ListN.{length}
use Rattle.numbers.specs.CaseLaws.{equal}
use Rattle.numbers.specs.Limits.{PAGES, VMS, SETS, SET_WORDS}
use Rattle.numbers.specs.declared.Side.{Side}
use Rattle.numbers.specs.declared.Side.TheVariants.{Cpu, Dma}
use Rattle.pages.specs.BitLaws.{below_or}
use Rattle.pages.specs.Rows.{holds, pool_row, shared_row, cpu_row, dma_row}
use Rattle.pages.specs.RowLaws.{holds_add_same, holds_add_other, holds_remove_same, holds_remove_other, length-remove, length-add}
use Rattle.model.specs.Views.{owns, holds_dma, claims, other_side, in_pool, in_shared}
use Rattle.model.specs.Regions.{insert_page, remove_page}
use Rattle.model.specs.ShapeLaws.{length-assign, length-reclaim}
use Rattle.model.specs.Valid.{PagesGood}
use Rattle.model.proofs.PagesKept.{Moved, assign_moved, reclaim_moved, one_holder}
use Rattle.model.proofs.ViewLaws.{either, not_so}
use Rattle.model.specs.Good.{holds_page}

-- ---- sides
side_differs : {X : Type 0} → Cpu ≡ Dma → X
side_differs e = absurd (let z : ◌≡◌ {A = ℕ} 0 1 = cc in omega arith)

pub other_differs : (side : Side) → other_side side ≡ side → ⊥
other_differs Cpu e = side_differs (sym e)
other_differs Dma e = side_differs e

pub this_or_other : (side s : Side) → (s ≡ side) ⊎ (s ≡ other_side side)
this_or_other Cpu Cpu = inl refl
this_or_other Cpu Dma = inr refl
this_or_other Dma Cpu = inr refl
this_or_other Dma Dma = inl refl

-- a VM holds a page that it claims on some side
pub side_holds : (s : Side) (sets : List ℕ) (vm page : ℕ) → claims s sets vm page ≡ true → holds_page sets vm page ≡ true
side_holds Cpu sets vm page e = rw e
side_holds Dma sets vm page e = rw e (or-true (owns sets vm page))

holds_side : (sets : List ℕ) (vm page : ℕ) → holds_page sets vm page ≡ true → (s : Side) × (claims s sets vm page ≡ true)
holds_side sets vm page e = ⊎_elim (λ o. (Cpu, o)) (λ d. (Dma, d)) (either (owns sets vm page) (holds_dma sets vm page) e)

holds_no_side : (s : Side) (sets : List ℕ) (vm page : ℕ) → holds_page sets vm page ≡ false → claims s sets vm page ≡ false
holds_no_side s sets vm page n = not_so (claims s sets vm page) (λ y. true≢false (sym (side_holds s sets vm page y) ∙ n))

-- ---- the VM's claims on a span of pages are as said; no other claim changes, the pool only there, the shared span nowhere
abbrev pub Outside : ℕ → ℕ → ℕ → Type 0
Outside first count page = first ≤ page → first + count ≤ page

pub record Edited (side : Side) (vm : ℕ) (now : Bool) (first count : ℕ) (sets sets' : List ℕ) : Type 0 where
  pub lengths : length sets' ≡ length sets
  pub inside : (page : ℕ) → first ≤ page → page < first + count → claims side sets' vm page ≡ now
  pub outside : (s : Side) (other page : ℕ) → page < PAGES → (s ≡ side → other ≡ vm → Outside first count page) → claims s sets' other page ≡ claims s sets other page
  pub pool : (page : ℕ) → page < PAGES → Outside first count page → in_pool sets' page ≡ in_pool sets page
  pub shared : (page : ℕ) → page < PAGES → in_shared sets' page ≡ in_shared sets page

module _ (side : Side) (vm : ℕ) (now : Bool) (first : ℕ) (sets : List ℕ) where
  pub edited_none : Edited side vm now first 0 sets sets
  edited_none =
      record { lengths = refl; inside = λ page l h. absurd (omega arith); outside = λ s other page h n. refl; pool = λ page h n. refl; shared = λ page h. refl }

  pub edited_more : (k : ℕ) (a b : List ℕ) → first + k < PAGES → Edited side vm now first k sets a → Edited side vm now (first + k) 1 a b → Edited side vm now first (suc k) sets b
  edited_more k a b m r q =
      record {
        lengths = q.lengths ∙ r.lengths;
        inside = inside;
        outside = λ s other page h n. q.outside s other page h (λ e f l. omega (arith, n e f (omega arith))) ∙ r.outside s other page h (λ e f l. omega (arith, n e f l));
        pool = λ page h n. q.pool page h (λ l. omega (arith, n (omega arith))) ∙ r.pool page h (λ l. omega (arith, n l));
        shared = λ page h. q.shared page h ∙ r.shared page h;
      }
    where
      inside : (page : ℕ) → first ≤ page → page < first + suc k → claims side b vm page ≡ now
      inside page l h =
          ⊎_elim (λ c. q.outside side vm page (omega arith) (λ e f g. absurd (omega arith)) ∙ r.inside page l c)
          (λ c. q.inside page (omega arith) (omega arith))
          (below_or page (first + k))

-- ---- a claim is one of those that changed, or as it was
pub record Changed (side : Side) (vm first count : ℕ) (s : Side) (other page : ℕ) : Type 0 where
  pub of_side : s ≡ side
  pub of_vm : other ≡ vm
  pub low : first ≤ page
  pub high : page < first + count

span_or : (first count page : ℕ) → ((first ≤ page) × (page < first + count)) ⊎ Outside first count page
span_or first count page =
    ⊎_elim (λ l. inr (λ g. absurd (omega arith))) (λ g. ⊎_elim (λ h. inl (g, h)) (λ h. inr (λ l. h)) (below_or page (first + count))) (below_or page first)

pub changed_or : (side : Side) (vm : ℕ) (now : Bool) (first count : ℕ) (sets sets' : List ℕ) → Edited side vm now first count sets sets' → (s : Side) (other page : ℕ) → page < PAGES →
    Changed side vm first count s other page ⊎ (claims s sets' other page ≡ claims s sets other page)
changed_or side vm now first count sets sets' r s other page h =
    ⊎_elim (λ a. ⊎_elim (here a) (λ n. same (λ e f. absurd (n f))) (equal other vm)) (λ o. same (λ e. absurd (other_differs side (sym o ∙ e)))) (this_or_other side s)
  where
    same : (s ≡ side → other ≡ vm → Outside first count page) → Changed side vm first count s other page ⊎ (claims s sets' other page ≡ claims s sets other page)
    same n = inr (r.outside s other page h n)

    here : s ≡ side → other ≡ vm → Changed side vm first count s other page ⊎ (claims s sets' other page ≡ claims s sets other page)
    here a b = ⊎_elim (λ c. inl (record { of_side = a; of_vm = b; low = c.0; high = c.1 })) (λ o. same (λ e f. o)) (span_or first count page)

-- ---- claims given: every claim stays
module _ (side : Side) (vm first count : ℕ) (sets sets' : List ℕ) (r : Edited side vm true first count sets sets') (page : ℕ) (h : page < PAGES) where
  pub given_stays : (s : Side) (other : ℕ) → claims s sets other page ≡ true → claims s sets' other page ≡ true
  given_stays s other e = ⊎_elim (λ c. rw (c.of_side, c.of_vm) (r.inside page c.low c.high)) (λ q. q ∙ e) (changed_or side vm true first count sets sets' r s other page h)

  pub given_holds : (other : ℕ) → holds_page sets other page ≡ true → holds_page sets' other page ≡ true
  given_holds other e = let (s, c) = holds_side sets other page e in side_holds s sets' other page (given_stays s other c)

-- ---- claims taken
-- the page is in the span, and the VM does not claim it on the other side
pub record Ended (side : Side) (vm first count : ℕ) (sets : List ℕ) (page : ℕ) : Type 0 where
  pub low : first ≤ page
  pub high : page < first + count
  pub unclaimed : claims (other_side side) sets vm page ≡ false

module _ (side : Side) (vm first count : ℕ) (sets sets' : List ℕ) (r : Edited side vm false first count sets sets') (page : ℕ) (h : page < PAGES) where
  -- a VM that no longer holds a page is this one, and its last claim on the page ended
  pub taken_ended : (other : ℕ) → holds_page sets other page ≡ true → holds_page sets' other page ≡ false → Ended side vm first count sets page
  taken_ended other e n =
      let (s, c) = holds_side sets other page e in
      ⊎_elim (ended s) (λ q. absurd (true≢false (sym (side_holds s sets' other page (q ∙ c)) ∙ n))) (changed_or side vm false first count sets sets' r s other page h)
    where
      ended : (s : Side) → Changed side vm first count s other page → Ended side vm first count sets page
      ended s c =
          let was = r.outside (other_side side) other page h (λ o. absurd (other_differs side o)) in
          record { low = c.low; high = c.high; unclaimed = rw c.of_vm at (sym was ∙ holds_no_side (other_side side) sets' other page n) }

  -- a page on which the last claim of the VM ended is held by nobody: this VM alone held it
  pub ended_free : (pages base count' known : ℕ) → PagesGood pages base count' known sets → page < pages → vm < VMS → claims side sets vm page ≡ true → Ended side vm first count sets page → (other : ℕ) → other < VMS → holds_page sets' other page ≡ true → ⊥
  ended_free pages base count' known g l v own d other o e = let (s, held) = holds_side sets' other page e in unclaimed s held
    where
      lost : (s : Side) → Changed side vm first count s other page → claims s sets' other page ≡ false
      lost s c = rw (c.of_side, c.of_vm) (r.inside page c.low c.high)

      unclaimed : (s : Side) → claims s sets' other page ≡ true → ⊥
      unclaimed s held =
          let was : claims s sets other page ≡ true = ⊎_elim (λ c. absurd (true≢false (sym held ∙ lost s c))) (λ q. sym q ∙ held) (changed_or side vm false first count sets sets' r s other page h) in
          let same = one_holder pages base count' known sets g other vm page o v l (side_holds s sets other page was) (side_holds side sets vm page own) in
          ⊎_elim (λ q. true≢false (sym held ∙ lost s (record { of_side = q; of_vm = same; low = d.low; high = d.high })))
          (λ (q : s ≡ other_side side). true≢false (sym was ∙ rw (q, same) d.unclaimed)) (this_or_other side s)

-- ---- one page
abbrev side_row : Side → ℕ → ℕ
side_row Cpu vm = cpu_row vm
side_row Dma vm = dma_row vm

-- the page changes in its VM's row and in the pool, and nothing else does
abbrev Framed : ℕ → ℕ → List ℕ → List ℕ → Type 0
Framed row page sets sets' = (row' page' : ℕ) → page' < PAGES → (row' ≡ row → page' ≡ page → ⊥) → (row' ≡ pool_row → page' ≡ page → ⊥) → holds sets' row' page' ≡ holds sets row' page'

low_rows : (side : Side) (vm : ℕ) → 1 < side_row side vm
low_rows Cpu vm = omega arith
low_rows Dma vm = omega arith

claims_framed : (side s : Side) (vm page : ℕ) (sets sets' : List ℕ) → Framed (side_row side vm) page sets sets' →
    (other p : ℕ) → p < PAGES → (s ≡ side → other ≡ vm → Outside page 1 p) → claims s sets' other p ≡ claims s sets other p
claims_framed Cpu Cpu vm page sets sets' frame other p h n = frame (cpu_row other) p h (λ r e. omega (arith, n refl (omega arith) (omega arith))) (λ r e. omega arith)
claims_framed Cpu Dma vm page sets sets' frame other p h n = frame (dma_row other) p h (λ r e. omega arith) (λ r e. omega arith)
claims_framed Dma Cpu vm page sets sets' frame other p h n = frame (cpu_row other) p h (λ r e. omega arith) (λ r e. omega arith)
claims_framed Dma Dma vm page sets sets' frame other p h n = frame (dma_row other) p h (λ r e. omega (arith, n refl (omega arith) (omega arith))) (λ r e. omega arith)

one_edited : (side : Side) (vm : ℕ) (now : Bool) (page : ℕ) (sets sets' : List ℕ) → length sets' ≡ length sets → claims side sets' vm page ≡ now → Framed (side_row side vm) page sets sets' → Edited side vm now page 1 sets sets'
one_edited side vm now page sets sets' len there frame =
    record {
      lengths = len;
      inside = λ p l h. let e : p ≡ page = omega arith in rw e there;
      outside = λ s other p h n. claims_framed side s vm page sets sets' frame other p h n;
      pool = λ p h n. frame pool_row p h (λ r e. omega (arith, n (omega arith))) (λ r e. omega (arith, n (omega arith)));
      shared = λ p h. frame shared_row p h (λ r e. omega (arith, low_rows side vm)) (λ r e. omega arith);
    }

-- a page that moved between two rows changed in no other
moved_framed : (sets sets' : List ℕ) (from to page : ℕ) → Moved sets sets' from to page → (row' page' : ℕ) → page' < PAGES → (row' ≡ from → page' ≡ page → ⊥) → (row' ≡ to → page' ≡ page → ⊥) → holds sets' row' page' ≡ holds sets row' page'
moved_framed sets sets' from to page m row' page' h n o = ⊎_elim (λ e. m.other_rows row' page' h (λ r. n r e) (λ r. o r e)) (m.other_pages row' page' h) (equal page' page)

module _ (vm page : ℕ) (sets : List ℕ) (v : vm < VMS) (p : page < PAGES) (long : length sets ≡ SETS * SET_WORDS) where
  pub insert_edited : (side : Side) → Edited side vm true page 1 sets (insert_page side vm page sets)
  insert_edited Cpu =
      let m = assign_moved sets vm page long v p in
      one_edited Cpu vm true page sets _ (length-assign sets vm page) m.arrived (λ row' page' h n o. moved_framed sets _ pool_row (cpu_row vm) page m row' page' h o n)
  insert_edited Dma =
      one_edited Dma vm true page sets _ (length-add sets (dma_row vm) page) (holds_add_same sets (dma_row vm) page p (omega arith))
      (λ row' page' h n o. holds_add_other sets (dma_row vm) page row' page' p h (λ r e. n (sym r) (sym e)))

  pub remove_edited : (side : Side) → Edited side vm false page 1 sets (remove_page side vm page sets)
  remove_edited Cpu =
      let m = reclaim_moved sets vm page long p in
      one_edited Cpu vm false page sets _ (length-reclaim sets vm page) m.left (moved_framed sets _ (cpu_row vm) pool_row page m)
  remove_edited Dma =
      one_edited Dma vm false page sets _ (length-remove sets (dma_row vm) page) (holds_remove_same sets (dma_row vm) page)
      (λ row' page' h n o. holds_remove_other sets (dma_row vm) page row' page' p h (λ r e. n (sym r) (sym e)))
