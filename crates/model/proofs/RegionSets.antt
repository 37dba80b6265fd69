-- The page sets that inserting and removing a region leave are good, and only the VM's claims on the region's pages change.
use Prim.Native.Nat.{ℕ, ◌*◌, ◌≤◌, ◌<◌}
use mathlib.Core.Bool.{Bool, true, false, ◌||◌}
use mathlib.Core.List.{List}
use mathlib.Core.Path.{◌≡◌, ◌∙◌}
use native.Mathlib.Omega.{arith}
use lib.ListN.{length}
use borrow.Author.Tests.{not-false}
use Rattle.numbers.specs.Limits.{PAGES, SETS, SET_WORDS}
use Rattle.numbers.specs.declared.Side.{Side}
use Rattle.numbers.specs.declared.Side.TheVariants.{Cpu, Dma}
use Rattle.table.specs.Scan.{repeat}
use Rattle.numbers.specs.declared.Region.{Region}
use Rattle.model.specs.Views.{claims, claimed_elsewhere, in_pool, in_shared}
use Rattle.model.specs.Regions.{page_in, not_free, claimed, not_held, insert_page, remove_page, insert_sets, remove_sets}
use Rattle.model.specs.EarlyLaws.{RegionPassed}
use Rattle.model.specs.Valid.{PagesGood}
use Rattle.table.specs.RepeatLaws.{repeat_keeps}
use Rattle.model.proofs.PagesKept.{pages_assigned, pages_reclaimed, pages_added, pages_removed}
use Rattle.model.proofs.ViewLaws.{neither, not_elsewhere, nowhere_else}
use Rattle.model.proofs.RegionLaws.{NoneFails}
use Rattle.model.proofs.EditedSets.{Edited, edited_none, edited_more, insert_edited, remove_edited}

-- ---- all pages of a region, one after the other
-- good sets in which the VM's claims on the first k pages are as said
pub record Turned (side : Side) (now : Bool) (pages base count known : ℕ) (region : Region) (sets : List ℕ) (k : ℕ) (sets' : List ℕ) : Type 0 where
  pub good : PagesGood pages base count known sets'
  pub edited : Edited side region.vm.0 now region.page.0 k sets sets'

module _ (pages base count known : ℕ) (sets : List ℕ) (region : Region) (long : length sets ≡ SETS * SET_WORDS) (most : pages ≤ PAGES) (early : RegionPassed known pages region) (g : PagesGood pages base count known sets) where
  abbrev vm : ℕ
  vm = region.vm.0

  -- the region's page is below the machine's pages, and its turn comes once
  in-range : (k : ℕ) → k < region.count → page_in region k < pages
  in-range k h = omega (arith, early.page_ok)

  -- one turn: it keeps the sets good, and changes the page that it is at
  turn : (side : Side) (now : Bool) (f : ℕ → List ℕ → List ℕ) →
      ((k : ℕ) (a : List ℕ) → k < region.count → length a ≡ SETS * SET_WORDS → Edited side vm now (page_in region k) 1 a (f k a)) →
      ((k : ℕ) (a : List ℕ) → k < region.count → Turned side now pages base count known region sets k a → PagesGood pages base count known (f k a)) →
      Turned side now pages base count known region sets region.count (repeat f 0 region.count sets)
  turn side now f one keeps =
      repeat_keeps f (Turned side now pages base count known region sets) region.count
      (λ k a h r.
      record {
        good = keeps k a h r;
        edited = edited_more side vm now region.page.0 sets k a (f k a) (omega (arith, in-range k h)) r.edited (one k a h (r.edited.lengths ∙ long));
      })
      sets
      (record { good = g; edited = edited_none side vm now region.page.0 sets })

  module _ (k : ℕ) (h : k < region.count) (a : List ℕ) where
    -- at its turn a page is as it was before: in the pool, claimed by the VM, not claimed by another
    module _ (side : Side) (now : Bool) (r : Turned side now pages base count known region sets k a) where
      as_pooled : in_pool a (page_in region k) ≡ in_pool sets (page_in region k)
      as_pooled = r.edited.pool (page_in region k) (omega (arith, in-range k h)) (λ l. omega arith)

      as_held : claims side a vm (page_in region k) ≡ claims side sets vm (page_in region k)
      as_held = r.edited.outside side vm (page_in region k) (omega (arith, in-range k h)) (λ e f l. omega arith)

      as_alone : (s : Side) → claimed_elsewhere s sets vm (page_in region k) ≡ false → claimed_elsewhere s a vm (page_in region k) ≡ false
      as_alone s c =
          nowhere_else s a vm (page_in region k)
          (λ other l n. r.edited.outside s other (page_in region k) (omega (arith, in-range k h)) (λ e f. absurd (n f)) ∙ not_elsewhere s sets vm (page_in region k) other c l n)

    insert_keeps : (side : Side) → not_free side sets region k ≡ false → claimed side sets region k ≡ false → Turned side true pages base count known region sets k a → PagesGood pages base count known (insert_page side vm (page_in region k) a)
    insert_keeps Cpu free alone r =
        pages_assigned pages base count known a vm (page_in region k) (r.edited.lengths ∙ long) most early.vm_ok (in-range k h) early.knows_vm
        (as_pooled Cpu true r ∙ not-false _ free) (as_alone Cpu true r Dma alone) r.good
    insert_keeps Dma free alone r =
        let page = page_in region k in
        let (others, apart) = neither (claimed_elsewhere Dma sets vm page || claimed_elsewhere Cpu sets vm page) (in_shared sets page) alone in
        let (dma, cpu) = neither (claimed_elsewhere Dma sets vm page) (claimed_elsewhere Cpu sets vm page) others in
        pages_added pages base count known a vm page most (in-range k h) r.good early.knows_vm
        (as_alone Dma true r Dma dma) (as_alone Dma true r Cpu cpu) (r.edited.shared page (omega (arith, in-range k h)) ∙ apart)

    remove_keeps : (side : Side) → not_held side sets region k ≡ false → Turned side false pages base count known region sets k a → PagesGood pages base count known (remove_page side vm (page_in region k) a)
    remove_keeps Cpu held r =
        pages_reclaimed pages base count known a vm (page_in region k) (r.edited.lengths ∙ long) most early.vm_ok (in-range k h) (as_held Cpu false r ∙ not-false _ held) r.good
    remove_keeps Dma held r = pages_removed pages base count known a vm (page_in region k) most (in-range k h) r.good

  pub insert_sets_lem : (side : Side) → NoneFails (not_free side sets region) region → NoneFails (claimed side sets region) region → Turned side true pages base count known region sets region.count (insert_sets side sets region)
  unfolding insert_sets
  insert_sets_lem side free alone =
      turn side true (λ k. insert_page side vm (page_in region k))
      (λ k a h l. insert_edited vm (page_in region k) a early.vm_ok (omega (arith, in-range k h)) l side)
      (λ k a h r. insert_keeps k h a side (free k h) (alone k h) r)

  pub remove_sets_lem : (side : Side) → NoneFails (not_held side sets region) region → Turned side false pages base count known region sets region.count (remove_sets side sets region)
  unfolding remove_sets
  remove_sets_lem side held =
      turn side false (λ k. remove_page side vm (page_in region k))
      (λ k a h l. remove_edited vm (page_in region k) a early.vm_ok (omega (arith, in-range k h)) l side)
      (λ k a h r. remove_keeps k h a side (held k h) r)
