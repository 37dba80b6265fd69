-- What an accepted region operation tells of its region, and laws of the searches and of clearing.
use Rattle.std.specs.Prelude.{ℕ, suc, ◌+◌, ◌-◌, ◌≤◌, ◌<◌, Bool, true, false, ◌||◌, List, ◌≡◌, length, refl, ltb, Option, Some, None, MatchOption}
use Rattle.std.proofs.Common.{true≢false, sym, ◌∙◌, ⊎_elim, arith, add-one, ltb-true, ltb-false, lt-ltb}
use Rattle.numbers.specs.CaseLaws.{cases}
use Rattle.numbers.specs.Limits.{PAGES}
use Rattle.numbers.specs.Meaning.{Answer, accept}
use Rattle.numbers.specs.declared.Region.{Region}
use Rattle.numbers.specs.declared.Side.{Side}
use Rattle.numbers.specs.declared.Side.TheVariants.{Cpu, Dma}
use Rattle.table.specs.Scan.{lowest}
use Rattle.table.specs.ScanLaws.{found_never, lowest_found, lowest_none}
use Rattle.model.specs.Views.{edge_on, claims, other_side}
use Rattle.model.specs.Effect.{clear_page, cleared_pages}
use Rattle.model.specs.Regions.{region_early, insert_answer, remove_may, in_use, page_in, remove_clears, remove_clears_from}
use Rattle.model.specs.EarlyLaws.{RegionPassed, region_passed, then_passed}
use Rattle.regions.specs.Parts.{Placed, Sized, InsertReady, RemoveSized, RemoveReady, lowest_failing, binding}

-- ---- where the answer accepts, the deed is ready
pub region_placed : {known pages : ℕ} {region : Region} → pages ≤ PAGES → RegionPassed known pages region → Placed region
region_placed h r = record { vm_ok = r.vm_ok; access_ok = r.access_ok; guest_ok = r.guest_ok; page_ok = omega arith }

module _ (side : Side) (known pages : ℕ) (unit : Bool) where
  pub insert_ready : (sets map : List ℕ) (region : Region) {told : Answer} {dropped word : ℕ} → Sized pages sets →
      told ≡ insert_answer side known pages unit sets map region → told ≡ accept dropped word → InsertReady sets region
  unfolding insert_answer
  insert_ready sets map region s e a =
      let (d, w, early, rest) = then_passed (region_early known pages region) _ (sym e ∙ a) in
      record { placed = region_placed s.few_pages (region_passed known pages region early); sets_length = s.sets_length }

  pub remove_ready : (sets pairs map memory : List ℕ) (region : Region) {told : Answer} {dropped word : ℕ} → RemoveSized pages sets memory →
      told ≡ remove_may side known pages unit sets pairs map region → told ≡ accept dropped word → RemoveReady sets memory region
  unfolding remove_may
  remove_ready sets pairs map memory region s e a =
      let (d, w, early, rest) = then_passed (region_early known pages region) _ (sym e ∙ a) in
      let r = region_passed known pages region early in
      record { placed = region_placed s.sized.few_pages r; sets_length = s.sized.sets_length; memory_holds = omega arith }

-- ---- what a search gives
module _ (fails : ℕ → Bool) (n : ℕ) where
  -- no number below the lowest that fails does
  passes_below : (k : ℕ) → k < n → k < lowest fails n → fails k ≡ false
  passes_below k h l = ⊎_elim (λ t. (lowest_found fails n (ltb-true _ _ t)).1 k l) (λ f. lowest_none fails n (ltb-false _ _ f) k h) (cases (ltb (lowest fails n) n))

  -- the one that fails, where none below it does, is the lowest
  is_lowest : (k : ℕ) → k < n → fails k ≡ true → ((j : ℕ) → j < k → fails j ≡ false) → lowest fails n ≡ k
  is_lowest k h t below = ⊎_elim lower (λ f. ⊎_elim higher (λ g. omega (arith, ltb-false _ _ f, ltb-false _ _ g)) (cases (ltb k (lowest fails n)))) (cases (ltb (lowest fails n) k))
    where
      lower : ltb (lowest fails n) k ≡ true → lowest fails n ≡ k
      lower l = let b = ltb-true _ _ l in absurd (true≢false (sym (lowest_found fails n (omega (arith, b))).0 ∙ below _ b))

      higher : ltb k (lowest fails n) ≡ true → lowest fails n ≡ k
      higher l = absurd (true≢false (sym t ∙ passes_below k h (ltb-true _ _ l)))

  pub failing_at : (k : ℕ) → k < n → fails k ≡ true → ((j : ℕ) → j < k → fails j ≡ false) → Some k ≡ lowest_failing fails n
  failing_at k h t below = rw (is_lowest k h t below, lt-ltb _ _ h)

  pub failing_none : ((k : ℕ) → k < n → fails k ≡ false) → None ≡ lowest_failing fails n
  failing_none passes =
      ⊎_elim (λ t. let l = ltb-true _ _ t in absurd (true≢false (sym (lowest_found fails n l).0 ∙ passes _ l))) (λ f. rw f) (cases (ltb (lowest fails n) n))

  -- as a loop over the numbers below n says it
  pub failing_found : (k : ℕ) → k ≡ lowest fails n → k < n → Some k ≡ lowest_failing fails n
  failing_found k e h = rw (← e, lt-ltb _ _ h)

  -- what the library's search over the numbers below n gives
  pub failing_is : (r : Option ℕ) →
      MatchOption r ((k : ℕ) → 0 ≤ k → k < n → fails k ≡ false) (λ k. (0 ≤ k) × (k < n) × (fails k ≡ true) × ((j : ℕ) → 0 ≤ j → j < k → fails j ≡ false)) →
      r ≡ lowest_failing fails n
  failing_is (Some k) m = let (from, h, t, below) = m in failing_at k h t (λ j l. below j (omega arith) l)
  failing_is None m = failing_none (λ k h. m k (omega arith) h)

  -- one that was found is the lowest, and where none was no number below n fails
  pub failing_some : (k : ℕ) → lowest_failing fails n ≡ Some k → (ltb (lowest fails n) n ≡ true) × (lowest fails n ≡ k)
  failing_some k e = ⊎_elim (λ t. (t, let z : Some (lowest fails n) ≡ Some k = rw t at e in cc)) (λ f. absurd (found_never k (sym (rw f at e)))) (cases (ltb (lowest fails n) n))

  pub failing_nothing : lowest_failing fails n ≡ None → ltb (lowest fails n) n ≡ false
  failing_nothing e = ⊎_elim (λ t. absurd (found_never (lowest fails n) (rw t at e))) (λ f. f) (cases (ltb (lowest fails n) n))

-- ---- edges
or_false : (t : Bool) → (t || false) ≡ t
or_false true = refl
or_false false = refl

-- one test serves both sides: over the pairs that bind, as if for CPU
pub in_use_binding : (side : Side) (pairs map : List ℕ) (region : Region) (k : ℕ) → in_use Cpu (binding side pairs) map region k ≡ in_use side pairs map region k
unfolding edge_on
in_use_binding Cpu pairs map region k = refl
in_use_binding Dma pairs map region k = or_false _

-- ---- clears the pages of a region that no claim is left on: those before k are done
pub record Clearing (side : Side) (sets : List ℕ) (region : Region) (start now : List ℕ) (k : ℕ) : Type 0 where
  pub place : k ≤ region.count
  pub same : length now ≡ length start
  pub rest : cleared_pages (remove_clears side sets region) start ≡ cleared_pages (remove_clears_from side sets region k (region.count - k)) now

module _ (side : Side) (sets : List ℕ) (region : Region) (start : List ℕ) where
  pub clear_start : Clearing side sets region start start 0
  unfolding remove_clears
  clear_start = record { place = omega arith; same = refl; rest = let z : region.count - 0 ≡ region.count = omega arith in rw z }

  pub clear_hit : (now next : List ℕ) (k : ℕ) → Clearing side sets region start now k → k < region.count → length next ≡ length now →
      claims (other_side side) sets region.vm.0 (page_in region k) ≡ false → next ≡ clear_page now (page_in region k) → Clearing side sets region start next (k + 1)
  unfolding cleared_pages
  clear_hit now next k r h l t e =
      let z : region.count - k ≡ suc (region.count - (k + 1)) = omega arith in
      record { place = omega arith; same = l ∙ r.same; rest = r.rest ∙ rw (z, t, e, add-one k) }

  pub clear_miss : (now : List ℕ) (k : ℕ) → Clearing side sets region start now k → k < region.count →
      claims (other_side side) sets region.vm.0 (page_in region k) ≡ true → Clearing side sets region start now (k + 1)
  clear_miss now k r h t =
      let z : region.count - k ≡ suc (region.count - (k + 1)) = omega arith in
      record { place = omega arith; same = r.same; rest = r.rest ∙ rw (z, t, add-one k) }

  pub clear_end : (now : List ℕ) (k : ℕ) → Clearing side sets region start now k → region.count ≤ k → now ≡ cleared_pages (remove_clears side sets region) start
  unfolding cleared_pages
  clear_end now k r h = let z : region.count - k ≡ 0 = omega arith in rw (r.rest, z)
