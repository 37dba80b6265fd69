-- What the free query says can be used (docs/MACHINE.md, 8): a free page is assigned to every known VM, and no insert is refused for it.
use Prim.Native.Nat.{ℕ, ◌<◌}
use mathlib.Core.Bool.{Bool, true, false, true≢false}
use mathlib.Core.List.{List, ◌∷◌}
use mathlib.Core.Logic.{⊎_elim, ◌↔◌}
use mathlib.Core.Path.{◌≡◌, refl, sym, ◌∙◌}
use native.Mathlib.Omega.{arith}
use lib.Dec.{eqb, ltb}
use borrow.Author.Tests.{eqb-false, ltb-true}
use Rattle.numbers.specs.CaseLaws.{equal}
use Rattle.std.specs.Prelude.{if◌then◌else◌}
use Rattle.numbers.specs.Decides.{Decides}
use Rattle.numbers.specs.DecidesLaws.{decides_as}
use Rattle.numbers.specs.Limits.{VMS}
use Rattle.numbers.specs.Meaning.{refusal_number, number_of, Answer, refuse}
use Rattle.std.specs.Prelude.{Ok, Err, Some, None}
use Rattle.numbers.specs.declared.Operation.TheVariants as op
use Rattle.numbers.specs.declared.PhysPage.{PhysPage}
use Rattle.numbers.specs.declared.Refusal.{Refusal}
use Rattle.numbers.specs.declared.Refusal.TheVariants.{PageNotHeld, PageClaimed}
use Rattle.numbers.specs.declared.Region.{Region}
use Rattle.numbers.specs.declared.Side.TheVariants.{Cpu, Dma}
use Rattle.numbers.specs.declared.SideOperation.TheVariants as sided
use Rattle.numbers.specs.declared.VmId.{VmId}
use Rattle.table.specs.Scan.{lowest}
use Rattle.table.specs.ScanLaws.{lowest_found}
use Rattle.pages.specs.Rows.{is_free}
use Rattle.pages.specs.RowLaws.{held_for_dma-exact, is_free-exact, free_count-zero, lowest_free-nothing, LowestFree, lowest_free-page, page_nothing}
use Rattle.model.specs.State.{Tables, State}
use Rattle.model.specs.Effect.{accepted, decided, and_then}
use Rattle.model.specs.KnownLaws.{knows_below}
use Rattle.model.specs.Regions.{page_in, clash_at, not_free, claimed, insert_answer}
use Rattle.model.specs.Step.{control, Stepped}
use Rattle.model.specs.Start.{Free, free}
use Rattle.model.specs.Sequence.{vm_id, operation_in}
use Rattle.model.specs.Valid.{ValidTables, pool, shared}
use Rattle.model.specs.Entries.{valid, not_valid, JudgedRow, JudgedFree}
use Rattle.model.specs.Conditions.{accepts, Knows, HoldsDma, InPool, InShared, Assigns, Insertable, RowConditions}
use Rattle.model.proofs.ViewLaws.{not_so, nowhere_else}
use Rattle.model.proofs.Exactly.{exactly, entry_exactly}

-- ---- a free page is one in the pool that no VM holds for DMA
pub free_exact : (t : Tables) (page : ℕ) → Decides (is_free t.sets page) (InPool t page × ((vm : ℕ) → vm < VMS → HoldsDma t vm page → ⊥))
free_exact t page =
    decides_as (is_free-exact t.sets page)
    (λ (held, none). (held, λ vm h e. none ((held_for_dma-exact t.sets page).complete (vm, h, e))))
    (λ (held, none). (held, λ e. let (vm, h, d) = (held_for_dma-exact t.sets page).sound e in none vm h d))

-- so one of the shared span is not
pub shared_not_free : (t : Tables) → ValidTables t → (page : ℕ) → page < t.setup.pages → InShared t page → is_free t.sets page ≡ false
shared_not_free t v page h e = not_so _ (λ f. let z = v.pages.one_home _ _ page pool shared h ((free_exact t page).sound f).0 e in omega (arith, z))

-- ---- the query: none is free exactly where the lowest is nothing, and a lowest is free while none below it is
pub none_free : (t : Tables) → ((free t).count ≡ 0) ↔ ((free t).lowest ≡ None)
unfolding free
none_free t = (lowest_free-nothing t.sets t.setup.pages, free_count-zero t.sets t.setup.pages)

pub lowest_free_lem : (t : Tables) (page : PhysPage) → (free t).lowest ≡ Some page → LowestFree t.sets t.setup.pages page.0
unfolding free
lowest_free_lem t page e = lowest_free-page t.sets t.setup.pages page e

-- ---- operation 3 gives a free page to every known VM
free_assigns : (t : Tables) → ValidTables t → (vm page : ℕ) → Knows t vm → page < t.setup.pages → is_free t.sets page ≡ true → Assigns t vm page
free_assigns t v vm page known h e =
    let (held, none) = (free_exact t page).sound e in
    record { vm_ok = knows_below t.known vm v.known known; page_ok = h; known = known; pool = held; unclaimed = λ other l _ d. none other l d }

pub free_assignable : (t : Tables) → ValidTables t → (vm : VmId) (page : PhysPage) → Knows t vm.0 → page.0 < t.setup.pages → is_free t.sets page.0 ≡ true →
    accepts (control t (op.AssignPage vm page)).answer ≡ true
free_assignable t v vm page known h e = (exactly t v (op.AssignPage vm page)).complete (free_assigns t v vm.0 page.0 known h e)

-- what operation 3 would give to either of two VMs is free; to one alone it gives that VM's own DMA page as well
pub assignable_free : (t : Tables) → ValidTables t → (vm vm' : VmId) (page : PhysPage) → (vm.0 ≡ vm'.0 → ⊥) →
    accepts (control t (op.AssignPage vm page)).answer ≡ true → accepts (control t (op.AssignPage vm' page)).answer ≡ true → is_free t.sets page.0 ≡ true
assignable_free t v vm vm' page apart e e' = (free_exact t page.0).complete (one.pool, none)
  where
    one : Assigns t vm.0 page.0
    one = (exactly t v (op.AssignPage vm page)).sound e

    none : (other : ℕ) → other < VMS → HoldsDma t other page.0 → ⊥
    none other h d =
        ⊎_elim
        (λ q. ((exactly t v (op.AssignPage vm' page)).sound e').unclaimed other h (λ q'. apart (sym q ∙ q')) d)
        (λ n. one.unclaimed other h n d)
        (equal other vm.0)

pub lowest_assignable : (t : Tables) → ValidTables t → (page : PhysPage) → (free t).lowest ≡ Some page → (vm : VmId) → Knows t vm.0 →
    accepts (control t (op.AssignPage vm page)).answer ≡ true
lowest_assignable t v page e vm known = let low = lowest_free_lem t page e in free_assignable t v vm page known low.within low.free

-- as a row, and at the entries: where the query named a page, the row that assigns it is answered with 0
pub lowest_row : (t : Tables) → ValidTables t → (page : PhysPage) → (free t).lowest ≡ Some page → (vm : ℕ) → Knows t vm → (rest : List ℕ) → RowConditions t (3 ∷ vm ∷ page.0 ∷ rest)
unfolding operation_in
lowest_row t v page e vm known rest =
    let low = lowest_free_lem t page e in
    record { operation = op.AssignPage (vm_id vm) page; named = refl; conditions = free_assigns t v vm page.0 known low.within low.free }

pub lowest_answered : (s : State) (result : Free) → JudgedFree s result → (page : PhysPage) → result.lowest ≡ Some page →
    (vm : ℕ) → Knows s.tables vm → (rest : List ℕ) (stepped : Stepped) → JudgedRow s (3 ∷ vm ∷ page.0 ∷ rest) stepped → number_of stepped.answer ≡ 0
lowest_answered s result (valid v same) page e vm known rest stepped judged =
    (entry_exactly s (3 ∷ vm ∷ page.0 ∷ rest) stepped judged).1 (v, lowest_row s.tables v.tables page (rw same at e) vm known rest)
lowest_answered s result (not_valid n same) page e vm known rest stepped judged = absurd (page_nothing page (sym (rw same at e)))

-- ---- operation 11 refuses no free page
pub free_page_insertable : (t : Tables) (vm page : ℕ) → is_free t.sets page ≡ true → Insertable Cpu t vm page
free_page_insertable t vm page e = let (held, none) = (free_exact t page).sound e in (held, λ other h _ d. none other h d)

-- an answer other than 6 and 7
pub record NoPageRefused (answer : Answer) : Type 0 where
  pub held : number_of answer ≡ refusal_number PageNotHeld → ⊥
  pub unclaimed : number_of answer ≡ refusal_number PageClaimed → ⊥

-- ---- the parts of which its answer is made
done : NoPageRefused accepted
done = record { held = λ e. omega (arith, e); unclaimed = λ e. omega (arith, e) }

check : (t : Bool) (refusal : Refusal) (index : ℕ) (rest : Answer) → eqb (refusal_number refusal) (refusal_number PageNotHeld) ≡ false → eqb (refusal_number refusal) (refusal_number PageClaimed) ≡ false →
    NoPageRefused rest → NoPageRefused (if t then refuse refusal index else rest)
check true refusal index rest six seven h = record { held = eqb-false _ _ six; unclaimed = eqb-false _ _ seven }
check false refusal index rest six seven h = h

-- a check that no page of the region fails refuses nothing
passes : (fails : ℕ → Bool) (count : ℕ) (refusal : Refusal) (rest : Answer) → ((k : ℕ) → k < count → fails k ≡ false) → NoPageRefused rest →
    NoPageRefused (clash_at (lowest fails count) count refusal rest)
passes fails count refusal rest none h = rw (not_so (ltb (lowest fails count) count) found) h
  where
    found : ltb (lowest fails count) count ≡ true → ⊥
    found t = let l = ltb-true (lowest fails count) count t in true≢false (sym (lowest_found fails count l).0 ∙ none (lowest fails count) l)

early : (first rest : Answer) → NoPageRefused first → NoPageRefused rest → NoPageRefused (and_then first rest)
early (Ok ok) rest h f = f
early (Err err) rest h f = h

module _ (t : Tables) (region : Region) (each : (k : ℕ) → k < region.count → is_free t.sets (page_in region k) ≡ true) where
  in-pool : (k : ℕ) → k < region.count → not_free Cpu t.sets region k ≡ false
  in-pool k h = rw ((free_exact t (page_in region k)).sound (each k h)).0

  unclaimed : (k : ℕ) → k < region.count → claimed Cpu t.sets region k ≡ false
  unclaimed k h = nowhere_else Dma t.sets region.vm.0 (page_in region k) (λ other l _. not_so _ (((free_exact t (page_in region k)).sound (each k h)).1 other l))

  pub free_insertable : NoPageRefused (control t (op.On Cpu (sided.InsertRegion region))).answer
  unfolding control decided insert_answer
  free_insertable = search (early, check, passes, in-pool, unclaimed, done) depth 30
