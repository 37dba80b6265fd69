-- Operations 11 to 14 owe what a step owes: insert and remove a region, for CPU or DMA.
use Prim.Native.Nat.{ℕ, zero, suc, ◌-◌, ◌<◌}
use mathlib.Core.Bool.{true, false}
use mathlib.Core.List.{List}
use mathlib.Core.Logic.{◌⊎◌, inl, inr, ⊎_elim}
use mathlib.Core.Path.{◌≡◌, refl, sym, ◌∙◌}
use native.Mathlib.Omega.{arith}
use borrow.Author.Tests.{not-false}
use Rattle.numbers.specs.CaseLaws.{cases, equal}
use Rattle.numbers.specs.Limits.{VMS}
use Rattle.numbers.specs.Packing.{page_of, vm_of}
use Rattle.numbers.specs.Meaning.{accept}
use Rattle.numbers.specs.declared.Operation.TheVariants as op
use Rattle.numbers.specs.declared.SideOperation.TheVariants as sided
use Rattle.numbers.specs.declared.Side.{Side}
use Rattle.numbers.specs.declared.Side.TheVariants.{Cpu, Dma}
use Rattle.table.specs.Table.{Has}
use Rattle.numbers.specs.declared.Region.{Region}
use Rattle.model.specs.State.{Tables, Route, route, with_route, with_side, with_sets}
use Rattle.model.specs.Views.{owns, claims, other_side, targeted, but_key, edge_on}
use Rattle.model.specs.Regions.{page_in, key_in, in_use, insert_sets, remove_sets, remove_table, remove_clears, remove_clears_from}
use Rattle.model.specs.Step.{insert_route, remove_route, answer_of}
use Rattle.model.specs.Valid.{EntryGood, PairGood, ValidTables}
use Rattle.model.specs.Good.{holds_page, PageIn}
use Rattle.model.proofs.ViewLaws.{neither, no_edge_on}
use Rattle.model.proofs.Refused.{quiet_good, AcceptedGood}
use Rattle.model.proofs.LedgerKept.{sets_valid, side_valid}
use Rattle.model.proofs.RegionLaws.{InsertPassed, insert_passed, RemovePassed, remove_passed}
use Rattle.model.proofs.EditedSets.{Changed, Ended, changed_or, other_differs, given_stays, given_holds, taken_ended, ended_free}
use Rattle.model.proofs.RegionSets.{Turned, insert_sets_lem, remove_sets_lem}
use Rattle.model.proofs.RegionTables.{insert_route_lem, none_stays, remove_route_lem}

-- ---- a route and the sets, replaced in either order
route_sets : (side : Side) (t : Tables) (sets : List ℕ) → route side (with_sets t sets) ≡ route side t
route_sets Cpu t sets = refl
route_sets Dma t sets = refl

sets_route : (side : Side) (t : Tables) (r : Route) (sets : List ℕ) → with_route side (with_sets t sets) r ≡ with_side side t r sets
sets_route Cpu t r sets = refl
sets_route Dma t r sets = refl

route_with : (side : Side) (t : Tables) (r : Route) → route side (with_route side t r) ≡ r
route_with Cpu t r = refl
route_with Dma t r = refl

pairs_with : (side : Side) (t : Tables) (r : Route) (sets : List ℕ) → (with_side side t r sets).pairs ≡ t.pairs
pairs_with Cpu t r sets = refl
pairs_with Dma t r sets = refl

sets_with : (side : Side) (t : Tables) (r : Route) (sets : List ℕ) → (with_side side t r sets).sets ≡ sets
sets_with Cpu t r sets = refl
sets_with Dma t r sets = refl

-- ---- 11 and 13: insert
module _ (side : Side) (t : Tables) (v : ValidTables t) (region : Region) (p : InsertPassed side t.known t.setup.pages t.sets (route side t).map region) where
  abbrev inserted : List ℕ
  inserted = insert_sets side t.sets region

  taken : Turned side true t.setup.pages t.setup.shared_base t.setup.shared_count t.known region t.sets region.count inserted
  taken = insert_sets_lem t.setup.pages t.setup.shared_base t.setup.shared_count t.known t.sets region v.lengths.sets v.setup.most_pages p.early v.pages side p.free p.unclaimed

  -- every claim stays
  stays : (page : ℕ) → page < t.setup.pages → (s : Side) (other : ℕ) → claims s t.sets other page ≡ true → claims s inserted other page ≡ true
  stays page h = given_stays side region.vm.0 region.page.0 region.count t.sets inserted taken.edited page (omega (arith, v.setup.most_pages))

  settled : ValidTables (with_sets t inserted)
  settled =
      sets_valid t v inserted
      (record {
        long = taken.edited.lengths ∙ v.lengths.sets;
        good = taken.good;
        shared = taken.edited.shared;
        entry = λ s w h e. stays (page_of w) e.page s (vm_of w);
        pair = λ w other h e. stays (page_of w) e.page Cpu other;
      })

  insert_valid : ValidTables (with_side side t (insert_route (route side t) region) inserted)
  insert_valid =
      let same = route_sets side t inserted in
      rw (same, sets_route side t (insert_route (route side t) region) inserted) at
      (insert_route_lem side (with_sets t inserted) settled region p.early (λ k h. taken.edited.inside (page_in region k) (omega arith) (omega arith)) (rw same p.absent) (rw same p.room))

pub insert_good : (side : Side) (t : Tables) → ValidTables t → (region : Region) {dropped word : ℕ} → answer_of t (op.On side (sided.InsertRegion region)) ≡ accept dropped word → AcceptedGood t (op.On side (sided.InsertRegion region))
insert_good side t v region e =
    let p = insert_passed side t.known t.setup.pages _ t.sets (route side t).map region e in
    let r = insert_route (route side t) region in
    quiet_good t _ _ _ (insert_valid side t v region p)
    (λ vm page l b h.
    rw (sets_with side t r (insert_sets side t.sets region))
    (given_holds side region.vm.0 region.page.0 region.count t.sets _ (taken side t v region p).edited page (omega (arith, v.setup.most_pages)) vm h))
    (λ w h. inl (rw (pairs_with side t r (insert_sets side t.sets region)) at h))

-- ---- 12 and 14: remove
-- the pages that are cleared: the region's, but for those that the VM claims on the other side
module _ (side : Side) (sets : List ℕ) (region : Region) where
  abbrev Ends : ℕ → ℕ → ℕ → Type 0
  Ends k n page = Ended side region.vm.0 (page_in region k) n sets page

  clears_ended : (k n page : ℕ) → Ends k n page → PageIn page (remove_clears_from side sets region k n)
  clears_ended k zero page d = absurd (omega (arith, d.low, d.high))
  clears_ended k (suc n) page d =
      ⊎_elim here (λ o. later (clears_ended (suc k) n page (record { low = omega (arith, d.low); high = omega (arith, d.high); unclaimed = d.unclaimed }))) (equal page (page_in region k))
    where
      here : page ≡ page_in region k → PageIn page (remove_clears_from side sets region k (suc n))
      here e = rw (rw e at d.unclaimed) (inl (sym e))

      later : PageIn page (remove_clears_from side sets region (suc k) n) → PageIn page (remove_clears_from side sets region k (suc n))
      later i = ⊎_elim (λ y. rw y i) (λ f. rw f (inr i)) (cases (claims (other_side side) sets region.vm.0 (page_in region k)))

  ended_cleared : (k n page : ℕ) → PageIn page (remove_clears_from side sets region k n) → Ends k n page
  ended_cleared k zero page i = absurd i
  ended_cleared k (suc n) page i =
      ⊎_elim (λ y. later (ended_cleared (suc k) n page (rw y at i))) (λ f. ⊎_elim (here f) (λ j. later (ended_cleared (suc k) n page j)) (rw f at i)) (cases (claims (other_side side) sets region.vm.0 (page_in region k)))
    where
      here : claims (other_side side) sets region.vm.0 (page_in region k) ≡ false → page_in region k ≡ page → Ends k (suc n) page
      here f e = record { low = omega arith; high = omega arith; unclaimed = rw e at f }

      later : Ends (suc k) n page → Ends k (suc n) page
      later d = record { low = omega (arith, d.low); high = omega (arith, d.high); unclaimed = d.unclaimed }

-- for either side no mapping but the region's own targets its pages; for CPU no edge names them
unused_target : (side : Side) (pairs map : List ℕ) (region : Region) (k : ℕ) → in_use side pairs map region k ≡ false → targeted (but_key (key_in region k)) map (page_in region k) ≡ false
unused_target Cpu pairs map region k e = (neither _ (edge_on pairs (page_in region k)) e).0
unused_target Dma pairs map region k e = e

unused_edge : (side : Side) (pairs map : List ℕ) (region : Region) (k : ℕ) → Cpu ≡ side → in_use side pairs map region k ≡ false → edge_on pairs (page_in region k) ≡ false
unused_edge Cpu pairs map region k s e = (neither (targeted (but_key (key_in region k)) map (page_in region k)) _ e).1
unused_edge Dma pairs map region k s e = absurd (other_differs Dma s)

module _ (side : Side) (t : Tables) (v : ValidTables t) (region : Region) (p : RemovePassed side t.known t.setup.pages t.sets t.pairs (route side t).map region) where
  abbrev removed : List ℕ
  removed = remove_sets side t.sets region

  left : Turned side false t.setup.pages t.setup.shared_base t.setup.shared_count t.known region t.sets region.count removed
  left = remove_sets_lem t.setup.pages t.setup.shared_base t.setup.shared_count t.known t.sets region v.lengths.sets v.setup.most_pages p.early v.pages side p.held

  changed : (s : Side) (other page : ℕ) → page < t.setup.pages → Changed side region.vm.0 region.page.0 region.count s other page ⊎ (claims s removed other page ≡ claims s t.sets other page)
  changed s other page h = changed_or side region.vm.0 false region.page.0 region.count t.sets removed left.edited s other page (omega (arith, v.setup.most_pages))

  -- a claim stays but where the region's pages have no entry and no edge
  entry_stays : (s : Side) (w : ℕ) → Has (route s (with_route side t (remove_route (route side t) region))).map w → EntryGood s t.setup.pages t.known t.sets t.pairs w → claims s t.sets (vm_of w) (page_of w) ≡ true → claims s removed (vm_of w) (page_of w) ≡ true
  entry_stays s w h g e = ⊎_elim gone (λ q. q ∙ e) (changed s (vm_of w) (page_of w) g.page)
    where
      gone : Changed side region.vm.0 region.page.0 region.count s (vm_of w) (page_of w) → claims s removed (vm_of w) (page_of w) ≡ true
      gone c =
          let stays : Has (remove_table (route side t).map region) w = rw (c.of_side, route_with side t (remove_route (route side t) region)) at h in
          absurd (none_stays t.known t.setup.pages region p.early (route side t).map (λ k b. unused_target side t.pairs (route side t).map region k (p.unused k b)) w stays g.filled c.low c.high)

  pair_stays : (w other : ℕ) → Has t.pairs w → PairGood t.setup.pages t.known t.sets w → owns t.sets other (page_of w) ≡ true → owns removed other (page_of w) ≡ true
  pair_stays w other h g e = ⊎_elim gone (λ q. q ∙ e) (changed Cpu other (page_of w) g.page)
    where
      gone : Changed side region.vm.0 region.page.0 region.count Cpu other (page_of w) → owns removed other (page_of w) ≡ true
      gone c =
          let k = page_of w - region.page.0 in
          let b : k < region.count = omega (arith, c.low, c.high) in
          absurd (no_edge_on t.pairs (page_in region k) w (unused_edge side t.pairs (route side t).map region k c.of_side (p.unused k b)) h g.filled (omega (arith, c.low)))

  remove_valid : ValidTables (with_side side t (remove_route (route side t) region) removed)
  remove_valid =
      side_valid side t (remove_route (route side t) region) removed (remove_route_lem side t v region)
      (record { long = left.edited.lengths ∙ v.lengths.sets; good = left.good; shared = left.edited.shared; entry = entry_stays; pair = pair_stays })

  -- a page is cleared where the VM's last claim on it ended, and then nobody holds it
  remove_wiped : (other page : ℕ) → page < t.setup.pages → holds_page t.sets other page ≡ true → holds_page removed other page ≡ false → PageIn page (remove_clears side t.sets region)
  unfolding remove_clears
  remove_wiped other page h e n =
      let d = taken_ended side region.vm.0 region.page.0 region.count t.sets removed left.edited page (omega (arith, v.setup.most_pages)) other e n in
      clears_ended side t.sets region 0 region.count page (record { low = omega (arith, d.low); high = omega (arith, d.high); unclaimed = d.unclaimed })

  remove_free : (other page : ℕ) → other < VMS → page < t.setup.pages → PageIn page (remove_clears side t.sets region) → holds_page removed other page ≡ true → ⊥
  unfolding remove_clears
  remove_free other page o h i =
      let d = ended_cleared side t.sets region 0 region.count page i in
      ended_free side region.vm.0 region.page.0 region.count t.sets removed left.edited page (omega (arith, v.setup.most_pages)) _ _ _ _ v.pages h p.early.vm_ok (own d)
      (record { low = omega (arith, d.low); high = omega (arith, d.high); unclaimed = d.unclaimed }) other o
    where
      own : Ended side region.vm.0 (page_in region 0) region.count t.sets page → claims side t.sets region.vm.0 page ≡ true
      own d =
          let k = page - region.page.0 in
          let held : claims side t.sets region.vm.0 (page_in region k) ≡ true = not-false _ (p.held k (omega (arith, d.low, d.high))) in
          let e : page_in region k ≡ page = omega (arith, d.low) in
          rw e at held

pub remove_good : (side : Side) (t : Tables) → ValidTables t → (region : Region) {dropped word : ℕ} → answer_of t (op.On side (sided.RemoveRegion region)) ≡ accept dropped word → AcceptedGood t (op.On side (sided.RemoveRegion region))
remove_good side t v region e =
    let p = remove_passed side t.known t.setup.pages _ t.sets t.pairs (route side t).map (route side t).cache region e in
    let r = remove_route (route side t) region in
    let same = sets_with side t r (remove_sets side t.sets region) in
    record {
      valid = remove_valid side t v region p;
      reach = λ bit vm page h. absurd h;
      still = λ h. absurd h;
      wiped = λ vm page l b h n. remove_wiped side t v region p vm page b h (rw same at n);
      free = λ vm page l b c h. remove_free side t v region p vm page l b c (rw same at h);
      edges = λ w h. inl (rw (pairs_with side t r (remove_sets side t.sets region)) at h);
    }
