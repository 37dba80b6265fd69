-- Operations 1 to 6 owe what Good says.
use Prim.Native.Nat.{ℕ, ◌<◌, min, max}
use mathlib.Core.Bool.{Bool, true, false, not, ◌||◌, true≢false}
use mathlib.Core.List.{List}
use mathlib.Core.Logic.{◌⊎◌, inl, inr, ⊎_elim}
use mathlib.Core.Path.{◌≡◌, refl, sym, ◌∙◌}
use native.Mathlib.Omega.{arith}
use lib.Dec.{eqb}
use lib.ListN.{length}
use borrow.Author.Tests.{eqb-false, ne_eqb, ltb-true, not-false}
use Rattle.numbers.specs.CaseLaws.{cases, equal}
use Rattle.numbers.specs.Limits.{VMS, PAIRS}
use Rattle.numbers.specs.Packing.{filled_of, page_of, vm_of, left_of, right_of, pair_word, pair_key, pair_key_of, PairFits, GUEST_FIELD, PAGE_FIELD}
use Rattle.numbers.specs.PackingLaws.{pair_left, pair_right, pair_page, pair_filled, pair_port, pair_access, pair_generation, pair_key_lem, pair_same}
use Rattle.numbers.specs.Meaning.{Answer, accept}
use Rattle.numbers.specs.declared.Operation.TheVariants as op
use Rattle.numbers.specs.declared.PhysPage.{PhysPage}
use Rattle.numbers.specs.declared.Side.{Side}
use Rattle.numbers.specs.declared.Side.TheVariants.{Cpu, Dma}
use Rattle.numbers.specs.declared.VmId.{VmId}
use Rattle.table.specs.ScanLaws.{length-wipe, has_wipe_inv, has_wipe_keep}
use Rattle.table.specs.Table.{Has, has_key, put, erase, room_for}
use Rattle.table.specs.TableLaws.{length-put, has_put_inv, has_put_keep, distinct_put, distinct_wipe}
use Rattle.pages.specs.BitLaws.{has_bit-with_same, has_bit-with_other, has_bit-without_other, with_bit-fits, without_bit-fits}
use Rattle.model.specs.State.{Tables, route, with_sets, with_pairs}
use Rattle.model.specs.Views.{is_vm, knows, in_pool, owns, holds_dma, claims, claimed_elsewhere, targeted, whichever, of_vm, edge_on, has_pages, has_mappings, edge_of, on_port, shares, paired, may_map}
use Rattle.model.specs.Effect.{clears, accepted}
use Rattle.model.specs.Sequence.{vm_id, phys_page}
use Rattle.model.specs.EarlyLaws.{past, then_passed, PagePassed, page_passed, PairPassed, pair_passed}
use Rattle.model.specs.Ledger.{
  vm_early,
  page_early,
  pair_early,
  add_vm_answer,
  add_vm_known,
  remove_vm_answer,
  remove_vm_known,
  assign_answer,
  assign_sets,
  reclaim_answer,
  reclaim_sets,
  reclaim_clears,
  share_answer,
  share_pairs,
  borrower_maps,
  unshare_answer,
  unshare_pairs,
}
use Rattle.model.specs.Step.{answer_of}
use Rattle.model.specs.Valid.{PairGood, PairsGood, ValidTables}
use Rattle.model.specs.Good.{Made, holds_page, Cleared}
use Rattle.model.proofs.ViewLaws.{neither, of_vm_lem, Lends, lends_shares, shares_lends, no_edge_on, no_edge_of, not_paired, not_targeted, no_mappings, on_no_port, no_pages_lem, may_own, may_lent}
use Rattle.model.proofs.PagesKept.{pages_assigned, pages_reclaimed}
use Rattle.model.proofs.EditedSets.{Edited, insert_edited, remove_edited, given_stays, given_holds, taken_ended, ended_free}
use Rattle.model.proofs.OneRoute.{lengths_of}
use Rattle.model.proofs.LedgerKept.{Named, by_claim, by_entry, by_pair, by_port, known_valid, sets_valid, pairs_valid}
use Rattle.model.proofs.Refused.{quiet_good, AcceptedGood}

-- ---- 1: add VM, after which the others are known as before
known_added : (known vm other : ℕ) → knows known other ≡ true → knows (add_vm_known known vm) other ≡ true
unfolding knows
known_added known vm other k = ⊎_elim (λ q. rw q (has_bit-with_same known vm)) (λ d. has_bit-with_other known vm other d ∙ k) (equal other vm)

pub add_vm_good : (t : Tables) → ValidTables t → (vm : VmId) {dropped word : ℕ} → answer_of t (op.AddVm vm) ≡ accept dropped word → AcceptedGood t (op.AddVm vm)
unfolding add_vm_answer
add_vm_good t v vm e =
    let a = past (not (is_vm vm.0)) _ _ _ e in
    let fits = with_bit-fits t.known vm.0 VMS v.known (ltb-true _ VMS (not-false _ a.0)) in
    quiet_good t (op.AddVm vm) _ _ (known_valid t v (add_vm_known t.known vm.0) fits (λ other n. known_added t.known vm.0 other)) (λ other page l b h. h) (λ w h. inl h)

-- ---- 2: remove VM, of one that is named nowhere
known_removed : (known vm other : ℕ) → (other ≡ vm → ⊥) → knows known other ≡ true → knows (remove_vm_known known vm) other ≡ true
unfolding knows
known_removed known vm other d k = has_bit-without_other known vm other d ∙ k

-- what holds for CPU and for DMA
each_side : (P : Side → Type 0) → P Cpu → P Dma → (side : Side) → P side
each_side P c d Cpu = c
each_side P c d Dma = d

record RemoveVmPassed (t : Tables) (vm : ℕ) : Type 0 where
  no_claim : (side : Side) → has_pages side t.sets vm ≡ false
  no_entry : (side : Side) → has_mappings (route side t).map vm ≡ false
  no_pair : edge_of t.pairs vm ≡ false
  no_port : (side : Side) → on_port (route side t).ports vm ≡ false

remove_vm_passed : (t : Tables) (vm : ℕ) {dropped word : ℕ} → remove_vm_answer t.known t.sets t.pairs t.cpu.map t.dma.map t.cpu.ports t.dma.ports vm ≡ accept dropped word → RemoveVmPassed t vm
unfolding remove_vm_answer
remove_vm_passed t vm e =
    let (d, w, early, rest) = then_passed (vm_early t.known vm) _ e in
    let g = neither _ (on_port t.dma.ports vm) (past _ _ _ _ rest).0 in
    let f = neither _ (on_port t.cpu.ports vm) g.0 in
    let p = neither _ (edge_of t.pairs vm) f.0 in
    let m = neither _ (has_mappings t.dma.map vm) p.0 in
    let n = neither _ (has_mappings t.cpu.map vm) m.0 in
    let c = neither (has_pages Cpu t.sets vm) (has_pages Dma t.sets vm) n.0 in
    record {
      no_claim = each_side (λ side. has_pages side t.sets vm ≡ false) c.0 c.1;
      no_entry = each_side (λ side. has_mappings (route side t).map vm ≡ false) n.1 m.1;
      no_pair = p.1;
      no_port = each_side (λ side. on_port (route side t).ports vm ≡ false) f.1 g.1;
    }

named_nowhere : (t : Tables) (vm : ℕ) → ValidTables t → RemoveVmPassed t vm → Named t vm → ⊥
named_nowhere t vm v u (by_claim side page l e) = true≢false (sym e ∙ no_pages_lem side t.sets vm page (u.no_claim side) (omega (arith, v.setup.most_pages)))
named_nowhere t vm v u (by_entry side w h f e) = no_mappings (route side t).map vm w (u.no_entry side) h f e
named_nowhere t vm v u (by_pair w h f e) = no_edge_of t.pairs vm w u.no_pair h f e
named_nowhere t vm v u (by_port side port h e) = on_no_port (route side t).ports vm port (u.no_port side) (rw (lengths_of side t v).ports h) e

pub remove_vm_good : (t : Tables) → ValidTables t → (vm : VmId) {dropped word : ℕ} → answer_of t (op.RemoveVm vm) ≡ accept dropped word → AcceptedGood t (op.RemoveVm vm)
remove_vm_good t v vm e =
    let u = remove_vm_passed t vm.0 e in
    quiet_good t (op.RemoveVm vm) _ _
    (known_valid t v (remove_vm_known t.known vm.0) (without_bit-fits t.known vm.0 VMS v.known)
    (λ other n. known_removed t.known vm.0 other (λ q. named_nowhere t vm.0 v u (rw q at n))))
    (λ other page l b h. h) (λ w h. inl h)

-- ---- 3: assign page, after which every VM holds what it held
record AssignPassed (t : Tables) (vm page : ℕ) : Type 0 where
  early : PagePassed t.known t.setup.pages vm page
  free : in_pool t.sets page ≡ true
  alone : claimed_elsewhere Dma t.sets vm page ≡ false

assign_passed : (t : Tables) (vm page : ℕ) {dropped word : ℕ} → assign_answer t.known t.setup.pages t.sets vm page ≡ accept dropped word → AssignPassed t vm page
unfolding assign_answer
assign_passed t vm page e =
    let (d, w, early, rest) = then_passed (page_early t.known t.setup.pages vm page) _ e in
    let a = past (not (in_pool t.sets page)) _ _ _ rest in
    let b = past (claimed_elsewhere Dma t.sets vm page) _ _ _ a.1 in
    record { early = page_passed t.known t.setup.pages vm page early; free = not-false _ a.0; alone = b.0 }

module _ (t : Tables) (v : ValidTables t) (vm page : ℕ) (p : AssignPassed t vm page) where
  given : Edited Cpu vm true page 1 t.sets (assign_sets t.sets vm page)
  given = insert_edited vm page t.sets p.early.vm_ok (omega (arith, v.setup.most_pages, p.early.page_ok)) v.lengths.sets Cpu

  assign_stays : (side : Side) (other page' : ℕ) → page' < t.setup.pages → claims side t.sets other page' ≡ true → claims side (assign_sets t.sets vm page) other page' ≡ true
  assign_stays side other page' l = given_stays Cpu vm page 1 t.sets (assign_sets t.sets vm page) given page' (omega (arith, v.setup.most_pages)) side other

  assign_valid : ValidTables (with_sets t (assign_sets t.sets vm page))
  assign_valid =
      sets_valid t v (assign_sets t.sets vm page)
      (record {
        long = given.lengths ∙ v.lengths.sets;
        good = pages_assigned _ _ _ _ t.sets vm page v.lengths.sets v.setup.most_pages p.early.vm_ok p.early.page_ok p.early.knows_vm p.free p.alone v.pages;
        shared = given.shared;
        entry = λ side w h g. assign_stays side (vm_of w) (page_of w) g.page;
        pair = λ w other h g. assign_stays Cpu other (page_of w) g.page;
      })

pub assign_good : (t : Tables) → ValidTables t → (vm : VmId) (page : PhysPage) {dropped word : ℕ} → answer_of t (op.AssignPage vm page) ≡ accept dropped word → AcceptedGood t (op.AssignPage vm page)
assign_good t v vm page e =
    let p = assign_passed t vm.0 page.0 e in
    quiet_good t (op.AssignPage vm page) _ _ (assign_valid t v vm.0 page.0 p)
    (λ other page' o l. given_holds Cpu vm.0 page.0 1 t.sets _ (given t v vm.0 page.0 p) page' (omega (arith, v.setup.most_pages)) other)
    (λ w h. inl h)

-- ---- 4: reclaim page, of one that neither the CPU map nor a pair uses
record ReclaimPassed (t : Tables) (vm page : ℕ) : Type 0 where
  early : PagePassed t.known t.setup.pages vm page
  owned : owns t.sets vm page ≡ true
  no_entry : targeted whichever t.cpu.map page ≡ false
  no_pair : edge_on t.pairs page ≡ false

reclaim_passed : (t : Tables) (vm page : ℕ) {dropped word : ℕ} → reclaim_answer t.known t.setup.pages t.sets t.pairs t.cpu.map vm page ≡ accept dropped word → ReclaimPassed t vm page
unfolding reclaim_answer
reclaim_passed t vm page e =
    let (d, w, early, rest) = then_passed (page_early t.known t.setup.pages vm page) _ e in
    let a = past (not (owns t.sets vm page)) _ _ _ rest in
    let b = past (targeted whichever t.cpu.map page || edge_on t.pairs page) _ _ _ a.1 in
    let c = neither (targeted whichever t.cpu.map page) (edge_on t.pairs page) b.0 in
    record { early = page_passed t.known t.setup.pages vm page early; owned = not-false _ a.0; no_entry = c.0; no_pair = c.1 }

module _ (t : Tables) (v : ValidTables t) (vm page : ℕ) (p : ReclaimPassed t vm page) where
  taken : Edited Cpu vm false page 1 t.sets (reclaim_sets t.sets vm page)
  taken = remove_edited vm page t.sets p.early.vm_ok (omega (arith, v.setup.most_pages, p.early.page_ok)) v.lengths.sets Cpu

  reclaim_stays : (side : Side) (other page' : ℕ) → page' < t.setup.pages → (Cpu ≡ side → page' ≡ page → ⊥) → claims side t.sets other page' ≡ true → claims side (reclaim_sets t.sets vm page) other page' ≡ true
  reclaim_stays side other page' l n e = taken.outside side other page' (omega (arith, v.setup.most_pages)) (λ s o low. let d = n (sym s) in omega arith) ∙ e

  reclaim_valid : ValidTables (with_sets t (reclaim_sets t.sets vm page))
  reclaim_valid =
      sets_valid t v (reclaim_sets t.sets vm page)
      (record {
        long = taken.lengths ∙ v.lengths.sets;
        good = pages_reclaimed _ _ _ _ t.sets vm page v.lengths.sets v.setup.most_pages p.early.vm_ok p.early.page_ok p.owned v.pages;
        shared = taken.shared;
        entry = λ side w h g. reclaim_stays side (vm_of w) (page_of w) g.page (λ s q. not_targeted whichever t.cpu.map page w p.no_entry (rw (← s) at h) refl g.filled q);
        pair = λ w other h g. reclaim_stays Cpu other (page_of w) g.page (λ s q. no_edge_on t.pairs page w p.no_pair h g.filled q);
      })

  reclaim_wiped : (other page' : ℕ) → page' < t.setup.pages → holds_page t.sets other page' ≡ true → holds_page (reclaim_sets t.sets vm page) other page' ≡ false → Cleared (clears (reclaim_clears t.sets vm page)) page'
  unfolding reclaim_clears
  reclaim_wiped other page' l e n =
      let d = taken_ended Cpu vm page 1 t.sets (reclaim_sets t.sets vm page) taken page' (omega (arith, v.setup.most_pages)) other e n in
      let q : page ≡ page' = omega (arith, d.low, d.high) in
      let f : holds_dma t.sets vm page ≡ false = rw q d.unclaimed in
      rw f (inl q)

  reclaim_free : (other page' : ℕ) → other < VMS → page' < t.setup.pages → Cleared (clears (reclaim_clears t.sets vm page)) page' → holds_page (reclaim_sets t.sets vm page) other page' ≡ true → ⊥
  unfolding reclaim_clears
  reclaim_free other page' o l c e = ⊎_elim (λ y. absurd (rw y at c)) (λ f. ⊎_elim (ended f) (λ z. z) (rw f at c)) (cases (holds_dma t.sets vm page))
    where
      ended : holds_dma t.sets vm page ≡ false → page ≡ page' → ⊥
      ended f q =
          ended_free Cpu vm page 1 t.sets (reclaim_sets t.sets vm page) taken page' (omega (arith, v.setup.most_pages)) _ _ _ _ v.pages l p.early.vm_ok (rw q at p.owned)
          (record { low = omega arith; high = omega arith; unclaimed = rw q at f }) other o e

pub reclaim_good : (t : Tables) → ValidTables t → (vm : VmId) (page : PhysPage) {dropped word : ℕ} → answer_of t (op.ReclaimPage vm page) ≡ accept dropped word → AcceptedGood t (op.ReclaimPage vm page)
reclaim_good t v vm page e =
    let p = reclaim_passed t vm.0 page.0 e in
    record {
      valid = reclaim_valid t v vm.0 page.0 p;
      reach = λ bit other page' h. absurd h;
      still = λ h. absurd h;
      wiped = λ other page' o. reclaim_wiped t v vm.0 page.0 p other page';
      free = reclaim_free t v vm.0 page.0 p;
      edges = λ w h. inl h;
    }

-- ---- 5: share, which stores at most the pair that was asked for
record SharePassed (t : Tables) (left right page : ℕ) (answer : Answer) : Type 0 where
  early : PairPassed t.known t.setup.pages left right page
  apart : left ≡ right → ⊥
  owned : owns t.sets left page ≡ true
  agreed : answer ≡ accepted

share_passed : (t : Tables) (left right page : ℕ) {dropped word : ℕ} → share_answer t.known t.setup.pages t.sets t.pairs left right page ≡ accept dropped word → SharePassed t left right page (share_answer t.known t.setup.pages t.sets t.pairs left right page)
unfolding share_answer
share_passed t left right page e =
    let (d, w, early, rest) = then_passed (pair_early t.known t.setup.pages left right page) _ e in
    let a = past (eqb left right) _ _ _ rest in
    let b = past (not (owns t.sets left page)) _ _ _ a.1 in
    let c = past (not (paired t.pairs left right page || room_for t.pairs 1)) _ _ _ b.1 in
    record {
      early = pair_passed t.known t.setup.pages left right page early;
      apart = eqb-false left right a.0;
      owned = not-false _ b.0;
      agreed = e ∙ sym c.1;
    }

-- what holds of the pairs, and of them with the new one, holds of what a share leaves
share_case : (pairs : List ℕ) (left right page : ℕ) (P : List ℕ → Type 0) → P pairs → (paired pairs left right page ≡ false → P (put pair_key_of pairs (pair_key left right page) (pair_word left right page))) → P (share_pairs pairs left right page)
unfolding share_pairs
share_case pairs left right page P old new = ⊎_elim (λ y. rw y old) (λ f. rw f (new f)) (cases (paired pairs left right page))

-- what was shared is shared still
share_keeps : (pairs : List ℕ) (left right page vm page' : ℕ) → shares pairs vm page' ≡ true → shares (share_pairs pairs left right page) vm page' ≡ true
share_keeps pairs left right page vm page' e = share_case pairs left right page (λ ws. shares ws vm page' ≡ true) e kept
  where
    kept : paired pairs left right page ≡ false → shares (put pair_key_of pairs (pair_key left right page) (pair_word left right page)) vm page' ≡ true
    kept f =
        let (w, r) = shares_lends pairs vm page' e in
        let other : pair_key_of w ≡ pair_key left right page → ⊥ = λ q. not_paired pairs left right page w f (record { there = r.there; key = q }) in
        lends_shares _ vm page' w (record { there = has_put_keep pair_key_of pairs (pair_key left right page) _ w r.there other; filled = r.filled; same = r.same; end = r.end })

module _ (t : Tables) (v : ValidTables t) (left right page : ℕ) (answer : Answer) (p : SharePassed t left right page answer) (f : PairFits left right page) where
  share_pair : PairGood t.setup.pages t.known t.sets (pair_word left right page)
  share_pair =
      record {
        port = pair_port f;
        filled = pair_filled f;
        access = pair_access f;
        generation = pair_generation f;
        page = rw (pair_page f) p.early.page_ok;
        apart = rw (pair_left f, pair_right f) p.apart;
        left = rw (pair_left f) p.early.knows_left;
        right = rw (pair_right f) p.early.knows_right;
        owned = inl (rw (pair_left f, pair_page f) p.owned);
      }

  share_valid : ValidTables (with_pairs t (share_pairs t.pairs left right page))
  share_valid =
      pairs_valid t v (share_pairs t.pairs left right page)
      (share_case t.pairs left right page (λ pairs. length pairs ≡ PAIRS) v.lengths.pairs (λ new. length-put pair_key_of t.pairs _ _ ∙ v.lengths.pairs))
      (share_case t.pairs left right page (PairsGood t.setup.pages t.known t.sets) v.pairs
      (λ new.
      record {
        each = λ w h. ⊎_elim (λ q. rw q share_pair) (v.pairs.each w) (has_put_inv pair_key_of t.pairs _ _ w h);
        once = distinct_put pair_key_of t.pairs _ _ (pair_key_lem f) (omega arith) v.pairs.once;
      }))
      (λ w h filled e. may_lent Cpu t.sets _ (vm_of w) (page_of w) (share_keeps t.pairs left right page (vm_of w) (page_of w) e))

  share_made : Made t (op.SharePage (vm_id left) (vm_id right) (phys_page page)) answer (pair_word left right page)
  share_made =
      record {
        share = rw (pair_left f, pair_right f, pair_page f);
        agreed = p.agreed;
        owned = rw (pair_left f, pair_page f) p.owned;
      }

  share_edges : (w : ℕ) → Has (share_pairs t.pairs left right page) w → Has t.pairs w ⊎ Made t (op.SharePage (vm_id left) (vm_id right) (phys_page page)) answer w
  share_edges w =
      share_case t.pairs left right page (λ pairs. Has pairs w → Has t.pairs w ⊎ Made t (op.SharePage (vm_id left) (vm_id right) (phys_page page)) answer w) inl
      (λ new h. ⊎_elim (λ q. inr (rw q share_made)) inl (has_put_inv pair_key_of t.pairs _ _ w h))

pub share_good : (t : Tables) → ValidTables t → (left right : VmId) (page : PhysPage) {dropped word : ℕ} → answer_of t (op.SharePage left right page) ≡ accept dropped word → AcceptedGood t (op.SharePage left right page)
share_good t v left right page e =
    let p = share_passed t left.0 right.0 page.0 e in
    let f : PairFits left.0 right.0 page.0 =
    record { left_fits = omega (arith, p.early.left_ok); right_fits = omega (arith, p.early.right_ok); page_fits = omega (arith, v.setup.most_pages, p.early.page_ok) } in
    quiet_good t (op.SharePage left right page) _ _ (share_valid t v left.0 right.0 page.0 _ p f) (λ other page' o b h. h) (share_edges t v left.0 right.0 page.0 _ p f)

-- ---- 6: unshare, of a pair whose borrower maps the page no longer
record UnsharePassed (t : Tables) (left right page : ℕ) : Type 0 where
  early : PairPassed t.known t.setup.pages left right page
  no_left : borrower_maps t.sets t.cpu.map left page ≡ false
  no_right : borrower_maps t.sets t.cpu.map right page ≡ false

unshare_passed : (t : Tables) (left right page : ℕ) {dropped word : ℕ} → unshare_answer t.known t.setup.pages t.sets t.pairs t.cpu.map left right page ≡ accept dropped word → UnsharePassed t left right page
unfolding unshare_answer
unshare_passed t left right page e =
    let (d, w, early, rest) = then_passed (pair_early t.known t.setup.pages left right page) _ e in
    let a = past (not (paired t.pairs left right page)) _ _ _ rest in
    let b = past (borrower_maps t.sets t.cpu.map left page || borrower_maps t.sets t.cpu.map right page) _ _ _ a.1 in
    let c = neither (borrower_maps t.sets t.cpu.map left page) (borrower_maps t.sets t.cpu.map right page) b.0 in
    record { early = pair_passed t.known t.setup.pages left right page early; no_left = c.0; no_right = c.1 }

-- an end that maps the page and does not borrow it owns it
not_borrower : (sets map : List ℕ) (vm page w : ℕ) → borrower_maps sets map vm page ≡ false → Has map w → filled_of w ≡ 1 → vm_of w ≡ vm → page_of w ≡ page → owns sets (vm_of w) (page_of w) ≡ true
not_borrower sets map vm page w n h f e q =
    rw (e, q) (⊎_elim (λ o. o) (λ g. absurd (not_targeted (of_vm vm) map page w (rw g at n) h (of_vm_lem vm w f e) f q)) (cases (owns sets vm page)))

-- pairs of one key have the same ends
same_end : (a b left right vm : ℕ) → min a b ≡ min left right → max a b ≡ max left right → (a ≡ vm) ⊎ (b ≡ vm) → (vm ≡ left) ⊎ (vm ≡ right)
same_end a b left right vm low high e = ⊎_elim inl (λ n. inr (⊎_elim (λ q. omega arith) (λ q. omega arith) e)) (equal vm left)

module _ (t : Tables) (v : ValidTables t) (left right page : ℕ) (p : UnsharePassed t left right page) where
  -- an entry whose pair goes is of an end that owns the page
  owner_left : (w u : ℕ) → Has t.cpu.map w → filled_of w ≡ 1 → Lends t.pairs (vm_of w) (page_of w) u → pair_key_of u ≡ pair_key left right page → owns t.sets (vm_of w) (page_of w) ≡ true
  owner_left w u h f r k =
      let right_ok : right < GUEST_FIELD = omega (arith, p.early.right_ok) in
      let page_ok : page < PAGE_FIELD = omega (arith, v.setup.most_pages, p.early.page_ok) in
      let e = pair_same (left_of u) (right_of u) (page_of u) left right page (omega arith) (omega arith) (omega arith) (omega (arith, p.early.left_ok)) right_ok page_ok (rw r.filled at k) in
      let q : page_of w ≡ page = sym r.same ∙ e.0 in
      ⊎_elim (λ l. not_borrower t.sets t.cpu.map left page w p.no_left h f l q) (λ l. not_borrower t.sets t.cpu.map right page w p.no_right h f l q)
      (same_end (left_of u) (right_of u) left right (vm_of w) e.1 e.2 r.end)

  unshare_lent : (w : ℕ) → Has t.cpu.map w → filled_of w ≡ 1 → shares t.pairs (vm_of w) (page_of w) ≡ true → may_map Cpu t.sets (unshare_pairs t.pairs left right page) (vm_of w) (page_of w) ≡ true
  unfolding unshare_pairs erase
  unshare_lent w h f e =
      let (u, r) = shares_lends t.pairs (vm_of w) (page_of w) e in
      ⊎_elim (λ k. may_own Cpu t.sets _ (vm_of w) (page_of w) (owner_left w u h f r k))
      (λ d.
      may_lent Cpu t.sets _ (vm_of w) (page_of w)
      (lends_shares _ (vm_of w) (page_of w) u
      (record { there = has_wipe_keep (has_key pair_key_of (pair_key left right page)) t.pairs u r.there (ne_eqb _ _ d); filled = r.filled; same = r.same; end = r.end })))
      (equal (pair_key_of u) (pair_key left right page))

  unshare_valid : ValidTables (with_pairs t (unshare_pairs t.pairs left right page))
  unfolding unshare_pairs erase
  unshare_valid =
      pairs_valid t v (unshare_pairs t.pairs left right page) (length-wipe gone t.pairs ∙ v.lengths.pairs)
      (record { each = λ w h. v.pairs.each w (has_wipe_inv gone t.pairs w h).0; once = distinct_wipe pair_key_of refl gone t.pairs v.pairs.once })
      unshare_lent
    where
      gone : ℕ → Bool
      gone = has_key pair_key_of (pair_key left right page)

pub unshare_good : (t : Tables) → ValidTables t → (left right : VmId) (page : PhysPage) {dropped word : ℕ} → answer_of t (op.UnsharePage left right page) ≡ accept dropped word → AcceptedGood t (op.UnsharePage left right page)
unfolding unshare_pairs erase
unshare_good t v left right page e =
    quiet_good t (op.UnsharePage left right page) _ _ (unshare_valid t v left.0 right.0 page.0 (unshare_passed t left.0 right.0 page.0 e)) (λ other page' o b h. h)
    (λ w h. inl (has_wipe_inv (has_key pair_key_of (pair_key left.0 right.0 page.0)) t.pairs w h).0)
