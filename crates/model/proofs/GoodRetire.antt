-- Operation 27 owes what `Good` says: the tables, the pairs and the page sets are made good one after the other, and at last nothing
-- names the VM.
use Prim.Native.Nat.{ℕ, zero, suc, ◌+◌, ◌≤◌, ◌<◌}
use mathlib.Core.Bool.{true, false, true≢false}
use mathlib.Core.List.{List}
use mathlib.Core.Logic.{◌⊎◌, inl, inr, ⊎_elim}
use mathlib.Core.Path.{◌≡◌, refl, sym, ◌∙◌}
use native.Mathlib.Omega.{arith}
use lib.Dec.{eqb}
use borrow.Author.Tests.{eq-eqb, eqb-false, lt-ltb}
use Rattle.numbers.specs.CaseLaws.{cases, equal}
use Rattle.numbers.specs.Limits.{PAGES, VMS}
use Rattle.numbers.specs.Packing.{filled_of, page_of, vm_of, left_of, right_of, pair_key_of}
use Rattle.numbers.specs.PackingLaws.{unported, unported_vm, unported_page, unported_filled}
use Rattle.numbers.specs.Meaning.{accept}
use Rattle.numbers.specs.declared.Operation.TheVariants as op
use Rattle.numbers.specs.declared.Side.{Side}
use Rattle.numbers.specs.declared.Side.TheVariants.{Cpu, Dma}
use Rattle.numbers.specs.declared.VmId.{VmId}
use Rattle.table.specs.ScanLaws.{length-wipe, has_wipe_inv, has_wipe_keep}
use Rattle.table.specs.Table.{Has}
use Rattle.table.specs.TableLaws.{distinct_wipe}
use Rattle.pages.specs.BitLaws.{without_bit-fits, has_bit-without_other}
use Rattle.pages.specs.Rows.{pool_row, shared_row, cpu_row}
use Rattle.model.specs.State.{Tables, Route, route, with_route, with_sets, with_pairs}
use Rattle.model.specs.Views.{knows, owns, holds_dma, claims, joins, shares, on_port, may_map}
use Rattle.model.specs.EarlyLaws.{past, then_passed, VmPassed, vm_passed}
use Rattle.model.specs.Ledger.{vm_early, remove_vm_known}
use Rattle.model.specs.KnownLaws.{knows_below}
use Rattle.model.specs.Retire.{onto_its, goes, retire_may, retire_answer, retire_table, retire_pairs, retire_sets, held_from, retire_clears, retire_route, retired}
use Rattle.model.specs.ShapeLaws.{same_retired, length-retire}
use Rattle.model.specs.Step.{answer_of}
use Rattle.model.specs.Valid.{cpu, pool, ValidTables}
use Rattle.model.specs.Good.{holds_page, PageIn}
use Rattle.model.proofs.ViewLaws.{either, neither, AtEnd, joined, joined_inv, Lends, lends_shares, shares_lends, on_no_port, may_own, may_lent}
use Rattle.model.proofs.RoutesKept.{maps_wipe, cache_wipe_both}
use Rattle.model.proofs.OneRoute.{GoodRoute, route_of_lem, maps_of, maps_route, route_valid}
use Rattle.model.proofs.LedgerKept.{Named, by_claim, by_entry, by_pair, by_port, known_valid, sets_valid, pairs_valid}
use Rattle.model.proofs.Refused.{AcceptedGood}
use Rattle.model.proofs.RetiredSets.{retire_other, retire_claims, retire_none, retire_back, pages_retired}

-- ---- what an accepted retire tells
pub record RetirePassed (t : Tables) (vm : ℕ) : Type 0 where
  pub early : VmPassed t.known vm
  pub no_cpu : on_port t.cpu.ports vm ≡ false
  pub no_device : on_port t.dma.ports vm ≡ false

pub retire_passed : (t : Tables) (vm : VmId) {dropped word : ℕ} → answer_of t (op.RetireVm vm) ≡ accept dropped word → RetirePassed t vm.0
unfolding retire_answer retire_may
retire_passed t vm e =
    let (d, w, may, rest) = then_passed (retire_may t.known t.cpu.ports t.dma.ports vm.0) _ e in
    let (d', w', early, free) = then_passed (vm_early t.known vm.0) _ may in
    let g = neither (on_port t.cpu.ports vm.0) (on_port t.dma.ports vm.0) (past _ _ _ _ free).0 in
    record { early = vm_passed t.known vm.0 early; no_cpu = g.0; no_device = g.1 }

-- ---- which words go
onto_unported : (side : Side) (sets : List ℕ) (vm w : ℕ) → onto_its side sets vm (unported w) ≡ onto_its side sets vm w
onto_unported Cpu sets vm w = rw (unported_page w)
onto_unported Dma sets vm w = refl

pub goes_unported : (side : Side) (sets : List ℕ) (vm w : ℕ) → goes side sets vm (unported w) ≡ goes side sets vm w
unfolding goes
goes_unported side sets vm w = rw (unported_filled w, unported_vm w, onto_unported side sets vm w)

-- of one that stays: not the VM's, and for CPU not onto its pages
stays : (side : Side) (sets : List ℕ) (vm w : ℕ) → filled_of w ≡ 1 → goes side sets vm w ≡ false → (eqb (vm_of w) vm ≡ false) × (onto_its side sets vm w ≡ false)
unfolding goes
stays side sets vm w f n = neither (eqb (vm_of w) vm) (onto_its side sets vm w) (rw (eq-eqb (filled_of w) 1 f) at n)

pub stays_other : (side : Side) (sets : List ℕ) (vm w : ℕ) → filled_of w ≡ 1 → goes side sets vm w ≡ false → vm_of w ≡ vm → ⊥
stays_other side sets vm w f n e = eqb-false (vm_of w) vm (stays side sets vm w f n).0 e

pub stays_off : (sets : List ℕ) (vm w : ℕ) → filled_of w ≡ 1 → page_of w < PAGES → goes Cpu sets vm w ≡ false → owns sets vm (page_of w) ≡ false
stays_off sets vm w f l n = rw (lt-ltb (page_of w) PAGES l) at (stays Cpu sets vm w f n).1

-- ---- the pages that are cleared
held_in : (sets : List ℕ) (vm k n page : ℕ) → PageIn page (held_from sets vm k n) → holds_page sets vm page ≡ true
held_in sets vm k zero page h = absurd h
held_in sets vm k (suc n) page h = ⊎_elim (λ t. ⊎_elim (λ q. rw (← q) t) (held_in sets vm (suc k) n page) (rw t at h)) (λ f. held_in sets vm (suc k) n page (rw f at h)) (cases (holds_page sets vm k))

in_held : (sets : List ℕ) (vm k n page : ℕ) → k ≤ page → page < k + n → holds_page sets vm page ≡ true → PageIn page (held_from sets vm k n)
in_held sets vm k zero page l b e = absurd (omega arith)
in_held sets vm k (suc n) page l b e =
    ⊎_elim (λ q. let t : holds_page sets vm k ≡ true = rw q e in rw t (inl q))
    (λ d.
    let later = in_held sets vm (suc k) n page (omega arith) (omega arith) e in
    ⊎_elim (λ t. rw t (inr later)) (λ f. rw f later) (cases (holds_page sets vm k)))
    (equal k page)

owns_as : (sets : List ℕ) (a b p q : ℕ) → a ≡ b → p ≡ q → owns sets a p ≡ true → owns sets b q ≡ true
owns_as sets a b p q e f o = rw (← e, ← f) o

-- ---- the whole
module _ (t : Tables) (val : ValidTables t) (vm : ℕ) (p : RetirePassed t vm) where
  abbrev retired_route : Side → Route
  retired_route side = retire_route side t.sets vm (route side t)

  route_retired : (side : Side) → GoodRoute side t (retired_route side)
  unfolding retire_table
  route_retired side =
      let g = route_of_lem side t val in
      maps_route side t (route side t) _ _ _ g
      (maps_wipe side t.setup.pages t.known t.sets t.pairs (route side t).map (route side t).walker (maps_of side t val) (goes side t.sets vm))
      (cache_wipe_both (route side t).walker (route side t).cache g.cache (goes side t.sets vm) (goes side t.sets vm) (goes_unported side t.sets vm) g.walker.once)

  abbrev one : Tables
  one = with_route Cpu t (retired_route Cpu)

  abbrev two : Tables
  two = with_route Dma one (retired_route Dma)

  one_valid : ValidTables one
  one_valid = route_valid Cpu t (retired_route Cpu) val (same_retired t.cpu Cpu t.sets vm) (route_retired Cpu)

  two_valid : ValidTables two
  two_valid = route_valid Dma one (retired_route Dma) one_valid (same_retired t.dma Dma t.sets vm) (route_retired Dma)

  -- an entry that is left, and what it was
  left : (side : Side) (w : ℕ) → Has (retired_route side).map w → Has (route side t).map w × (goes side t.sets vm w ≡ false)
  unfolding retire_table
  left side w h = has_wipe_inv (goes side t.sets vm) (route side t).map w h

  -- a pair that names the VM lends a page to an entry that stays only if that entry's VM owns it
  lent_still : (w : ℕ) → Has (retired_route Cpu).map w → filled_of w ≡ 1 → shares t.pairs (vm_of w) (page_of w) ≡ true → may_map Cpu t.sets (retire_pairs t.pairs vm) (vm_of w) (page_of w) ≡ true
  unfolding retire_pairs
  lent_still w h f e =
      let (was, stays) = left Cpu w h in
      let (u, r) = shares_lends t.pairs (vm_of w) (page_of w) e in
      ⊎_elim (λ j. may_own Cpu t.sets _ (vm_of w) (page_of w) (owner w u was stays r (joined_inv vm u j)))
      (λ n. may_lent Cpu t.sets _ (vm_of w) (page_of w) (lends_shares _ (vm_of w) (page_of w) u (record { there = has_wipe_keep (joins vm) t.pairs u r.there n; filled = r.filled; same = r.same; end = r.end })))
      (cases (joins vm u))
    where
      owner : (w u : ℕ) → Has t.cpu.map w → goes Cpu t.sets vm w ≡ false → Lends t.pairs (vm_of w) (page_of w) u → AtEnd vm u → owns t.sets (vm_of w) (page_of w) ≡ true
      owner w u was stays r at =
          let good = val.cpu.map.each w was in
          let off = stays_off t.sets vm w good.filled (omega (arith, good.page, val.setup.most_pages)) stays in
          let not-its = stays_other Cpu t.sets vm w good.filled stays in
          let pair = val.pairs.each u r.there in
          let no : (end : ℕ) → owns t.sets end (page_of u) ≡ true → end ≡ vm → ⊥ = λ end o q. true≢false (sym (rw (q, r.same) at o) ∙ off) in
          let is : (end : ℕ) → (end ≡ vm) ⊎ (end ≡ vm_of w) → owns t.sets end (page_of u) ≡ true → owns t.sets (vm_of w) (page_of w) ≡ true
          = λ end x o. ⊎_elim (λ q. absurd (no end o q)) (λ q. owns_as t.sets end (vm_of w) (page_of u) (page_of w) q r.same o) x in
          let ends : ((left_of u ≡ vm) ⊎ (left_of u ≡ vm_of w)) × ((right_of u ≡ vm) ⊎ (right_of u ≡ vm_of w))
          = ⊎_elim (λ q. (inl q, ⊎_elim (λ z. absurd (not-its (sym z ∙ q))) inr r.end)) (λ q. (⊎_elim inr (λ z. absurd (not-its (sym z ∙ q))) r.end, inl q)) at in
          ⊎_elim (is (left_of u) ends.0) (is (right_of u) ends.1) pair.owned

  abbrev three : Tables
  three = with_pairs two (retire_pairs t.pairs vm)

  three_valid : ValidTables three
  unfolding retire_pairs
  three_valid =
      pairs_valid two two_valid (retire_pairs t.pairs vm) (length-wipe (joins vm) t.pairs ∙ val.lengths.pairs)
      (record { each = λ w h. val.pairs.each w (has_wipe_inv (joins vm) t.pairs w h).0; once = distinct_wipe pair_key_of refl (joins vm) t.pairs val.pairs.once })
      lent_still

  -- a pair that is left is on no page of the VM
  pair_other : (w other : ℕ) → Has (retire_pairs t.pairs vm) w → owns t.sets other (page_of w) ≡ true → other ≡ vm → ⊥
  unfolding retire_pairs
  pair_other w other h o q =
      let (was, n) = has_wipe_inv (joins vm) t.pairs w h in
      let g = val.pairs.each w was in
      let one_owner : (end : ℕ) → knows t.known end ≡ true → owns t.sets end (page_of w) ≡ true → AtEnd end w → ⊥
      = λ end k x at.
      let end-ok = below end k in
      let same : cpu_row end ≡ cpu_row vm = val.pages.one_home (cpu_row end) (cpu_row vm) (page_of w) (cpu end end-ok) (cpu vm p.early.vm_ok) g.page x (rw q at o) in
      let z : end ≡ vm = omega arith in
      true≢false (sym (joined vm w g.filled (rw z at at)) ∙ n) in
      ⊎_elim (λ x. one_owner (left_of w) g.left x (inl refl)) (λ x. one_owner (right_of w) g.right x (inr refl)) g.owned
    where
      below : (end : ℕ) → knows t.known end ≡ true → end < VMS
      below end k = knows_below t.known end val.known k

  abbrev four : Tables
  four = with_sets three (retire_sets t.sets vm)

  -- an entry that is left is another VM's, and so is its claim
  entry_other : (side : Side) (w : ℕ) → Has (route side three).map w → filled_of w ≡ 1 → vm_of w ≡ vm → ⊥
  entry_other Cpu w h f = let (was, n) = left Cpu w h in stays_other Cpu t.sets vm w f n
  entry_other Dma w h f = let (was, n) = left Dma w h in stays_other Dma t.sets vm w f n

  four_valid : ValidTables four
  four_valid =
      sets_valid three three_valid (retire_sets t.sets vm)
      (record {
        long = length-retire t.sets vm ∙ val.lengths.sets;
        good = pages_retired t.setup.pages _ _ _ t.sets vm p.early.vm_ok val.lengths.sets val.setup.most_pages val.pages;
        shared = λ page h. retire_other t.sets vm p.early.vm_ok val.lengths.sets page h shared_row (λ e. omega arith) (λ e. omega arith) (λ e. omega arith);
        entry = λ side w h g e. retire_claims t.sets vm p.early.vm_ok val.lengths.sets (page_of w) (omega (arith, g.page, val.setup.most_pages)) side (vm_of w) (entry_other side w h g.filled) ∙ e;
        pair = λ w other h g e. retire_claims t.sets vm p.early.vm_ok val.lengths.sets (page_of w) (omega (arith, g.page, val.setup.most_pages)) Cpu other (pair_other w other h e) ∙ e;
      })

  unnamed : Named four vm → ⊥
  unfolding retire_pairs
  unnamed (by_claim side page l e) = true≢false (sym e ∙ retire_none t.sets vm p.early.vm_ok val.lengths.sets page (omega (arith, val.setup.most_pages)) side)
  unnamed (by_entry Cpu w h f e) = entry_other Cpu w h f e
  unnamed (by_entry Dma w h f e) = entry_other Dma w h f e
  unnamed (by_pair w h f e) = true≢false (sym (joined vm w f e) ∙ (has_wipe_inv (joins vm) t.pairs w h).1)
  unnamed (by_port Cpu port h e) = on_no_port t.cpu.ports vm port p.no_cpu (rw val.lengths.cpu.ports h) e
  unnamed (by_port Dma port h e) = on_no_port t.dma.ports vm port p.no_device (rw val.lengths.dma.ports h) e

  known_left : (other : ℕ) → (other ≡ vm → ⊥) → knows t.known other ≡ true → knows (remove_vm_known t.known vm) other ≡ true
  unfolding knows
  known_left other d k = has_bit-without_other t.known vm other d ∙ k

  retired_valid : ValidTables (retired t vm)
  retired_valid =
      known_valid four four_valid (remove_vm_known t.known vm) (without_bit-fits t.known vm VMS val.known)
      (λ other n k. known_left other (λ q. unnamed (rw q at n)) k)

  -- the VM's last claims ended, and nobody else's
  retire_wiped : (other page : ℕ) → page < t.setup.pages → holds_page t.sets other page ≡ true → holds_page (retire_sets t.sets vm) other page ≡ false → PageIn page (retire_clears t.sets t.setup.pages vm)
  unfolding retire_clears
  retire_wiped other page b e n = ⊎_elim (λ q. in_held t.sets vm 0 t.setup.pages page (omega arith) (omega arith) (rw q at e)) (λ d. absurd (true≢false (sym (still d) ∙ n))) (equal other vm)
    where
      still : (other ≡ vm → ⊥) → holds_page (retire_sets t.sets vm) other page ≡ true
      still d = rw (retire_claims t.sets vm p.early.vm_ok val.lengths.sets page (omega (arith, val.setup.most_pages)) Cpu other d, retire_claims t.sets vm p.early.vm_ok val.lengths.sets page (omega (arith, val.setup.most_pages)) Dma other d) e

  retire_free : (other page : ℕ) → other < VMS → page < t.setup.pages → PageIn page (retire_clears t.sets t.setup.pages vm) → holds_page (retire_sets t.sets vm) other page ≡ true → ⊥
  unfolding retire_clears
  retire_free other page o b i e =
      let h : page < PAGES = omega (arith, val.setup.most_pages) in
      let mine = either (owns t.sets vm page) (holds_dma t.sets vm page) (held_in t.sets vm 0 t.setup.pages page i) in
      let back : (side : Side) → claims side (retire_sets t.sets vm) other page ≡ true → (other ≡ vm → ⊥) × (claims side t.sets other page ≡ true) = λ side. retire_back t.sets vm p.early.vm_ok val.lengths.sets page h side other in
      ⊎_elim (λ c. cpu_clash mine (back Cpu c)) (λ c. dma_clash mine (back Dma c)) (either (owns (retire_sets t.sets vm) other page) (holds_dma (retire_sets t.sets vm) other page) e)
    where
      own_twice : (other ≡ vm → ⊥) → owns t.sets other page ≡ true → owns t.sets vm page ≡ true → ⊥
      own_twice n c m = n (let q = val.pages.one_home (cpu_row other) (cpu_row vm) page (cpu other o) (cpu vm p.early.vm_ok) b c m in omega arith)

      -- a page that one claims for DMA is no other's for CPU
      mixed : (x y : ℕ) → x < VMS → y < VMS → (x ≡ y → ⊥) → holds_dma t.sets x page ≡ true → owns t.sets y page ≡ true → ⊥
      mixed x y a c n d w =
          ⊎_elim (λ z. n (let q = val.pages.one_home (cpu_row x) (cpu_row y) page (cpu x a) (cpu y c) b z w in omega arith))
          (λ z. let q = val.pages.one_home pool_row (cpu_row y) page pool (cpu y c) b z w in omega arith) (val.pages.dma_home x page a b d)

      cpu_clash : (owns t.sets vm page ≡ true) ⊎ (holds_dma t.sets vm page ≡ true) → (other ≡ vm → ⊥) × (owns t.sets other page ≡ true) → ⊥
      cpu_clash (inl m) (n, c) = own_twice n c m
      cpu_clash (inr m) (n, c) = mixed vm other p.early.vm_ok o (λ q. n (sym q)) m c

      dma_clash : (owns t.sets vm page ≡ true) ⊎ (holds_dma t.sets vm page ≡ true) → (other ≡ vm → ⊥) × (holds_dma t.sets other page ≡ true) → ⊥
      dma_clash (inl m) (n, c) = mixed other vm o p.early.vm_ok n c m
      dma_clash (inr m) (n, c) = n (val.pages.one_dma other vm page o p.early.vm_ok b c m)

pub retire_good : (t : Tables) → ValidTables t → (vm : VmId) {dropped word : ℕ} → answer_of t (op.RetireVm vm) ≡ accept dropped word → AcceptedGood t (op.RetireVm vm)
unfolding retire_pairs
retire_good t v vm e =
    let p = retire_passed t vm e in
    record {
      valid = retired_valid t v vm.0 p;
      reach = λ bit other page h. absurd h;
      still = λ h. absurd h;
      wiped = λ other page o. retire_wiped t v vm.0 p other page;
      free = retire_free t v vm.0 p;
      edges = λ w h. inl (has_wipe_inv (joins vm.0) t.pairs w h).0;
    }
