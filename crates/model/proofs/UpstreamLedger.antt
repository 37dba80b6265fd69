-- Operations 1 to 6 are upstream's steps: VMs, ownership and sharing.
use Prim.Native.Nat.{ℕ, ◌<◌}
use mathlib.Core.Bool.{Bool, true, false, not, ◌||◌, true≢false}
use mathlib.Core.List.{List}
use mathlib.Core.Logic.{inl, inr, ⊎_elim}
use mathlib.Core.Path.{◌≡◌, refl, sym, ◌∙◌}
use native.Mathlib.Omega.{arith}
use lib.Dec.{eqb}
use borrow.Author.Tests.{eq-eqb, ne_eqb, eqb-false, ltb-true, leb-true, not-false}
use Rattle.numbers.specs.CaseLaws.{cases, equal}
use Rattle.numbers.specs.Limits.{VMS, GUEST_PAGES, PAGES}
use Rattle.numbers.specs.Packing.{pair_key, pair_key_of, pair_word}
use Rattle.numbers.specs.PackingLaws.{pair_key_lem}
use Rattle.numbers.specs.Meaning.{accept}
use Rattle.numbers.specs.declared.Operation.TheVariants as op
use Rattle.numbers.specs.declared.PhysPage.{PhysPage}
use Rattle.numbers.specs.declared.Side.{Side}
use Rattle.numbers.specs.declared.Side.TheVariants.{Cpu, Dma}
use Rattle.numbers.specs.declared.VmId.{VmId}
use Rattle.table.specs.Table.{free_entries, room_for}
use Rattle.table.specs.TableLaws.{place_room}
use Rattle.pages.specs.Bits.{with_bit, without_bit}
use Rattle.pages.specs.BitLaws.{has_bit-with_same, has_bit-with_other, has_bit-without_same, has_bit-without_other}
use Rattle.pages.specs.Rows.{holds, pool_row, shared_row, cpu_row, dma_row}
use Rattle.model.specs.State.{Tables, State, with_known, with_sets, with_pairs}
use Rattle.model.specs.Views.{is_vm, knows, paired, owns, holds_dma, in_pool, claimed_elsewhere, has_pages, has_mappings, edge_of, on_port}
use Rattle.model.specs.Valid.{MapGood, ValidTables}
use Rattle.model.specs.Effect.{apply, cleared_pages}
use Rattle.model.specs.EarlyLaws.{past, then_passed, vm_passed, PagePassed, page_passed, pair_passed}
use Rattle.model.specs.Ledger.{vm_early, page_early, pair_early, add_vm_answer, remove_vm_answer, assign_answer, assign_sets, reclaim_answer, reclaim_sets, reclaim_clears, share_answer, share_pairs, unshare_answer, unshare_pairs}
use Rattle.model.specs.Step.{answer_of}
use Rattle.model.specs.Upstream.{PageSets, SameSets, SameSoftware, plus, minus, with_set, without_set, map_seen, is_some, software_view}
use Rattle.model.specs.UpstreamStep.{with_vms, with_pool, with_sets_of, with_edges, plus_edge, minus_edge, no_pages, AddVmStep, RemoveVmEnabled, RemoveVmStep, AssignPageStep, ReclaimPageStep, SharePageStep, UnsharePageStep}
use Rattle.model.specs.UpstreamRun.{stop}
use Rattle.model.proofs.ViewLaws.{not_so, neither, no_pages_lem, no_mappings, no_edge_of, not_elsewhere}
use Rattle.model.proofs.PagesKept.{Moved, assign_moved, reclaim_moved}
use Rattle.model.proofs.UpstreamLaws.{map-word, edge_key, found_put_same, found_put_other, found_erase_same, found_erase_other}
use Rattle.model.proofs.UpstreamWf.{held_below, edge_pair, edge_either, pool_no_span}
use Rattle.model.proofs.UpstreamMemory.{clear_run}
use Rattle.model.proofs.UpstreamFollows.{same_sets, same_hardware, software_once, AcceptedFollows}

-- ---- known VMs
knows_plus : (known vm v : ℕ) → knows (with_bit known vm) v ≡ plus (knows known) vm v
unfolding knows
knows_plus known vm v =
    ⊎_elim (λ q. rw (eq-eqb v vm q) (rw q (has_bit-with_same known vm))) (λ n. rw (ne_eqb v vm n) (has_bit-with_other known vm v n)) (equal v vm)

pub knows_minus : (known vm v : ℕ) → knows (without_bit known vm) v ≡ minus (knows known) vm v
unfolding knows
knows_minus known vm v =
    ⊎_elim (λ q. rw (eq-eqb v vm q) (rw q (has_bit-without_same known vm))) (λ n. rw (ne_eqb v vm n) (has_bit-without_other known vm v n)) (equal v vm)

-- the sets with an empty one more, and with one less
set_added : (known vm : ℕ) (pages : ℕ → ℕ → Bool) → ((page : ℕ) → page < PAGES → pages vm page ≡ false) →
    SameSets (record { vms = knows (with_bit known vm); pages = pages }) (with_set (record { vms = knows known; pages = pages }) vm no_pages)
set_added known vm pages none =
    record {
      vms = λ v h. knows_plus known vm v;
      pages = λ v page h l e. ⊎_elim (λ q. rw (eq-eqb v vm q) (rw q (none page l))) (λ n. rw (ne_eqb v vm n)) (equal v vm);
    }

set_dropped : (known vm : ℕ) (pages : ℕ → ℕ → Bool) → SameSets (record { vms = knows (without_bit known vm); pages = pages })
    (without_set (record { vms = knows known; pages = pages }) vm)
set_dropped known vm pages = record { vms = λ v h. knows_minus known vm v; pages = λ v page h l e. refl }

-- known VMs and their sets edited
known_edited : (t : Tables) (known : ℕ) (vms : ℕ → Bool) (cpu dma : PageSets) → ((vm : ℕ) → knows known vm ≡ vms vm) →
    SameSets (record { vms = knows known; pages = owns t.sets }) cpu → SameSets (record { vms = knows known; pages = holds_dma t.sets }) dma →
    SameSoftware (software_view (with_known t known)) (with_sets_of Dma (with_sets_of Cpu (with_vms (software_view t) vms) cpu) dma)
known_edited t known vms cpu dma e c d =
    record {
      all_vms = λ vm v. e vm;
      hypervisor_owned = λ page h. refl;
      vm_owned = c;
      shared_pages = λ left right page l r h. refl;
      s2_map = λ vm gpa v g. refl;
      iommu_s2_map = λ vm gpa v g. refl;
      iommu_owned = d;
      iommu_shared = λ page h. refl;
    }

-- ---- a page moved: its row of before without it, its row of now with it, every other as it was
module _ {sets sets' : List ℕ} {from to page : ℕ} (m : Moved sets sets' from to page) where
  pub moved_from : (p : ℕ) → p < PAGES → holds sets' from p ≡ minus (holds sets from) page p
  moved_from p l = ⊎_elim (λ q. rw (eq-eqb p page q) (rw q m.left)) (λ n. rw (ne_eqb p page n) (m.other_pages from p l n)) (equal p page)

  pub moved_to : (p : ℕ) → p < PAGES → holds sets' to p ≡ plus (holds sets to) page p
  moved_to p l = ⊎_elim (λ q. rw (eq-eqb p page q) (rw q m.arrived)) (λ n. rw (ne_eqb p page n) (m.other_pages to p l n)) (equal p page)

-- one VM's set edited
pub set_edited : (known vm : ℕ) (old new : ℕ → ℕ → Bool) (edit : ℕ → Bool) → knows known vm ≡ true → ((page : ℕ) → page < PAGES → new vm page ≡ edit page) →
    ((v page : ℕ) → v < VMS → page < PAGES → (v ≡ vm → ⊥) → new v page ≡ old v page) →
    SameSets (record { vms = knows known; pages = new }) (with_set (record { vms = knows known; pages = old }) vm edit)
set_edited known vm old new edit k here there =
    record {
      vms = λ v h. ⊎_elim (λ q. rw (eq-eqb v vm q) (rw q k)) (λ n. rw (ne_eqb v vm n)) (equal v vm);
      pages = λ v page h l e. ⊎_elim (λ q. rw (eq-eqb v vm q) (rw q (here page l))) (λ n. rw (ne_eqb v vm n) (there v page h l n)) (equal v vm);
    }

-- the pool and one VM's CPU pages edited, and no other row
pub pool_edited : (t : Tables) (vm : ℕ) (sets : List ℕ) (pool edit : ℕ → Bool) → knows t.known vm ≡ true →
    ((page : ℕ) → page < PAGES → holds sets pool_row page ≡ pool page) → ((page : ℕ) → page < PAGES → holds sets (cpu_row vm) page ≡ edit page) →
    ((row page : ℕ) → page < PAGES → (row ≡ pool_row → ⊥) → (row ≡ cpu_row vm → ⊥) → holds sets row page ≡ holds t.sets row page) →
    SameSoftware (software_view (with_sets t sets)) (with_sets_of Cpu (with_pool (software_view t) pool) (with_set (software_view t).vm_owned vm edit))
pool_edited t vm sets pool edit k a b others =
    record {
      all_vms = λ v h. refl;
      hypervisor_owned = a;
      vm_owned = set_edited t.known vm (owns t.sets) (owns sets) edit k b (λ v page h l n. others (cpu_row v) page l (λ q. omega arith) (λ q. n (omega arith)));
      shared_pages = λ left right page l r h. refl;
      s2_map = λ v gpa h g. refl;
      iommu_s2_map = λ v gpa h g. refl;
      iommu_owned = record { vms = λ v h. refl; pages = λ v page h l e. others (dma_row v) page l (λ q. omega arith) (λ q. omega arith) };
      iommu_shared = λ page l. others shared_row page l (λ q. omega arith) (λ q. omega arith);
    }

-- ---- edges: pairs with one key more, and with one key less
module _ (pairs : List ℕ) (left right page : ℕ) (a : left < VMS) (b : right < VMS) (c : page < PAGES) where
  -- equal keys are found alike
  paired_alike : (l r p : ℕ) → pair_key left right page ≡ pair_key l r p → paired pairs left right page ≡ paired pairs l r p
  unfolding paired
  paired_alike l r p e = rw e

  put_same : (l r p : ℕ) → (paired pairs left right page ≡ false → 0 < free_entries pairs) → pair_key left right page ≡ pair_key l r p →
      paired (share_pairs pairs left right page) l r p ≡ true
  unfolding share_pairs paired
  put_same l r p room e = ⊎_elim (λ y. rw y (sym (paired_alike l r p e) ∙ y)) new (cases (paired pairs left right page))
    where
      new : paired pairs left right page ≡ false → paired (share_pairs pairs left right page) l r p ≡ true
      new f =
          let (i, at) = place_room pair_key_of pairs (pair_key left right page) (λ q. room f) in
          rw (f, ← e) (found_put_same pair_key_of refl pairs (pair_key left right page) (pair_word left right page) i (omega arith)
          (pair_key_lem {left = left} {right = right} {page = page} (record { left_fits = omega arith; right_fits = omega arith; page_fits = omega arith })) at)

  put_other : (l r p : ℕ) → (pair_key left right page ≡ pair_key l r p → ⊥) → paired (share_pairs pairs left right page) l r p ≡ paired pairs l r p
  unfolding share_pairs paired
  put_other l r p n = ⊎_elim (λ y. rw y) new (cases (paired pairs left right page))
    where
      new : paired pairs left right page ≡ false → paired (share_pairs pairs left right page) l r p ≡ paired pairs l r p
      new f =
          rw f
          (found_put_other pair_key_of refl pairs (pair_key left right page) (pair_word left right page) (pair_key l r p)
          (pair_key_lem {left = left} {right = right} {page = page} (record { left_fits = omega arith; right_fits = omega arith; page_fits = omega arith })) (omega arith) n)

  pub share_seen : (paired pairs left right page ≡ false → 0 < free_entries pairs) → (l r p : ℕ) → l < VMS → r < VMS → p < PAGES →
      paired (share_pairs pairs left right page) l r p ≡ plus_edge (paired pairs) left right page l r p
  share_seen room l r p a' b' c' =
      rw (edge_key left right page l r p a b c a' b' c')
      (⊎_elim (λ e. rw (eq-eqb (pair_key left right page) (pair_key l r p) e) (put_same l r p room e))
      (λ n. rw (ne_eqb (pair_key left right page) (pair_key l r p) n) (put_other l r p n)) (equal (pair_key left right page) (pair_key l r p)))

  pub unshare_seen : (l r p : ℕ) → l < VMS → r < VMS → p < PAGES → paired (unshare_pairs pairs left right page) l r p ≡ minus_edge (paired pairs) left right page l r p
  unfolding unshare_pairs paired
  unshare_seen l r p a' b' c' =
      rw (edge_key left right page l r p a b c a' b' c')
      (⊎_elim (λ e. rw (eq-eqb (pair_key left right page) (pair_key l r p) e)
      (rw (← e) (found_erase_same pair_key_of refl pairs (pair_key left right page) (omega arith))))
      (λ n. rw (ne_eqb (pair_key left right page) (pair_key l r p) n)
      (found_erase_other pair_key_of refl pairs (pair_key left right page) (pair_key l r p) (omega arith) n)) (equal (pair_key left right page) (pair_key l r p)))

module _ (s : State) (valid : ValidTables s.tables) where
  -- an id that is not known holds no page, on either side
  unknown_cpu : (vm page : ℕ) → vm < VMS → knows s.tables.known vm ≡ false → page < PAGES → owns s.tables.sets vm page ≡ false
  unknown_cpu vm page v n h =
      not_so _ (λ e. true≢false (sym (valid.pages.cpu_known vm page v (held_below s.tables valid (cpu_row vm) page (omega arith) h e) e) ∙ n))

  unknown_dma : (vm page : ℕ) → vm < VMS → knows s.tables.known vm ≡ false → page < PAGES → holds_dma s.tables.sets vm page ≡ false
  unknown_dma vm page v n h =
      not_so _ (λ e. true≢false (sym (valid.pages.dma_known vm page v (held_below s.tables valid (dma_row vm) page (omega arith) h e) e) ∙ n))

  -- ---- 1
  pub add_vm_follows : (vm : VmId) {dropped word : ℕ} → answer_of s.tables (op.AddVm vm) ≡ accept dropped word → AcceptedFollows s (op.AddVm vm)
  unfolding add_vm_answer apply cleared_pages
  add_vm_follows vm e =
      let (small, a) = past (not (is_vm vm.0)) _ _ _ e in
      let (fresh, b) = past (knows s.tables.known vm.0) _ _ _ a in
      record { software = software_once (added vm.0 (ltb-true vm.0 VMS (not-false _ small)) fresh); hardware = stop (same_hardware _) }
    where
      added : (vm : ℕ) → vm < VMS → knows s.tables.known vm ≡ false →
          AddVmStep vm (software_view s.tables) (software_view (with_known s.tables (with_bit s.tables.known vm)))
      added vm v f =
          let known = s.tables.known in
          record {
            fresh = f;
            next =
                known_edited s.tables (with_bit known vm) _ _ _ (knows_plus known vm) (set_added known vm (owns s.tables.sets) (λ page h. unknown_cpu vm page v f h))
                (set_added known vm (holds_dma s.tables.sets) (λ page h. unknown_dma vm page v f h));
          }

  -- ---- 2
  -- no mapping of the VM in the map of a side, none in its view
  unmapped : (side : Side) (table : List ℕ) → MapGood side s.tables.setup.pages s.tables.known s.tables.sets s.tables.pairs table → (vm : ℕ) →
      has_mappings table vm ≡ false →
      (v gpa : ℕ) → v < VMS → gpa < GUEST_PAGES → is_some (map_seen table v gpa) ≡ true → v ≡ vm → ⊥
  unmapped side table g vm n v gpa h l e q =
      let (i, o) = map-word table v gpa h l e in
      no_mappings table vm _ n i (g.each _ i).filled (o.vm_is ∙ q)

  removable : (vm : ℕ) {dropped word : ℕ} →
      remove_vm_answer s.tables.known s.tables.sets s.tables.pairs s.tables.cpu.map s.tables.dma.map s.tables.cpu.ports
      s.tables.dma.ports vm ≡ accept dropped word → RemoveVmEnabled vm (software_view s.tables)
  unfolding remove_vm_answer
  removable vm e =
      let (d, w, early, a) = then_passed (vm_early s.tables.known vm) _ e in
      let (busy, b) = past _ _ _ _ a in
      let (f, devices) = neither _ (on_port s.tables.dma.ports vm) busy in
      let (g, cpus) = neither _ (on_port s.tables.cpu.ports vm) f in
      let (h, edges) = neither _ (edge_of s.tables.pairs vm) g in
      let (i, dma_map) = neither _ (has_mappings s.tables.dma.map vm) h in
      let (j, cpu_map) = neither _ (has_mappings s.tables.cpu.map vm) i in
      let (cpu-pages, dma-pages) = neither (has_pages Cpu s.tables.sets vm) (has_pages Dma s.tables.sets vm) j in
      record {
        known = (vm_passed s.tables.known vm early).knows_vm;
        no_cpu = λ page l. no_pages_lem Cpu s.tables.sets vm page cpu-pages l;
        no_dma = λ page l. no_pages_lem Dma s.tables.sets vm page dma-pages l;
        no_mapping = unmapped Cpu s.tables.cpu.map valid.cpu.map vm cpu_map;
        no_dma_mapping = unmapped Dma s.tables.dma.map valid.dma.map vm dma_map;
        no_edge = λ left right page l r p q. let (u, k, good, same) = edge_pair s.tables valid left right page l r p q in
            let none = no_edge_of s.tables.pairs vm u edges k good.filled in
            ⊎_elim (λ x. (λ z. none (inl (x.0 ∙ z)), λ z. none (inr (x.1 ∙ z)))) (λ x. (λ z. none (inr (x.1 ∙ z)), λ z. none (inl (x.0 ∙ z)))) same;
      }

  pub remove_vm_follows : (vm : VmId) {dropped word : ℕ} → answer_of s.tables (op.RemoveVm vm) ≡ accept dropped word → AcceptedFollows s (op.RemoveVm vm)
  unfolding apply cleared_pages
  remove_vm_follows vm e = record { software = software_once (dropped_vm vm.0 (removable vm.0 e)); hardware = stop (same_hardware _) }
    where
      dropped_vm : (vm : ℕ) → RemoveVmEnabled vm (software_view s.tables) →
          RemoveVmStep vm (software_view s.tables) (software_view (with_known s.tables (without_bit s.tables.known vm)))
      dropped_vm vm g =
          let known = s.tables.known in
          record {
            enabled = g;
            next =
                known_edited s.tables (without_bit known vm) _ _ _ (knows_minus known vm) (set_dropped known vm (owns s.tables.sets))
                (set_dropped known vm (holds_dma s.tables.sets));
          }

  -- ---- 3
  pub assign_follows : (vm : VmId) (page : PhysPage) {dropped word : ℕ} → answer_of s.tables (op.AssignPage vm page) ≡ accept dropped word →
      AcceptedFollows s (op.AssignPage vm page)
  unfolding assign_answer apply cleared_pages
  assign_follows vm page e =
      let (d, w, early, a) = then_passed (page_early s.tables.known s.tables.setup.pages vm.0 page.0) _ e in
      let r = page_passed s.tables.known s.tables.setup.pages vm.0 page.0 early in
      let (free, b) = past (not (in_pool s.tables.sets page.0)) _ _ _ a in
      let (alone, c) = past (claimed_elsewhere Dma s.tables.sets vm.0 page.0) _ _ _ b in
      record { software = software_once (assigned vm.0 page.0 r (not-false _ free) alone); hardware = stop (same_hardware _) }
    where
      assigned : (vm page : ℕ) → PagePassed s.tables.known s.tables.setup.pages vm page → in_pool s.tables.sets page ≡ true →
          claimed_elsewhere Dma s.tables.sets vm page ≡ false →
          AssignPageStep vm page (software_view s.tables) (software_view (with_sets s.tables (assign_sets s.tables.sets vm page)))
      assigned vm page r free alone =
          let h : page < PAGES = omega (arith, r.page_ok, valid.setup.most_pages) in
          let m = assign_moved s.tables.sets vm page valid.lengths.sets r.vm_ok h in
          record {
            known = r.knows_vm;
            free = free;
            no_dma = λ v l k n. not_elsewhere Dma s.tables.sets vm page v alone l n;
            no_span = pool_no_span s.tables valid page h free;
            next = pool_edited s.tables vm _ _ _ r.knows_vm (moved_from m) (moved_to m) (λ row p l a b. m.other_rows row p l a b);
          }

  -- ---- 4: the guards on mappings and edges come on top of upstream's, and the page is cleared where its last claim ends
  pub reclaim_follows : (vm : VmId) (page : PhysPage) {dropped word : ℕ} → answer_of s.tables (op.ReclaimPage vm page) ≡ accept dropped word →
      AcceptedFollows s (op.ReclaimPage vm page)
  unfolding reclaim_answer apply
  reclaim_follows vm page e =
      let (d, w, early, a) = then_passed (page_early s.tables.known s.tables.setup.pages vm.0 page.0) _ e in
      let r = page_passed s.tables.known s.tables.setup.pages vm.0 page.0 early in
      let (own, b) = past (not (owns s.tables.sets vm.0 page.0)) _ _ _ a in
      record {
        software = software_once (reclaimed vm.0 page.0 r (not-false _ own));
        hardware = clear_run s.tables (reclaim_clears s.tables.sets vm.0 page.0) s.memory;
      }
    where
      reclaimed : (vm page : ℕ) → PagePassed s.tables.known s.tables.setup.pages vm page → owns s.tables.sets vm page ≡ true →
          ReclaimPageStep vm page (software_view s.tables) (software_view (with_sets s.tables (reclaim_sets s.tables.sets vm page)))
      reclaimed vm page r own =
          let m = reclaim_moved s.tables.sets vm page valid.lengths.sets (omega (arith, r.page_ok, valid.setup.most_pages)) in
          record {
            known = r.knows_vm;
            owned = (r.knows_vm, own);
            next = pool_edited s.tables vm _ _ _ r.knows_vm (moved_to m) (moved_from m) (λ row p l a b. m.other_rows row p l b a);
          }

  -- ---- 5, 6
  -- an edit of the pairs alone
  edges_edited : (pairs : List ℕ) (edges : ℕ → ℕ → ℕ → Bool) →
      ((left right page : ℕ) → left < VMS → right < VMS → page < PAGES → paired pairs left right page ≡ edges left right page) →
      SameSoftware (software_view (with_pairs s.tables pairs)) (with_edges (software_view s.tables) edges)
  edges_edited pairs edges e =
      record {
        all_vms = λ v h. refl;
        hypervisor_owned = λ page h. refl;
        vm_owned = same_sets _;
        shared_pages = e;
        s2_map = λ v gpa h g. refl;
        iommu_s2_map = λ v gpa h g. refl;
        iommu_owned = same_sets _;
        iommu_shared = λ page h. refl;
      }

  below_pages : (page : ℕ) → page < s.tables.setup.pages → page < PAGES
  below_pages page h = omega (arith, valid.setup.most_pages)

  shared_step : (left right page : ℕ) {dropped word : ℕ} →
      share_answer s.tables.known s.tables.setup.pages s.tables.sets s.tables.pairs left right page ≡ accept dropped word →
      SharePageStep left right page (software_view s.tables) (software_view (with_pairs s.tables (share_pairs s.tables.pairs left right page)))
  unfolding share_answer
  shared_step left right page e =
      let (d, w, early, a) = then_passed (pair_early s.tables.known s.tables.setup.pages left right page) _ e in
      let r = pair_passed s.tables.known s.tables.setup.pages left right page early in
      let (apart, b) = past (eqb left right) _ _ _ a in
      let (own, c) = past (not (owns s.tables.sets left page)) _ _ _ b in
      let (room, f) = past (not (paired s.tables.pairs left right page || room_for s.tables.pairs 1)) _ _ _ c in
      let either = not-false (paired s.tables.pairs left right page || room_for s.tables.pairs 1) room in
      let place : paired s.tables.pairs left right page ≡ false → 0 < free_entries s.tables.pairs = λ q. leb-true _ _ (rw q at either) in
      record {
        apart = eqb-false left right apart;
        known = (r.knows_left, r.knows_right);
        owned = (r.knows_left, not-false _ own);
        next = edges_edited _ _ (share_seen s.tables.pairs left right page r.left_ok r.right_ok (below_pages page r.page_ok) place);
      }

  pub share_follows : (left right : VmId) (page : PhysPage) {dropped word : ℕ} → answer_of s.tables (op.SharePage left right page) ≡ accept dropped word →
      AcceptedFollows s (op.SharePage left right page)
  unfolding apply cleared_pages
  share_follows left right page e = record { software = software_once (shared_step left.0 right.0 page.0 e); hardware = stop (same_hardware _) }

  unshared_step : (left right page : ℕ) {dropped word : ℕ} →
      unshare_answer s.tables.known s.tables.setup.pages s.tables.sets s.tables.pairs s.tables.cpu.map left right page ≡ accept dropped word →
      UnsharePageStep left right page (software_view s.tables) (software_view (with_pairs s.tables (unshare_pairs s.tables.pairs left right page)))
  unfolding unshare_answer
  unshared_step left right page e =
      let (d, w, early, a) = then_passed (pair_early s.tables.known s.tables.setup.pages left right page) _ e in
      let r = pair_passed s.tables.known s.tables.setup.pages left right page early in
      let (stored, b) = past (not (paired s.tables.pairs left right page)) _ _ _ a in
      let edge = not-false _ stored in
      record {
        stored = (edge, sym (edge_either s.tables valid left right page) ∙ edge);
        next = edges_edited _ _ (unshare_seen s.tables.pairs left right page r.left_ok r.right_ok (below_pages page r.page_ok));
      }

  pub unshare_follows : (left right : VmId) (page : PhysPage) {dropped word : ℕ} → answer_of s.tables (op.UnsharePage left right page) ≡ accept dropped word →
      AcceptedFollows s (op.UnsharePage left right page)
  unfolding apply cleared_pages
  unshare_follows left right page e = record { software = software_once (unshared_step left.0 right.0 page.0 e); hardware = stop (same_hardware _) }
