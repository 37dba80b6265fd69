-- Valid tables have every clause of upstream's software and hardware `wf`.
use Prim.Native.Nat.{ℕ, ◌/◌, ◌%◌, ◌<◌}
use mathlib.Core.Bool.{true, false, true≢false}
use mathlib.Core.List.{List}
use mathlib.Core.Logic.{inl, inr, ⊎_elim}
use Rattle.std.specs.Prelude.{Some}
use mathlib.Core.Path.{◌≡◌, refl, sym, ap, ◌∙◌}
use native.Mathlib.Omega.{arith}
use lib.Dec.{ltb}
use borrow.Author.Tests.{eqb-false, ltb-true, ltb-false, not-true}
use Rattle.numbers.specs.CaseLaws.{cases}
use Rattle.numbers.specs.Limits.{VMS, GUEST_PAGES, PAGES, SETS}
use Rattle.numbers.specs.Packing.{key, key_of, slot_key, map_word, entry_of, pair_key_of, pair_key, filled_of, left_of, right_of, page_of}
use Rattle.numbers.specs.PackingLaws.{pair_either}
use Rattle.numbers.specs.declared.Side.{Side}
use Rattle.numbers.specs.declared.Side.TheVariants.{Cpu, Dma}
use Rattle.table.specs.Table.{lookup, Has}
use Rattle.table.specs.TableLaws.{lookup_has}
use Rattle.pages.specs.Rows.{holds, pool_row, shared_row, cpu_row, dma_row}
use Rattle.model.specs.State.{Tables, State}
use Rattle.model.specs.Views.{knows, in_pool, in_shared, owns, holds_dma, paired, shares, may_map}
use Rattle.model.specs.KnownLaws.{knows_below}
use Rattle.model.specs.Valid.{SameMap, Home, pool, shared, cpu, PairGood, MapGood, CacheGood, ValidTables}
use Rattle.model.specs.Upstream.{S2Entry, seen, is_some, map_seen, tlb_seen, software_view, hardware_view, SharedWith, OwnedOrShared, OwnedOrSpan, OwnershipWf, SharingWf, TranslationWf, IommuOwnershipWf, IommuTranslationWf, SoftwareWf, TlbSafe, HardwareWf, Synced, WellFormed}
use Rattle.model.proofs.ViewLaws.{not_so, paired_joins, shares_lends, may_either}
use Rattle.model.proofs.UpstreamLaws.{seen_some, seen_filled, seen_same, has_found, of_key, of_slot_key, SamePair, pair_ends}

module _ (t : Tables) (valid : ValidTables t) where
  -- ---- pages
  -- a page that is held lies below N
  pub held_below : (row page : ℕ) → row < SETS → page < PAGES → holds t.sets row page ≡ true → page < t.setup.pages
  held_below row page r h e =
      ⊎_elim (λ l. ltb-true page _ l) (λ f. absurd (true≢false (sym e ∙ valid.pages.inside row page r h (ltb-false page _ f)))) (cases (ltb page t.setup.pages))

  -- in one home a page is in no other
  elsewhere : (row row' page : ℕ) → Home row → Home row' → row < SETS → page < PAGES → (row ≡ row' → ⊥) → holds t.sets row page ≡ true →
      holds t.sets row' page ≡ false
  elsewhere row row' page a b r h n e = not_so _ (λ e'. n (valid.pages.one_home row row' page a b (held_below row page r h e) e e'))

  pub cpu_apart : (vm vm' page : ℕ) → vm < VMS → vm' < VMS → page < PAGES → (vm ≡ vm' → ⊥) → owns t.sets vm page ≡ true → owns t.sets vm' page ≡ false
  cpu_apart vm vm' page v v' h n = elsewhere (cpu_row vm) (cpu_row vm') page (cpu vm v) (cpu vm' v') (omega arith) h (λ q. n (omega arith))

  pub cpu_no_pool : (vm page : ℕ) → vm < VMS → page < PAGES → owns t.sets vm page ≡ true → in_pool t.sets page ≡ false
  cpu_no_pool vm page v h = elsewhere (cpu_row vm) pool_row page (cpu vm v) pool (omega arith) h (λ q. omega arith)

  pub pool_no_cpu : (vm page : ℕ) → vm < VMS → page < PAGES → in_pool t.sets page ≡ true → owns t.sets vm page ≡ false
  pool_no_cpu vm page v h = elsewhere pool_row (cpu_row vm) page pool (cpu vm v) (omega arith) h (λ q. omega arith)

  pub cpu_no_span : (vm page : ℕ) → vm < VMS → page < PAGES → owns t.sets vm page ≡ true → in_shared t.sets page ≡ false
  cpu_no_span vm page v h = elsewhere (cpu_row vm) shared_row page (cpu vm v) shared (omega arith) h (λ q. omega arith)

  pub pool_no_span : (page : ℕ) → page < PAGES → in_pool t.sets page ≡ true → in_shared t.sets page ≡ false
  pool_no_span page h = elsewhere pool_row shared_row page pool shared (omega arith) h (λ q. omega arith)

  ownership : OwnershipWf (software_view t)
  ownership =
      record {
        dom = λ vm v. refl;
        apart = λ vm vm' page v v' h a b n. cpu_apart vm vm' page v v' h n;
        pool = λ vm page v h a. cpu_no_pool vm page v h;
      }

  -- what follows both where its VM owns a page and where it lies in the pool follows of every DMA page
  dma_case : (vm page : ℕ) {P : Type 0} → vm < VMS → page < PAGES → holds_dma t.sets vm page ≡ true → (owns t.sets vm page ≡ true → P) →
      (in_pool t.sets page ≡ true → P) → P
  dma_case vm page v h e own free = ⊎_elim own free (valid.pages.dma_home vm page v (held_below (dma_row vm) page (omega arith) h e) e)

  iommu_ownership : IommuOwnershipWf (software_view t)
  iommu_ownership =
      record {
        dom = λ vm v. refl;
        apart = λ vm vm' page v v' h a b n q. not_so _ (λ q'. n (valid.pages.one_dma vm vm' page v v' (held_below (dma_row vm) page (omega arith) h q) q q'));
        cpu_apart = λ vm vm' page v v' h a b n q. dma_case vm page v h q (cpu_apart vm vm' page v v' h n) (pool_no_cpu vm' page v' h);
        span = λ vm page v h a q. dma_case vm page v h q (cpu_no_span vm page v h) (pool_no_span page h);
        cpu_span = λ vm page v h a. cpu_no_span vm page v h;
      }

  -- ---- edges
  pub known_below : (vm : ℕ) → knows t.known vm ≡ true → vm < VMS
  known_below vm e = knows_below t.known vm valid.known e

  -- a stored pair's ends and page are those of its key, in one order or the other
  pub pair_of_key : (w left right page : ℕ) → Has t.pairs w → left < VMS → right < VMS → page < PAGES → pair_key_of w ≡ pair_key left right page →
      PairGood t.setup.pages t.known t.sets w × SamePair (left_of w) (right_of w) (page_of w) left right page
  pair_of_key w left right page there l r h e =
      let g = valid.pairs.each w there in
      let k : pair_key (left_of w) (right_of w) (page_of w) ≡ pair_key left right page = (rw g.filled) ∙ e in
      (g, pair_ends (left_of w) (right_of w) (page_of w) left right page (omega arith) (omega arith) (omega arith) (omega arith) (omega arith) (omega arith) k)

  -- an edge is a pair that joins its ends
  pub edge_pair : (left right page : ℕ) → left < VMS → right < VMS → page < PAGES → paired t.pairs left right page ≡ true →
      (w : ℕ) × Has t.pairs w × PairGood t.setup.pages t.known t.sets w × SamePair (left_of w) (right_of w) (page_of w) left right page
  edge_pair left right page l r h e =
      let (w, j) = paired_joins t.pairs left right page e in
      let (g, same) = pair_of_key w left right page j.there l r h j.key in
      (w, j.there, g, same)

  pub edge_either : (left right page : ℕ) → paired t.pairs left right page ≡ paired t.pairs right left page
  unfolding paired
  edge_either left right page = rw (pair_either left right page)

  sharing : SharingWf (software_view t)
  sharing left right page l r h e =
      let (w, i, g, s) = edge_pair left right page l r h e in
      ⊎_elim (λ q. record { apart = λ n. g.apart (q.0 ∙ n ∙ sym q.1); left_known = rw (← q.0) g.left; right_known = rw (← q.1) g.right; reverse = back })
      (λ q. record { apart = λ n. g.apart (q.0 ∙ sym n ∙ sym q.1); left_known = rw (← q.1) g.right; right_known = rw (← q.0) g.left; reverse = back })
      s
    where
      back : paired t.pairs right left page ≡ true
      back = sym (edge_either left right page) ∙ e

  pub pair_stored : (w : ℕ) → Has t.pairs w → filled_of w ≡ 1 → paired t.pairs (left_of w) (right_of w) (page_of w) ≡ true
  unfolding paired
  pair_stored w h f = let k : pair_key_of w ≡ pair_key (left_of w) (right_of w) (page_of w) = rw f in rw k at (has_found pair_key_of refl t.pairs w h)

  pub shared_with : (vm page : ℕ) → shares t.pairs vm page ≡ true → SharedWith (software_view t) vm page
  shared_with vm page e =
      let (w, l) = shares_lends t.pairs vm page e in
      let g = valid.pairs.each w l.there in
      record {
        left = left_of w;
        right = right_of w;
        left_ok = known_below (left_of w) g.left;
        right_ok = known_below (right_of w) g.right;
        stored = rw l.same at (pair_stored w l.there l.filled);
        end = l.end;
      }

  -- ---- mappings
  -- what a side's map shows is an entry in it
  pub entry_seen : (side : Side) (table : List ℕ) (vm gpa : ℕ) (e : S2Entry) → MapGood side t.setup.pages t.known t.sets t.pairs table → vm < VMS →
      gpa < GUEST_PAGES → map_seen table vm gpa ≡ Some e →
      (knows t.known vm ≡ true) × (may_map side t.sets t.pairs vm e.page ≡ true)
  entry_seen side table vm gpa e g v l q =
      let w = lookup key_of table (key vm gpa) in
      let (n, i) = seen_some w e q in
      let (h, k) = lookup_has key_of table (key vm gpa) n in
      let r = g.each w h in
      let o = of_key w vm gpa v l k in
      let p : page_of w ≡ e.page = ap (λ (x : S2Entry). x.page) i in
      (rw o.vm_is at r.vm, rw (o.vm_is, p) at r.may)

  -- a page that operation 7 accepts for the VM
  pub may_cpu : (vm page : ℕ) → knows t.known vm ≡ true → may_map Cpu t.sets t.pairs vm page ≡ true → OwnedOrShared (software_view t) vm page
  may_cpu vm page k m = ⊎_elim (λ o. inl (k, o)) (λ l. inr (shared_with vm page l)) (may_either Cpu t.sets t.pairs vm page m)

  pub may_dma : (vm page : ℕ) → may_map Dma t.sets t.pairs vm page ≡ true → OwnedOrSpan (software_view t) vm page
  may_dma vm page m = may_either Dma t.sets t.pairs vm page m

  translation : TranslationWf (software_view t)
  translation =
      record {
        known = λ vm gpa e v l q. (entry_seen Cpu t.cpu.map vm gpa e valid.cpu.map v l q).0;
        may = λ vm gpa e v l q. let r = entry_seen Cpu t.cpu.map vm gpa e valid.cpu.map v l q in may_cpu vm e.page r.0 r.1;
      }

  iommu_translation : IommuTranslationWf (software_view t)
  iommu_translation =
      record {
        known = λ vm gpa e v l q. (entry_seen Dma t.dma.map vm gpa e valid.dma.map v l q).0;
        has = λ vm gpa e v l q. (entry_seen Dma t.dma.map vm gpa e valid.dma.map v l q).0;
        may = λ vm gpa e v l q. may_dma vm e.page (entry_seen Dma t.dma.map vm gpa e valid.dma.map v l q).1;
      }

  -- ---- all of the software's
  pub software_wf : SoftwareWf (software_view t)
  software_wf =
      record {
        ownership_wf = ownership;
        sharing_wf = sharing;
        translation_wf = translation;
        iommu_wf = record { iommu_ownership_wf = iommu_ownership; iommu_translation_wf = iommu_translation };
      }

-- ---- and the hardware's
-- a slot that is filled shows what the walker shows
pub slot_seen : (walker cache : List ℕ) → CacheGood walker cache → (port vm gpa : ℕ) → vm < VMS → gpa < GUEST_PAGES → is_some (tlb_seen cache port vm gpa) ≡ true →
    tlb_seen cache port vm gpa ≡ map_seen walker vm gpa
slot_seen walker cache good port vm gpa v l q =
    let w = lookup key_of cache (slot_key port vm gpa) in
    let n : w ≡ 0 → ⊥ = eqb-false w 0 (not-true _ (sym (seen_filled w) ∙ q)) in
    let (h, k) = lookup_has key_of cache (slot_key port vm gpa) n in
    let g = good.each w h in
    let o = of_slot_key w port vm gpa v l k in
    let u : lookup key_of walker (key vm gpa) ≡ map_word vm gpa (entry_of w) = rw (o.address_is, o.vm_is, o.guest_is) at g.entry in
    let f : entry_of w / 2147483648 % 2 ≡ 1 = omega (arith, g.filled) in
    rw u (seen_same w (map_word vm gpa (entry_of w)) n (λ z. omega arith) (omega arith))

tlb_safe : (walker cache : List ℕ) → CacheGood walker cache → TlbSafe (tlb_seen cache) (map_seen walker)
tlb_safe walker cache good =
    record {
      reachable = λ cpu vm gpa c v l q. rw (slot_seen walker cache good cpu vm gpa v l q) at q;
      agrees = λ cpu vm gpa c v l q. slot_seen walker cache good cpu vm gpa v l q;
    }

pub hardware_wf : (s : State) → ValidTables s.tables → HardwareWf (hardware_view s)
hardware_wf s valid =
    record {
      tlb_safe = tlb_safe s.tables.cpu.walker s.tables.cpu.cache valid.cpu.cache;
      iommu_tlb_safe = tlb_safe s.tables.dma.walker s.tables.dma.cache valid.dma.cache;
    }

-- ---- and the two agree
pub synced : (s : State) → ValidTables s.tables → Synced s
unfolding SameMap
synced s valid =
    record {
      cpu = λ vm gpa v g. ap seen (valid.cpu.same (key vm gpa) (omega arith));
      dma = λ vm gpa v g. ap seen (valid.dma.same (key vm gpa) (omega arith));
    }

-- ---- all of it, of every valid state
pub well_formed : (s : State) → ValidTables s.tables → WellFormed s
well_formed s valid = record { software = software_wf s.tables valid; hardware = hardware_wf s valid; sync = synced s valid }
