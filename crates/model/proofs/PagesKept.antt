-- Edits of the page sets: what each changes, and that the sets stay good.
use Prim.Native.Nat.{ℕ, ◌*◌, ◌≤◌, ◌<◌}
use mathlib.Core.Bool.{true, false, true≢false}
use mathlib.Core.List.{List}
use mathlib.Core.Logic.{◌⊎◌, inl, inr, ⊎_elim}
use mathlib.Core.Path.{◌≡◌, refl, sym, ◌∙◌}
use native.Mathlib.Omega.{arith}
use lib.ListN.{length}
use Rattle.numbers.specs.CaseLaws.{equal}
use Rattle.numbers.specs.Limits.{PAGES, VMS, SETS, SET_WORDS}
use Rattle.numbers.specs.declared.Side.TheVariants.{Cpu, Dma}
use Rattle.pages.specs.Rows.{holds, add, remove, pool_row, shared_row, cpu_row, dma_row}
use Rattle.pages.specs.RowLaws.{holds_add_same, holds_add_other, holds_remove_same, holds_remove_other, length-remove}
use Rattle.model.specs.Views.{knows, in_pool, in_shared, owns, holds_dma, claimed_elsewhere}
use Rattle.model.specs.Ledger.{assign_sets, reclaim_sets}
use Rattle.model.specs.Good.{holds_page}
use Rattle.model.specs.Valid.{Home, pool, shared, cpu, PagesGood}
use Rattle.model.proofs.ViewLaws.{either, not_elsewhere}

-- ---- a page moved from one row to another
pub record Moved (sets sets' : List ℕ) (from to page : ℕ) : Type 0 where
  pub arrived : holds sets' to page ≡ true
  pub left : holds sets' from page ≡ false
  pub other_rows : (row page' : ℕ) → page' < PAGES → (row ≡ from → ⊥) → (row ≡ to → ⊥) → holds sets' row page' ≡ holds sets row page'
  pub other_pages : (row page' : ℕ) → page' < PAGES → (page' ≡ page → ⊥) → holds sets' row page' ≡ holds sets row page'

moved : (sets : List ℕ) (from to page : ℕ) → length sets ≡ SETS * SET_WORDS → to < SETS → page < PAGES → (from ≡ to → ⊥) → Moved sets (add (remove sets from page) to page) from to page
moved sets from to page l t h n =
    record {
      arrived = holds_add_same out to page h (omega (arith, length-remove sets from page));
      left = holds_add_other out to page from page h h (λ q e. n (sym q)) ∙ holds_remove_same sets from page;
      other_rows = λ row page' h' f g. holds_add_other out to page row page' h h' (λ q e. g (sym q)) ∙ holds_remove_other sets from page row page' h h' (λ q e. f (sym q));
      other_pages = λ row page' h' d. holds_add_other out to page row page' h h' (λ q e. d (sym e)) ∙ holds_remove_other sets from page row page' h h' (λ q e. d (sym e));
    }
  where
    out : List ℕ
    out = remove sets from page

pub assign_moved : (sets : List ℕ) (vm page : ℕ) → length sets ≡ SETS * SET_WORDS → vm < VMS → page < PAGES → Moved sets (assign_sets sets vm page) pool_row (cpu_row vm) page
unfolding assign_sets
assign_moved sets vm page l v h = moved sets pool_row (cpu_row vm) page l (omega arith) h (λ e. omega arith)

pub reclaim_moved : (sets : List ℕ) (vm page : ℕ) → length sets ≡ SETS * SET_WORDS → page < PAGES → Moved sets (reclaim_sets sets vm page) (cpu_row vm) pool_row page
unfolding reclaim_sets
reclaim_moved sets vm page l h = moved sets (cpu_row vm) pool_row page l (omega arith) h (λ e. omega arith)

module _ (sets sets' : List ℕ) (from to page : ℕ) (m : Moved sets sets' from to page) (row page' : ℕ) (h : page' < PAGES) where
  -- a claim was there before but where the page arrived
  moved_back : holds sets' row page' ≡ true → (holds sets row page' ≡ true) ⊎ ((row ≡ to) × (page' ≡ page))
  moved_back e = ⊎_elim here (λ d. inl (sym (m.other_pages row page' h d) ∙ e)) (equal page' page)
    where
      gone : page' ≡ page → row ≡ from → ⊥
      gone q r = true≢false (sym e ∙ rw (r, q) m.left)

      here : page' ≡ page → (holds sets row page' ≡ true) ⊎ ((row ≡ to) × (page' ≡ page))
      here q = ⊎_elim (λ r. inr (r, q)) (λ d. inl (sym (m.other_rows row page' h (gone q) d) ∙ e)) (equal row to)

-- ---- homes
-- the DMA rows are nobody's home
home_dma : (row vm : ℕ) → Home row → row ≡ dma_row vm → ⊥
home_dma row vm pool e = omega arith
home_dma row vm shared e = omega arith
home_dma row vm (cpu vm' l) e = omega arith

-- a page may go from its home to another, neither of them the shared span: one that its DMA claim allows, of a known VM
record MayMove (known : ℕ) (sets : List ℕ) (from to page : ℕ) : Type 0 where
  from_home : Home from
  to_home : Home to
  from_own : from ≡ shared_row → ⊥
  to_own : to ≡ shared_row → ⊥
  was : holds sets from page ≡ true
  dma : (vm : ℕ) → vm < VMS → holds_dma sets vm page ≡ true → (to ≡ cpu_row vm) ⊎ (to ≡ pool_row)
  knows_to : (vm : ℕ) → vm < VMS → cpu_row vm ≡ to → knows known vm ≡ true

module _ (pages base count known : ℕ) (sets sets' : List ℕ) (from to page : ℕ) (most : pages ≤ PAGES) (within : page < pages)
    (m : Moved sets sets' from to page) (c : MayMove known sets from to page) (g : PagesGood pages base count known sets) where
  dma_same : (vm page' : ℕ) → page' < pages → holds_dma sets' vm page' ≡ holds_dma sets vm page'
  dma_same vm page' l = m.other_rows (dma_row vm) page' (omega arith) (λ e. home_dma from vm c.from_home (sym e)) (λ e. home_dma to vm c.to_home (sym e))

  -- the page's only home is where it arrived
  settled : (row : ℕ) → Home row → holds sets' row page ≡ true → row ≡ to
  settled row a e = ⊎_elim stayed (λ r. r.0) (moved_back sets sets' from to page m row page (omega arith) e)
    where
      stayed : holds sets row page ≡ true → row ≡ to
      stayed o =
          let q = g.one_home row from page a c.from_home within o c.was in
          absurd (true≢false (sym e ∙ rw q m.left))

  some_home : (page' : ℕ) → page' < pages → (row : ℕ) × (Home row × (holds sets' row page' ≡ true))
  some_home page' l = ⊎_elim here there (equal page' page)
    where
      here : page' ≡ page → (row : ℕ) × (Home row × (holds sets' row page' ≡ true))
      here q = (to, (c.to_home, rw q m.arrived))

      there : (page' ≡ page → ⊥) → (row : ℕ) × (Home row × (holds sets' row page' ≡ true))
      there d = let (row, (a, e)) = g.some_home page' l in (row, (a, m.other_pages row page' (omega arith) d ∙ e))

  one_home : (row row' page' : ℕ) → Home row → Home row' → page' < pages → holds sets' row page' ≡ true → holds sets' row' page' ≡ true → row ≡ row'
  one_home row row' page' a b l e e' = ⊎_elim here there (equal page' page)
    where
      here : page' ≡ page → row ≡ row'
      here q = settled row a (rw q at e) ∙ sym (settled row' b (rw q at e'))

      there : (page' ≡ page → ⊥) → row ≡ row'
      there d =
          let same : (r : ℕ) → holds sets' r page' ≡ holds sets r page' = λ r. m.other_pages r page' (omega arith) d in
          g.one_home row row' page' a b l (sym (same row) ∙ e) (sym (same row') ∙ e')

  dma_home : (vm page' : ℕ) → vm < VMS → page' < pages → holds_dma sets' vm page' ≡ true → (owns sets' vm page' ≡ true) ⊎ (in_pool sets' page' ≡ true)
  dma_home vm page' v l e = ⊎_elim here there (equal page' page)
    where
      old : holds_dma sets vm page' ≡ true
      old = sym (dma_same vm page' l) ∙ e

      here : page' ≡ page → (owns sets' vm page' ≡ true) ⊎ (in_pool sets' page' ≡ true)
      here q = rw q (⊎_elim (λ r. inl (rw r at m.arrived)) (λ r. inr (rw r at m.arrived)) (c.dma vm v (rw q at old)))

      there : (page' ≡ page → ⊥) → (owns sets' vm page' ≡ true) ⊎ (in_pool sets' page' ≡ true)
      there d =
          let same : (r : ℕ) → holds sets' r page' ≡ holds sets r page' = λ r. m.other_pages r page' (omega arith) d in
          ⊎_elim (λ o. inl (same (cpu_row vm) ∙ o)) (λ o. inr (same pool_row ∙ o)) (g.dma_home vm page' v l old)

  cpu_known : (vm page' : ℕ) → vm < VMS → page' < pages → owns sets' vm page' ≡ true → knows known vm ≡ true
  cpu_known vm page' v l e =
      ⊎_elim (g.cpu_known vm page' v l) (λ r. c.knows_to vm v r.0) (moved_back sets sets' from to page m (cpu_row vm) page' (omega arith) e)

  pages_moved : PagesGood pages base count known sets'
  pages_moved =
      record {
        inside = λ row page' r h o. m.other_pages row page' h (λ q. omega arith) ∙ g.inside row page' r h o;
        span = λ page' l. m.other_rows shared_row page' (omega arith) (λ e. c.from_own (sym e)) (λ e. c.to_own (sym e)) ∙ g.span page' l;
        some_home = some_home;
        one_home = one_home;
        one_dma = λ vm vm' page' v v' l e e'. g.one_dma vm vm' page' v v' l (sym (dma_same vm page' l) ∙ e) (sym (dma_same vm' page' l) ∙ e');
        dma_home = dma_home;
        cpu_known = cpu_known;
        dma_known = λ vm page' v l e. g.dma_known vm page' v l (sym (dma_same vm page' l) ∙ e);
      }

module _ (pages base count known : ℕ) (sets : List ℕ) (vm page : ℕ) (long : length sets ≡ SETS * SET_WORDS) (most : pages ≤ PAGES) (v : vm < VMS) (within : page < pages) where
  pub pages_assigned : knows known vm ≡ true → in_pool sets page ≡ true → claimed_elsewhere Dma sets vm page ≡ false → PagesGood pages base count known sets → PagesGood pages base count known (assign_sets sets vm page)
  pages_assigned k free alone g =
      pages_moved pages base count known sets (assign_sets sets vm page) pool_row (cpu_row vm) page most within
      (assign_moved sets vm page long v (omega arith))
      (record { from_home = pool; to_home = cpu vm v; from_own = λ e. omega arith; to_own = λ e. omega arith; was = free; dma = dma; knows_to = knows_to })
      g
    where
      dma : (vm' : ℕ) → vm' < VMS → holds_dma sets vm' page ≡ true → (cpu_row vm ≡ cpu_row vm') ⊎ (cpu_row vm ≡ pool_row)
      dma vm' v' e = ⊎_elim (λ q. inl (rw q)) (λ d. absurd (true≢false (sym e ∙ not_elsewhere Dma sets vm page vm' alone v' d))) (equal vm' vm)

      knows_to : (vm' : ℕ) → vm' < VMS → cpu_row vm' ≡ cpu_row vm → knows known vm' ≡ true
      knows_to vm' v' e = let q : vm' ≡ vm = omega arith in rw q k

  pub pages_reclaimed : owns sets vm page ≡ true → PagesGood pages base count known sets → PagesGood pages base count known (reclaim_sets sets vm page)
  pages_reclaimed own g =
      pages_moved pages base count known sets (reclaim_sets sets vm page) (cpu_row vm) pool_row page most within
      (reclaim_moved sets vm page long (omega arith))
      (record {
        from_home = cpu vm v;
        to_home = pool;
        from_own = λ e. omega arith;
        to_own = λ e. omega arith;
        was = own;
        dma = λ vm' v' e. inr refl;
        knows_to = λ vm' v' e. absurd (omega arith);
      })
      g

-- ---- DMA claims
remove_back : (sets : List ℕ) (row page row' page' : ℕ) → page < PAGES → page' < PAGES → holds (remove sets row page) row' page' ≡ true → holds sets row' page' ≡ true
remove_back sets row page row' page' h h' e = sym (holds_remove_other sets row page row' page' h h' gone) ∙ e
  where
    gone : row ≡ row' → page ≡ page' → ⊥
    gone s q = true≢false (sym e ∙ rw (← s, ← q) (holds_remove_same sets row page))

-- what the VM's DMA claim on the page rests on
record DmaGood (known : ℕ) (sets sets' : List ℕ) (vm page : ℕ) : Type 0 where
  knows_vm : knows known vm ≡ true
  home : (owns sets vm page ≡ true) ⊎ (in_pool sets page ≡ true)
  alone : (vm' : ℕ) → vm' < VMS → holds_dma sets' vm' page ≡ true → vm ≡ vm'

-- one that was there before has it still
dma_stays : (pages base count known : ℕ) (sets sets' : List ℕ) (vm page : ℕ) → vm < VMS → page < pages → PagesGood pages base count known sets → ((vm' : ℕ) → holds_dma sets' vm' page ≡ true → holds_dma sets vm' page ≡ true) → holds_dma sets' vm page ≡ true → DmaGood known sets sets' vm page
dma_stays pages base count known sets sets' vm page v l g back e =
    record {
      knows_vm = g.dma_known vm page v l (back vm e);
      home = g.dma_home vm page v l (back vm e);
      alone = λ vm' v' e'. g.one_dma vm vm' page v v' l (back vm e) (back vm' e');
    }

module _ (pages base count known : ℕ) (sets sets' : List ℕ) (most : pages ≤ PAGES)
    (homes : (row page : ℕ) → Home row → page < PAGES → holds sets' row page ≡ holds sets row page)
    (outside : (row page : ℕ) → page < PAGES → pages ≤ page → holds sets' row page ≡ holds sets row page) where
  -- an edit of DMA claims alone, each of which has what it rests on
  dma_edited : ((vm page : ℕ) → vm < VMS → page < pages → holds_dma sets' vm page ≡ true → DmaGood known sets sets' vm page) → PagesGood pages base count known sets → PagesGood pages base count known sets'
  dma_edited dma g =
      record {
        inside = λ row page r h o. outside row page h o ∙ g.inside row page r h o;
        span = λ page l. homes shared_row page shared (omega arith) ∙ g.span page l;
        some_home = λ page l. let (row, (a, e)) = g.some_home page l in (row, (a, homes row page a (omega arith) ∙ e));
        one_home = λ row row' page a b l e e'. g.one_home row row' page a b l (sym (homes row page a (omega arith)) ∙ e) (sym (homes row' page b (omega arith)) ∙ e');
        one_dma = λ vm vm' page v v' l e e'. (dma vm page v l e).alone vm' v' e';
        dma_home = λ vm page v l e. ⊎_elim (λ o. inl (homes (cpu_row vm) page (cpu vm v) (omega arith) ∙ o)) (λ o. inr (homes pool_row page pool (omega arith) ∙ o)) (dma vm page v l e).home;
        cpu_known = λ vm page v l e. g.cpu_known vm page v l (sym (homes (cpu_row vm) page (cpu vm v) (omega arith)) ∙ e);
        dma_known = λ vm page v l e. (dma vm page v l e).knows_vm;
      }

module _ (pages base count known : ℕ) (sets : List ℕ) (vm page : ℕ) (most : pages ≤ PAGES) (within : page < pages) (g : PagesGood pages base count known sets) where
  pub pages_removed : PagesGood pages base count known (remove sets (dma_row vm) page)
  pages_removed =
      dma_edited pages base count known sets (remove sets (dma_row vm) page) most
      (λ row page' a h. holds_remove_other sets (dma_row vm) page row page' (omega arith) h (λ q e. home_dma row vm a (sym q)))
      (λ row page' h o. holds_remove_other sets (dma_row vm) page row page' (omega arith) h (λ q e. omega arith))
      (λ vm' page' v' l e.
      dma_stays pages base count known sets (remove sets (dma_row vm) page) vm' page' v' l g (λ vm''. remove_back sets (dma_row vm) page (dma_row vm'') page' (omega arith) (omega arith)) e)
      g

  module _ (k : knows known vm ≡ true) (dma-alone : claimed_elsewhere Dma sets vm page ≡ false) (cpu-alone : claimed_elsewhere Cpu sets vm page ≡ false) (apart : in_shared sets page ≡ false) where
    -- the page's home is the VM or the pool
    nearby : (owns sets vm page ≡ true) ⊎ (in_pool sets page ≡ true)
    nearby = let (row, (a, e)) = g.some_home page within in go row a e
      where
        go : (row : ℕ) → Home row → holds sets row page ≡ true → (owns sets vm page ≡ true) ⊎ (in_pool sets page ≡ true)
        go row pool e = inr e
        go row shared e = absurd (true≢false (sym e ∙ apart))
        go row (cpu vm' v') e = ⊎_elim (λ q. inl (rw q at e)) (λ d. absurd (true≢false (sym e ∙ not_elsewhere Cpu sets vm page vm' cpu-alone v' d))) (equal vm' vm)

    -- at a page or a VM other than these nothing changes
    unchanged : (vm' page' : ℕ) → page' < pages → (vm' ≡ vm → page' ≡ page → ⊥) → holds_dma (add sets (dma_row vm) page) vm' page' ≡ holds_dma sets vm' page'
    unchanged vm' page' l n = holds_add_other sets (dma_row vm) page (dma_row vm') page' (omega arith) (omega arith) (λ q e. n (omega arith) (sym e))

    sole : (vm' : ℕ) → vm' < VMS → holds_dma (add sets (dma_row vm) page) vm' page ≡ true → vm' ≡ vm
    sole vm' v' e =
        ⊎_elim (λ q. q)
        (λ d. absurd (true≢false (sym e ∙ unchanged vm' page within (λ q s. d q) ∙ not_elsewhere Dma sets vm page vm' dma-alone v' d)))
        (equal vm' vm)

    pub pages_added : PagesGood pages base count known (add sets (dma_row vm) page)
    pages_added =
        dma_edited pages base count known sets (add sets (dma_row vm) page) most
        (λ row page' a h. holds_add_other sets (dma_row vm) page row page' (omega arith) h (λ q e. home_dma row vm a (sym q)))
        (λ row page' h o. holds_add_other sets (dma_row vm) page row page' (omega arith) h (λ q e. omega arith))
        (λ vm' page' v' l e. ⊎_elim (λ q. rw q (here vm' v' (rw q at e))) (λ d. there vm' page' v' l d e) (equal page' page)) g
      where
        here : (vm' : ℕ) → vm' < VMS → holds_dma (add sets (dma_row vm) page) vm' page ≡ true → DmaGood known sets (add sets (dma_row vm) page) vm' page
        here vm' v' e =
            let q = sole vm' v' e in
            rw q (record { knows_vm = k; home = nearby; alone = λ vm'' v'' e''. sym (sole vm'' v'' e'') })

        there : (vm' page' : ℕ) → vm' < VMS → page' < pages → (page' ≡ page → ⊥) → holds_dma (add sets (dma_row vm) page) vm' page' ≡ true → DmaGood known sets (add sets (dma_row vm) page) vm' page'
        there vm' page' v' l d e = dma_stays pages base count known sets (add sets (dma_row vm) page) vm' page' v' l g (λ vm'' s. sym (unchanged vm'' page' l (λ q. d)) ∙ s) e

-- ---- one VM holds a page, for CPU, for DMA or for both
module _ (pages base count known : ℕ) (sets : List ℕ) (g : PagesGood pages base count known sets) (vm vm' page : ℕ) (v : vm < VMS) (v' : vm' < VMS) (l : page < pages) where
  owner_holder : owns sets vm page ≡ true → holds_dma sets vm' page ≡ true → vm ≡ vm'
  owner_holder o d = ⊎_elim owned free (g.dma_home vm' page v' l d)
    where
      owned : owns sets vm' page ≡ true → vm ≡ vm'
      owned o' = let q = g.one_home (cpu_row vm) (cpu_row vm') page (cpu vm v) (cpu vm' v') l o o' in omega arith

      free : in_pool sets page ≡ true → vm ≡ vm'
      free p = let q = g.one_home (cpu_row vm) pool_row page (cpu vm v) pool l o p in absurd (omega arith)

pub one_holder : (pages base count known : ℕ) (sets : List ℕ) → PagesGood pages base count known sets → (vm vm' page : ℕ) → vm < VMS → vm' < VMS → page < pages → holds_page sets vm page ≡ true → holds_page sets vm' page ≡ true → vm ≡ vm'
one_holder pages base count known sets g vm vm' page v v' l e e' = ⊎_elim owned held (either (owns sets vm page) (holds_dma sets vm page) e)
  where
    other : (owns sets vm' page ≡ true) ⊎ (holds_dma sets vm' page ≡ true)
    other = either (owns sets vm' page) (holds_dma sets vm' page) e'

    owned : owns sets vm page ≡ true → vm ≡ vm'
    owned o =
        ⊎_elim (λ o'. let q = g.one_home (cpu_row vm) (cpu_row vm') page (cpu vm v) (cpu vm' v') l o o' in omega arith)
        (owner_holder pages base count known sets g vm vm' page v v' l o) other

    held : holds_dma sets vm page ≡ true → vm ≡ vm'
    held d = ⊎_elim (λ o'. sym (owner_holder pages base count known sets g vm' vm page v' v l o' d)) (g.one_dma vm vm' page v v' l d) other

-- a page of the shared span has none
pub span_unheld : (pages base count known : ℕ) (sets : List ℕ) → PagesGood pages base count known sets → (vm page : ℕ) → vm < VMS → page < pages → in_shared sets page ≡ true → holds_page sets vm page ≡ true → ⊥
span_unheld pages base count known sets g vm page v l s e = ⊎_elim owned held (either (owns sets vm page) (holds_dma sets vm page) e)
  where
    owned : owns sets vm page ≡ true → ⊥
    owned o = let q = g.one_home (cpu_row vm) shared_row page (cpu vm v) shared l o s in omega arith

    held : holds_dma sets vm page ≡ true → ⊥
    held d = ⊎_elim owned (λ p. let q = g.one_home pool_row shared_row page pool shared l p s in omega arith) (g.dma_home vm page v l d)
