-- The page sets are good exactly where each column is.
use Rattle.std.specs.Prelude.{ℕ, zero, suc, ◌+◌, ◌-◌, ◌*◌, ◌/◌, ◌%◌, ◌^◌, ◌≤◌, ◌<◌, true, false, List, ◌⊎◌, ◌≡◌, refl, leb, get_or}
use Rattle.std.proofs.Common.{true≢false, inl, inr, ⊎_elim, sym, ap, ◌∙◌, arith, lt-ltb, ltb-true, le-ltb}
use Rattle.std.proofs.Math.Bool.{and-false}
use Rattle.numbers.specs.CaseLaws.{cases, equal}
use Rattle.numbers.specs.Limits.{PAGES, VMS, SETS, SET_WORDS}
use Rattle.pages.specs.Bits.{has_bit}
use Rattle.pages.specs.BitLaws.{below_or}
use Rattle.pages.specs.Rows.{pool_row, shared_row, cpu_row, dma_row, holds}
use Rattle.pages.specs.Columns.{column_word, below_word}
use Rattle.pages.specs.ColumnLaws.{holds_word, bit_holds, holds_bit, below_bit, below_fits}
use Rattle.pages.specs.WordLaws.{same_bits}
use Rattle.model.specs.Start.{in_span}
use Rattle.model.specs.Valid.{Home, pool, shared, cpu, PagesGood}
use Rattle.model.specs.Views.{knows, owns, holds_dma, in_pool, in_shared}
use Rattle.judge_homes.specs.Columns.{shared_word, home_row, home_word, homes_of, span_word, VmsGood, ColumnGood}
use Rattle.judge_homes.specs.WordLaws.{span_bit, span_fits}

-- ---- homes by their order
pub home_at : (i : ℕ) → i < homes_of VMS → Home (home_row i)
home_at zero h = pool
home_at (suc zero) h = shared
home_at (suc (suc vm)) h = cpu vm (omega arith)

pub home_of : (row : ℕ) → Home row → (i : ℕ) × (i < homes_of VMS) × (row ≡ home_row i)
home_of row pool = (0, omega arith, refl)
home_of row shared = (1, omega arith, refl)
home_of row (cpu vm l) = (homes_of vm, omega arith, refl)

place : (i : ℕ) → home_row i ≡ i + (i - 2)
place zero = refl
place (suc zero) = refl
place (suc (suc vm)) = omega arith

home_one : (i i' : ℕ) → home_row i ≡ home_row i' → i ≡ i'
home_one i i' e = omega (arith, place i, place i')

-- every row is a home or has a VM's DMA pages
kinds : (row : ℕ) → row < SETS → ((i : ℕ) × (i < homes_of VMS) × (row ≡ home_row i)) ⊎ ((vm : ℕ) × (vm < VMS) × (row ≡ dma_row vm))
kinds zero h = inl (0, omega arith, refl)
kinds (suc zero) h = inl (1, omega arith, refl)
kinds (suc (suc r)) h = ⊎_elim
    (λ (e : r % 2 ≡ 0). inl (homes_of (r / 2), omega arith, omega arith))
    (λ d. inr (r / 2, omega arith, omega arith)) (equal (r % 2) 0)

-- ---- from the columns to the pages
module _ (pages base count known : ℕ) (sets : List ℕ) (all : (k : ℕ) → k < SET_WORDS → ColumnGood pages base count known sets k) where
  module _ (page : ℕ) (b : page < PAGES) where
    -- the page's column and its bit there
    abbrev k : ℕ
    k = page / 64

    abbrev j : ℕ
    j = page % 64

    l : j < 64
    l = omega arith

    c : ColumnGood pages base count known sets k
    c = all k (omega arith)

    whole : k * 64 + j ≡ page
    whole = omega arith

    up : (row : ℕ) → has_bit (column_word sets row k) j ≡ true → holds sets row page ≡ true
    up row t = rw whole at (bit_holds sets k j l row t)

    down : (row : ℕ) → holds sets row page ≡ true → has_bit (column_word sets row k) j ≡ true
    down row t = holds_bit sets k j l row (rw whole t)

    home_inside : (i : ℕ) → i < homes_of VMS → has_bit (home_word sets k i) j ≡ true → page < pages
    home_inside i h t =
        let below = sym (below_bit pages k j l) ∙ c.homes.whole.has i j h l t in
        omega (arith, ltb-true (k * 64 + j) pages below)

    row_inside : (row : ℕ) → row < SETS → holds sets row page ≡ true → page < pages
    row_inside row h t = ⊎_elim home dma (kinds row h)
      where
        home : (i : ℕ) × (i < homes_of VMS) × (row ≡ home_row i) → page < pages
        home (i, g, q) = home_inside i g (rw q at (down row t))

        dma : (vm : ℕ) × (vm < VMS) × (row ≡ dma_row vm) → page < pages
        dma (vm, g, q) =
            ⊎_elim (home_inside (homes_of vm) (omega arith)) (home_inside 0 (omega arith)) (c.homes.vms.dma_home vm j g l (rw q at (down row t)))

    page_outside : pages ≤ page → (row : ℕ) → row < SETS → holds sets row page ≡ false
    page_outside o row h = ⊎_elim (λ t. absurd (let z = row_inside row h t in omega arith)) (λ f. f) (cases (holds sets row page))

    page_span : in_shared sets page ≡ in_span base count page
    page_span = rw whole at (holds_word sets k j l shared_row ∙ ap (λ (w : ℕ). has_bit w j) c.span ∙ span_bit base count k j l)

    page_home : page < pages → (row : ℕ) × (Home row × (holds sets row page ≡ true))
    page_home h =
        let below : has_bit (below_word pages k) j ≡ true = below_bit pages k j l ∙ lt-ltb (k * 64 + j) pages (omega arith) in
        let (i, g, t) = c.homes.whole.from j l below in
        (home_row i, (home_at i g, up (home_row i) t))

    page_one_home : (row row' : ℕ) → Home row → Home row' → holds sets row page ≡ true → holds sets row' page ≡ true → row ≡ row'
    page_one_home row row' h h' t t' =
        let (i, g, q) = home_of row h in
        let (i', g', q') = home_of row' h' in
        q ∙ ap home_row (c.homes.vms.one_home i i' j g g' l (rw q at (down row t)) (rw q' at (down row' t'))) ∙ sym q'

    module _ (vm : ℕ) (h : vm < VMS) where
      page_one_dma : (vm' : ℕ) → vm' < VMS → holds_dma sets vm page ≡ true → holds_dma sets vm' page ≡ true → vm ≡ vm'
      page_one_dma vm' h' t t' = c.homes.vms.one_dma vm vm' j h h' l (down (dma_row vm) t) (down (dma_row vm') t')

      page_dma_home : holds_dma sets vm page ≡ true → (owns sets vm page ≡ true) ⊎ (in_pool sets page ≡ true)
      page_dma_home t = ⊎_elim (λ x. inl (up (cpu_row vm) x)) (λ x. inr (up pool_row x)) (c.homes.vms.dma_home vm j h l (down (dma_row vm) t))

      page_known : (owns sets vm page ≡ true) ⊎ (holds_dma sets vm page ≡ true) → knows known vm ≡ true
      page_known s = c.homes.vms.holder_known vm j h l (⊎_elim (λ t. inl (down (cpu_row vm) t)) (λ t. inr (down (dma_row vm) t)) s)

  pub pages_good : pages ≤ PAGES → PagesGood pages base count known sets
  pages_good most =
      record {
        inside = λ row page h b o. page_outside page b o row h;
        span = λ page h. page_span page (omega arith);
        some_home = λ page h. page_home page (omega arith) h;
        one_home = λ row row' page g g' h. page_one_home page (omega arith) row row' g g';
        one_dma = λ vm vm' page g g' h. page_one_dma page (omega arith) vm g vm' g';
        dma_home = λ vm page g h. page_dma_home page (omega arith) vm g;
        cpu_known = λ vm page g h t. page_known page (omega arith) vm g (inl t);
        dma_known = λ vm page g h t. page_known page (omega arith) vm g (inr t);
      }

-- ---- from the pages to a column
module _ (pages base count known : ℕ) (sets : List ℕ) (most : base + count ≤ pages) (good : PagesGood pages base count known sets) (k : ℕ) (b : k < SET_WORDS) where
  module _ (j : ℕ) (l : j < 64) where
    abbrev page : ℕ
    page = k * 64 + j

    bit_inside : (row : ℕ) → row < SETS → has_bit (column_word sets row k) j ≡ true → page < pages
    bit_inside row h t =
        ⊎_elim (λ g. g) (λ o. absurd (true≢false (sym (bit_holds sets k j l row t) ∙ good.inside row page h (omega arith) o))) (below_or page pages)

    row_lt : (i : ℕ) → i < homes_of VMS → home_row i < SETS
    row_lt i h = omega (arith, place i)

    -- the shared row's bit, below N and above
    span_same : has_bit (shared_word sets k) j ≡ has_bit (span_word base count k) j
    span_same = ⊎_elim within outside (below_or page pages)
      where
        within : page < pages → has_bit (shared_word sets k) j ≡ has_bit (span_word base count k) j
        within h = sym (holds_word sets k j l shared_row) ∙ good.span page h ∙ sym (span_bit base count k j l)

        outside : pages ≤ page → has_bit (shared_word sets k) j ≡ has_bit (span_word base count k) j
        outside h =
            sym (holds_word sets k j l shared_row) ∙ good.inside shared_row page (omega arith) (omega arith) h
            ∙ sym (span_bit base count k j l ∙ rw (le-ltb page (base + count) (omega arith)) (and-false (leb base page)))

    some_home : has_bit (below_word pages k) j ≡ true → (i : ℕ) × (i < homes_of VMS) × (has_bit (home_word sets k i) j ≡ true)
    some_home t =
        let (row, (h, x)) = good.some_home page (ltb-true page pages (sym (below_bit pages k j l) ∙ t)) in
        let (i, g, q) = home_of row h in
        (i, g, rw q at (holds_bit sets k j l row x))

    home_below : (i : ℕ) → i < homes_of VMS → has_bit (home_word sets k i) j ≡ true → has_bit (below_word pages k) j ≡ true
    home_below i h t = below_bit pages k j l ∙ lt-ltb page pages (bit_inside (home_row i) (row_lt i h) t)

  vms_good : VmsGood known sets k VMS
  vms_good =
      record {
        one_home = λ i i' j h h' l t t'.
            home_one i i' (good.one_home (home_row i) (home_row i') (k * 64 + j) (home_at i h) (home_at i' h')
            (bit_inside j l (home_row i) (row_lt j l i h) t) (bit_holds sets k j l (home_row i) t) (bit_holds sets k j l (home_row i') t'));
        one_dma = λ vm vm' j h h' l t t'.
            good.one_dma vm vm' (k * 64 + j) h h' (bit_inside j l (dma_row vm) (omega arith) t) (bit_holds sets k j l (dma_row vm) t) (bit_holds sets k j l (dma_row vm') t');
        dma_home = λ vm j h l t.
            ⊎_elim (λ x. inl (holds_bit sets k j l (cpu_row vm) x)) (λ x. inr (holds_bit sets k j l pool_row x))
            (good.dma_home vm (k * 64 + j) h (bit_inside j l (dma_row vm) (omega arith) t) (bit_holds sets k j l (dma_row vm) t));
        holder_known = λ vm j h l s.
            ⊎_elim
            (λ t. good.cpu_known vm (k * 64 + j) h (bit_inside j l (cpu_row vm) (omega arith) t) (bit_holds sets k j l (cpu_row vm) t))
            (λ t. good.dma_known vm (k * 64 + j) h (bit_inside j l (dma_row vm) (omega arith) t) (bit_holds sets k j l (dma_row vm) t)) s;
      }

  pub column_good : ((i : ℕ) → get_or sets i 0 < 2 ^ 64) → ColumnGood pages base count known sets k
  column_good fit =
      record {
        span = same_bits (shared_word sets k) (span_word base count k) (fit _) (span_fits base count k) span_same;
        homes =
            record {
              vms = vms_good;
              whole = record { fits = below_fits pages k; has = λ i j h l t. home_below j l i h t; from = some_home };
            };
      }
