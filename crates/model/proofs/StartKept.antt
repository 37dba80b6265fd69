-- An accepted start gives a valid state, the empty machine is never one, and a valid state of every size there is.
use Prim.Native.Nat.{ℕ, suc, ◌+◌, ◌*◌, ◌/◌, ◌%◌, ◌≤◌, ◌<◌}
use mathlib.Core.Bool.{true, false, ◌&&◌, true≢false}
use mathlib.Core.List.{List, []}
use mathlib.Core.Logic.{inl, ⊎_elim}
use mathlib.Core.Path.{◌≡◌, refl, sym, ap, ◌∙◌}
use native.Mathlib.Nat.{div-eq_of_lt}
use native.Mathlib.Omega.{arith}
use borrow.Author.Tests.{eq-eqb, ltb-true, lt-ltb, le-leb, not-false}
use lib.ListN.{length, get_or, replicate, length-replicate, get_or-replicate, get_or-eq_default}
use lib.Pow.{pow_pos}
use Rattle.numbers.specs.CaseLaws.{cases, equal}
use Rattle.std.specs.Prelude.{if◌then◌else◌}
use Rattle.numbers.specs.Limits.{PAGES, PAGE_WORDS, SETS, SET_WORDS, PAIRS, ENTRIES, SLOTS, PORTS, UNITS, IDLE}
use Rattle.numbers.specs.Packing.{key_of, pair_key_of}
use Rattle.numbers.specs.declared.Side.{Side}
use Rattle.numbers.specs.declared.Side.TheVariants.{Cpu, Dma}
use Rattle.table.specs.Scan.{repeat}
use Rattle.table.specs.Table.{Has, Distinct}
use Rattle.pages.specs.Bits.{contains}
use Rattle.pages.specs.BitLaws.{below_or}
use Rattle.pages.specs.Rows.{holds, add, pool_row, shared_row, cpu_row, dma_row}
use Rattle.pages.specs.RowLaws.{holds_add_same, holds_add_other, length-add}
use Rattle.units.specs.Units.{no_unit, is_mark}
use Rattle.model.specs.State.{State}
use Rattle.model.specs.Views.{is_vm, is_access, in_shared}
use Rattle.model.specs.Effect.{accepted}
use Rattle.model.specs.EarlyLaws.{both, hold}
use Rattle.model.specs.Start.{Told, count_told, number_told, unit_told, units_told, bad_field, bad_span, start_answer, in_span, first_home, fresh_sets, fresh_route, setup_told, fresh_state, empty_state, start}
use Rattle.model.specs.Header.{Lists}
use Rattle.model.specs.ToldLaws.{StartPassed, start_passed, length-units, unit_at}
use Rattle.model.specs.Valid.{RouteLengths, UnitGood, SetupGood, Home, pool, shared, PagesGood, MapGood, SameMap, RouteGood, Valid}
use Rattle.table.specs.RepeatLaws.{repeat_keeps}

-- ---- an empty table
abbrev zeros : ℕ → List ℕ
zeros n = replicate n 0

module _ (n : ℕ) where
  zero_at_lem : (i : ℕ) → get_or (zeros n) i 0 ≡ 0
  zero_at_lem i =
      ⊎_elim (λ h. get_or-replicate n i 0 0 h)
      (λ h. get_or-eq_default (zeros n) 0 (omega (arith, length-replicate {A = ℕ} n 0)))
      (below_or i n)

  pub empty_has : (w : ℕ) → Has (zeros n) w → ⊥
  empty_has w r = r.filled (sym r.holds ∙ zero_at_lem r.spot)

  pub empty_distinct : (key : ℕ → ℕ) → key 0 ≡ 0 → Distinct key (zeros n)
  unfolding Distinct
  empty_distinct key z i j h l e = rw (zero_at_lem j) z

  empty_holds : (row page : ℕ) → holds (zeros n) row page ≡ false
  unfolding contains
  empty_holds row page = let i = row * PAGES + page in rw (zero_at_lem (i / 64), div-eq_of_lt (pow_pos (i % 64)))

-- ---- the units that are told
told_good : (numbers : List ℕ) (pages k : ℕ) → bad_field numbers k ≡ false → bad_span pages numbers k ≡ false → UnitGood pages (unit_told numbers k)
told_good numbers pages k f s =
    let a = hold (is_vm (number_told numbers k 0) && is_access (number_told numbers k 4)) (is_mark (number_told numbers k 5)) f in
    let b = both (is_vm (number_told numbers k 0)) (is_access (number_told numbers k 4)) a.0 in
    record { vm = ltb-true _ _ b.0; access = ltb-true _ _ b.1; span = not-false _ s }

setup_good : (told : Told) (lent : Lists) → StartPassed told lent → SetupGood (setup_told told)
setup_good told lent p =
    record {
      some_pages = p.some_pages;
      most_pages = p.pages_ok;
      shared = p.shared_ok;
      unit_count = p.units_ok;
      units = λ k h. rw (at k h) (told_good told.units told.pages k (p.fields_ok k h) (p.spans_ok k h));
    }
  where
    at : (k : ℕ) → k < count_told told.units → get_or (units_told told.units) k no_unit ≡ unit_told told.units k
    at k h = let z : 0 + k ≡ k = omega arith in rw (z, lt-ltb k (count_told told.units) h) at (unit_at told.units 0 UNITS k (omega (arith, p.units_ok)))

-- ---- the page sets: each page below k is at home, and nowhere else
abbrev home : ℕ → ℕ → ℕ → ℕ
home base count page = if in_span base count page then shared_row else pool_row

record Homed (base count k : ℕ) (sets : List ℕ) : Type 0 where
  lengths : length sets ≡ SETS * SET_WORDS
  here : (page : ℕ) → page < k → holds sets (home base count page) page ≡ true
  elsewhere : (row page : ℕ) → page < PAGES → (page < k → row ≡ home base count page → ⊥) → holds sets row page ≡ false

module _ (base count : ℕ) where
  home_low : (page : ℕ) → home base count page < 2
  home_low page = ⊎_elim (λ t. rw t (omega arith)) (λ f. rw f (omega arith)) (cases (in_span base count page))

  home_next : (k : ℕ) (sets : List ℕ) → k < PAGES → Homed base count k sets → Homed base count (suc k) (first_home base count k sets)
  home_next k sets h r = record { lengths = length-add sets row k ∙ r.lengths; here = stays; elsewhere = lacks }
    where
      row : ℕ
      row = home base count k

      next : List ℕ
      next = add sets row k

      stays : (page : ℕ) → page < suc k → holds next (home base count page) page ≡ true
      stays page l =
          ⊎_elim (λ e. rw e (holds_add_same sets row k h (omega (arith, home_low k, r.lengths))))
          (λ n. holds_add_other sets row k (home base count page) page h (omega arith) (λ q e. n (sym e)) ∙ r.here page (omega arith)) (equal page k)

      lacks : (other page : ℕ) → page < PAGES → (page < suc k → other ≡ home base count page → ⊥) → holds next other page ≡ false
      lacks other page l n =
          holds_add_other sets row k other page h l (λ q e. n (omega arith) (sym q ∙ ap (home base count) e))
          ∙ r.elsewhere other page l (λ b. n (omega arith))

  homed : (pages : ℕ) → pages ≤ PAGES → Homed base count pages (repeat (first_home base count) 0 pages (zeros (SETS * SET_WORDS)))
  homed pages h =
      repeat_keeps (first_home base count) (Homed base count) pages (λ k sets l. home_next k sets (omega arith)) (zeros (SETS * SET_WORDS))
      (record { lengths = length-replicate {A = ℕ} _ 0; here = λ page l. absurd (omega arith); elsewhere = λ row page l n. empty_holds (SETS * SET_WORDS) row page })

module _ (pages base count : ℕ) (sets : List ℕ) (m : pages ≤ PAGES) (r : Homed base count pages sets) where
  -- a row that holds the page is its home
  only : (row page : ℕ) → page < pages → holds sets row page ≡ true → row ≡ home base count page
  only row page h t =
      ⊎_elim (λ e. e) (λ n. absurd (true≢false (sym t ∙ r.elsewhere row page (omega arith) (λ b. n)))) (equal row (home base count page))

  -- so no VM's row holds it
  no_vm : {X : Type 0} (row page : ℕ) → 2 ≤ row → page < pages → holds sets row page ≡ true → X
  no_vm row page l h t = absurd (omega (arith, only row page h t, home_low base count page))

  home_is : (page : ℕ) → Home (home base count page)
  home_is page = ⊎_elim (λ t. rw t shared) (λ f. rw f pool) (cases (in_span base count page))

  shared_span : (page : ℕ) → page < pages → in_shared sets page ≡ in_span base count page
  shared_span page h =
      ⊎_elim (λ t. rw t at (r.here page h) ∙ sym t) (λ f. r.elsewhere shared_row page (omega arith) (λ b e. omega (arith, rw f at e)) ∙ sym f)
      (cases (in_span base count page))

  pages_good : PagesGood pages base count 0 sets
  pages_good =
      record {
        inside = λ row page h l b. r.elsewhere row page l (λ q. absurd (omega arith));
        span = shared_span;
        some_home = λ page h. (home base count page, (home_is page, r.here page h));
        one_home = λ row row' page a b h t t'. only row page h t ∙ sym (only row' page h t');
        one_dma = λ vm vm' page a b h t t'. no_vm (dma_row vm) page (omega arith) h t;
        dma_home = λ vm page a h t. no_vm (dma_row vm) page (omega arith) h t;
        cpu_known = λ vm page a h t. no_vm (cpu_row vm) page (omega arith) h t;
        dma_known = λ vm page a h t. no_vm (dma_row vm) page (omega arith) h t;
      }

-- ---- the machine that start gives
fresh_route_lem : (side : Side) (pages : ℕ) (sets pairs : List ℕ) → RouteGood side pages 0 sets pairs fresh_route
unfolding SameMap
fresh_route_lem side pages sets pairs =
    record {
      map = none;
      walker = none;
      same = λ k h. refl;
      cache = record { each = λ w r. absurd (empty_has SLOTS w r); once = empty_distinct SLOTS key_of refl };
      ports = λ port h. inl (get_or-replicate PORTS port IDLE IDLE h);
      hand = omega arith;
    }
  where
    none : MapGood side pages 0 sets pairs (zeros ENTRIES)
    none = record { each = λ w r. absurd (empty_has ENTRIES w r); once = empty_distinct ENTRIES key_of refl }

fresh_lengths : RouteLengths fresh_route
fresh_lengths = record { map = length-replicate {A = ℕ} _ 0; walker = length-replicate {A = ℕ} _ 0; cache = length-replicate {A = ℕ} _ 0; ports = length-replicate {A = ℕ} _ IDLE }

fresh_valid : (told : Told) (lent : Lists) → StartPassed told lent → Valid (fresh_state told)
unfolding fresh_state
fresh_valid told lent p =
    let sets = homed told.shared_base told.shared_count told.pages p.pages_ok in
    record {
      tables =
          record {
            lengths = record { units = length-units told.units 0 UNITS; sets = sets.lengths; pairs = length-replicate {A = ℕ} PAIRS 0; cpu = fresh_lengths; dma = fresh_lengths };
            setup = setup_good told lent p;
            known = omega arith;
            pages = pages_good told.pages told.shared_base told.shared_count (fresh_sets told) p.pages_ok sets;
            pairs = record { each = λ w r. absurd (empty_has PAIRS w r); once = empty_distinct PAIRS pair_key_of refl };
            cpu = fresh_route_lem Cpu told.pages (fresh_sets told) (zeros PAIRS);
            dma = fresh_route_lem Dma told.pages (fresh_sets told) (zeros PAIRS);
          };
      memory = length-replicate {A = ℕ} _ 0;
    }

pub start_valid : (told : Told) (lent : Lists) → start_answer told lent ≡ accepted → Valid (start told lent).state
unfolding start
start_valid told lent e = rw e (fresh_valid told lent (start_passed told lent e))

-- a valid machine has a page
pub empty_not_valid : (lent : Lists) → Valid (empty_state lent) → ⊥
unfolding empty_state
empty_not_valid lent v = omega (arith, v.tables.setup.some_pages)

-- ---- every size: a start with no units and an empty shared span
abbrev plain : ℕ → Told
plain n = record { pages = n; shared_base = 0; shared_count = 0; units = [] }

abbrev room : ℕ → Lists
room n =
    record {
      sets = zeros (SETS * SET_WORDS);
      pairs = zeros PAIRS;
      cpu_map = zeros ENTRIES;
      cpu_walker = zeros ENTRIES;
      cpu_cache = zeros SLOTS;
      dma_map = zeros ENTRIES;
      dma_walker = zeros ENTRIES;
      dma_cache = zeros SLOTS;
      memory = zeros (PAGE_WORDS * n);
    }

plain_accepted : (n : ℕ) → 0 < n → n ≤ PAGES → start_answer (plain n) (room n) ≡ accepted
unfolding start_answer
plain_accepted n h m = rw (length-replicate {A = ℕ} (PAGE_WORDS * n) 0, eq-eqb (PAGE_WORDS * n) (PAGE_WORDS * n) refl, lt-ltb 0 n h, le-leb n PAGES m, le-leb 0 n (omega arith))

pub valid_for_every_size : (n : ℕ) → 0 < n → n ≤ PAGES → (s : State) × Valid s × (s.tables.setup.pages ≡ n)
unfolding start fresh_state
valid_for_every_size n h m =
    let e = plain_accepted n h m in ((start (plain n) (room n)).state, start_valid (plain n) (room n) e, rw e)
