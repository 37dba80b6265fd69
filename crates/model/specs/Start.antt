-- Start, the empty machine and the free query (docs/MACHINE.md, 5 and 8).
use Rattle.std.specs.Prelude.{ℕ, zero, suc, ◌+◌, ◌*◌, ◌/◌, ◌%◌, Bool, not, ◌&&◌, List, [], ◌∷◌, eqb, ltb, leb, length, get_or, replicate, Option, None}
use Rattle.std.specs.Prelude.{if◌then◌else◌}
use Rattle.numbers.specs.Limits.{PAGES, PAGE_WORDS, SETS, SET_WORDS, PAIRS, ENTRIES, SLOTS, PORTS, UNITS, IDLE}
use Rattle.numbers.specs.Meaning.{Answer}
use Rattle.numbers.specs.declared.Refusal.TheVariants.{StateNotValid, OutOfRange, BadSpan}
use Rattle.numbers.specs.declared.PhysPage.{PhysPage}
use Rattle.table.specs.Scan.{any_below, repeat}
use Rattle.pages.specs.Rows.{add, pool_row, shared_row, free_count, lowest_free}
use Rattle.units.specs.Spans.{span_within, region_span}
use Rattle.units.specs.Units.{is_mark, mark_of, no_unit}
use Rattle.units.specs.declared.Unit.{Unit}
use Rattle.numbers.specs.declared.Region.{Region}
use Rattle.model.specs.State.{Tables, Route, Setup, State}
use Rattle.model.specs.Header.{Lists}
use Rattle.model.specs.Views.{is_vm, is_access}
use Rattle.model.specs.Effect.{accepted, refused, kept}

-- what start is told: pages, the shared span, and six numbers for each unit
pub record Told : Type 0 where
  pub pages : ℕ
  pub shared_base : ℕ
  pub shared_count : ℕ
  pub units : List ℕ

-- ---- the units that are told: VM, guest page, page, count, access, mark
abbrev pub UNIT_NUMBERS : ℕ
UNIT_NUMBERS = 6

abbrev pub count_told : List ℕ → ℕ
count_told numbers = length numbers / UNIT_NUMBERS

abbrev pub number_told : List ℕ → ℕ → ℕ → ℕ
number_told numbers k field = get_or numbers (k * UNIT_NUMBERS + field) 0

abbrev pub unit_told : List ℕ → ℕ → Unit
unit_told numbers k =
    record {
      region = record {
        vm = record { 0 = number_told numbers k 0 };
        guest = record { 0 = number_told numbers k 1 };
        page = record { 0 = number_told numbers k 2 };
        count = number_told numbers k 3;
        access = number_told numbers k 4;
      };
      mark = mark_of (number_told numbers k 5);
    }

-- the units from the k-th on, with no unit past those that are told
abbrev pub units_from : List ℕ → ℕ → ℕ → List Unit
units_from numbers k zero = []
units_from numbers k (suc n) = (if ltb k (count_told numbers) then unit_told numbers k else no_unit) ∷ units_from numbers (suc k) n

abbrev pub units_told : List ℕ → List Unit
units_told numbers = units_from numbers 0 UNITS

-- ---- what may be wrong with unit k: a field, by refusal 2, or its span, by 3
abbrev pub bad_field : List ℕ → ℕ → Bool
bad_field numbers k = not (is_vm (number_told numbers k 0) && is_access (number_told numbers k 4) && is_mark (number_told numbers k 5))

abbrev pub unit_region : Unit → Region
unit_region unit = unit.region

abbrev pub bad_span : ℕ → List ℕ → ℕ → Bool
bad_span pages numbers k = not (region_span (unit_region (unit_told numbers k)) pages)

-- ---- lengths
abbrev pub lengths_good : Told → Lists → Bool
lengths_good told lent =
    eqb (length lent.memory) (PAGE_WORDS * told.pages)
    && eqb (length lent.sets) (SETS * SET_WORDS)
    && eqb (length lent.pairs) PAIRS
    && eqb (length lent.cpu_map) ENTRIES
    && eqb (length lent.cpu_walker) ENTRIES
    && eqb (length lent.cpu_cache) SLOTS
    && eqb (length lent.dma_map) ENTRIES
    && eqb (length lent.dma_walker) ENTRIES
    && eqb (length lent.dma_cache) SLOTS
    && eqb (length told.units % UNIT_NUMBERS) 0

-- ---- the refusals, in order: every field is judged before any span
unfoldable pub start_answer : Told → Lists → Answer
start_answer told lent =
    if not (lengths_good told lent && ltb 0 told.pages && leb told.pages PAGES) then refused StateNotValid
    else if not (leb (count_told told.units) UNITS) then refused OutOfRange
    else if any_below (bad_field told.units) (count_told told.units) then refused OutOfRange
    else if any_below (bad_span told.pages told.units) (count_told told.units) then refused BadSpan
    else if not (span_within told.shared_base told.shared_count told.pages) then refused BadSpan
    else accepted

-- ---- the machine that an accepted start gives: every page in the shared span or in the pool, and all else empty
abbrev pub in_span : ℕ → ℕ → ℕ → Bool
in_span base count page = leb base page && ltb page (base + count)

abbrev pub first_home : ℕ → ℕ → ℕ → List ℕ → List ℕ
first_home base count page sets = add sets (if in_span base count page then shared_row else pool_row) page

abbrev pub fresh_sets : Told → List ℕ
fresh_sets told = repeat (first_home told.shared_base told.shared_count) 0 told.pages (replicate (SETS * SET_WORDS) 0)

abbrev pub fresh_route : Route
fresh_route =
    record { map = replicate ENTRIES 0; walker = replicate ENTRIES 0; cache = replicate SLOTS 0; hand = 0; ports = replicate PORTS IDLE }

abbrev pub setup_told : Told → Setup
setup_told told =
    record {
      pages = told.pages;
      shared_base = told.shared_base;
      shared_count = told.shared_count;
      units = units_told told.units;
      unit_count = count_told told.units;
    }

unfoldable pub fresh_state : Told → State
fresh_state told =
    record {
      tables = record { setup = setup_told told; known = 0; sets = fresh_sets told; pairs = replicate PAIRS 0; cpu = fresh_route; dma = fresh_route };
      memory = replicate (PAGE_WORDS * told.pages) 0;
    }

-- ---- the empty machine over what was lent, untouched; no entry takes it for valid
abbrev pub empty_setup : Setup
empty_setup = record { pages = 0; shared_base = 0; shared_count = 0; units = replicate UNITS no_unit; unit_count = 0 }

abbrev pub empty_route : List ℕ → List ℕ → List ℕ → Route
empty_route map walker cache = record { map = map; walker = walker; cache = cache; hand = 0; ports = replicate PORTS IDLE }

unfoldable pub empty_state : Lists → State
empty_state lent =
    record {
      tables =
          record {
            setup = empty_setup;
            known = 0;
            sets = lent.sets;
            pairs = lent.pairs;
            cpu = empty_route lent.cpu_map lent.cpu_walker lent.cpu_cache;
            dma = empty_route lent.dma_map lent.dma_walker lent.dma_cache;
          };
      memory = lent.memory;
    }

pub record Started : Type 0 where
  pub answer : Answer
  pub state : State

unfoldable pub start : Told → Lists → Started
start told lent = record { answer = start_answer told lent; state = kept (start_answer told lent) (empty_state lent) (fresh_state told) }

-- ---- the free query: of a valid state, and of one that is not
pub record Free : Type 0 where
  pub answer : Answer
  pub count : ℕ
  pub lowest : Option PhysPage

unfoldable pub free : Tables → Free
free t = record { answer = accepted; count = free_count t.sets t.setup.pages; lowest = lowest_free t.sets t.setup.pages }

abbrev pub free_refused : Free
free_refused = record { answer = refused StateNotValid; count = 0; lowest = None }
