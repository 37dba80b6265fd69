-- What the parts of the test ask, where the model's rule names more than a part is handed.
use Rattle.std.specs.Prelude.{ℕ, ◌+◌, ◌*◌, ◌≤◌, ◌<◌, true, List, ◌⊎◌, ◌≡◌, length}
use Rattle.numbers.specs.Limits.{PAGES, UNITS, PORTS, IDLE, ENTRIES, PAIRS, SLOTS, SETS, SET_WORDS}
use Rattle.numbers.specs.Packing.{port_of, filled_of, vm_of, page_of, access_of, generation_of, left_of, right_of}
use Rattle.numbers.specs.declared.Side.{Side}
use Rattle.model.specs.Header.{Lists, setup_of}
use Rattle.model.specs.Valid.{SetupGood, KnownGood, PagesGood, MapGood, SameMap}
use Rattle.model.specs.Views.{knows}
use Rattle.model.specs.declared.Fixed.{Fixed}
use Rattle.model.specs.declared.Machine.{Machine}

-- ---- 1: the lengths of what is lent; units and ports have theirs by type
pub record RouteSizes (m w c : ℕ) : Type 0 where
  pub map : m ≡ ENTRIES
  pub walker : w ≡ ENTRIES
  pub cache : c ≡ SLOTS

pub record Sizes (s p cm cw cc dm dw dc : ℕ) : Type 0 where
  pub sets : s ≡ SETS * SET_WORDS
  pub pairs : p ≡ PAIRS
  pub cpu : RouteSizes cm cw cc
  pub dma : RouteSizes dm dw dc

-- what is lent has them
abbrev pub Sized : Lists → Type 0
Sized l =
    Sizes (length l.sets) (length l.pairs)
    (length l.cpu_map) (length l.cpu_walker) (length l.cpu_cache)
    (length l.dma_map) (length l.dma_walker) (length l.dma_cache)

-- ---- 2: the setup without its units
pub record SetupNumbers (fixed : Fixed) : Type 0 where
  pub some_pages : 0 < fixed.pages
  pub most_pages : fixed.pages ≤ PAGES
  pub shared : fixed.shared_base + fixed.shared_count ≤ fixed.pages
  pub unit_count : fixed.unit_count ≤ UNITS

-- ---- 1 to 4 together
pub record HomesGood (m : Machine) (l : Lists) : Type 0 where
  pub sizes : Sized l
  pub setup : SetupGood (setup_of m.fixed)
  pub known : KnownGood m.registers.known
  pub pages : PagesGood m.fixed.pages m.fixed.shared_base m.fixed.shared_count m.registers.known l.sets

-- ---- 5 to 7: a word that is none of the table's empty places
abbrev pub NotEmpty : ℕ → Type 0
NotEmpty w = w ≡ 0 → ⊥

-- ---- 5 and 6: what a pair's word and an entry's word have in common
pub record KnownWord (pages known w : ℕ) : Type 0 where
  pub port : port_of w ≡ 0
  pub filled : filled_of w ≡ 1
  pub page : page_of w < pages
  pub vm : knows known (vm_of w) ≡ true

-- a pair's word, whoever owns its page
pub record PairPacked (pages known w : ℕ) : Type 0 where
  pub word : KnownWord pages known w
  pub access : access_of w ≡ 0
  pub generation : generation_of w ≡ 0
  pub apart : left_of w ≡ right_of w → ⊥
  pub right : knows known (right_of w) ≡ true

-- ---- 6: both maps of a side
pub record MapsGood (side : Side) (pages known : ℕ) (sets pairs m w : List ℕ) : Type 0 where
  pub map : MapGood side pages known sets pairs m
  pub walker : MapGood side pages known sets pairs w
  pub same : SameMap m w

-- ---- 7 and 8: a slot, whatever the walker has; one port
pub record SlotPacked (w : ℕ) : Type 0 where
  pub port : port_of w < PORTS
  pub filled : filled_of w ≡ 1

abbrev pub PortGood : ℕ → ℕ → Type 0
PortGood known vm = (vm ≡ IDLE) ⊎ (knows known vm ≡ true)
