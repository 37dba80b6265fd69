-- The parts of the contracts of insert and remove, by name. `Sized` is what an answer asks of its arguments, `Ready` what a
-- deed asks, `Done` what it does, `Left` what the operation leaves: its answer, and each list new or as it was.
use Rattle.std.specs.Prelude.{ℕ, ◌+◌, ◌*◌, ◌≤◌, ◌<◌, Bool, List, [], ◌≡◌, length, Option, Some, None, ltb}
use Rattle.std.specs.Prelude.{if◌then◌else◌}
use Rattle.numbers.specs.Limits.{VMS, ACCESSES, GUEST_PAGES, PAGES, SETS, SET_WORDS, PAGE_WORDS}
use Rattle.numbers.specs.Meaning.{Answer}
use Rattle.numbers.specs.declared.Region.{Region}
use Rattle.numbers.specs.declared.Side.{Side}
use Rattle.numbers.specs.declared.Side.TheVariants.{Cpu, Dma}
use Rattle.table.specs.Scan.{count, lowest}
use Rattle.model.specs.Effect.{kept, apply, clears, cleared_pages, quiet}
use Rattle.model.specs.Regions.{insert_sets, insert_table, in_region, remove_sets, remove_table, remove_clears}

-- ---- what both ask
-- every number of the region is in range
pub record Placed (region : Region) : Type 0 where
  pub vm_ok : region.vm.0 < VMS
  pub access_ok : region.access < ACCESSES
  pub guest_ok : region.guest.0 + region.count ≤ GUEST_PAGES
  pub page_ok : region.page.0 + region.count ≤ PAGES

-- no more pages than there may be, and page sets of their length
pub record Sized (pages : ℕ) (sets : List ℕ) : Type 0 where
  pub few_pages : pages ≤ PAGES
  pub sets_length : length sets ≡ SETS * SET_WORDS

-- ---- what the searches give
-- the lowest number below n that fails a check, none where all pass
abbrev pub lowest_failing : (ℕ → Bool) → ℕ → Option ℕ
lowest_failing fails n = if ltb (lowest fails n) n then Some (lowest fails n) else None

-- the pairs whose edges hold a page back: for DMA none do
abbrev pub binding : Side → List ℕ → List ℕ
binding Cpu pairs = pairs
binding Dma pairs = []

-- ---- insert
pub record InsertReady (sets : List ℕ) (region : Region) : Type 0 where
  pub placed : Placed region
  pub sets_length : length sets ≡ SETS * SET_WORDS

pub record InsertDone (sets₀ map₀ walker₀ : List ℕ) (side : Side) (region : Region) (sets₁ map₁ walker₁ : List ℕ) : Type 0 where
  pub sets : sets₁ ≡ insert_sets side sets₀ region
  pub map : map₁ ≡ insert_table map₀ region
  pub walker : walker₁ ≡ insert_table walker₀ region

pub record InsertLeft (should : Answer) (sets₀ map₀ walker₀ : List ℕ) (side : Side) (region : Region) (told : Answer) (sets₁ map₁ walker₁ : List ℕ) : Type 0 where
  pub answer : told ≡ should
  pub sets : sets₁ ≡ kept should sets₀ (insert_sets side sets₀ region)
  pub map : map₁ ≡ kept should map₀ (insert_table map₀ region)
  pub walker : walker₁ ≡ kept should walker₀ (insert_table walker₀ region)

-- ---- remove, which clears memory too
pub record RemoveSized (pages : ℕ) (sets memory : List ℕ) : Type 0 where
  pub sized : Sized pages sets
  pub memory_length : length memory ≡ PAGE_WORDS * pages

pub record RemoveReady (sets memory : List ℕ) (region : Region) : Type 0 where
  pub placed : Placed region
  pub sets_length : length sets ≡ SETS * SET_WORDS
  pub memory_holds : (region.page.0 + region.count) * PAGE_WORDS ≤ length memory

-- a map or a cache without the region's words, and how many they were
pub record Swept (words₀ : List ℕ) (region : Region) (swept : ℕ) (words₁ : List ℕ) : Type 0 where
  pub dropped : swept ≡ count (in_region region) words₀
  pub words : words₁ ≡ remove_table words₀ region

pub record RemoveDone (sets₀ map₀ walker₀ cache₀ memory₀ : List ℕ) (side : Side) (region : Region) (swept : ℕ) (sets₁ map₁ walker₁ cache₁ memory₁ : List ℕ) : Type 0 where
  pub dropped : swept ≡ count (in_region region) cache₀
  pub sets : sets₁ ≡ remove_sets side sets₀ region
  pub map : map₁ ≡ remove_table map₀ region
  pub walker : walker₁ ≡ remove_table walker₀ region
  pub cache : cache₁ ≡ remove_table cache₀ region
  pub memory : memory₁ ≡ cleared_pages (remove_clears side sets₀ region) memory₀

pub record RemoveLeft (should : Answer) (sets₀ map₀ walker₀ cache₀ memory₀ : List ℕ) (side : Side) (region : Region) (told : Answer) (sets₁ map₁ walker₁ cache₁ memory₁ : List ℕ) : Type 0 where
  pub answer : told ≡ should
  pub sets : sets₁ ≡ kept should sets₀ (remove_sets side sets₀ region)
  pub map : map₁ ≡ kept should map₀ (remove_table map₀ region)
  pub walker : walker₁ ≡ kept should walker₀ (remove_table walker₀ region)
  pub cache : cache₁ ≡ kept should cache₀ (remove_table cache₀ region)
  pub memory : memory₁ ≡ apply (kept should quiet (clears (remove_clears side sets₀ region))) memory₀
