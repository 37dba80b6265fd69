-- The parts of the contracts, by name. `Ready` is what a deed asks of its arguments, `Swept` and `Done` what one does, `Left` what
-- the operation leaves: its answer, and each list new or as it was.
use Rattle.std.specs.Prelude.{ℕ, ◌*◌, ◌≤◌, ◌<◌, List, ◌≡◌, length}
use Rattle.numbers.specs.Limits.{VMS, PAGES, PAGE_WORDS, SETS, SET_WORDS}
use Rattle.numbers.specs.Meaning.{Answer}
use Rattle.numbers.specs.declared.Side.{Side}
use Rattle.numbers.specs.declared.Side.TheVariants.{Cpu, Dma}
use Rattle.table.specs.Scan.{count}
use Rattle.model.specs.Effect.{kept, cleared_pages}
use Rattle.model.specs.Header.{Lists}
use Rattle.model.specs.Ledger.{remove_vm_known}
use Rattle.model.specs.Retire.{goes, retire_dropped, retire_table, retire_pairs, retire_sets, retire_clears}

-- the VM is in range, page sets and memory are of their lengths
pub record Ready (pages : ℕ) (sets memory : List ℕ) (vm : ℕ) : Type 0 where
  pub vm_ok : vm < VMS
  pub few_pages : pages ≤ PAGES
  pub sets_length : length sets ≡ SETS * SET_WORDS
  pub memory_length : length memory ≡ PAGE_WORDS * pages

-- ---- a map or a cache without the words that go, and how many they were
pub record Swept (side : Side) (sets : List ℕ) (vm : ℕ) (words₀ : List ℕ) (swept : ℕ) (words₁ : List ℕ) : Type 0 where
  pub dropped : swept ≡ count (goes side sets vm) words₀
  pub words : words₁ ≡ retire_table side sets vm words₀

-- ---- a side's three tables, and how many slots went
pub record RouteSwept (side : Side) (sets : List ℕ) (vm : ℕ) (map₀ walker₀ cache₀ : List ℕ) (swept : ℕ) (map₁ walker₁ cache₁ : List ℕ) : Type 0 where
  pub dropped : swept ≡ count (goes side sets vm) cache₀
  pub map : map₁ ≡ retire_table side sets vm map₀
  pub walker : walker₁ ≡ retire_table side sets vm walker₀
  pub cache : cache₁ ≡ retire_table side sets vm cache₀

-- ---- what a retire leaves of what is lent
abbrev pub retired_lists : ℕ → ℕ → Lists → Lists
retired_lists pages vm l =
    record {
      sets = retire_sets l.sets vm;
      pairs = retire_pairs l.pairs vm;
      cpu_map = retire_table Cpu l.sets vm l.cpu_map;
      cpu_walker = retire_table Cpu l.sets vm l.cpu_walker;
      cpu_cache = retire_table Cpu l.sets vm l.cpu_cache;
      dma_map = retire_table Dma l.sets vm l.dma_map;
      dma_walker = retire_table Dma l.sets vm l.dma_walker;
      dma_cache = retire_table Dma l.sets vm l.dma_cache;
      memory = cleared_pages (retire_clears l.sets pages vm) l.memory;
    }

-- ---- every list, and how many slots of both caches went
pub record Done (pages vm : ℕ) (l₀ : Lists) (dropped : ℕ) (l₁ : Lists) : Type 0 where
  pub both : dropped ≡ retire_dropped l₀.sets l₀.cpu_cache l₀.dma_cache vm
  pub lists : l₁ ≡ retired_lists pages vm l₀

-- ---- an accepted retire does so to each, a refused one leaves it
pub record Left (should : Answer) (pages vm known₀ : ℕ) (l₀ : Lists) (told : Answer) (known₁ : ℕ) (l₁ : Lists) : Type 0 where
  pub answer : told ≡ should
  pub known : known₁ ≡ kept should known₀ (remove_vm_known known₀ vm)
  pub lists : l₁ ≡ kept should l₀ (retired_lists pages vm l₀)
