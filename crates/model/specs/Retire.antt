-- Operation 27: a VM is retired with all that it has (docs/MACHINE.md, 7). Every list is said over the page sets as they were before.
use Rattle.std.specs.Prelude.{ℕ, zero, suc, ◌+◌, Bool, false, ◌&&◌, ◌||◌, List, [], ◌∷◌, eqb, ltb}
use Rattle.std.specs.Prelude.{if◌then◌else◌}
use Rattle.numbers.specs.Limits.{PAGES}
use Rattle.numbers.specs.Packing.{vm_of, page_of}
use Rattle.numbers.specs.Meaning.{Answer}
use Rattle.numbers.specs.declared.Refusal.TheVariants.{VmBusy}
use Rattle.numbers.specs.declared.Side.{Side}
use Rattle.numbers.specs.declared.Side.TheVariants.{Cpu, Dma}
use Rattle.table.specs.Scan.{count, wipe}
use Rattle.pages.specs.Pour.{pour, emptied}
use Rattle.pages.specs.Rows.{pool_row, cpu_row, dma_row}
use Rattle.model.specs.State.{Tables, Route, replaced, with_maps}
use Rattle.model.specs.Views.{is_filled, owns, holds_dma, joins, on_port}
use Rattle.model.specs.Effect.{accepted, accepted_dropping, refused, and_then}
use Rattle.model.specs.Ledger.{vm_early, remove_vm_known}

-- ---- a word of a map or a cache that goes: the VM's, or, for CPU, onto one of its CPU pages. VM and page have the same bits in
-- maps and caches, so that one test serves all six tables.
abbrev pub onto_its : Side → List ℕ → ℕ → ℕ → Bool
onto_its Cpu sets vm w = ltb (page_of w) PAGES && owns sets vm (page_of w)
onto_its Dma sets vm w = false

unfoldable pub goes : Side → List ℕ → ℕ → ℕ → Bool
goes side sets vm w = is_filled w && (eqb (vm_of w) vm || onto_its side sets vm w)

-- ---- the answer: refused only where the VM is on a CPU or a device; the slots of both caches are counted together
unfoldable pub retire_may : ℕ → List ℕ → List ℕ → ℕ → Answer
retire_may known cpus devices vm =
    and_then (vm_early known vm)
    (if on_port cpus vm || on_port devices vm then refused VmBusy
    else accepted)

unfoldable pub retire_dropped : List ℕ → List ℕ → List ℕ → ℕ → ℕ
retire_dropped sets cpu_cache dma_cache vm = count (goes Cpu sets vm) cpu_cache + count (goes Dma sets vm) dma_cache

unfoldable pub retire_answer : ℕ → List ℕ → List ℕ → List ℕ → List ℕ → List ℕ → ℕ → Answer
retire_answer known sets cpu_cache dma_cache cpus devices vm = and_then (retire_may known cpus devices vm) (accepted_dropping (retire_dropped sets cpu_cache dma_cache vm))

-- ---- a map, software or walker's, or a cache; the pairs
unfoldable pub retire_table : Side → List ℕ → ℕ → List ℕ → List ℕ
retire_table side sets vm table = wipe (goes side sets vm) table

unfoldable pub retire_pairs : List ℕ → ℕ → List ℕ
retire_pairs pairs vm = wipe (joins vm) pairs

-- ---- its CPU pages go to the pool, its DMA claims end
unfoldable pub retire_sets : List ℕ → ℕ → List ℕ
retire_sets sets vm = emptied (pour sets (cpu_row vm) pool_row) (dma_row vm)

-- ---- the pages that are cleared: those that it owns or holds for DMA, of the n from k on
abbrev pub held_from : List ℕ → ℕ → ℕ → ℕ → List ℕ
held_from sets vm k zero = []
held_from sets vm k (suc n) = if owns sets vm k || holds_dma sets vm k then k ∷ held_from sets vm (suc k) n else held_from sets vm (suc k) n

unfoldable pub retire_clears : List ℕ → ℕ → ℕ → List ℕ
retire_clears sets pages vm = held_from sets vm 0 pages

-- ---- all tables
abbrev pub retire_route : Side → List ℕ → ℕ → Route → Route
retire_route side sets vm r = with_maps r (retire_table side sets vm r.map) (retire_table side sets vm r.walker) (retire_table side sets vm r.cache)

abbrev pub retired : Tables → ℕ → Tables
retired t vm =
    replaced t (remove_vm_known t.known vm) (retire_sets t.sets vm) (retire_pairs t.pairs vm) (retire_route Cpu t.sets vm t.cpu) (retire_route Dma t.sets vm t.dma)
