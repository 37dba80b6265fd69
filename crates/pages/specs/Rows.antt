-- The page sets, one row of SET_WORDS words each (docs/MACHINE.md, 3): the pool, the shared span, and for each VM its
-- CPU pages and its DMA pages.
use Rattle.std.specs.Prelude.{ℕ, ◌+◌, ◌*◌, Bool, not, ◌&&◌, List, eqb, Option, Some, None}
use Rattle.std.specs.Prelude.{if◌then◌else◌}
use Rattle.numbers.specs.Limits.{PAGES, VMS}
use Rattle.numbers.specs.declared.PhysPage.{PhysPage}
use Rattle.table.specs.Scan.{any_below, count_below, lowest}
use Rattle.pages.specs.Bits.{contains, insert, delete}

-- ---- row numbers, which do not depend on how many VMs there may be
abbrev pub pool_row : ℕ
pool_row = 0

abbrev pub shared_row : ℕ
shared_row = 1

abbrev pub cpu_row : ℕ → ℕ
cpu_row vm = 2 + 2 * vm

abbrev pub dma_row : ℕ → ℕ
dma_row vm = 3 + 2 * vm

-- ---- a page of a row
abbrev pub holds : List ℕ → ℕ → ℕ → Bool
holds sets row page = contains sets (row * PAGES + page)

abbrev pub add : List ℕ → ℕ → ℕ → List ℕ
add sets row page = insert sets (row * PAGES + page)

abbrev pub remove : List ℕ → ℕ → ℕ → List ℕ
remove sets row page = delete sets (row * PAGES + page)

-- ---- free pages (docs/MACHINE.md, 8)
-- some VM holds the page for DMA
unfoldable pub held_for_dma : List ℕ → ℕ → Bool
held_for_dma sets page = any_below (λ vm. holds sets (dma_row vm) page) VMS

-- the page is in the pool, and no VM holds it for DMA
unfoldable pub is_free : List ℕ → ℕ → Bool
is_free sets page = holds sets pool_row page && not (held_for_dma sets page)

-- how many pages of a machine of n are free
unfoldable pub free_count : List ℕ → ℕ → ℕ
free_count sets n = count_below (is_free sets) n

-- the lowest, where a search that ends at n found nothing
abbrev pub lowest_of : ℕ → ℕ → Option PhysPage
lowest_of n at = if eqb at n then None else Some (record { 0 = at })

unfoldable pub lowest_free : List ℕ → ℕ → Option PhysPage
lowest_free sets n = lowest_of n (lowest (is_free sets) n)
