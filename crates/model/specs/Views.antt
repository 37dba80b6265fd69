-- What the tables say, in the paper's words (docs/MACHINE.md, 3 and 4).
use Rattle.std.specs.Prelude.{ℕ, Bool, true, not, ◌&&◌, ◌||◌, List, eqb, ltb}
use Rattle.numbers.specs.Limits.{VMS, GUEST_PAGES, ACCESSES, GENERATIONS, PORTS, SLOTS, PAGE_WORDS, PAGES}
use Rattle.numbers.specs.Packing.{filled_of, page_of, vm_of, left_of, right_of, key_of, pair_key_of, pair_key}
use Rattle.numbers.specs.declared.Side.{Side}
use Rattle.numbers.specs.declared.Side.TheVariants.{Cpu, Dma}
use Rattle.table.specs.Scan.{any, any_below}
use Rattle.table.specs.Table.{find, is_found}
use Rattle.pages.specs.Bits.{has_bit}
use Rattle.pages.specs.Rows.{holds, pool_row, shared_row, cpu_row, dma_row}

-- ---- numbers in range
abbrev pub is_vm : ℕ → Bool
is_vm vm = ltb vm VMS

abbrev pub is_guest : ℕ → Bool
is_guest guest = ltb guest GUEST_PAGES

abbrev pub is_access : ℕ → Bool
is_access access = ltb access ACCESSES

abbrev pub is_generation : ℕ → Bool
is_generation generation = ltb generation GENERATIONS

abbrev pub is_port : ℕ → Bool
is_port port = ltb port PORTS

abbrev pub is_slot : ℕ → Bool
is_slot slot = ltb slot SLOTS

abbrev pub is_word : ℕ → Bool
is_word word = ltb word PAGE_WORDS

-- a page of a machine of so many pages
abbrev pub is_page : ℕ → ℕ → Bool
is_page pages page = ltb page pages

-- ---- VMs and pages
unfoldable pub knows : ℕ → ℕ → Bool
knows known vm = has_bit known vm

abbrev pub in_pool : List ℕ → ℕ → Bool
in_pool sets page = holds sets pool_row page

abbrev pub in_shared : List ℕ → ℕ → Bool
in_shared sets page = holds sets shared_row page

-- the VM holds the page for CPU; for DMA
abbrev pub owns : List ℕ → ℕ → ℕ → Bool
owns sets vm page = holds sets (cpu_row vm) page

abbrev pub holds_dma : List ℕ → ℕ → ℕ → Bool
holds_dma sets vm page = holds sets (dma_row vm) page

-- the VM's pages on a side, and on the other
abbrev pub claims : Side → List ℕ → ℕ → ℕ → Bool
claims Cpu sets vm page = owns sets vm page
claims Dma sets vm page = holds_dma sets vm page

abbrev pub other_side : Side → Side
other_side Cpu = Dma
other_side Dma = Cpu

-- a VM other than this one claims the page on the side
unfoldable pub claimed_elsewhere : Side → List ℕ → ℕ → ℕ → Bool
claimed_elsewhere side sets vm page = any_below (λ other. not (eqb other vm) && claims side sets other page) VMS

unfoldable pub has_pages : Side → List ℕ → ℕ → Bool
has_pages side sets vm = any_below (λ page. claims side sets vm page) PAGES

-- ---- filled words
abbrev pub is_filled : ℕ → Bool
is_filled w = eqb (filled_of w) 1

-- a mapping onto the page, or a pair on it
abbrev pub on_page : ℕ → ℕ → Bool
on_page page w = is_filled w && eqb (page_of w) page

abbrev pub of_vm : ℕ → ℕ → Bool
of_vm vm w = is_filled w && eqb (vm_of w) vm

-- ---- sharing
-- a pair that has the VM at one of its ends
abbrev pub joins : ℕ → ℕ → Bool
joins vm w = is_filled w && (eqb (left_of w) vm || eqb (right_of w) vm)

-- the page is shared with the VM by a pair; some edge names the page; some edge names the VM
unfoldable pub shares : List ℕ → ℕ → ℕ → Bool
shares pairs vm page = any (λ w. joins vm w && on_page page w) pairs

unfoldable pub edge_on : List ℕ → ℕ → Bool
edge_on pairs page = any (on_page page) pairs

unfoldable pub edge_of : List ℕ → ℕ → Bool
edge_of pairs vm = any (joins vm) pairs

-- the two share the page, in either order
unfoldable pub paired : List ℕ → ℕ → ℕ → ℕ → Bool
paired pairs left right page = is_found (find pair_key_of pairs (pair_key left right page))

-- ---- mappings
-- a mapping that counts targets the page
unfoldable pub targeted : (ℕ → Bool) → List ℕ → ℕ → Bool
targeted counts table page = any (λ w. counts w && on_page page w) table

-- every mapping counts; those of one VM; all but the one at a key
abbrev pub whichever : ℕ → Bool
whichever w = true

abbrev pub but_key : ℕ → ℕ → Bool
but_key key w = not (eqb (key_of w) key)

unfoldable pub has_mappings : List ℕ → ℕ → Bool
has_mappings table vm = any (of_vm vm) table

-- a page lent to the VM: for CPU by a pair, for DMA by the shared span
abbrev pub lent_to : Side → List ℕ → List ℕ → ℕ → ℕ → Bool
lent_to Cpu sets pairs vm page = shares pairs vm page
lent_to Dma sets pairs vm page = in_shared sets page

-- a page that the VM may map: one that it claims on the side, or that is lent to it
unfoldable pub may_map : Side → List ℕ → List ℕ → ℕ → ℕ → Bool
may_map side sets pairs vm page = claims side sets vm page || lent_to side sets pairs vm page

-- ---- ports
-- a port whose number is no VM's is idle
abbrev pub is_idle : ℕ → Bool
is_idle vm = not (is_vm vm)

unfoldable pub on_port : List ℕ → ℕ → Bool
on_port ports vm = any (eqb vm) ports
