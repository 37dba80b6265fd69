-- Operations 1 to 6: VMs, ownership and sharing (docs/MACHINE.md, 7). Each has its answer, the first true condition
-- giving the refusal, and what an accepted one leaves in each table that it changes.
use Rattle.std.specs.Prelude.{ℕ, Bool, not, ◌&&◌, ◌||◌, List, [], ◌∷◌, eqb}
use Rattle.std.specs.Prelude.{if◌then◌else◌}
use Rattle.numbers.specs.Packing.{pair_word, pair_key, pair_key_of}
use Rattle.numbers.specs.Meaning.{Answer}
use Rattle.numbers.specs.declared.Refusal.TheVariants.{OutOfRange, VmUnknown, VmKnown, PageNotHeld, PageClaimed, StillInUse, PairWrong, VmBusy, NoRoom}
use Rattle.numbers.specs.declared.Side.TheVariants.{Cpu, Dma}
use Rattle.table.specs.Table.{put, erase, room_for}
use Rattle.pages.specs.Bits.{with_bit, without_bit}
use Rattle.pages.specs.Rows.{add, remove, pool_row, cpu_row}
use Rattle.model.specs.Views.{is_vm, is_page, knows, in_pool, owns, holds_dma, claimed_elsewhere, has_pages, edge_on, edge_of, paired, targeted, whichever, of_vm, has_mappings, on_port}
use Rattle.model.specs.Effect.{accepted, refused, and_then}

-- ---- early checks, of header numbers alone, one for each shape of arguments
abbrev pub vm_early : ℕ → ℕ → Answer
vm_early known vm =
    if not (is_vm vm) then refused OutOfRange
    else if not (knows known vm) then refused VmUnknown
    else accepted

abbrev pub page_early : ℕ → ℕ → ℕ → ℕ → Answer
page_early known pages vm page =
    if not (is_vm vm && is_page pages page) then refused OutOfRange
    else if not (knows known vm) then refused VmUnknown
    else accepted

abbrev pub pair_early : ℕ → ℕ → ℕ → ℕ → ℕ → Answer
pair_early known pages left right page =
    if not (is_vm left && is_vm right && is_page pages page) then refused OutOfRange
    else if not (knows known left && knows known right) then refused VmUnknown
    else accepted

-- ---- 1: add VM
unfoldable pub add_vm_answer : ℕ → ℕ → Answer
add_vm_answer known vm =
    if not (is_vm vm) then refused OutOfRange
    else if knows known vm then refused VmKnown
    else accepted

abbrev pub add_vm_known : ℕ → ℕ → ℕ
add_vm_known known vm = with_bit known vm

-- ---- 2: remove VM, which may have no pages, mappings, edges, CPU or device
unfoldable pub remove_vm_answer : ℕ → List ℕ → List ℕ → List ℕ → List ℕ → List ℕ → List ℕ → ℕ → Answer
remove_vm_answer known sets pairs cpu_map dma_map cpus devices vm =
    and_then (vm_early known vm)
    (if has_pages Cpu sets vm || has_pages Dma sets vm || has_mappings cpu_map vm || has_mappings dma_map vm || edge_of pairs vm || on_port cpus vm || on_port devices vm then refused VmBusy
    else accepted)

abbrev pub remove_vm_known : ℕ → ℕ → ℕ
remove_vm_known known vm = without_bit known vm

-- ---- 3: assign page, from the pool to the VM
unfoldable pub assign_answer : ℕ → ℕ → List ℕ → ℕ → ℕ → Answer
assign_answer known pages sets vm page =
    and_then (page_early known pages vm page)
    (if not (in_pool sets page) then refused PageNotHeld
    else if claimed_elsewhere Dma sets vm page then refused PageClaimed
    else accepted)

unfoldable pub assign_sets : List ℕ → ℕ → ℕ → List ℕ
assign_sets sets vm page = add (remove sets pool_row page) (cpu_row vm) page

-- ---- 4: reclaim page, back to the pool
unfoldable pub reclaim_answer : ℕ → ℕ → List ℕ → List ℕ → List ℕ → ℕ → ℕ → Answer
reclaim_answer known pages sets pairs cpu_map vm page =
    and_then (page_early known pages vm page)
    (if not (owns sets vm page) then refused PageNotHeld
    else if targeted whichever cpu_map page || edge_on pairs page then refused StillInUse
    else accepted)

unfoldable pub reclaim_sets : List ℕ → ℕ → ℕ → List ℕ
reclaim_sets sets vm page = add (remove sets (cpu_row vm) page) pool_row page

-- the page is cleared unless the VM still claims it for DMA
unfoldable pub reclaim_clears : List ℕ → ℕ → ℕ → List ℕ
reclaim_clears sets vm page = if holds_dma sets vm page then [] else page ∷ []

-- ---- 5: share; a pair that is stored already needs no room
unfoldable pub share_answer : ℕ → ℕ → List ℕ → List ℕ → ℕ → ℕ → ℕ → Answer
share_answer known pages sets pairs left right page =
    and_then (pair_early known pages left right page)
    (if eqb left right then refused PairWrong
    else if not (owns sets left page) then refused PageNotHeld
    else if not (paired pairs left right page || room_for pairs 1) then refused NoRoom
    else accepted)

unfoldable pub share_pairs : List ℕ → ℕ → ℕ → ℕ → List ℕ
share_pairs pairs left right page =
    if paired pairs left right page then pairs
    else put pair_key_of pairs (pair_key left right page) (pair_word left right page)

-- ---- 6: unshare, in either order of the ends
-- an end that does not own the page still maps it
abbrev pub borrower_maps : List ℕ → List ℕ → ℕ → ℕ → Bool
borrower_maps sets cpu_map vm page = not (owns sets vm page) && targeted (of_vm vm) cpu_map page

unfoldable pub unshare_answer : ℕ → ℕ → List ℕ → List ℕ → List ℕ → ℕ → ℕ → ℕ → Answer
unshare_answer known pages sets pairs cpu_map left right page =
    and_then (pair_early known pages left right page)
    (if not (paired pairs left right page) then refused PairWrong
    else if borrower_maps sets cpu_map left page || borrower_maps sets cpu_map right page then refused StillInUse
    else accepted)

unfoldable pub unshare_pairs : List ℕ → ℕ → ℕ → ℕ → List ℕ
unshare_pairs pairs left right page = erase pair_key_of pairs (pair_key left right page)
