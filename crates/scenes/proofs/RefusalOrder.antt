-- Of two causes that both hold, the earlier in the paper's order is answered (docs/MACHINE.md, 7): for every operation and every two
-- neighbours in its list of refusals, a row in a computed valid state in which both hold. That the later one holds too is seen
-- once the earlier is mended: by a row without it in the same state, or by the same row after rows that end it. Refusal 1 is asked before
-- any row is read (Entries).
use Prim.Native.Nat.{ℕ, zero, suc, ◌+◌, ◌*◌, ◌<◌}
use mathlib.Core.Bool.{true}
use mathlib.Core.List.{List, [], ◌∷◌, ◌++◌, map}
use mathlib.Core.Logic.{inl, inr, ⊎_elim}
use mathlib.Core.Path.{◌≡◌, refl}
use native.Mathlib.Omega.{arith}
use lib.Dec.{eqb}
use lib.ListN.{get_or}
use Rattle.std.specs.Prelude.{if◌then◌else◌}
use Rattle.numbers.specs.Limits.{VMS, GUEST_PAGES, PAGE_WORDS, ENTRIES}
use Rattle.numbers.specs.declared.Side.TheVariants.{Cpu, Dma}
use Rattle.model.specs.State.{Tables, State}
use Rattle.model.specs.Views.{knows, may_map}
use Rattle.model.specs.Valid.{ValidTables, Valid}
use Rattle.model.proofs.Computes.{computes}
use Rattle.model.proofs.Worked.{row, Line, ◌⟼◌, answers}
use Rattle.scenes.proofs.Refusals.{◌▸◌, reached, accepting, answer_in, played, expected, sixteen, unit_row, two, owned, shared, mapped, cpu_in, dma_in, other_dma_in, running, bound, pairs_full, operation_said, reached_valid, all_valid}
use Rattle.model.proofs.LedgerKept.{Named, by_claim, by_entry, by_pair, by_port}
use Rattle.model.proofs.OneRoute.{route_of_lem}
use Rattle.model.proofs.FullMaps.{mappings_from, with_full_maps, full_maps_valid}
use Rattle.model.proofs.AnswerNumbers.{is_in, refusal_lists, listed, operations}

-- ---- two causes: the way to a state, a row for which both hold there, rows that end the first, and a row that meets the second
pub record Order : Type 0 where
  pub way : List (List ℕ)
  pub both : Line
  pub mend : List (List ℕ)
  pub alone : Line

-- mended in the row; in the state
abbrev pub in_row : List (List ℕ) → Line → Line → Order
in_row way both alone = record { way = way; both = both; mend = []; alone = alone }

abbrev pub in_state : List (List ℕ) → Line → List (List ℕ) → Line → Order
in_state way both mend alone = record { way = way; both = both; mend = mend; alone = alone }

-- what the machine answers to the way, to the first row, to what mends it and to the second row, and what the order says of it
abbrev pub played_in : State → Order → List (List ℕ)
played_in s order = answer_in s order.both ∷ played s (order.mend ▸ order.alone ∷ [])

abbrev pub played_both : State → Order → List (List ℕ)
played_both s order = answers s (map accepting order.way) ++ played_in (reached s order.way) order

abbrev pub expected_both : Order → List (List ℕ)
expected_both order = expected (order.way ▸ order.both ∷ []) ++ expected (order.mend ▸ order.alone ∷ [])

-- ---- 1: add VM. Not 2 and 5: no id from 16 on is known (`knows_none`, KnownLaws)

-- ---- 2 and 27: remove VM, retire VM. Not 4 and 13: a VM that is not known has nothing and is on no port (`named_known`, below)
abbrev pub remove_vm : ℕ → List Order
remove_vm operation =
    -- 2, 4: no id from 16 on is known
    (in_row two
    (row (operation ∷ VMS ∷ []) ⟼ 2 ∷ 0 ∷ 0 ∷ 0 ∷ [])
    (row (operation ∷ 3 ∷ []) ⟼ 4 ∷ 0 ∷ 0 ∷ 0 ∷ []))
    ∷ []

-- ---- 3: assign page
abbrev pub assign_page : List Order
assign_page =
    -- 2, 4
    (in_row two
    (row (3 ∷ 3 ∷ 16 ∷ []) ⟼ 2 ∷ 0 ∷ 0 ∷ 0 ∷ [])
    (row (3 ∷ 3 ∷ 0 ∷ []) ⟼ 4 ∷ 0 ∷ 0 ∷ 0 ∷ []))
    -- 4, 6
    ∷ (in_state owned
    (row (3 ∷ 3 ∷ 0 ∷ []) ⟼ 4 ∷ 0 ∷ 0 ∷ 0 ∷ []) ((1 ∷ 3 ∷ []) ∷ [])
    (row (3 ∷ 3 ∷ 0 ∷ []) ⟼ 6 ∷ 0 ∷ 0 ∷ 0 ∷ []))
    -- 6, 7: VM 2's page for both sides, then for DMA alone
    ∷ (in_state (other_dma_in ++ ((3 ∷ 2 ∷ 2 ∷ []) ∷ []))
    (row (3 ∷ 1 ∷ 2 ∷ []) ⟼ 6 ∷ 0 ∷ 0 ∷ 0 ∷ []) ((4 ∷ 2 ∷ 2 ∷ []) ∷ [])
    (row (3 ∷ 1 ∷ 2 ∷ []) ⟼ 7 ∷ 0 ∷ 0 ∷ 0 ∷ []))
    ∷ []

-- ---- 4: reclaim page
abbrev pub reclaim_page : List Order
reclaim_page =
    -- 2, 4
    (in_row owned
    (row (4 ∷ 3 ∷ 16 ∷ []) ⟼ 2 ∷ 0 ∷ 0 ∷ 0 ∷ [])
    (row (4 ∷ 3 ∷ 0 ∷ []) ⟼ 4 ∷ 0 ∷ 0 ∷ 0 ∷ []))
    -- 4, 6
    ∷ (in_state owned
    (row (4 ∷ 3 ∷ 0 ∷ []) ⟼ 4 ∷ 0 ∷ 0 ∷ 0 ∷ []) ((1 ∷ 3 ∷ []) ∷ [])
    (row (4 ∷ 3 ∷ 0 ∷ []) ⟼ 6 ∷ 0 ∷ 0 ∷ 0 ∷ []))
    -- 6, 11 by a mapping
    ∷ (in_row mapped
    (row (4 ∷ 2 ∷ 0 ∷ []) ⟼ 6 ∷ 0 ∷ 0 ∷ 0 ∷ [])
    (row (4 ∷ 1 ∷ 0 ∷ []) ⟼ 11 ∷ 0 ∷ 0 ∷ 0 ∷ []))
    -- 6, 11 by an edge
    ∷ (in_row shared
    (row (4 ∷ 2 ∷ 0 ∷ []) ⟼ 6 ∷ 0 ∷ 0 ∷ 0 ∷ [])
    (row (4 ∷ 1 ∷ 0 ∷ []) ⟼ 11 ∷ 0 ∷ 0 ∷ 0 ∷ []))
    ∷ []

-- ---- 5: share
abbrev pub share_page : List Order
share_page =
    -- 2, 4
    (in_row owned
    (row (5 ∷ 3 ∷ 2 ∷ 16 ∷ []) ⟼ 2 ∷ 0 ∷ 0 ∷ 0 ∷ [])
    (row (5 ∷ 3 ∷ 2 ∷ 0 ∷ []) ⟼ 4 ∷ 0 ∷ 0 ∷ 0 ∷ []))
    -- 4, 12
    ∷ (in_state owned
    (row (5 ∷ 3 ∷ 3 ∷ 0 ∷ []) ⟼ 4 ∷ 0 ∷ 0 ∷ 0 ∷ []) ((1 ∷ 3 ∷ []) ∷ [])
    (row (5 ∷ 3 ∷ 3 ∷ 0 ∷ []) ⟼ 12 ∷ 0 ∷ 0 ∷ 0 ∷ []))
    -- 12, 6
    ∷ (in_row owned
    (row (5 ∷ 2 ∷ 2 ∷ 0 ∷ []) ⟼ 12 ∷ 0 ∷ 0 ∷ 0 ∷ [])
    (row (5 ∷ 2 ∷ 1 ∷ 0 ∷ []) ⟼ 6 ∷ 0 ∷ 0 ∷ 0 ∷ []))
    -- 6, 14
    ∷ (in_row pairs_full
    (row (5 ∷ 1 ∷ 9 ∷ 8 ∷ []) ⟼ 6 ∷ 0 ∷ 0 ∷ 0 ∷ [])
    (row (5 ∷ 0 ∷ 9 ∷ 8 ∷ []) ⟼ 14 ∷ 0 ∷ 0 ∷ 0 ∷ []))
    ∷ []

-- ---- 6: unshare
abbrev pub unshare_page : List Order
unshare_page =
    -- 2, 4
    (in_row shared
    (row (6 ∷ 3 ∷ 2 ∷ 16 ∷ []) ⟼ 2 ∷ 0 ∷ 0 ∷ 0 ∷ [])
    (row (6 ∷ 3 ∷ 2 ∷ 0 ∷ []) ⟼ 4 ∷ 0 ∷ 0 ∷ 0 ∷ []))
    -- 4, 12
    ∷ (in_state shared
    (row (6 ∷ 3 ∷ 2 ∷ 0 ∷ []) ⟼ 4 ∷ 0 ∷ 0 ∷ 0 ∷ []) ((1 ∷ 3 ∷ []) ∷ [])
    (row (6 ∷ 3 ∷ 2 ∷ 0 ∷ []) ⟼ 12 ∷ 0 ∷ 0 ∷ 0 ∷ []))
    -- 12, 11: VMs 2 and 3 borrow the page, each by a pair with VM 1, and VM 2 maps it
    ∷ (in_row (shared ++ ((1 ∷ 3 ∷ []) ∷ (5 ∷ 1 ∷ 3 ∷ 0 ∷ []) ∷ (7 ∷ 2 ∷ 40 ∷ 0 ∷ 1 ∷ 0 ∷ []) ∷ []))
    (row (6 ∷ 2 ∷ 3 ∷ 0 ∷ []) ⟼ 12 ∷ 0 ∷ 0 ∷ 0 ∷ [])
    (row (6 ∷ 2 ∷ 1 ∷ 0 ∷ []) ⟼ 11 ∷ 0 ∷ 0 ∷ 0 ∷ []))
    ∷ []

-- ---- 7, 8: map; 6, 14 below
abbrev pub map_page : ℕ → List Order
map_page operation =
    -- 2, 4
    (in_row two
    (row (operation ∷ 3 ∷ 40 ∷ 16 ∷ 3 ∷ 0 ∷ []) ⟼ 2 ∷ 0 ∷ 0 ∷ 0 ∷ [])
    (row (operation ∷ 3 ∷ 40 ∷ 0 ∷ 3 ∷ 0 ∷ []) ⟼ 4 ∷ 0 ∷ 0 ∷ 0 ∷ []))
    -- 4, 6
    ∷ (in_state two
    (row (operation ∷ 3 ∷ 40 ∷ 0 ∷ 3 ∷ 0 ∷ []) ⟼ 4 ∷ 0 ∷ 0 ∷ 0 ∷ []) ((1 ∷ 3 ∷ []) ∷ [])
    (row (operation ∷ 3 ∷ 40 ∷ 0 ∷ 3 ∷ 0 ∷ []) ⟼ 6 ∷ 0 ∷ 0 ∷ 0 ∷ []))
    ∷ []

-- ---- 9, 10: unmap
abbrev pub unmap : ℕ → List Order
unmap operation =
    -- 2, 4
    (in_row two
    (row (operation ∷ 3 ∷ GUEST_PAGES ∷ []) ⟼ 2 ∷ 0 ∷ 0 ∷ 0 ∷ [])
    (row (operation ∷ 3 ∷ 40 ∷ []) ⟼ 4 ∷ 0 ∷ 0 ∷ 0 ∷ []))
    -- 4, 9
    ∷ (in_state two
    (row (operation ∷ 3 ∷ 40 ∷ []) ⟼ 4 ∷ 0 ∷ 0 ∷ 0 ∷ []) ((1 ∷ 3 ∷ []) ∷ [])
    (row (operation ∷ 3 ∷ 40 ∷ []) ⟼ 9 ∷ 0 ∷ 0 ∷ 0 ∷ []))
    ∷ []

-- ---- 11 to 14: regions, the checks that come before their pages
abbrev pub region : ℕ → List Order
region operation =
    -- 2, 3
    (in_row two
    (row (operation ∷ 16 ∷ 16 ∷ 0 ∷ 0 ∷ 3 ∷ []) ⟼ 2 ∷ 0 ∷ 0 ∷ 0 ∷ [])
    (row (operation ∷ 1 ∷ 16 ∷ 0 ∷ 0 ∷ 3 ∷ []) ⟼ 3 ∷ 0 ∷ 0 ∷ 0 ∷ []))
    -- 3, 4
    ∷ (in_row two
    (row (operation ∷ 3 ∷ 16 ∷ 0 ∷ 0 ∷ 3 ∷ []) ⟼ 3 ∷ 0 ∷ 0 ∷ 0 ∷ [])
    (row (operation ∷ 3 ∷ 16 ∷ 0 ∷ 3 ∷ 3 ∷ []) ⟼ 4 ∷ 0 ∷ 0 ∷ 0 ∷ []))
    -- 4, 8
    ∷ (in_state two
    (row (operation ∷ 3 ∷ 16 ∷ 0 ∷ 3 ∷ 3 ∷ []) ⟼ 4 ∷ 0 ∷ 0 ∷ 0 ∷ []) ((1 ∷ 3 ∷ []) ∷ [])
    (row (operation ∷ 3 ∷ 16 ∷ 0 ∷ 3 ∷ 3 ∷ []) ⟼ 8 ∷ 0 ∷ 0 ∷ 0 ∷ []))
    ∷ []

-- ---- 11: insert region; 7, 14 below
abbrev pub insert_region : List Order
insert_region =
    -- 8, 6
    (in_row owned
    (row (11 ∷ 1 ∷ 17 ∷ 0 ∷ 3 ∷ 3 ∷ []) ⟼ 8 ∷ 0 ∷ 0 ∷ 0 ∷ [])
    (row (unit_row 11) ⟼ 6 ∷ 0 ∷ 0 ∷ 0 ∷ []))
    -- 6 at page 2, 10 at page 0
    ∷ (in_state (two ++ ((3 ∷ 2 ∷ 2 ∷ []) ∷ (3 ∷ 1 ∷ 8 ∷ []) ∷ (7 ∷ 1 ∷ 16 ∷ 8 ∷ 1 ∷ 0 ∷ []) ∷ []))
    (row (unit_row 11) ⟼ 6 ∷ 2 ∷ 0 ∷ 0 ∷ []) ((4 ∷ 2 ∷ 2 ∷ []) ∷ [])
    (row (unit_row 11) ⟼ 10 ∷ 0 ∷ 0 ∷ 0 ∷ []))
    -- 10, 7
    ∷ (in_state (other_dma_in ++ ((3 ∷ 1 ∷ 8 ∷ []) ∷ (7 ∷ 1 ∷ 18 ∷ 8 ∷ 1 ∷ 0 ∷ []) ∷ []))
    (row (unit_row 11) ⟼ 10 ∷ 2 ∷ 0 ∷ 0 ∷ []) ((9 ∷ 1 ∷ 18 ∷ []) ∷ [])
    (row (unit_row 11) ⟼ 7 ∷ 2 ∷ 0 ∷ 0 ∷ []))
    ∷ []

-- ---- 12: remove region
abbrev pub remove_region : List Order
remove_region =
    -- 8, 6
    (in_row two
    (row (12 ∷ 1 ∷ 17 ∷ 0 ∷ 3 ∷ 3 ∷ []) ⟼ 8 ∷ 0 ∷ 0 ∷ 0 ∷ [])
    (row (unit_row 12) ⟼ 6 ∷ 0 ∷ 0 ∷ 0 ∷ []))
    -- 6 at page 1, 9 at page 0
    ∷ (in_state (cpu_in ++ ((9 ∷ 1 ∷ 16 ∷ []) ∷ (9 ∷ 1 ∷ 17 ∷ []) ∷ (4 ∷ 1 ∷ 1 ∷ []) ∷ []))
    (row (unit_row 12) ⟼ 6 ∷ 1 ∷ 0 ∷ 0 ∷ []) ((3 ∷ 1 ∷ 1 ∷ []) ∷ [])
    (row (unit_row 12) ⟼ 9 ∷ 0 ∷ 0 ∷ 0 ∷ []))
    -- 9 at page 2, 11 by another mapping at page 0
    ∷ (in_state (cpu_in ++ ((9 ∷ 1 ∷ 18 ∷ []) ∷ (7 ∷ 1 ∷ 40 ∷ 0 ∷ 1 ∷ 0 ∷ []) ∷ []))
    (row (unit_row 12) ⟼ 9 ∷ 2 ∷ 0 ∷ 0 ∷ []) ((7 ∷ 1 ∷ 18 ∷ 2 ∷ 3 ∷ 0 ∷ []) ∷ [])
    (row (unit_row 12) ⟼ 11 ∷ 0 ∷ 0 ∷ 0 ∷ []))
    -- 9 at page 2, 11 by an edge at page 1
    ∷ (in_state (cpu_in ++ ((9 ∷ 1 ∷ 18 ∷ []) ∷ (5 ∷ 1 ∷ 2 ∷ 1 ∷ []) ∷ []))
    (row (unit_row 12) ⟼ 9 ∷ 2 ∷ 0 ∷ 0 ∷ []) ((7 ∷ 1 ∷ 18 ∷ 2 ∷ 3 ∷ 0 ∷ []) ∷ [])
    (row (unit_row 12) ⟼ 11 ∷ 1 ∷ 0 ∷ 0 ∷ []))
    ∷ []

-- ---- 13: DMA insert region; 7, 14 below
abbrev pub dma_insert_region : List Order
dma_insert_region =
    -- 8, 10
    (in_row (two ++ ((8 ∷ 1 ∷ 17 ∷ 15 ∷ 1 ∷ 0 ∷ []) ∷ []))
    (row (13 ∷ 1 ∷ 17 ∷ 0 ∷ 3 ∷ 3 ∷ []) ⟼ 8 ∷ 0 ∷ 0 ∷ 0 ∷ [])
    (row (unit_row 13) ⟼ 10 ∷ 1 ∷ 0 ∷ 0 ∷ []))
    -- 10 at page 2, 7 of another VM's CPU page at page 0
    ∷ (in_state (two ++ ((3 ∷ 2 ∷ 0 ∷ []) ∷ (8 ∷ 1 ∷ 18 ∷ 15 ∷ 1 ∷ 0 ∷ []) ∷ []))
    (row (unit_row 13) ⟼ 10 ∷ 2 ∷ 0 ∷ 0 ∷ []) ((10 ∷ 1 ∷ 18 ∷ []) ∷ [])
    (row (unit_row 13) ⟼ 7 ∷ 0 ∷ 0 ∷ 0 ∷ []))
    ∷ []

-- ---- 14: DMA remove region
abbrev pub dma_remove_region : List Order
dma_remove_region =
    -- 8, 6
    (in_row two
    (row (14 ∷ 1 ∷ 17 ∷ 0 ∷ 3 ∷ 3 ∷ []) ⟼ 8 ∷ 0 ∷ 0 ∷ 0 ∷ [])
    (row (unit_row 14) ⟼ 6 ∷ 0 ∷ 0 ∷ 0 ∷ []))
    -- 6 at page 1, 9 at page 0
    ∷ (in_state dma_in
    (row (14 ∷ 1 ∷ 24 ∷ 2 ∷ 2 ∷ 3 ∷ []) ⟼ 6 ∷ 1 ∷ 0 ∷ 0 ∷ []) ((13 ∷ 1 ∷ 24 ∷ 2 ∷ 2 ∷ 3 ∷ []) ∷ (10 ∷ 1 ∷ 24 ∷ []) ∷ [])
    (row (14 ∷ 1 ∷ 24 ∷ 2 ∷ 2 ∷ 3 ∷ []) ⟼ 9 ∷ 0 ∷ 0 ∷ 0 ∷ []))
    -- 9 at page 2, 11 at page 0
    ∷ (in_state (dma_in ++ ((10 ∷ 1 ∷ 18 ∷ []) ∷ (8 ∷ 1 ∷ 40 ∷ 0 ∷ 1 ∷ 0 ∷ []) ∷ []))
    (row (unit_row 14) ⟼ 9 ∷ 2 ∷ 0 ∷ 0 ∷ []) ((8 ∷ 1 ∷ 18 ∷ 2 ∷ 3 ∷ 0 ∷ []) ∷ [])
    (row (unit_row 14) ⟼ 11 ∷ 0 ∷ 0 ∷ 0 ∷ []))
    ∷ []

-- ---- 15, 16: switch, bind
abbrev pub port : ℕ → List Order
port operation =
    -- 2, 4
    (in_row two
    (row (operation ∷ 8 ∷ 3 ∷ []) ⟼ 2 ∷ 0 ∷ 0 ∷ 0 ∷ [])
    (row (operation ∷ 0 ∷ 3 ∷ []) ⟼ 4 ∷ 0 ∷ 0 ∷ 0 ∷ []))
    ∷ []

-- ---- 17, 18: fill; port 1 is idle, and no VM has a mapping at guest page 43
abbrev pub fill : List (List ℕ) → ℕ → ℕ → List Order
fill way switch operation =
    -- 2, 15
    (in_row way
    (row (operation ∷ 1 ∷ GUEST_PAGES ∷ []) ⟼ 2 ∷ 0 ∷ 0 ∷ 0 ∷ [])
    (row (operation ∷ 1 ∷ 40 ∷ []) ⟼ 15 ∷ 0 ∷ 0 ∷ 0 ∷ []))
    -- 15, 9
    ∷ (in_state way
    (row (operation ∷ 1 ∷ 43 ∷ []) ⟼ 15 ∷ 0 ∷ 0 ∷ 0 ∷ []) ((switch ∷ 1 ∷ 1 ∷ []) ∷ [])
    (row (operation ∷ 1 ∷ 43 ∷ []) ⟼ 9 ∷ 0 ∷ 0 ∷ 0 ∷ []))
    ∷ []

-- ---- 19, 20: empty a slot, which only 2 refuses

-- ---- 21 to 24: read, which ignores the value, and write. Not 9 and 16, nor 15 and 16: without an entry there is no access to lack; so 2
-- is set against 16, at a guest page whose entry lacks the bit
abbrev pub access : List (List ℕ) → ℕ → ℕ → ℕ → List Order
access way switch lacking operation =
    -- 2, 15
    (in_row way
    (row (operation ∷ 1 ∷ 40 ∷ PAGE_WORDS ∷ 9 ∷ []) ⟼ 2 ∷ 0 ∷ 0 ∷ 0 ∷ [])
    (row (operation ∷ 1 ∷ 40 ∷ 511 ∷ 9 ∷ []) ⟼ 15 ∷ 0 ∷ 0 ∷ 0 ∷ []))
    -- 15, 9
    ∷ (in_state way
    (row (operation ∷ 1 ∷ 43 ∷ 511 ∷ 9 ∷ []) ⟼ 15 ∷ 0 ∷ 0 ∷ 0 ∷ []) ((switch ∷ 1 ∷ 1 ∷ []) ∷ [])
    (row (operation ∷ 1 ∷ 43 ∷ 511 ∷ 9 ∷ []) ⟼ 9 ∷ 0 ∷ 0 ∷ 0 ∷ []))
    -- 2, 16
    ∷ (in_row way
    (row (operation ∷ 0 ∷ lacking ∷ PAGE_WORDS ∷ 9 ∷ []) ⟼ 2 ∷ 0 ∷ 0 ∷ 0 ∷ [])
    (row (operation ∷ 0 ∷ lacking ∷ 511 ∷ 9 ∷ []) ⟼ 16 ∷ 0 ∷ 0 ∷ 0 ∷ []))
    ∷ []

-- ---- 25, 26: barriers, which nothing refuses

-- ---- all of them
abbrev pub orders : List Order
orders =
    remove_vm 2
    ++ assign_page
    ++ reclaim_page
    ++ share_page
    ++ unshare_page
    ++ map_page 7
    ++ map_page 8
    ++ unmap 9
    ++ unmap 10
    ++ region 11
    ++ insert_region
    ++ region 12
    ++ remove_region
    ++ region 13
    ++ dma_insert_region
    ++ region 14
    ++ dma_remove_region
    ++ port 15
    ++ port 16
    ++ fill running 15 17
    ++ fill bound 16 18
    ++ access running 15 41 21
    ++ access bound 16 41 22
    ++ access running 15 42 23
    ++ access bound 16 42 24
    ++ remove_vm 27

-- both causes hold in every state, and the earlier is answered
pub in_order : map (played_both sixteen) orders ≡ map expected_both orders
unfolding computes sixteen
in_order = refl

-- ---- 14 of 7, 8, 11 and 13 comes last: mappings of VM 2 fill both maps, for CPU onto its page 8, for DMA onto the shared span, and
-- it holds pages 2 and 3 for DMA
unfoldable pub before_packed : State
before_packed = reached sixteen (other_dma_in ++ ((3 ∷ 2 ∷ 8 ∷ []) ∷ []))

abbrev pub packed : State
packed = with_full_maps before_packed 2 8 15

-- VM 2's DMA region goes, which its mappings must first match
abbrev pub dma_out : List (List ℕ)
dma_out = (8 ∷ 2 ∷ 16 ∷ 2 ∷ 3 ∷ 0 ∷ []) ∷ (8 ∷ 2 ∷ 17 ∷ 3 ∷ 3 ∷ 0 ∷ []) ∷ (14 ∷ 2 ∷ 16 ∷ 2 ∷ 2 ∷ 3 ∷ []) ∷ []

abbrev pub packed_orders : List Order
packed_orders =
    -- 7 and 8: 6, 14
    (in_row []
    (row (7 ∷ 2 ∷ ENTRIES ∷ 9 ∷ 3 ∷ 0 ∷ []) ⟼ 6 ∷ 0 ∷ 0 ∷ 0 ∷ [])
    (row (7 ∷ 2 ∷ ENTRIES ∷ 8 ∷ 3 ∷ 0 ∷ []) ⟼ 14 ∷ 0 ∷ 0 ∷ 0 ∷ []))
    ∷ (in_row []
    (row (8 ∷ 1 ∷ 40 ∷ 2 ∷ 3 ∷ 0 ∷ []) ⟼ 6 ∷ 0 ∷ 0 ∷ 0 ∷ [])
    (row (8 ∷ 1 ∷ 40 ∷ 15 ∷ 3 ∷ 0 ∷ []) ⟼ 14 ∷ 0 ∷ 0 ∷ 0 ∷ []))
    -- 11 and 13: 7, 14
    ∷ (in_state []
    (row (unit_row 11) ⟼ 7 ∷ 2 ∷ 0 ∷ 0 ∷ []) dma_out
    (row (unit_row 11) ⟼ 14 ∷ 0 ∷ 0 ∷ 0 ∷ []))
    ∷ (in_state []
    (row (unit_row 13) ⟼ 7 ∷ 2 ∷ 0 ∷ 0 ∷ []) dma_out
    (row (unit_row 13) ⟼ 14 ∷ 0 ∷ 0 ∷ 0 ∷ []))
    ∷ []

pub packed_in_order : map (played_both packed) packed_orders ≡ map expected_both packed_orders
unfolding computes sixteen before_packed mappings_from
packed_in_order = refl

-- ---- none is left out: of the neighbours in each operation's list, only those are not shown that no valid state has together
-- an operation and two numbers as one number; 0 for rows of two operations
abbrev pub link : ℕ → ℕ → ℕ → ℕ
link operation earlier later = (operation * 17 + earlier) * 17 + later

abbrev pub link_of : Order → ℕ
link_of order =
    if eqb (operation_said order.both.said) (operation_said order.alone.said) then link (operation_said order.both.said) (get_or order.both.heard 0 0) (get_or order.alone.heard 0 0)
    else 0

abbrev pub links_from : ℕ → ℕ → List ℕ → List ℕ
links_from operation earlier [] = []
links_from operation earlier (later ∷ rest) = link operation earlier later ∷ links_from operation later rest

-- the neighbours in the lists of the n operations from one on
abbrev pub links_in : ℕ → List ℕ → List ℕ
links_in operation [] = []
links_in operation (earlier ∷ rest) = links_from operation earlier rest

abbrev pub links_of : ℕ → ℕ → List ℕ
links_of operation zero = []
links_of operation (suc n) = links_in operation (listed operation) ++ links_of (suc operation) n

abbrev pub without : List ℕ → List ℕ → List ℕ
without shown [] = []
without shown (l ∷ ls) = if is_in shown l then without shown ls else l ∷ without shown ls

pub neighbours_shown : without (map link_of (orders ++ packed_orders)) (links_of 1 operations) ≡ link 1 2 5 ∷ link 2 4 13 ∷ link 21 9 16 ∷ link 22 9 16 ∷ link 23 9 16 ∷ link 24 9 16 ∷ link 27 4 13 ∷ []
unfolding refusal_lists
neighbours_shown = refl

-- of 4 and 13: in valid tables a VM that has a page, a mapping, an edge, a CPU or a device is known
pub named_known : (t : Tables) → ValidTables t → (vm : ℕ) → vm < VMS → Named t vm → knows t.known vm ≡ true
named_known t v vm l (by_claim Cpu page h e) = v.pages.cpu_known vm page l h e
named_known t v vm l (by_claim Dma page h e) = v.pages.dma_known vm page l h e
named_known t v vm l (by_entry side w h f e) = rw e at ((route_of_lem side t v).map.each w h).vm
named_known t v vm l (by_pair w h f (inl e)) = rw e at (v.pairs.each w h).left
named_known t v vm l (by_pair w h f (inr e)) = rw e at (v.pairs.each w h).right
named_known t v vm l (by_port side port h e) = ⊎_elim (λ idle. absurd (omega (arith, e))) (λ k. rw e at k) ((route_of_lem side t v).ports port h)

-- ---- every state of these is valid
before_packed_pages : before_packed.tables.setup.pages ≡ 16
unfolding computes sixteen before_packed
before_packed_pages = refl

before_packed_known : knows before_packed.tables.known 2 ≡ true
unfolding computes sixteen before_packed
before_packed_known = refl

before_packed_may : (may_map Cpu before_packed.tables.sets before_packed.tables.pairs 2 8 ≡ true) × (may_map Dma before_packed.tables.sets before_packed.tables.pairs 2 15 ≡ true)
unfolding computes sixteen before_packed
before_packed_may = (refl, refl)

before_packed_valid : Valid before_packed
unfolding before_packed
before_packed_valid = (all_valid (other_dma_in ++ ((3 ∷ 2 ∷ 8 ∷ []) ∷ []))).0

packed_valid : Valid packed
packed_valid = full_maps_valid before_packed before_packed_valid 2 8 15 (omega arith) (omega (arith, before_packed_pages)) (omega (arith, before_packed_pages)) before_packed_known before_packed_may

pub orders_valid : (way : List (List ℕ)) → Valid (reached sixteen way) × Valid (reached packed way)
orders_valid way = ((all_valid way).0, reached_valid way packed packed_valid)
