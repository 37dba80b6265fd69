-- Every operation accepted, and refused for every cause that the paper lists, each in a computed valid state
-- (docs/MACHINE.md, 7). An answer is the paper's four numbers: refusal, index, dropped slots, word. The comment at a scene
-- names its refusals in the order of its lines, each with its causes. The lists that they are held against at the end stand in
-- AnswerNumbers.
use Prim.Native.Nat.{ℕ, zero, suc, ◌+◌, ◌*◌, ◌/◌, ◌%◌, ◌-◌}
use mathlib.Core.Bool.{Bool, true}
use mathlib.Core.List.{List, [], ◌∷◌, ◌++◌, map}
use mathlib.Core.Path.{◌≡◌, refl}
use native.Mathlib.Omega.{arith}
use lib.ListN.{get_or, replicate}
use Rattle.std.specs.Prelude.{if◌then◌else◌}
use Rattle.numbers.specs.Limits.{PAGE_WORDS, IDLE, VMS, PORTS, GUEST_PAGES, ACCESSES, GENERATIONS, ENTRIES, SLOTS, PAIRS}
use Rattle.numbers.specs.declared.Side.TheVariants.{Cpu, Dma}
use Rattle.model.specs.State.{State}
use Rattle.model.specs.Views.{knows, may_map}
use Rattle.model.specs.Effect.{accepted}
use Rattle.model.specs.Start.{Told, start_answer, start}
use Rattle.model.specs.Header.{Lists}
use Rattle.model.specs.Sequence.{step_row}
use Rattle.model.specs.Valid.{Valid}
use Rattle.model.proofs.Computes.{computes}
use Rattle.model.proofs.Worked.{Said, row, query, Line, ◌⟼◌, heard_in, hear, answers, lent}
use Rattle.model.proofs.StartKept.{start_valid}
use Rattle.model.proofs.Kept.{row_valid}
use Rattle.model.proofs.FullMaps.{mappings_from, with_full_maps, full_maps_valid}
use Rattle.model.proofs.AnswerNumbers.{is_in, refusal_lists, listed, operations}

-- ---- a scene: rows, all accepted, that lead to a state, and lines, each of them said in that state
pub record Scene : Type 0 where
  pub way : List (List ℕ)
  pub lines : List Line

infix 3 ◌▸◌
abbrev pub ◌▸◌ : List (List ℕ) → List Line → Scene
way ▸ lines = record { way = way; lines = lines }

abbrev pub reached : State → List (List ℕ) → State
reached s [] = s
reached s (r ∷ rs) = reached (step_row s r).state rs

abbrev pub accepting : List ℕ → Line
accepting r = row r ⟼ 0 ∷ 0 ∷ 0 ∷ 0 ∷ []

abbrev pub answer_in : State → Line → List ℕ
answer_in s line = (hear s line.said).numbers

-- what the machine answers to the way and then to each line, and what the scene says of it
abbrev pub played : State → Scene → List (List ℕ)
played s scene = answers s (map accepting scene.way) ++ map (answer_in (reached s scene.way)) scene.lines

abbrev pub expected : Scene → List (List ℕ)
expected scene = map heard_in (map accepting scene.way) ++ map heard_in scene.lines

-- ---- a machine of sixteen pages, the last of them the shared span. Its units are pages 0 to 2 of VM 1, for both sides; 2 and
-- 3 of VM 2, and of VM 1 at other guest pages, for DMA; 14 and 15 of VM 1, for both sides; 4 of VM 2, for CPU
abbrev pub sixteen_pages : Told
sixteen_pages =
    record {
      pages = 16;
      shared_base = 15;
      shared_count = 1;
      units =
          1 ∷ 16 ∷ 0 ∷ 3 ∷ 3 ∷ 3
          ∷ 2 ∷ 16 ∷ 2 ∷ 2 ∷ 3 ∷ 2
          ∷ 1 ∷ 24 ∷ 2 ∷ 2 ∷ 3 ∷ 2
          ∷ 1 ∷ 32 ∷ 14 ∷ 2 ∷ 3 ∷ 3
          ∷ 2 ∷ 48 ∷ 4 ∷ 1 ∷ 1 ∷ 1
          ∷ [];
    }

-- what the worked table's machine is lent, with memory for sixteen pages
abbrev pub sixteen_lent : Lists
sixteen_lent =
    record {
      sets = lent.sets;
      pairs = lent.pairs;
      cpu_map = lent.cpu_map;
      cpu_walker = lent.cpu_walker;
      cpu_cache = lent.cpu_cache;
      dma_map = lent.dma_map;
      dma_walker = lent.dma_walker;
      dma_cache = lent.dma_cache;
      memory = replicate (PAGE_WORDS * 16) 7;
    }

unfoldable pub sixteen : State
sixteen = (start sixteen_pages sixteen_lent).state

-- a region operation on the first unit
abbrev pub unit_row : ℕ → List ℕ
unit_row operation = operation ∷ 1 ∷ 16 ∷ 0 ∷ 3 ∷ 3 ∷ []

-- ---- ways that several operations take
-- VMs 1 and 2 are known; and VM 1 has page 0; and shares it with VM 2
abbrev pub two : List (List ℕ)
two = (1 ∷ 1 ∷ []) ∷ (1 ∷ 2 ∷ []) ∷ []

abbrev pub owned : List (List ℕ)
owned = two ++ ((3 ∷ 1 ∷ 0 ∷ []) ∷ [])

abbrev pub shared : List (List ℕ)
shared = owned ++ ((5 ∷ 1 ∷ 2 ∷ 0 ∷ []) ∷ [])

-- VM 1 maps guest page 40, for CPU onto its page 0; for DMA onto the shared span
abbrev pub mapped : List (List ℕ)
mapped = owned ++ ((7 ∷ 1 ∷ 40 ∷ 0 ∷ 3 ∷ 0 ∷ []) ∷ [])

abbrev pub dma_mapped : List (List ℕ)
dma_mapped = two ++ ((8 ∷ 1 ∷ 40 ∷ 15 ∷ 3 ∷ 0 ∷ []) ∷ [])

-- the first unit is in for CPU; it is in for DMA; the second, of VM 2, is in for DMA
abbrev pub cpu_in : List (List ℕ)
cpu_in = two ++ (unit_row 11 ∷ [])

abbrev pub dma_in : List (List ℕ)
dma_in = two ++ (unit_row 13 ∷ [])

abbrev pub other_dma_in : List (List ℕ)
other_dma_in = two ++ ((13 ∷ 2 ∷ 16 ∷ 2 ∷ 2 ∷ 3 ∷ []) ∷ [])

-- CPU 0, then device 0, is on VM 1 and has written a 9 at guest page 40; guest page 41 is for writing only, 42 for reading only
abbrev pub running : List (List ℕ)
running =
    mapped
    ++ ((7 ∷ 1 ∷ 41 ∷ 0 ∷ 2 ∷ 0 ∷ [])
    ∷ (7 ∷ 1 ∷ 42 ∷ 0 ∷ 1 ∷ 0 ∷ [])
    ∷ (15 ∷ 0 ∷ 1 ∷ [])
    ∷ (23 ∷ 0 ∷ 40 ∷ (PAGE_WORDS - 1) ∷ 9 ∷ [])
    ∷ [])

abbrev pub bound : List (List ℕ)
bound =
    dma_mapped
    ++ ((8 ∷ 1 ∷ 41 ∷ 15 ∷ 2 ∷ 0 ∷ [])
    ∷ (8 ∷ 1 ∷ 42 ∷ 15 ∷ 1 ∷ 0 ∷ [])
    ∷ (16 ∷ 0 ∷ 1 ∷ [])
    ∷ (24 ∷ 0 ∷ 40 ∷ (PAGE_WORDS - 1) ∷ 9 ∷ [])
    ∷ [])

-- every pair is taken: VM 0 shares nine pages, eight with all the others and one with eight of them
abbrev pub rows_below : (ℕ → List ℕ) → ℕ → List (List ℕ)
rows_below f zero = []
rows_below f (suc n) = f n ∷ rows_below f n

abbrev pub pairs_full : List (List ℕ)
pairs_full =
    rows_below (λ vm. 1 ∷ vm ∷ []) 16
    ++ rows_below (λ page. 3 ∷ 0 ∷ page ∷ []) 9
    ++ rows_below (λ k. 5 ∷ 0 ∷ (k % 15 + 1) ∷ (k / 15) ∷ []) PAIRS

-- ---- 1: add VM
abbrev pub add_vm : List Scene
add_vm =
    -- accepted; 2 by VM
    ([] ▸
    (row (1 ∷ 1 ∷ []) ⟼ 0 ∷ 0 ∷ 0 ∷ 0 ∷ [])
    ∷ (row (1 ∷ VMS ∷ []) ⟼ 2 ∷ 0 ∷ 0 ∷ 0 ∷ [])
    ∷ [])
    -- 5
    ∷ (two ▸ (row (1 ∷ 1 ∷ []) ⟼ 5 ∷ 0 ∷ 0 ∷ 0 ∷ []) ∷ [])
    ∷ []

-- ---- 2: remove VM
abbrev pub remove_vm : List Scene
remove_vm =
    -- accepted; 2 by VM; 4
    (two ▸
    (row (2 ∷ 1 ∷ []) ⟼ 0 ∷ 0 ∷ 0 ∷ 0 ∷ [])
    ∷ (row (2 ∷ VMS ∷ []) ⟼ 2 ∷ 0 ∷ 0 ∷ 0 ∷ [])
    ∷ (row (2 ∷ 3 ∷ []) ⟼ 4 ∷ 0 ∷ 0 ∷ 0 ∷ [])
    ∷ [])
    -- 13 by CPU pages
    ∷ (owned ▸ (row (2 ∷ 1 ∷ []) ⟼ 13 ∷ 0 ∷ 0 ∷ 0 ∷ []) ∷ [])
    -- 13 by DMA pages, which outlive their mappings
    ∷ (other_dma_in ++ ((10 ∷ 2 ∷ 16 ∷ []) ∷ (10 ∷ 2 ∷ 17 ∷ []) ∷ []) ▸ (row (2 ∷ 2 ∷ []) ⟼ 13 ∷ 0 ∷ 0 ∷ 0 ∷ []) ∷ [])
    -- 13 by CPU mappings, which no valid state has without a page or an edge
    ∷ (shared ++ ((7 ∷ 2 ∷ 40 ∷ 0 ∷ 1 ∷ 0 ∷ []) ∷ []) ▸ (row (2 ∷ 2 ∷ []) ⟼ 13 ∷ 0 ∷ 0 ∷ 0 ∷ []) ∷ [])
    -- 13 by DMA mappings
    ∷ (dma_mapped ▸ (row (2 ∷ 1 ∷ []) ⟼ 13 ∷ 0 ∷ 0 ∷ 0 ∷ []) ∷ [])
    -- 13 by edges
    ∷ (shared ▸ (row (2 ∷ 2 ∷ []) ⟼ 13 ∷ 0 ∷ 0 ∷ 0 ∷ []) ∷ [])
    -- 13 by a CPU
    ∷ (two ++ ((15 ∷ 0 ∷ 1 ∷ []) ∷ []) ▸ (row (2 ∷ 1 ∷ []) ⟼ 13 ∷ 0 ∷ 0 ∷ 0 ∷ []) ∷ [])
    -- 13 by a device
    ∷ (two ++ ((16 ∷ 7 ∷ 1 ∷ []) ∷ []) ▸ (row (2 ∷ 1 ∷ []) ⟼ 13 ∷ 0 ∷ 0 ∷ 0 ∷ []) ∷ [])
    ∷ []

-- ---- 3: assign page
abbrev pub assign_page : List Scene
assign_page =
    -- accepted; 2 by VM, by page; 4; 6 of the shared span
    (two ▸
    (row (3 ∷ 1 ∷ 0 ∷ []) ⟼ 0 ∷ 0 ∷ 0 ∷ 0 ∷ [])
    ∷ (row (3 ∷ VMS ∷ 0 ∷ []) ⟼ 2 ∷ 0 ∷ 0 ∷ 0 ∷ [])
    ∷ (row (3 ∷ 1 ∷ 16 ∷ []) ⟼ 2 ∷ 0 ∷ 0 ∷ 0 ∷ [])
    ∷ (row (3 ∷ 3 ∷ 0 ∷ []) ⟼ 4 ∷ 0 ∷ 0 ∷ 0 ∷ [])
    ∷ (row (3 ∷ 1 ∷ 15 ∷ []) ⟼ 6 ∷ 0 ∷ 0 ∷ 0 ∷ [])
    ∷ [])
    -- 6 of its own page, of another VM's
    ∷ (owned ▸
    (row (3 ∷ 1 ∷ 0 ∷ []) ⟼ 6 ∷ 0 ∷ 0 ∷ 0 ∷ [])
    ∷ (row (3 ∷ 2 ∷ 0 ∷ []) ⟼ 6 ∷ 0 ∷ 0 ∷ 0 ∷ [])
    ∷ [])
    -- 7; its own DMA page is accepted
    ∷ (other_dma_in ▸
    (row (3 ∷ 1 ∷ 2 ∷ []) ⟼ 7 ∷ 0 ∷ 0 ∷ 0 ∷ [])
    ∷ (row (3 ∷ 2 ∷ 2 ∷ []) ⟼ 0 ∷ 0 ∷ 0 ∷ 0 ∷ [])
    ∷ [])
    ∷ []

-- ---- 4: reclaim page
abbrev pub reclaim_page : List Scene
reclaim_page =
    -- accepted; 2 by VM, by page; 4; 6 of the pool, of another VM's
    (owned ▸
    (row (4 ∷ 1 ∷ 0 ∷ []) ⟼ 0 ∷ 0 ∷ 0 ∷ 0 ∷ [])
    ∷ (row (4 ∷ VMS ∷ 0 ∷ []) ⟼ 2 ∷ 0 ∷ 0 ∷ 0 ∷ [])
    ∷ (row (4 ∷ 1 ∷ 16 ∷ []) ⟼ 2 ∷ 0 ∷ 0 ∷ 0 ∷ [])
    ∷ (row (4 ∷ 3 ∷ 0 ∷ []) ⟼ 4 ∷ 0 ∷ 0 ∷ 0 ∷ [])
    ∷ (row (4 ∷ 1 ∷ 1 ∷ []) ⟼ 6 ∷ 0 ∷ 0 ∷ 0 ∷ [])
    ∷ (row (4 ∷ 2 ∷ 0 ∷ []) ⟼ 6 ∷ 0 ∷ 0 ∷ 0 ∷ [])
    ∷ [])
    -- 11 by a mapping
    ∷ (mapped ▸ (row (4 ∷ 1 ∷ 0 ∷ []) ⟼ 11 ∷ 0 ∷ 0 ∷ 0 ∷ []) ∷ [])
    -- 11 by an edge
    ∷ (shared ▸ (row (4 ∷ 1 ∷ 0 ∷ []) ⟼ 11 ∷ 0 ∷ 0 ∷ 0 ∷ []) ∷ [])
    ∷ []

-- ---- 5: share
abbrev pub share_page : List Scene
share_page =
    -- accepted; 2 by left, by right, by page; 4 by left, by right; 12; 6 of the pool, of the right one's page
    (owned ▸
    (row (5 ∷ 1 ∷ 2 ∷ 0 ∷ []) ⟼ 0 ∷ 0 ∷ 0 ∷ 0 ∷ [])
    ∷ (row (5 ∷ VMS ∷ 2 ∷ 0 ∷ []) ⟼ 2 ∷ 0 ∷ 0 ∷ 0 ∷ [])
    ∷ (row (5 ∷ 1 ∷ VMS ∷ 0 ∷ []) ⟼ 2 ∷ 0 ∷ 0 ∷ 0 ∷ [])
    ∷ (row (5 ∷ 1 ∷ 2 ∷ 16 ∷ []) ⟼ 2 ∷ 0 ∷ 0 ∷ 0 ∷ [])
    ∷ (row (5 ∷ 3 ∷ 2 ∷ 0 ∷ []) ⟼ 4 ∷ 0 ∷ 0 ∷ 0 ∷ [])
    ∷ (row (5 ∷ 1 ∷ 3 ∷ 0 ∷ []) ⟼ 4 ∷ 0 ∷ 0 ∷ 0 ∷ [])
    ∷ (row (5 ∷ 1 ∷ 1 ∷ 0 ∷ []) ⟼ 12 ∷ 0 ∷ 0 ∷ 0 ∷ [])
    ∷ (row (5 ∷ 1 ∷ 2 ∷ 1 ∷ []) ⟼ 6 ∷ 0 ∷ 0 ∷ 0 ∷ [])
    ∷ (row (5 ∷ 2 ∷ 1 ∷ 0 ∷ []) ⟼ 6 ∷ 0 ∷ 0 ∷ 0 ∷ [])
    ∷ [])
    -- 14; a pair that is stored already is accepted
    ∷ (pairs_full ▸
    (row (5 ∷ 0 ∷ 9 ∷ 8 ∷ []) ⟼ 14 ∷ 0 ∷ 0 ∷ 0 ∷ [])
    ∷ (row (5 ∷ 0 ∷ 8 ∷ 8 ∷ []) ⟼ 0 ∷ 0 ∷ 0 ∷ 0 ∷ [])
    ∷ [])
    -- an emptied place counts as free
    ∷ (pairs_full ++ ((6 ∷ 1 ∷ 0 ∷ 0 ∷ []) ∷ []) ▸ (row (5 ∷ 0 ∷ 9 ∷ 8 ∷ []) ⟼ 0 ∷ 0 ∷ 0 ∷ 0 ∷ []) ∷ [])
    ∷ []

-- ---- 6: unshare
abbrev pub unshare_page : List Scene
unshare_page =
    -- accepted in either order; 2 by left, by right, by page; 4 by left, by right; 12 of another page, of one VM
    (shared ▸
    (row (6 ∷ 1 ∷ 2 ∷ 0 ∷ []) ⟼ 0 ∷ 0 ∷ 0 ∷ 0 ∷ [])
    ∷ (row (6 ∷ 2 ∷ 1 ∷ 0 ∷ []) ⟼ 0 ∷ 0 ∷ 0 ∷ 0 ∷ [])
    ∷ (row (6 ∷ VMS ∷ 2 ∷ 0 ∷ []) ⟼ 2 ∷ 0 ∷ 0 ∷ 0 ∷ [])
    ∷ (row (6 ∷ 1 ∷ VMS ∷ 0 ∷ []) ⟼ 2 ∷ 0 ∷ 0 ∷ 0 ∷ [])
    ∷ (row (6 ∷ 1 ∷ 2 ∷ 16 ∷ []) ⟼ 2 ∷ 0 ∷ 0 ∷ 0 ∷ [])
    ∷ (row (6 ∷ 3 ∷ 2 ∷ 0 ∷ []) ⟼ 4 ∷ 0 ∷ 0 ∷ 0 ∷ [])
    ∷ (row (6 ∷ 1 ∷ 3 ∷ 0 ∷ []) ⟼ 4 ∷ 0 ∷ 0 ∷ 0 ∷ [])
    ∷ (row (6 ∷ 1 ∷ 2 ∷ 1 ∷ []) ⟼ 12 ∷ 0 ∷ 0 ∷ 0 ∷ [])
    ∷ (row (6 ∷ 1 ∷ 1 ∷ 0 ∷ []) ⟼ 12 ∷ 0 ∷ 0 ∷ 0 ∷ [])
    ∷ [])
    -- 11 by the right end, by the left end
    ∷ (shared ++ ((7 ∷ 2 ∷ 40 ∷ 0 ∷ 1 ∷ 0 ∷ []) ∷ []) ▸
    (row (6 ∷ 1 ∷ 2 ∷ 0 ∷ []) ⟼ 11 ∷ 0 ∷ 0 ∷ 0 ∷ [])
    ∷ (row (6 ∷ 2 ∷ 1 ∷ 0 ∷ []) ⟼ 11 ∷ 0 ∷ 0 ∷ 0 ∷ [])
    ∷ [])
    -- the owner's mapping does not count
    ∷ (shared ++ ((7 ∷ 1 ∷ 40 ∷ 0 ∷ 1 ∷ 0 ∷ []) ∷ []) ▸ (row (6 ∷ 1 ∷ 2 ∷ 0 ∷ []) ⟼ 0 ∷ 0 ∷ 0 ∷ 0 ∷ []) ∷ [])
    ∷ []

-- ---- 7, 8: map. 2 by VM, by guest page, by page, by access, by generation; 4
abbrev pub map_early : ℕ → List Line
map_early operation =
    (row (operation ∷ VMS ∷ 40 ∷ 0 ∷ 3 ∷ 0 ∷ []) ⟼ 2 ∷ 0 ∷ 0 ∷ 0 ∷ [])
    ∷ (row (operation ∷ 1 ∷ GUEST_PAGES ∷ 0 ∷ 3 ∷ 0 ∷ []) ⟼ 2 ∷ 0 ∷ 0 ∷ 0 ∷ [])
    ∷ (row (operation ∷ 1 ∷ 40 ∷ 16 ∷ 3 ∷ 0 ∷ []) ⟼ 2 ∷ 0 ∷ 0 ∷ 0 ∷ [])
    ∷ (row (operation ∷ 1 ∷ 40 ∷ 0 ∷ ACCESSES ∷ 0 ∷ []) ⟼ 2 ∷ 0 ∷ 0 ∷ 0 ∷ [])
    ∷ (row (operation ∷ 1 ∷ 40 ∷ 0 ∷ 3 ∷ GENERATIONS ∷ []) ⟼ 2 ∷ 0 ∷ 0 ∷ 0 ∷ [])
    ∷ (row (operation ∷ 3 ∷ 40 ∷ 0 ∷ 3 ∷ 0 ∷ []) ⟼ 4 ∷ 0 ∷ 0 ∷ 0 ∷ [])
    ∷ []

-- ---- 7: CPU map
abbrev pub cpu_map : List Scene
cpu_map =
    (owned ▸ map_early 7)
    -- accepted; 6 of the pool, of the shared span, of another VM's page
    ∷ (owned ▸
    (row (7 ∷ 1 ∷ (GUEST_PAGES - 1) ∷ 0 ∷ (ACCESSES - 1) ∷ (GENERATIONS - 1) ∷ []) ⟼ 0 ∷ 0 ∷ 0 ∷ 0 ∷ [])
    ∷ (row (7 ∷ 1 ∷ 40 ∷ 1 ∷ 3 ∷ 0 ∷ []) ⟼ 6 ∷ 0 ∷ 0 ∷ 0 ∷ [])
    ∷ (row (7 ∷ 1 ∷ 40 ∷ 15 ∷ 3 ∷ 0 ∷ []) ⟼ 6 ∷ 0 ∷ 0 ∷ 0 ∷ [])
    ∷ (row (7 ∷ 2 ∷ 40 ∷ 0 ∷ 3 ∷ 0 ∷ []) ⟼ 6 ∷ 0 ∷ 0 ∷ 0 ∷ [])
    ∷ [])
    -- accepted by a pair; 6 where the pair is of two others
    ∷ (shared ++ ((1 ∷ 3 ∷ []) ∷ []) ▸
    (row (7 ∷ 2 ∷ 40 ∷ 0 ∷ 3 ∷ 0 ∷ []) ⟼ 0 ∷ 0 ∷ 0 ∷ 0 ∷ [])
    ∷ (row (7 ∷ 3 ∷ 40 ∷ 0 ∷ 3 ∷ 0 ∷ []) ⟼ 6 ∷ 0 ∷ 0 ∷ 0 ∷ [])
    ∷ [])
    ∷ []

-- ---- 8: DMA map
abbrev pub dma_map : List Scene
dma_map =
    (dma_in ▸ map_early 8)
    -- accepted, on a DMA page, on the shared span; 6 of the pool, of another VM's DMA page
    ∷ (dma_in ▸
    (row (8 ∷ 1 ∷ (GUEST_PAGES - 1) ∷ 0 ∷ (ACCESSES - 1) ∷ (GENERATIONS - 1) ∷ []) ⟼ 0 ∷ 0 ∷ 0 ∷ 0 ∷ [])
    ∷ (row (8 ∷ 2 ∷ 40 ∷ 15 ∷ 3 ∷ 0 ∷ []) ⟼ 0 ∷ 0 ∷ 0 ∷ 0 ∷ [])
    ∷ (row (8 ∷ 1 ∷ 40 ∷ 3 ∷ 3 ∷ 0 ∷ []) ⟼ 6 ∷ 0 ∷ 0 ∷ 0 ∷ [])
    ∷ (row (8 ∷ 2 ∷ 40 ∷ 0 ∷ 3 ∷ 0 ∷ []) ⟼ 6 ∷ 0 ∷ 0 ∷ 0 ∷ [])
    ∷ [])
    -- 6 of its own CPU page
    ∷ (owned ▸ (row (8 ∷ 1 ∷ 40 ∷ 0 ∷ 3 ∷ 0 ∷ []) ⟼ 6 ∷ 0 ∷ 0 ∷ 0 ∷ []) ∷ [])
    ∷ []

-- ---- 9, 10: unmap. Accepted; 2 by VM, by guest page; 4; 9 at another guest page, for another VM
abbrev pub unmap_lines : ℕ → List Line
unmap_lines operation =
    (row (operation ∷ 1 ∷ 40 ∷ []) ⟼ 0 ∷ 0 ∷ 0 ∷ 0 ∷ [])
    ∷ (row (operation ∷ VMS ∷ 40 ∷ []) ⟼ 2 ∷ 0 ∷ 0 ∷ 0 ∷ [])
    ∷ (row (operation ∷ 1 ∷ GUEST_PAGES ∷ []) ⟼ 2 ∷ 0 ∷ 0 ∷ 0 ∷ [])
    ∷ (row (operation ∷ 3 ∷ 40 ∷ []) ⟼ 4 ∷ 0 ∷ 0 ∷ 0 ∷ [])
    ∷ (row (operation ∷ 1 ∷ 41 ∷ []) ⟼ 9 ∷ 0 ∷ 0 ∷ 0 ∷ [])
    ∷ (row (operation ∷ 2 ∷ 40 ∷ []) ⟼ 9 ∷ 0 ∷ 0 ∷ 0 ∷ [])
    ∷ []

abbrev pub unmap : List Scene
unmap = (mapped ▸ unmap_lines 9) ∷ (dma_mapped ▸ unmap_lines 10) ∷ []

-- ---- 11 to 14: regions. 2 by VM, by access; 3 by count, by guest page, by page, never 2 and never wrapping; 8 by each field
abbrev pub region_early : ℕ → List Line
region_early operation =
    (row (operation ∷ VMS ∷ 16 ∷ 0 ∷ 3 ∷ 3 ∷ []) ⟼ 2 ∷ 0 ∷ 0 ∷ 0 ∷ [])
    ∷ (row (operation ∷ 1 ∷ 16 ∷ 0 ∷ 3 ∷ ACCESSES ∷ []) ⟼ 2 ∷ 0 ∷ 0 ∷ 0 ∷ [])
    ∷ (row (operation ∷ 1 ∷ 16 ∷ 0 ∷ 0 ∷ 3 ∷ []) ⟼ 3 ∷ 0 ∷ 0 ∷ 0 ∷ [])
    ∷ (row (operation ∷ 1 ∷ 16 ∷ 0 ∷ 18446744073709551615 ∷ 3 ∷ []) ⟼ 3 ∷ 0 ∷ 0 ∷ 0 ∷ [])
    ∷ (row (operation ∷ 1 ∷ (GUEST_PAGES - 2) ∷ 0 ∷ 3 ∷ 3 ∷ []) ⟼ 3 ∷ 0 ∷ 0 ∷ 0 ∷ [])
    ∷ (row (operation ∷ 1 ∷ GUEST_PAGES ∷ 0 ∷ 3 ∷ 3 ∷ []) ⟼ 3 ∷ 0 ∷ 0 ∷ 0 ∷ [])
    ∷ (row (operation ∷ 1 ∷ 16 ∷ 14 ∷ 3 ∷ 3 ∷ []) ⟼ 3 ∷ 0 ∷ 0 ∷ 0 ∷ [])
    ∷ (row (operation ∷ 1 ∷ 16 ∷ 16 ∷ 3 ∷ 3 ∷ []) ⟼ 3 ∷ 0 ∷ 0 ∷ 0 ∷ [])
    ∷ (row (operation ∷ 2 ∷ 16 ∷ 0 ∷ 3 ∷ 3 ∷ []) ⟼ 8 ∷ 0 ∷ 0 ∷ 0 ∷ [])
    ∷ (row (operation ∷ 1 ∷ 17 ∷ 0 ∷ 3 ∷ 3 ∷ []) ⟼ 8 ∷ 0 ∷ 0 ∷ 0 ∷ [])
    ∷ (row (operation ∷ 1 ∷ 16 ∷ 1 ∷ 3 ∷ 3 ∷ []) ⟼ 8 ∷ 0 ∷ 0 ∷ 0 ∷ [])
    ∷ (row (operation ∷ 1 ∷ 16 ∷ 0 ∷ 2 ∷ 3 ∷ []) ⟼ 8 ∷ 0 ∷ 0 ∷ 0 ∷ [])
    ∷ (row (operation ∷ 1 ∷ 16 ∷ 0 ∷ 3 ∷ 1 ∷ []) ⟼ 8 ∷ 0 ∷ 0 ∷ 0 ∷ [])
    ∷ []

-- and 4, of a unit whose VM is not known
abbrev pub region_scenes : ℕ → List Scene
region_scenes operation = ([] ▸ (row (unit_row operation) ⟼ 4 ∷ 0 ∷ 0 ∷ 0 ∷ []) ∷ []) ∷ (two ▸ region_early operation) ∷ []

-- ---- 11: insert region
abbrev pub insert_region : List Scene
insert_region =
    region_scenes 11
    ++ (
    -- accepted; 8 by mark; 6 of the shared span
    (two ▸
    (row (unit_row 11) ⟼ 0 ∷ 0 ∷ 0 ∷ 0 ∷ [])
    ∷ (row (11 ∷ 2 ∷ 16 ∷ 2 ∷ 2 ∷ 3 ∷ []) ⟼ 8 ∷ 0 ∷ 0 ∷ 0 ∷ [])
    ∷ (row (11 ∷ 1 ∷ 32 ∷ 14 ∷ 2 ∷ 3 ∷ []) ⟼ 6 ∷ 1 ∷ 0 ∷ 0 ∷ [])
    ∷ [])
    -- 6 of its own page
    ∷ (two ++ ((3 ∷ 1 ∷ 1 ∷ []) ∷ []) ▸ (row (unit_row 11) ⟼ 6 ∷ 1 ∷ 0 ∷ 0 ∷ []) ∷ [])
    -- 6 of another VM's page, which comes before 10 at a lower one
    ∷ (two ++ ((3 ∷ 2 ∷ 2 ∷ []) ∷ (3 ∷ 1 ∷ 8 ∷ []) ∷ (7 ∷ 1 ∷ 16 ∷ 8 ∷ 1 ∷ 0 ∷ []) ∷ []) ▸ (row (unit_row 11) ⟼ 6 ∷ 2 ∷ 0 ∷ 0 ∷ []) ∷ [])
    -- 10
    ∷ (two ++ ((3 ∷ 1 ∷ 8 ∷ []) ∷ (7 ∷ 1 ∷ 17 ∷ 8 ∷ 1 ∷ 0 ∷ []) ∷ []) ▸ (row (unit_row 11) ⟼ 10 ∷ 1 ∷ 0 ∷ 0 ∷ []) ∷ [])
    -- 7
    ∷ (other_dma_in ▸ (row (unit_row 11) ⟼ 7 ∷ 2 ∷ 0 ∷ 0 ∷ []) ∷ [])
    ∷ [])

-- ---- 12: remove region
abbrev pub remove_region : List Scene
remove_region =
    region_scenes 12
    ++ (
    -- accepted
    (cpu_in ▸ (row (unit_row 12) ⟼ 0 ∷ 0 ∷ 0 ∷ 0 ∷ []) ∷ [])
    -- 8 by mark; 6 of the pool
    ∷ (two ▸
    (row (12 ∷ 2 ∷ 16 ∷ 2 ∷ 2 ∷ 3 ∷ []) ⟼ 8 ∷ 0 ∷ 0 ∷ 0 ∷ [])
    ∷ (row (unit_row 12) ⟼ 6 ∷ 0 ∷ 0 ∷ 0 ∷ [])
    ∷ [])
    -- 6 at a later page
    ∷ (cpu_in ++ ((9 ∷ 1 ∷ 17 ∷ []) ∷ (4 ∷ 1 ∷ 1 ∷ []) ∷ []) ▸ (row (unit_row 12) ⟼ 6 ∷ 1 ∷ 0 ∷ 0 ∷ []) ∷ [])
    -- 9 by an absent entry
    ∷ (cpu_in ++ ((9 ∷ 1 ∷ 18 ∷ []) ∷ []) ▸ (row (unit_row 12) ⟼ 9 ∷ 2 ∷ 0 ∷ 0 ∷ []) ∷ [])
    -- 9 by another page, by another access, by another generation
    ∷ (cpu_in ++ ((7 ∷ 1 ∷ 17 ∷ 0 ∷ 3 ∷ 0 ∷ []) ∷ []) ▸ (row (unit_row 12) ⟼ 9 ∷ 1 ∷ 0 ∷ 0 ∷ []) ∷ [])
    ∷ (cpu_in ++ ((7 ∷ 1 ∷ 17 ∷ 1 ∷ 1 ∷ 0 ∷ []) ∷ []) ▸ (row (unit_row 12) ⟼ 9 ∷ 1 ∷ 0 ∷ 0 ∷ []) ∷ [])
    ∷ (cpu_in ++ ((7 ∷ 1 ∷ 17 ∷ 1 ∷ 3 ∷ 1 ∷ []) ∷ []) ▸ (row (unit_row 12) ⟼ 9 ∷ 1 ∷ 0 ∷ 0 ∷ []) ∷ [])
    -- 11 by another mapping
    ∷ (cpu_in ++ ((7 ∷ 1 ∷ 40 ∷ 1 ∷ 1 ∷ 0 ∷ []) ∷ []) ▸ (row (unit_row 12) ⟼ 11 ∷ 1 ∷ 0 ∷ 0 ∷ []) ∷ [])
    -- 11 by an edge
    ∷ (cpu_in ++ ((5 ∷ 1 ∷ 2 ∷ 2 ∷ []) ∷ []) ▸ (row (unit_row 12) ⟼ 11 ∷ 2 ∷ 0 ∷ 0 ∷ []) ∷ [])
    ∷ [])

-- ---- 13: DMA insert region
abbrev pub dma_insert_region : List Scene
dma_insert_region =
    region_scenes 13
    ++ (
    -- accepted; 8 by mark; 7 of the shared span
    (two ▸
    (row (unit_row 13) ⟼ 0 ∷ 0 ∷ 0 ∷ 0 ∷ [])
    ∷ (row (13 ∷ 2 ∷ 48 ∷ 4 ∷ 1 ∷ 1 ∷ []) ⟼ 8 ∷ 0 ∷ 0 ∷ 0 ∷ [])
    ∷ (row (13 ∷ 1 ∷ 32 ∷ 14 ∷ 2 ∷ 3 ∷ []) ⟼ 7 ∷ 1 ∷ 0 ∷ 0 ∷ [])
    ∷ [])
    -- its own CPU pages are accepted
    ∷ (cpu_in ▸ (row (unit_row 13) ⟼ 0 ∷ 0 ∷ 0 ∷ 0 ∷ []) ∷ [])
    -- 10
    ∷ (two ++ ((8 ∷ 1 ∷ 17 ∷ 15 ∷ 1 ∷ 0 ∷ []) ∷ []) ▸ (row (unit_row 13) ⟼ 10 ∷ 1 ∷ 0 ∷ 0 ∷ []) ∷ [])
    -- 7 of another VM's DMA page
    ∷ (other_dma_in ▸ (row (unit_row 13) ⟼ 7 ∷ 2 ∷ 0 ∷ 0 ∷ []) ∷ [])
    -- 7 of another VM's CPU page
    ∷ (two ++ ((3 ∷ 2 ∷ 1 ∷ []) ∷ []) ▸ (row (unit_row 13) ⟼ 7 ∷ 1 ∷ 0 ∷ 0 ∷ []) ∷ [])
    ∷ [])

-- ---- 14: DMA remove region
abbrev pub dma_remove_region : List Scene
dma_remove_region =
    region_scenes 14
    ++ (
    -- accepted; 6 at a later page
    (dma_in ▸
    (row (unit_row 14) ⟼ 0 ∷ 0 ∷ 0 ∷ 0 ∷ [])
    ∷ (row (14 ∷ 1 ∷ 24 ∷ 2 ∷ 2 ∷ 3 ∷ []) ⟼ 6 ∷ 1 ∷ 0 ∷ 0 ∷ [])
    ∷ [])
    -- 8 by mark; 6 of the pool
    ∷ (two ▸
    (row (14 ∷ 2 ∷ 48 ∷ 4 ∷ 1 ∷ 1 ∷ []) ⟼ 8 ∷ 0 ∷ 0 ∷ 0 ∷ [])
    ∷ (row (unit_row 14) ⟼ 6 ∷ 0 ∷ 0 ∷ 0 ∷ [])
    ∷ [])
    -- 9 by an absent entry
    ∷ (dma_in ++ ((10 ∷ 1 ∷ 18 ∷ []) ∷ []) ▸ (row (unit_row 14) ⟼ 9 ∷ 2 ∷ 0 ∷ 0 ∷ []) ∷ [])
    -- 9 by another page, by another access, by another generation
    ∷ (dma_in ++ ((8 ∷ 1 ∷ 17 ∷ 15 ∷ 3 ∷ 0 ∷ []) ∷ []) ▸ (row (unit_row 14) ⟼ 9 ∷ 1 ∷ 0 ∷ 0 ∷ []) ∷ [])
    ∷ (dma_in ++ ((8 ∷ 1 ∷ 17 ∷ 1 ∷ 1 ∷ 0 ∷ []) ∷ []) ▸ (row (unit_row 14) ⟼ 9 ∷ 1 ∷ 0 ∷ 0 ∷ []) ∷ [])
    ∷ (dma_in ++ ((8 ∷ 1 ∷ 17 ∷ 1 ∷ 3 ∷ 1 ∷ []) ∷ []) ▸ (row (unit_row 14) ⟼ 9 ∷ 1 ∷ 0 ∷ 0 ∷ []) ∷ [])
    -- 11
    ∷ (dma_in ++ ((8 ∷ 1 ∷ 40 ∷ 1 ∷ 1 ∷ 0 ∷ []) ∷ []) ▸ (row (unit_row 14) ⟼ 11 ∷ 1 ∷ 0 ∷ 0 ∷ []) ∷ [])
    ∷ [])

-- ---- 15, 16: switch, bind. Accepted to a VM, to idle; 2 by port, by VM; 4
abbrev pub port_lines : ℕ → List Line
port_lines operation =
    (row (operation ∷ 7 ∷ 1 ∷ []) ⟼ 0 ∷ 0 ∷ 0 ∷ 0 ∷ [])
    ∷ (row (operation ∷ 7 ∷ IDLE ∷ []) ⟼ 0 ∷ 0 ∷ 0 ∷ 0 ∷ [])
    ∷ (row (operation ∷ PORTS ∷ 1 ∷ []) ⟼ 2 ∷ 0 ∷ 0 ∷ 0 ∷ [])
    ∷ (row (operation ∷ 0 ∷ 16 ∷ []) ⟼ 2 ∷ 0 ∷ 0 ∷ 0 ∷ [])
    ∷ (row (operation ∷ 0 ∷ 3 ∷ []) ⟼ 4 ∷ 0 ∷ 0 ∷ 0 ∷ [])
    ∷ []

-- ---- 17, 18: fill. Accepted; 2 by port, by guest page; 15; 9
abbrev pub fill_lines : ℕ → List Line
fill_lines operation =
    (row (operation ∷ 0 ∷ 40 ∷ []) ⟼ 0 ∷ 0 ∷ 0 ∷ 0 ∷ [])
    ∷ (row (operation ∷ PORTS ∷ 40 ∷ []) ⟼ 2 ∷ 0 ∷ 0 ∷ 0 ∷ [])
    ∷ (row (operation ∷ 0 ∷ GUEST_PAGES ∷ []) ⟼ 2 ∷ 0 ∷ 0 ∷ 0 ∷ [])
    ∷ (row (operation ∷ 1 ∷ 40 ∷ []) ⟼ 15 ∷ 0 ∷ 0 ∷ 0 ∷ [])
    ∷ (row (operation ∷ 0 ∷ 43 ∷ []) ⟼ 9 ∷ 0 ∷ 0 ∷ 0 ∷ [])
    ∷ []

-- ---- 19, 20: empty a slot. Accepted; 2
abbrev pub empty_lines : ℕ → List Line
empty_lines operation =
    (row (operation ∷ (SLOTS - 1) ∷ []) ⟼ 0 ∷ 0 ∷ 0 ∷ 0 ∷ [])
    ∷ (row (operation ∷ SLOTS ∷ []) ⟼ 2 ∷ 0 ∷ 0 ∷ 0 ∷ [])
    ∷ []

-- ---- 21, 22: read. Accepted, with the word; 2 by port, by guest page, by word; 15; 9; 16
abbrev pub read_lines : ℕ → List Line
read_lines operation =
    (row (operation ∷ 0 ∷ 40 ∷ (PAGE_WORDS - 1) ∷ []) ⟼ 0 ∷ 0 ∷ 0 ∷ 9 ∷ [])
    ∷ (row (operation ∷ PORTS ∷ 40 ∷ (PAGE_WORDS - 1) ∷ []) ⟼ 2 ∷ 0 ∷ 0 ∷ 0 ∷ [])
    ∷ (row (operation ∷ 0 ∷ GUEST_PAGES ∷ (PAGE_WORDS - 1) ∷ []) ⟼ 2 ∷ 0 ∷ 0 ∷ 0 ∷ [])
    ∷ (row (operation ∷ 0 ∷ 40 ∷ PAGE_WORDS ∷ []) ⟼ 2 ∷ 0 ∷ 0 ∷ 0 ∷ [])
    ∷ (row (operation ∷ 1 ∷ 40 ∷ (PAGE_WORDS - 1) ∷ []) ⟼ 15 ∷ 0 ∷ 0 ∷ 0 ∷ [])
    ∷ (row (operation ∷ 0 ∷ 43 ∷ (PAGE_WORDS - 1) ∷ []) ⟼ 9 ∷ 0 ∷ 0 ∷ 0 ∷ [])
    ∷ (row (operation ∷ 0 ∷ 41 ∷ (PAGE_WORDS - 1) ∷ []) ⟼ 16 ∷ 0 ∷ 0 ∷ 0 ∷ [])
    ∷ []

-- ---- 23, 24: write. Accepted with any value; 2 by port, by guest page, by word; 15; 9; 16
abbrev pub write_lines : ℕ → List Line
write_lines operation =
    (row (operation ∷ 0 ∷ 40 ∷ (PAGE_WORDS - 1) ∷ 18446744073709551615 ∷ []) ⟼ 0 ∷ 0 ∷ 0 ∷ 0 ∷ [])
    ∷ (row (operation ∷ PORTS ∷ 40 ∷ (PAGE_WORDS - 1) ∷ 9 ∷ []) ⟼ 2 ∷ 0 ∷ 0 ∷ 0 ∷ [])
    ∷ (row (operation ∷ 0 ∷ GUEST_PAGES ∷ (PAGE_WORDS - 1) ∷ 9 ∷ []) ⟼ 2 ∷ 0 ∷ 0 ∷ 0 ∷ [])
    ∷ (row (operation ∷ 0 ∷ 40 ∷ PAGE_WORDS ∷ 9 ∷ []) ⟼ 2 ∷ 0 ∷ 0 ∷ 0 ∷ [])
    ∷ (row (operation ∷ 1 ∷ 40 ∷ (PAGE_WORDS - 1) ∷ 9 ∷ []) ⟼ 15 ∷ 0 ∷ 0 ∷ 0 ∷ [])
    ∷ (row (operation ∷ 0 ∷ 43 ∷ (PAGE_WORDS - 1) ∷ 9 ∷ []) ⟼ 9 ∷ 0 ∷ 0 ∷ 0 ∷ [])
    ∷ (row (operation ∷ 0 ∷ 42 ∷ (PAGE_WORDS - 1) ∷ 9 ∷ []) ⟼ 16 ∷ 0 ∷ 0 ∷ 0 ∷ [])
    ∷ []

abbrev pub ports : List Scene
ports =
    (two ▸ port_lines 15)
    ∷ (two ▸ port_lines 16)
    ∷ (running ▸ fill_lines 17)
    ∷ (bound ▸ fill_lines 18)
    ∷ ([] ▸ empty_lines 19)
    ∷ ([] ▸ empty_lines 20)
    ∷ (running ▸ read_lines 21)
    ∷ (bound ▸ read_lines 22)
    ∷ (running ▸ write_lines 23)
    ∷ (bound ▸ write_lines 24)
    ∷ []

-- ---- 25, 26: barriers, accepted; 2 by the number of no operation
abbrev pub barriers : List Scene
barriers =
    ([] ▸
    (row (25 ∷ []) ⟼ 0 ∷ 0 ∷ 0 ∷ 0 ∷ [])
    ∷ (row (26 ∷ []) ⟼ 0 ∷ 0 ∷ 0 ∷ 0 ∷ [])
    ∷ (row (0 ∷ []) ⟼ 2 ∷ 0 ∷ 0 ∷ 0 ∷ [])
    ∷ (row ((operations + 1) ∷ []) ⟼ 2 ∷ 0 ∷ 0 ∷ 0 ∷ [])
    ∷ (row (18446744073709551615 ∷ []) ⟼ 2 ∷ 0 ∷ 0 ∷ 0 ∷ [])
    ∷ [])
    ∷ []

-- ---- 27: retire VM
-- VM 2 borrows page 0 and maps it
abbrev pub borrowed : List (List ℕ)
borrowed = shared ++ ((7 ∷ 2 ∷ 40 ∷ 0 ∷ 1 ∷ 0 ∷ []) ∷ [])

abbrev pub retire_vm : List Scene
retire_vm =
    -- accepted of a VM that has nothing; 2 by VM; 4
    (two ▸
    (row (27 ∷ 1 ∷ []) ⟼ 0 ∷ 0 ∷ 0 ∷ 0 ∷ [])
    ∷ (row (27 ∷ VMS ∷ []) ⟼ 2 ∷ 0 ∷ 0 ∷ 0 ∷ [])
    ∷ (row (27 ∷ 3 ∷ []) ⟼ 4 ∷ 0 ∷ 0 ∷ 0 ∷ [])
    ∷ [])
    -- accepted though it has DMA pages and mappings; though it owns, lends and borrows a page that is mapped
    ∷ (other_dma_in ▸ (row (27 ∷ 2 ∷ []) ⟼ 0 ∷ 0 ∷ 0 ∷ 0 ∷ []) ∷ [])
    ∷ (borrowed ▸ (row (27 ∷ 1 ∷ []) ⟼ 0 ∷ 0 ∷ 0 ∷ 0 ∷ []) ∷ (row (27 ∷ 2 ∷ []) ⟼ 0 ∷ 0 ∷ 0 ∷ 0 ∷ []) ∷ [])
    -- its own slot is dropped, of the CPU cache, of the DMA cache, and one of each
    ∷ (running ++ ((17 ∷ 0 ∷ 40 ∷ []) ∷ (15 ∷ 0 ∷ IDLE ∷ []) ∷ []) ▸ (row (27 ∷ 1 ∷ []) ⟼ 0 ∷ 0 ∷ 1 ∷ 0 ∷ []) ∷ [])
    ∷ (bound ++ ((18 ∷ 0 ∷ 40 ∷ []) ∷ (16 ∷ 0 ∷ IDLE ∷ []) ∷ []) ▸ (row (27 ∷ 1 ∷ []) ⟼ 0 ∷ 0 ∷ 1 ∷ 0 ∷ []) ∷ [])
    ∷ (running ++ ((8 ∷ 1 ∷ 40 ∷ 15 ∷ 3 ∷ 0 ∷ []) ∷ (16 ∷ 0 ∷ 1 ∷ []) ∷ (17 ∷ 0 ∷ 40 ∷ []) ∷ (18 ∷ 0 ∷ 40 ∷ []) ∷ (15 ∷ 0 ∷ IDLE ∷ []) ∷ (16 ∷ 0 ∷ IDLE ∷ []) ∷ []) ▸
    (row (27 ∷ 1 ∷ []) ⟼ 0 ∷ 0 ∷ 2 ∷ 0 ∷ [])
    ∷ [])
    -- a borrower's slot onto its page is dropped, on whichever CPU
    ∷ (borrowed ++ ((15 ∷ 7 ∷ 2 ∷ []) ∷ (17 ∷ 7 ∷ 40 ∷ []) ∷ []) ▸ (row (27 ∷ 1 ∷ []) ⟼ 0 ∷ 0 ∷ 1 ∷ 0 ∷ []) ∷ [])
    -- afterwards: the id and the page are there to be taken, the borrower's mapping and the edge are gone
    ∷ (borrowed ++ ((27 ∷ 1 ∷ []) ∷ []) ▸
    (row (27 ∷ 1 ∷ []) ⟼ 4 ∷ 0 ∷ 0 ∷ 0 ∷ [])
    ∷ (row (1 ∷ 1 ∷ []) ⟼ 0 ∷ 0 ∷ 0 ∷ 0 ∷ [])
    ∷ (row (3 ∷ 2 ∷ 0 ∷ []) ⟼ 0 ∷ 0 ∷ 0 ∷ 0 ∷ [])
    ∷ (row (9 ∷ 2 ∷ 40 ∷ []) ⟼ 9 ∷ 0 ∷ 0 ∷ 0 ∷ [])
    ∷ (row (7 ∷ 2 ∷ 40 ∷ 0 ∷ 1 ∷ 0 ∷ []) ⟼ 6 ∷ 0 ∷ 0 ∷ 0 ∷ [])
    ∷ [])
    -- the lender keeps what it lent, to read and to lend again
    ∷ (running ++ ((5 ∷ 1 ∷ 2 ∷ 0 ∷ []) ∷ (7 ∷ 2 ∷ 40 ∷ 0 ∷ 1 ∷ 0 ∷ []) ∷ (27 ∷ 2 ∷ []) ∷ []) ▸
    (row (21 ∷ 0 ∷ 40 ∷ (PAGE_WORDS - 1) ∷ []) ⟼ 0 ∷ 0 ∷ 0 ∷ 9 ∷ [])
    ∷ (row (4 ∷ 1 ∷ 0 ∷ []) ⟼ 11 ∷ 0 ∷ 0 ∷ 0 ∷ [])
    ∷ [])
    -- 13 by a CPU; 13 by a device
    ∷ (two ++ ((15 ∷ 0 ∷ 1 ∷ []) ∷ []) ▸ (row (27 ∷ 1 ∷ []) ⟼ 13 ∷ 0 ∷ 0 ∷ 0 ∷ []) ∷ [])
    ∷ (two ++ ((16 ∷ 7 ∷ 1 ∷ []) ∷ []) ▸ (row (27 ∷ 1 ∷ []) ⟼ 13 ∷ 0 ∷ 0 ∷ 0 ∷ []) ∷ [])
    ∷ []

-- ---- all of them
abbrev pub scenes : List Scene
scenes =
    add_vm
    ++ remove_vm
    ++ assign_page
    ++ reclaim_page
    ++ share_page
    ++ unshare_page
    ++ cpu_map
    ++ dma_map
    ++ unmap
    ++ insert_region
    ++ remove_region
    ++ dma_insert_region
    ++ dma_remove_region
    ++ ports
    ++ barriers
    ++ retire_vm

-- the machine accepts every row of every way, and answers every line as its scene says
pub answered : map (played sixteen) scenes ≡ map expected scenes
unfolding computes sixteen
answered = refl

-- ---- 14 of 7, 8, 11 and 13: mappings of VM 1 fill both maps, for CPU onto its page 0, for DMA onto the shared span
unfoldable pub before_full : State
before_full = reached sixteen owned

abbrev pub full : State
full = with_full_maps before_full 1 0 15

abbrev pub full_scenes : List Scene
full_scenes =
    -- 14; a replacement is accepted
    ([] ▸
    (row (7 ∷ 1 ∷ ENTRIES ∷ 0 ∷ 3 ∷ 0 ∷ []) ⟼ 14 ∷ 0 ∷ 0 ∷ 0 ∷ [])
    ∷ (row (7 ∷ 1 ∷ (ENTRIES - 1) ∷ 0 ∷ 3 ∷ 0 ∷ []) ⟼ 0 ∷ 0 ∷ 0 ∷ 0 ∷ [])
    ∷ (row (8 ∷ 1 ∷ ENTRIES ∷ 15 ∷ 3 ∷ 0 ∷ []) ⟼ 14 ∷ 0 ∷ 0 ∷ 0 ∷ [])
    ∷ (row (8 ∷ 1 ∷ (ENTRIES - 1) ∷ 15 ∷ 3 ∷ 0 ∷ []) ⟼ 0 ∷ 0 ∷ 0 ∷ 0 ∷ [])
    ∷ (row (11 ∷ 2 ∷ 48 ∷ 4 ∷ 1 ∷ 1 ∷ []) ⟼ 14 ∷ 0 ∷ 0 ∷ 0 ∷ [])
    ∷ (row (13 ∷ 2 ∷ 16 ∷ 2 ∷ 2 ∷ 3 ∷ []) ⟼ 14 ∷ 0 ∷ 0 ∷ 0 ∷ [])
    ∷ [])
    -- an emptied entry counts as free, enough for a region of one page and not for one of two
    ∷ ((9 ∷ 1 ∷ 5 ∷ []) ∷ (10 ∷ 1 ∷ 5 ∷ []) ∷ [] ▸
    (row (7 ∷ 1 ∷ ENTRIES ∷ 0 ∷ 3 ∷ 0 ∷ []) ⟼ 0 ∷ 0 ∷ 0 ∷ 0 ∷ [])
    ∷ (row (8 ∷ 1 ∷ ENTRIES ∷ 15 ∷ 3 ∷ 0 ∷ []) ⟼ 0 ∷ 0 ∷ 0 ∷ 0 ∷ [])
    ∷ (row (11 ∷ 2 ∷ 48 ∷ 4 ∷ 1 ∷ 1 ∷ []) ⟼ 0 ∷ 0 ∷ 0 ∷ 0 ∷ [])
    ∷ (row (13 ∷ 2 ∷ 16 ∷ 2 ∷ 2 ∷ 3 ∷ []) ⟼ 14 ∷ 0 ∷ 0 ∷ 0 ∷ [])
    ∷ [])
    ∷ []

pub full_answered : map (played full) full_scenes ≡ map expected full_scenes
unfolding computes sixteen before_full mappings_from
full_answered = refl

-- ---- none is left out: the numbers that the lines of an operation answer are 0, which accepts, and those that are listed for it
abbrev pub operation_said : Said → ℕ
operation_said (row ns) = get_or ns 0 0
operation_said query = 0

-- an operation and an answer's number, 0 to 16, as one number
abbrev pub code : ℕ → ℕ → ℕ
code operation number = operation * 17 + number

abbrev pub code_of : Line → ℕ
code_of line = code (operation_said line.said) (get_or line.heard 0 0)

abbrev pub codes_of : List Scene → List ℕ
codes_of [] = []
codes_of (scene ∷ rest) = map code_of scene.lines ++ codes_of rest

-- of the n numbers from k on, those that pass
abbrev pub passing : (ℕ → Bool) → ℕ → ℕ → List ℕ
passing test k zero = []
passing test k (suc n) = if test k then k ∷ passing test (suc k) n else passing test (suc k) n

-- of every answer's number, those that pass for each of the n operations from one on
abbrev pub numbers_of : (ℕ → ℕ → Bool) → ℕ → ℕ → List (List ℕ)
numbers_of test operation zero = []
numbers_of test operation (suc n) = passing (test operation) 0 17 ∷ numbers_of test (suc operation) n

abbrev pub is_shown : ℕ → ℕ → Bool
is_shown operation number = is_in (codes_of (scenes ++ full_scenes)) (code operation number)

abbrev pub is_listed : ℕ → ℕ → Bool
is_listed operation number = is_in (0 ∷ listed operation) number

pub none_left_out : numbers_of is_shown 1 operations ≡ numbers_of is_listed 1 operations
unfolding refusal_lists
none_left_out = refl

-- ---- every state of these scenes is valid
pub reached_valid : (way : List (List ℕ)) (s : State) → Valid s → Valid (reached s way)
reached_valid [] s v = v
reached_valid (r ∷ rs) s v = reached_valid rs (step_row s r).state (row_valid s v r)

sixteen_accepted : start_answer sixteen_pages sixteen_lent ≡ accepted
unfolding computes
sixteen_accepted = refl

sixteen_valid : Valid sixteen
unfolding sixteen
sixteen_valid = start_valid sixteen_pages sixteen_lent sixteen_accepted

before_full_valid : Valid before_full
unfolding before_full
before_full_valid = reached_valid owned sixteen sixteen_valid

-- what the full maps ask for
before_full_pages : before_full.tables.setup.pages ≡ 16
unfolding computes sixteen before_full
before_full_pages = refl

before_full_known : knows before_full.tables.known 1 ≡ true
unfolding computes sixteen before_full
before_full_known = refl

before_full_may : (may_map Cpu before_full.tables.sets before_full.tables.pairs 1 0 ≡ true) × (may_map Dma before_full.tables.sets before_full.tables.pairs 1 15 ≡ true)
unfolding computes sixteen before_full
before_full_may = (refl, refl)

both_full_valid : Valid full
both_full_valid = full_maps_valid before_full before_full_valid 1 0 15 (omega arith) (omega (arith, before_full_pages)) (omega (arith, before_full_pages)) before_full_known before_full_may

pub all_valid : (way : List (List ℕ)) → Valid (reached sixteen way) × Valid (reached full way)
all_valid way = (reached_valid way sixteen sixteen_valid, reached_valid way full both_full_valid)
