-- The worked table, C1 to C10 and K3, computed at the full table sizes (docs/MACHINE.md, 10).
use Prim.Native.Nat.{ℕ, ◌*◌}
use Rattle.numbers.specs.Limits.{SETS, SET_WORDS, PAIRS, ENTRIES, SLOTS, PAGE_WORDS, IDLE}
use mathlib.Core.List.{List, [], ◌∷◌, map}
use mathlib.Core.Path.{◌≡◌, refl}
use lib.ListN.{replicate}
use Rattle.numbers.specs.Meaning.{answer_numbers, lowest_numbers}
use Rattle.model.specs.State.{State}
use Rattle.model.specs.Step.{Stepped}
use Rattle.model.specs.Start.{Told, Free, start, free}
use Rattle.model.specs.Header.{Lists}
use Rattle.model.specs.Sequence.{step_row}
use Rattle.model.proofs.Computes.{computes}

-- ---- a case: what is said to a machine just started, a row or the query, and the numbers that it answers
pub data Said : Type 0 where
  row : List ℕ → Said
  query : Said

pub record Line : Type 0 where
  pub said : Said
  pub heard : List ℕ

abbrev pub heard_in : Line → List ℕ
heard_in line = line.heard

infix 4 ◌⟼◌
abbrev pub ◌⟼◌ : Said → List ℕ → Line
s ⟼ ns = record { said = s; heard = ns }

pub record Heard : Type 0 where
  pub numbers : List ℕ
  pub state : State

abbrev pub heard_free : Free → State → Heard
heard_free f s = record { numbers = f.count ∷ lowest_numbers f.lowest; state = s }

abbrev pub heard_step : Stepped → Heard
heard_step r = record { numbers = answer_numbers r.answer; state = r.state }

abbrev pub hear : State → Said → Heard
hear s (row ns) = heard_step (step_row s ns)
hear s query = heard_free (free s.tables) s

abbrev pub answers_from : Heard → List Line → List (List ℕ)
answers_from h [] = h.numbers ∷ []
answers_from h (line ∷ lines) = h.numbers ∷ answers_from (hear h.state line.said) lines

abbrev pub answers : State → List Line → List (List ℕ)
answers s [] = []
answers s (line ∷ lines) = answers_from (hear s line.said) lines

-- ---- the eight-page machine, over lent words that start must clear
abbrev pub eight_pages : Told
eight_pages =
    record {
      pages = 8;
      shared_base = 7;
      shared_count = 1;
      units = 1 ∷ 16 ∷ 0 ∷ 3 ∷ 3 ∷ 3 ∷ 2 ∷ 16 ∷ 2 ∷ 2 ∷ 3 ∷ 1 ∷ [];
    }

abbrev pub lent : Lists
lent =
    record {
      sets = replicate (SETS * SET_WORDS) 7;
      pairs = replicate PAIRS 7;
      cpu_map = replicate ENTRIES 7;
      cpu_walker = replicate ENTRIES 7;
      cpu_cache = replicate SLOTS 7;
      dma_map = replicate ENTRIES 7;
      dma_walker = replicate ENTRIES 7;
      dma_cache = replicate SLOTS 7;
      memory = replicate (PAGE_WORDS * 8) 7;
    }

abbrev pub started : State
started = (start eight_pages lent).state

-- ---- the table
abbrev pub cases : List (List Line)
cases =
    -- C1: after start seven pages are free, the lowest is 0
    ((query ⟼ 7 ∷ 0 ∷ [])
    ∷ [])
    ∷
    -- C2: a VM is added once, and its id is below 16
    ((row (1 ∷ 1 ∷ []) ⟼ 0 ∷ 0 ∷ 0 ∷ 0 ∷ [])
    ∷ (row (1 ∷ 1 ∷ []) ⟼ 5 ∷ 0 ∷ 0 ∷ 0 ∷ [])
    ∷ (row (1 ∷ 15 ∷ []) ⟼ 0 ∷ 0 ∷ 0 ∷ 0 ∷ [])
    ∷ (row (1 ∷ 16 ∷ []) ⟼ 2 ∷ 0 ∷ 0 ∷ 0 ∷ [])
    ∷ [])
    ∷
    -- C3: unit 1 in takes its three pages; again it is refused at its first
    ((row (1 ∷ 1 ∷ []) ⟼ 0 ∷ 0 ∷ 0 ∷ 0 ∷ [])
    ∷ (row (11 ∷ 1 ∷ 16 ∷ 0 ∷ 3 ∷ 3 ∷ []) ⟼ 0 ∷ 0 ∷ 0 ∷ 0 ∷ [])
    ∷ (query ⟼ 4 ∷ 3 ∷ [])
    ∷ (row (11 ∷ 1 ∷ 16 ∷ 0 ∷ 3 ∷ 3 ∷ []) ⟼ 6 ∷ 0 ∷ 0 ∷ 0 ∷ [])
    ∷ [])
    ∷
    -- C4: unit 2 overlaps it
    ((row (1 ∷ 1 ∷ []) ⟼ 0 ∷ 0 ∷ 0 ∷ 0 ∷ [])
    ∷ (row (1 ∷ 2 ∷ []) ⟼ 0 ∷ 0 ∷ 0 ∷ 0 ∷ [])
    ∷ (row (11 ∷ 1 ∷ 16 ∷ 0 ∷ 3 ∷ 3 ∷ []) ⟼ 0 ∷ 0 ∷ 0 ∷ 0 ∷ [])
    ∷ (row (11 ∷ 2 ∷ 16 ∷ 2 ∷ 2 ∷ 3 ∷ []) ⟼ 6 ∷ 0 ∷ 0 ∷ 0 ∷ [])
    ∷ [])
    ∷
    -- C5: in the pool again, but still VM 1's for DMA, so neither free nor another VM's to take
    ((row (1 ∷ 1 ∷ []) ⟼ 0 ∷ 0 ∷ 0 ∷ 0 ∷ [])
    ∷ (row (1 ∷ 2 ∷ []) ⟼ 0 ∷ 0 ∷ 0 ∷ 0 ∷ [])
    ∷ (row (11 ∷ 1 ∷ 16 ∷ 0 ∷ 3 ∷ 3 ∷ []) ⟼ 0 ∷ 0 ∷ 0 ∷ 0 ∷ [])
    ∷ (row (13 ∷ 1 ∷ 16 ∷ 0 ∷ 3 ∷ 3 ∷ []) ⟼ 0 ∷ 0 ∷ 0 ∷ 0 ∷ [])
    ∷ (row (12 ∷ 1 ∷ 16 ∷ 0 ∷ 3 ∷ 3 ∷ []) ⟼ 0 ∷ 0 ∷ 0 ∷ 0 ∷ [])
    ∷ (query ⟼ 4 ∷ 3 ∷ [])
    ∷ (row (11 ∷ 2 ∷ 16 ∷ 2 ∷ 2 ∷ 3 ∷ []) ⟼ 7 ∷ 0 ∷ 0 ∷ 0 ∷ [])
    ∷ [])
    ∷
    -- C6: spans before units
    ((row (1 ∷ 1 ∷ []) ⟼ 0 ∷ 0 ∷ 0 ∷ 0 ∷ [])
    ∷ (row (1 ∷ 2 ∷ []) ⟼ 0 ∷ 0 ∷ 0 ∷ 0 ∷ [])
    ∷ (row (11 ∷ 1 ∷ 16 ∷ 0 ∷ 0 ∷ 3 ∷ []) ⟼ 3 ∷ 0 ∷ 0 ∷ 0 ∷ [])
    ∷ (row (11 ∷ 1 ∷ 16 ∷ 6 ∷ 2 ∷ 3 ∷ []) ⟼ 8 ∷ 0 ∷ 0 ∷ 0 ∷ [])
    ∷ (row (11 ∷ 1 ∷ 16 ∷ 6 ∷ 3 ∷ 3 ∷ []) ⟼ 3 ∷ 0 ∷ 0 ∷ 0 ∷ [])
    ∷ [])
    ∷
    -- C7: sharing is between two, by the owner, and may be said again
    ((row (1 ∷ 1 ∷ []) ⟼ 0 ∷ 0 ∷ 0 ∷ 0 ∷ [])
    ∷ (row (1 ∷ 2 ∷ []) ⟼ 0 ∷ 0 ∷ 0 ∷ 0 ∷ [])
    ∷ (row (11 ∷ 1 ∷ 16 ∷ 0 ∷ 3 ∷ 3 ∷ []) ⟼ 0 ∷ 0 ∷ 0 ∷ 0 ∷ [])
    ∷ (row (5 ∷ 1 ∷ 1 ∷ 0 ∷ []) ⟼ 12 ∷ 0 ∷ 0 ∷ 0 ∷ [])
    ∷ (row (5 ∷ 2 ∷ 1 ∷ 0 ∷ []) ⟼ 6 ∷ 0 ∷ 0 ∷ 0 ∷ [])
    ∷ (row (5 ∷ 1 ∷ 2 ∷ 0 ∷ []) ⟼ 0 ∷ 0 ∷ 0 ∷ 0 ∷ [])
    ∷ (row (5 ∷ 1 ∷ 2 ∷ 0 ∷ []) ⟼ 0 ∷ 0 ∷ 0 ∷ 0 ∷ [])
    ∷ [])
    ∷
    -- C8: a mapped page is not reclaimed, and not unshared while the borrower maps it
    ((row (1 ∷ 1 ∷ []) ⟼ 0 ∷ 0 ∷ 0 ∷ 0 ∷ [])
    ∷ (row (1 ∷ 2 ∷ []) ⟼ 0 ∷ 0 ∷ 0 ∷ 0 ∷ [])
    ∷ (row (11 ∷ 1 ∷ 16 ∷ 0 ∷ 3 ∷ 3 ∷ []) ⟼ 0 ∷ 0 ∷ 0 ∷ 0 ∷ [])
    ∷ (row (4 ∷ 1 ∷ 0 ∷ []) ⟼ 11 ∷ 0 ∷ 0 ∷ 0 ∷ [])
    ∷ (row (5 ∷ 1 ∷ 2 ∷ 0 ∷ []) ⟼ 0 ∷ 0 ∷ 0 ∷ 0 ∷ [])
    ∷ (row (7 ∷ 2 ∷ 40 ∷ 0 ∷ 1 ∷ 0 ∷ []) ⟼ 0 ∷ 0 ∷ 0 ∷ 0 ∷ [])
    ∷ (row (6 ∷ 1 ∷ 2 ∷ 0 ∷ []) ⟼ 11 ∷ 0 ∷ 0 ∷ 0 ∷ [])
    ∷ (row (9 ∷ 2 ∷ 40 ∷ []) ⟼ 0 ∷ 0 ∷ 0 ∷ 0 ∷ [])
    ∷ (row (6 ∷ 1 ∷ 2 ∷ 0 ∷ []) ⟼ 0 ∷ 0 ∷ 0 ∷ 0 ∷ [])
    ∷ [])
    ∷
    -- C9: a replaced mapping drops its slot, and the next read goes to the new page
    ((row (1 ∷ 1 ∷ []) ⟼ 0 ∷ 0 ∷ 0 ∷ 0 ∷ [])
    ∷ (row (1 ∷ 2 ∷ []) ⟼ 0 ∷ 0 ∷ 0 ∷ 0 ∷ [])
    ∷ (row (11 ∷ 1 ∷ 16 ∷ 0 ∷ 3 ∷ 3 ∷ []) ⟼ 0 ∷ 0 ∷ 0 ∷ 0 ∷ [])
    ∷ (row (15 ∷ 0 ∷ 1 ∷ []) ⟼ 0 ∷ 0 ∷ 0 ∷ 0 ∷ [])
    ∷ (row (23 ∷ 0 ∷ 17 ∷ 0 ∷ 9 ∷ []) ⟼ 0 ∷ 0 ∷ 0 ∷ 0 ∷ [])
    ∷ (row (17 ∷ 0 ∷ 16 ∷ []) ⟼ 0 ∷ 0 ∷ 0 ∷ 0 ∷ [])
    ∷ (row (7 ∷ 1 ∷ 16 ∷ 1 ∷ 1 ∷ 0 ∷ []) ⟼ 0 ∷ 0 ∷ 1 ∷ 0 ∷ [])
    ∷ (row (21 ∷ 0 ∷ 16 ∷ 0 ∷ []) ⟼ 0 ∷ 0 ∷ 0 ∷ 9 ∷ [])
    ∷ [])
    ∷
    -- C10: the next owner reads zero
    ((row (1 ∷ 1 ∷ []) ⟼ 0 ∷ 0 ∷ 0 ∷ 0 ∷ [])
    ∷ (row (1 ∷ 2 ∷ []) ⟼ 0 ∷ 0 ∷ 0 ∷ 0 ∷ [])
    ∷ (row (3 ∷ 1 ∷ 3 ∷ []) ⟼ 0 ∷ 0 ∷ 0 ∷ 0 ∷ [])
    ∷ (row (7 ∷ 1 ∷ 16 ∷ 3 ∷ 3 ∷ 0 ∷ []) ⟼ 0 ∷ 0 ∷ 0 ∷ 0 ∷ [])
    ∷ (row (15 ∷ 0 ∷ 1 ∷ []) ⟼ 0 ∷ 0 ∷ 0 ∷ 0 ∷ [])
    ∷ (row (23 ∷ 0 ∷ 16 ∷ 0 ∷ 5 ∷ []) ⟼ 0 ∷ 0 ∷ 0 ∷ 0 ∷ [])
    ∷ (row (9 ∷ 1 ∷ 16 ∷ []) ⟼ 0 ∷ 0 ∷ 0 ∷ 0 ∷ [])
    ∷ (row (4 ∷ 1 ∷ 3 ∷ []) ⟼ 0 ∷ 0 ∷ 0 ∷ 0 ∷ [])
    ∷ (row (3 ∷ 2 ∷ 3 ∷ []) ⟼ 0 ∷ 0 ∷ 0 ∷ 0 ∷ [])
    ∷ (row (7 ∷ 2 ∷ 16 ∷ 3 ∷ 1 ∷ 0 ∷ []) ⟼ 0 ∷ 0 ∷ 0 ∷ 0 ∷ [])
    ∷ (row (15 ∷ 1 ∷ 2 ∷ []) ⟼ 0 ∷ 0 ∷ 0 ∷ 0 ∷ [])
    ∷ (row (21 ∷ 1 ∷ 16 ∷ 0 ∷ []) ⟼ 0 ∷ 0 ∷ 0 ∷ 0 ∷ [])
    ∷ [])
    ∷
    -- K3: VM 1 is retired once its device is idle, with the borrower's mapping of its page, and both their slots are dropped
    ((row (1 ∷ 1 ∷ []) ⟼ 0 ∷ 0 ∷ 0 ∷ 0 ∷ [])
    ∷ (row (1 ∷ 2 ∷ []) ⟼ 0 ∷ 0 ∷ 0 ∷ 0 ∷ [])
    ∷ (row (11 ∷ 1 ∷ 16 ∷ 0 ∷ 3 ∷ 3 ∷ []) ⟼ 0 ∷ 0 ∷ 0 ∷ 0 ∷ [])
    ∷ (row (13 ∷ 1 ∷ 16 ∷ 0 ∷ 3 ∷ 3 ∷ []) ⟼ 0 ∷ 0 ∷ 0 ∷ 0 ∷ [])
    ∷ (row (5 ∷ 1 ∷ 2 ∷ 0 ∷ []) ⟼ 0 ∷ 0 ∷ 0 ∷ 0 ∷ [])
    ∷ (row (7 ∷ 2 ∷ 40 ∷ 0 ∷ 1 ∷ 0 ∷ []) ⟼ 0 ∷ 0 ∷ 0 ∷ 0 ∷ [])
    ∷ (row (15 ∷ 0 ∷ 2 ∷ []) ⟼ 0 ∷ 0 ∷ 0 ∷ 0 ∷ [])
    ∷ (row (16 ∷ 3 ∷ 1 ∷ []) ⟼ 0 ∷ 0 ∷ 0 ∷ 0 ∷ [])
    ∷ (row (17 ∷ 0 ∷ 40 ∷ []) ⟼ 0 ∷ 0 ∷ 0 ∷ 0 ∷ [])
    ∷ (row (18 ∷ 3 ∷ 16 ∷ []) ⟼ 0 ∷ 0 ∷ 0 ∷ 0 ∷ [])
    ∷ (row (27 ∷ 1 ∷ []) ⟼ 13 ∷ 0 ∷ 0 ∷ 0 ∷ [])
    ∷ (row (16 ∷ 3 ∷ IDLE ∷ []) ⟼ 0 ∷ 0 ∷ 0 ∷ 0 ∷ [])
    ∷ (row (27 ∷ 1 ∷ []) ⟼ 0 ∷ 0 ∷ 2 ∷ 0 ∷ [])
    ∷ (query ⟼ 7 ∷ 0 ∷ [])
    ∷ (row (21 ∷ 0 ∷ 40 ∷ 0 ∷ []) ⟼ 9 ∷ 0 ∷ 0 ∷ 0 ∷ [])
    ∷ (row (27 ∷ 1 ∷ []) ⟼ 4 ∷ 0 ∷ 0 ∷ 0 ∷ [])
    ∷ (row (1 ∷ 1 ∷ []) ⟼ 0 ∷ 0 ∷ 0 ∷ 0 ∷ [])
    ∷ [])
    ∷
    []

-- the machine answers every line of every case as the table says
pub worked : map (answers started) cases ≡ map (map heard_in) cases
unfolding computes
worked = refl

-- ---- wrong machines that look right, each told apart by what it would answer
abbrev pub lookalikes : List (List Line)
lookalikes =
    -- a reclaim that leaves the edge: the borrower would reach the next owner's page
    ((row (1 ∷ 1 ∷ []) ⟼ 0 ∷ 0 ∷ 0 ∷ 0 ∷ [])
    ∷ (row (1 ∷ 2 ∷ []) ⟼ 0 ∷ 0 ∷ 0 ∷ 0 ∷ [])
    ∷ (row (3 ∷ 1 ∷ 3 ∷ []) ⟼ 0 ∷ 0 ∷ 0 ∷ 0 ∷ [])
    ∷ (row (5 ∷ 1 ∷ 2 ∷ 3 ∷ []) ⟼ 0 ∷ 0 ∷ 0 ∷ 0 ∷ [])
    ∷ (row (4 ∷ 1 ∷ 3 ∷ []) ⟼ 11 ∷ 0 ∷ 0 ∷ 0 ∷ [])
    ∷ (row (6 ∷ 2 ∷ 1 ∷ 3 ∷ []) ⟼ 0 ∷ 0 ∷ 0 ∷ 0 ∷ [])
    ∷ (row (4 ∷ 1 ∷ 3 ∷ []) ⟼ 0 ∷ 0 ∷ 0 ∷ 0 ∷ [])
    ∷ [])
    ∷
    -- a CPU removal that clears pages which the VM still holds for DMA: the device's word stays until the last claim ends
    ((row (1 ∷ 1 ∷ []) ⟼ 0 ∷ 0 ∷ 0 ∷ 0 ∷ [])
    ∷ (row (11 ∷ 1 ∷ 16 ∷ 0 ∷ 3 ∷ 3 ∷ []) ⟼ 0 ∷ 0 ∷ 0 ∷ 0 ∷ [])
    ∷ (row (13 ∷ 1 ∷ 16 ∷ 0 ∷ 3 ∷ 3 ∷ []) ⟼ 0 ∷ 0 ∷ 0 ∷ 0 ∷ [])
    ∷ (row (16 ∷ 0 ∷ 1 ∷ []) ⟼ 0 ∷ 0 ∷ 0 ∷ 0 ∷ [])
    ∷ (row (24 ∷ 0 ∷ 16 ∷ 0 ∷ 9 ∷ []) ⟼ 0 ∷ 0 ∷ 0 ∷ 0 ∷ [])
    ∷ (row (12 ∷ 1 ∷ 16 ∷ 0 ∷ 3 ∷ 3 ∷ []) ⟼ 0 ∷ 0 ∷ 0 ∷ 0 ∷ [])
    ∷ (row (22 ∷ 0 ∷ 16 ∷ 0 ∷ []) ⟼ 0 ∷ 0 ∷ 0 ∷ 9 ∷ [])
    ∷ (row (14 ∷ 1 ∷ 16 ∷ 0 ∷ 3 ∷ 3 ∷ []) ⟼ 0 ∷ 0 ∷ 0 ∷ 0 ∷ [])
    ∷ (row (3 ∷ 1 ∷ 0 ∷ []) ⟼ 0 ∷ 0 ∷ 0 ∷ 0 ∷ [])
    ∷ (row (7 ∷ 1 ∷ 16 ∷ 0 ∷ 1 ∷ 0 ∷ []) ⟼ 0 ∷ 0 ∷ 0 ∷ 0 ∷ [])
    ∷ (row (15 ∷ 0 ∷ 1 ∷ []) ⟼ 0 ∷ 0 ∷ 0 ∷ 0 ∷ [])
    ∷ (row (21 ∷ 0 ∷ 16 ∷ 0 ∷ []) ⟼ 0 ∷ 0 ∷ 0 ∷ 0 ∷ [])
    ∷ [])
    ∷
    -- a region installed page by page: refused at its third page, it leaves nothing
    ((row (1 ∷ 1 ∷ []) ⟼ 0 ∷ 0 ∷ 0 ∷ 0 ∷ [])
    ∷ (row (3 ∷ 1 ∷ 2 ∷ []) ⟼ 0 ∷ 0 ∷ 0 ∷ 0 ∷ [])
    ∷ (row (11 ∷ 1 ∷ 16 ∷ 0 ∷ 3 ∷ 3 ∷ []) ⟼ 6 ∷ 2 ∷ 0 ∷ 0 ∷ [])
    ∷ (query ⟼ 6 ∷ 0 ∷ [])
    ∷ (row (9 ∷ 1 ∷ 16 ∷ []) ⟼ 9 ∷ 0 ∷ 0 ∷ 0 ∷ [])
    ∷ (row (9 ∷ 1 ∷ 17 ∷ []) ⟼ 9 ∷ 0 ∷ 0 ∷ 0 ∷ [])
    ∷ [])
    ∷
    -- a retire that goes by CPU pages alone: the word that the device left on a page held for DMA only would reach the next owner
    ((row (1 ∷ 1 ∷ []) ⟼ 0 ∷ 0 ∷ 0 ∷ 0 ∷ [])
    ∷ (row (1 ∷ 2 ∷ []) ⟼ 0 ∷ 0 ∷ 0 ∷ 0 ∷ [])
    ∷ (row (13 ∷ 1 ∷ 16 ∷ 0 ∷ 3 ∷ 3 ∷ []) ⟼ 0 ∷ 0 ∷ 0 ∷ 0 ∷ [])
    ∷ (row (16 ∷ 0 ∷ 1 ∷ []) ⟼ 0 ∷ 0 ∷ 0 ∷ 0 ∷ [])
    ∷ (row (24 ∷ 0 ∷ 16 ∷ 0 ∷ 9 ∷ []) ⟼ 0 ∷ 0 ∷ 0 ∷ 0 ∷ [])
    ∷ (row (16 ∷ 0 ∷ IDLE ∷ []) ⟼ 0 ∷ 0 ∷ 0 ∷ 0 ∷ [])
    ∷ (row (27 ∷ 1 ∷ []) ⟼ 0 ∷ 0 ∷ 0 ∷ 0 ∷ [])
    ∷ (query ⟼ 7 ∷ 0 ∷ [])
    ∷ (row (3 ∷ 2 ∷ 0 ∷ []) ⟼ 0 ∷ 0 ∷ 0 ∷ 0 ∷ [])
    ∷ (row (7 ∷ 2 ∷ 16 ∷ 0 ∷ 1 ∷ 0 ∷ []) ⟼ 0 ∷ 0 ∷ 0 ∷ 0 ∷ [])
    ∷ (row (15 ∷ 0 ∷ 2 ∷ []) ⟼ 0 ∷ 0 ∷ 0 ∷ 0 ∷ [])
    ∷ (row (21 ∷ 0 ∷ 16 ∷ 0 ∷ []) ⟼ 0 ∷ 0 ∷ 0 ∷ 0 ∷ [])
    ∷ [])
    ∷
    []

pub told_apart : map (answers started) lookalikes ≡ map (map heard_in) lookalikes
unfolding computes
told_apart = refl
