-- Secrecy at work, for one VM: runs that it speaks of, computed for two values, 5 and 6, and then proved for any two; between them, for
-- each of its premises, two runs that break what it promises where that premise is left out. The lines show where the value is answered.
use Prim.Native.Nat.{ℕ, zero, suc, ◌*◌, ◌<◌}
use mathlib.Core.Bool.{Bool, true, false}
use mathlib.Core.List.{List, [], ◌∷◌, map}
use Rattle.std.specs.Prelude.{Option, None, Some}
use mathlib.Core.Path.{◌≡◌, refl, sym, ap, ◌∙◌}
use native.Mathlib.Omega.{arith}
use lib.Dec.{eqb, ltb, lit<}
use lib.ListN.{set, replicate}
use borrow.Author.Tests.{ltb-true}
use Rattle.numbers.specs.CaseLaws.{none_some}
use Rattle.numbers.specs.Limits.{VMS, PAGE_WORDS, WRITE, IDLE}
use Rattle.numbers.specs.Packing.{entry, slot_word, map_word, filled_of}
use Rattle.numbers.specs.Meaning.{refuse}
use Rattle.numbers.specs.declared.Refusal.TheVariants.{VmUnknown}
use Rattle.numbers.specs.declared.Operation.TheVariants as op
use Rattle.numbers.specs.declared.SideOperation.TheVariants as sided
use Rattle.numbers.specs.declared.Side.{Side}
use Rattle.numbers.specs.declared.Side.TheVariants.{Cpu, Dma}
use Rattle.table.specs.Table.{Has}
use Rattle.model.specs.State.{Tables, State, route, with_route, with_cache}
use Rattle.model.specs.Views.{edge_on}
use Rattle.model.specs.Effect.{decided, accepted, memory_index, word_in, stored, apply}
use Rattle.model.specs.EarlyLaws.{never_both}
use Rattle.model.specs.MemoryLaws.{store_elsewhere}
use Rattle.model.specs.Ports.{vm_on}
use Rattle.model.specs.Step.{control, step}
use Rattle.model.specs.Sequence.{guest_page, operation_in, step_row, Progress, after, beginning}
use Rattle.model.specs.Valid.{Valid}
use Rattle.model.specs.Good.{holds_page, Sharing}
use Rattle.model.specs.Access.{access_answer, access_place}
use Rattle.model.specs.Secrecy.{PrivateTo, answer_in, sharing_in, stop, other, Near, alike, stores, Differ, Alike, Asked, Premise, StayAlike, SharesEqual}
use Rattle.model.proofs.Computes.{computes}
use Rattle.model.proofs.Worked.{Line, row, ◌⟼◌, heard_in, answers, eight_pages, lent, started}
use Rattle.model.proofs.ViewLaws.{no_edge_on}
use Rattle.model.proofs.StartKept.{start_valid}
use Rattle.model.proofs.Kept.{row_valid}
use Rattle.model.proofs.Secrecy.{secrecy_one}

-- ---- VM 1 writes the value to page 0, which it alone holds: only its own read answers it
abbrev pub kept_secret : ℕ → List Line
kept_secret value =
    (row (1 ∷ 1 ∷ []) ⟼ 0 ∷ 0 ∷ 0 ∷ 0 ∷ [])
    ∷ (row (1 ∷ 2 ∷ []) ⟼ 0 ∷ 0 ∷ 0 ∷ 0 ∷ [])
    ∷ (row (11 ∷ 1 ∷ 16 ∷ 0 ∷ 3 ∷ 3 ∷ []) ⟼ 0 ∷ 0 ∷ 0 ∷ 0 ∷ [])
    ∷ (row (15 ∷ 0 ∷ 1 ∷ []) ⟼ 0 ∷ 0 ∷ 0 ∷ 0 ∷ [])
    ∷ (row (15 ∷ 1 ∷ 2 ∷ []) ⟼ 0 ∷ 0 ∷ 0 ∷ 0 ∷ [])
    ∷ (row (23 ∷ 0 ∷ 16 ∷ 0 ∷ value ∷ []) ⟼ 0 ∷ 0 ∷ 0 ∷ 0 ∷ [])
    ∷ (row (21 ∷ 0 ∷ 16 ∷ 0 ∷ []) ⟼ 0 ∷ 0 ∷ 0 ∷ value ∷ [])
    -- another page is shared, and its borrower reads that one
    ∷ (row (5 ∷ 1 ∷ 2 ∷ 1 ∷ []) ⟼ 0 ∷ 0 ∷ 0 ∷ 0 ∷ [])
    ∷ (row (7 ∷ 2 ∷ 40 ∷ 1 ∷ 1 ∷ 0 ∷ []) ⟼ 0 ∷ 0 ∷ 0 ∷ 0 ∷ [])
    ∷ (row (21 ∷ 1 ∷ 40 ∷ 0 ∷ []) ⟼ 0 ∷ 0 ∷ 0 ∷ 0 ∷ [])
    -- page 0 goes back to the pool and on to VM 2, which reads zero
    ∷ (row (9 ∷ 1 ∷ 16 ∷ []) ⟼ 0 ∷ 0 ∷ 0 ∷ 0 ∷ [])
    ∷ (row (4 ∷ 1 ∷ 0 ∷ []) ⟼ 0 ∷ 0 ∷ 0 ∷ 0 ∷ [])
    ∷ (row (3 ∷ 2 ∷ 0 ∷ []) ⟼ 0 ∷ 0 ∷ 0 ∷ 0 ∷ [])
    ∷ (row (7 ∷ 2 ∷ 41 ∷ 0 ∷ 1 ∷ 0 ∷ []) ⟼ 0 ∷ 0 ∷ 0 ∷ 0 ∷ [])
    ∷ (row (21 ∷ 1 ∷ 41 ∷ 0 ∷ []) ⟼ 0 ∷ 0 ∷ 0 ∷ 0 ∷ [])
    ∷ []

abbrev pub kept_secrets : List (List Line)
kept_secrets = kept_secret 5 ∷ kept_secret 6 ∷ []

pub kept_secret_lem : map (answers started) kept_secrets ≡ map (map heard_in) kept_secrets
unfolding computes
kept_secret_lem = refl

-- ---- a device of VM 1 writes the value to page 0, which VM 1 holds for CPU and for DMA
abbrev pub kept_by_device : ℕ → List Line
kept_by_device value =
    (row (1 ∷ 1 ∷ []) ⟼ 0 ∷ 0 ∷ 0 ∷ 0 ∷ [])
    ∷ (row (1 ∷ 2 ∷ []) ⟼ 0 ∷ 0 ∷ 0 ∷ 0 ∷ [])
    ∷ (row (11 ∷ 1 ∷ 16 ∷ 0 ∷ 3 ∷ 3 ∷ []) ⟼ 0 ∷ 0 ∷ 0 ∷ 0 ∷ [])
    ∷ (row (13 ∷ 1 ∷ 16 ∷ 0 ∷ 3 ∷ 3 ∷ []) ⟼ 0 ∷ 0 ∷ 0 ∷ 0 ∷ [])
    ∷ (row (15 ∷ 0 ∷ 1 ∷ []) ⟼ 0 ∷ 0 ∷ 0 ∷ 0 ∷ [])
    ∷ (row (15 ∷ 1 ∷ 2 ∷ []) ⟼ 0 ∷ 0 ∷ 0 ∷ 0 ∷ [])
    ∷ (row (16 ∷ 0 ∷ 1 ∷ []) ⟼ 0 ∷ 0 ∷ 0 ∷ 0 ∷ [])
    -- the device and the CPU of VM 1 read it
    ∷ (row (24 ∷ 0 ∷ 16 ∷ 0 ∷ value ∷ []) ⟼ 0 ∷ 0 ∷ 0 ∷ 0 ∷ [])
    ∷ (row (22 ∷ 0 ∷ 16 ∷ 0 ∷ []) ⟼ 0 ∷ 0 ∷ 0 ∷ value ∷ [])
    ∷ (row (21 ∷ 0 ∷ 16 ∷ 0 ∷ []) ⟼ 0 ∷ 0 ∷ 0 ∷ value ∷ [])
    -- the pages go back for DMA, and the word stays; for CPU too, and it is gone
    ∷ (row (14 ∷ 1 ∷ 16 ∷ 0 ∷ 3 ∷ 3 ∷ []) ⟼ 0 ∷ 0 ∷ 0 ∷ 0 ∷ [])
    ∷ (row (21 ∷ 0 ∷ 16 ∷ 0 ∷ []) ⟼ 0 ∷ 0 ∷ 0 ∷ value ∷ [])
    ∷ (row (12 ∷ 1 ∷ 16 ∷ 0 ∷ 3 ∷ 3 ∷ []) ⟼ 0 ∷ 0 ∷ 0 ∷ 0 ∷ [])
    ∷ (row (3 ∷ 2 ∷ 0 ∷ []) ⟼ 0 ∷ 0 ∷ 0 ∷ 0 ∷ [])
    ∷ (row (7 ∷ 2 ∷ 41 ∷ 0 ∷ 1 ∷ 0 ∷ []) ⟼ 0 ∷ 0 ∷ 0 ∷ 0 ∷ [])
    ∷ (row (21 ∷ 1 ∷ 41 ∷ 0 ∷ []) ⟼ 0 ∷ 0 ∷ 0 ∷ 0 ∷ [])
    ∷ []

abbrev pub kept_by_devices : List (List Line)
kept_by_devices = kept_by_device 5 ∷ kept_by_device 6 ∷ []

pub kept_secret_dma : map (answers started) kept_by_devices ≡ map (map heard_in) kept_by_devices
unfolding computes
kept_secret_dma = refl

-- ---- VM 1 is retired: the value is on page 3, which it owns, and on page 0, which it holds for DMA alone
abbrev pub kept_by_retire : ℕ → List Line
kept_by_retire value =
    (row (1 ∷ 1 ∷ []) ⟼ 0 ∷ 0 ∷ 0 ∷ 0 ∷ [])
    ∷ (row (1 ∷ 2 ∷ []) ⟼ 0 ∷ 0 ∷ 0 ∷ 0 ∷ [])
    ∷ (row (3 ∷ 1 ∷ 3 ∷ []) ⟼ 0 ∷ 0 ∷ 0 ∷ 0 ∷ [])
    ∷ (row (7 ∷ 1 ∷ 40 ∷ 3 ∷ 3 ∷ 0 ∷ []) ⟼ 0 ∷ 0 ∷ 0 ∷ 0 ∷ [])
    ∷ (row (13 ∷ 1 ∷ 16 ∷ 0 ∷ 3 ∷ 3 ∷ []) ⟼ 0 ∷ 0 ∷ 0 ∷ 0 ∷ [])
    ∷ (row (15 ∷ 0 ∷ 1 ∷ []) ⟼ 0 ∷ 0 ∷ 0 ∷ 0 ∷ [])
    ∷ (row (15 ∷ 1 ∷ 2 ∷ []) ⟼ 0 ∷ 0 ∷ 0 ∷ 0 ∷ [])
    ∷ (row (16 ∷ 0 ∷ 1 ∷ []) ⟼ 0 ∷ 0 ∷ 0 ∷ 0 ∷ [])
    ∷ (row (23 ∷ 0 ∷ 40 ∷ 0 ∷ value ∷ []) ⟼ 0 ∷ 0 ∷ 0 ∷ 0 ∷ [])
    ∷ (row (24 ∷ 0 ∷ 16 ∷ 0 ∷ value ∷ []) ⟼ 0 ∷ 0 ∷ 0 ∷ 0 ∷ [])
    ∷ (row (15 ∷ 0 ∷ IDLE ∷ []) ⟼ 0 ∷ 0 ∷ 0 ∷ 0 ∷ [])
    ∷ (row (16 ∷ 0 ∷ IDLE ∷ []) ⟼ 0 ∷ 0 ∷ 0 ∷ 0 ∷ [])
    ∷ (row (27 ∷ 1 ∷ []) ⟼ 0 ∷ 0 ∷ 0 ∷ 0 ∷ [])
    -- both pages go on to VM 2, which reads zero
    ∷ (row (3 ∷ 2 ∷ 3 ∷ []) ⟼ 0 ∷ 0 ∷ 0 ∷ 0 ∷ [])
    ∷ (row (3 ∷ 2 ∷ 0 ∷ []) ⟼ 0 ∷ 0 ∷ 0 ∷ 0 ∷ [])
    ∷ (row (7 ∷ 2 ∷ 41 ∷ 3 ∷ 1 ∷ 0 ∷ []) ⟼ 0 ∷ 0 ∷ 0 ∷ 0 ∷ [])
    ∷ (row (7 ∷ 2 ∷ 42 ∷ 0 ∷ 1 ∷ 0 ∷ []) ⟼ 0 ∷ 0 ∷ 0 ∷ 0 ∷ [])
    ∷ (row (21 ∷ 1 ∷ 41 ∷ 0 ∷ []) ⟼ 0 ∷ 0 ∷ 0 ∷ 0 ∷ [])
    ∷ (row (21 ∷ 1 ∷ 42 ∷ 0 ∷ []) ⟼ 0 ∷ 0 ∷ 0 ∷ 0 ∷ [])
    ∷ []

abbrev pub kept_by_retires : List (List Line)
kept_by_retires = kept_by_retire 5 ∷ kept_by_retire 6 ∷ []

pub kept_secret_retire : map (answers started) kept_by_retires ≡ map (map heard_in) kept_by_retires
unfolding computes
kept_secret_retire = refl

-- ---- without a premise on the rows
-- `shares_equal` is broken: page 0 is shared though its words are not equal in the two runs, and its borrower reads the value
abbrev pub unequal_share : ℕ → List Line
unequal_share value =
    (row (1 ∷ 1 ∷ []) ⟼ 0 ∷ 0 ∷ 0 ∷ 0 ∷ [])
    ∷ (row (1 ∷ 2 ∷ []) ⟼ 0 ∷ 0 ∷ 0 ∷ 0 ∷ [])
    ∷ (row (11 ∷ 1 ∷ 16 ∷ 0 ∷ 3 ∷ 3 ∷ []) ⟼ 0 ∷ 0 ∷ 0 ∷ 0 ∷ [])
    ∷ (row (15 ∷ 0 ∷ 1 ∷ []) ⟼ 0 ∷ 0 ∷ 0 ∷ 0 ∷ [])
    ∷ (row (15 ∷ 1 ∷ 2 ∷ []) ⟼ 0 ∷ 0 ∷ 0 ∷ 0 ∷ [])
    ∷ (row (23 ∷ 0 ∷ 16 ∷ 0 ∷ value ∷ []) ⟼ 0 ∷ 0 ∷ 0 ∷ 0 ∷ [])
    ∷ (row (5 ∷ 1 ∷ 2 ∷ 0 ∷ []) ⟼ 0 ∷ 0 ∷ 0 ∷ 0 ∷ [])
    ∷ (row (7 ∷ 2 ∷ 40 ∷ 0 ∷ 1 ∷ 0 ∷ []) ⟼ 0 ∷ 0 ∷ 0 ∷ 0 ∷ [])
    ∷ (row (21 ∷ 1 ∷ 40 ∷ 0 ∷ []) ⟼ 0 ∷ 0 ∷ 0 ∷ value ∷ [])
    ∷ []

-- `near` is broken: VM 2 writes the value, to a page of its own
abbrev pub others_value : ℕ → List Line
others_value value =
    (row (1 ∷ 2 ∷ []) ⟼ 0 ∷ 0 ∷ 0 ∷ 0 ∷ [])
    ∷ (row (3 ∷ 2 ∷ 3 ∷ []) ⟼ 0 ∷ 0 ∷ 0 ∷ 0 ∷ [])
    ∷ (row (7 ∷ 2 ∷ 16 ∷ 3 ∷ 3 ∷ 0 ∷ []) ⟼ 0 ∷ 0 ∷ 0 ∷ 0 ∷ [])
    ∷ (row (15 ∷ 1 ∷ 2 ∷ []) ⟼ 0 ∷ 0 ∷ 0 ∷ 0 ∷ [])
    ∷ (row (23 ∷ 1 ∷ 16 ∷ 0 ∷ value ∷ []) ⟼ 0 ∷ 0 ∷ 0 ∷ 0 ∷ [])
    ∷ (row (21 ∷ 1 ∷ 16 ∷ 0 ∷ []) ⟼ 0 ∷ 0 ∷ 0 ∷ value ∷ [])
    ∷ []

-- `near` is broken: VM 1 writes the value, to a page that it has shared and so is not private
abbrev pub shared_value : ℕ → List Line
shared_value value =
    (row (1 ∷ 1 ∷ []) ⟼ 0 ∷ 0 ∷ 0 ∷ 0 ∷ [])
    ∷ (row (1 ∷ 2 ∷ []) ⟼ 0 ∷ 0 ∷ 0 ∷ 0 ∷ [])
    ∷ (row (11 ∷ 1 ∷ 16 ∷ 0 ∷ 3 ∷ 3 ∷ []) ⟼ 0 ∷ 0 ∷ 0 ∷ 0 ∷ [])
    ∷ (row (5 ∷ 1 ∷ 2 ∷ 0 ∷ []) ⟼ 0 ∷ 0 ∷ 0 ∷ 0 ∷ [])
    ∷ (row (7 ∷ 2 ∷ 40 ∷ 0 ∷ 1 ∷ 0 ∷ []) ⟼ 0 ∷ 0 ∷ 0 ∷ 0 ∷ [])
    ∷ (row (15 ∷ 0 ∷ 1 ∷ []) ⟼ 0 ∷ 0 ∷ 0 ∷ 0 ∷ [])
    ∷ (row (15 ∷ 1 ∷ 2 ∷ []) ⟼ 0 ∷ 0 ∷ 0 ∷ 0 ∷ [])
    ∷ (row (23 ∷ 0 ∷ 16 ∷ 0 ∷ value ∷ []) ⟼ 0 ∷ 0 ∷ 0 ∷ 0 ∷ [])
    ∷ (row (21 ∷ 1 ∷ 40 ∷ 0 ∷ []) ⟼ 0 ∷ 0 ∷ 0 ∷ value ∷ [])
    ∷ []

abbrev pub broken : List (List Line)
broken = unequal_share 5 ∷ unequal_share 6 ∷ others_value 5 ∷ others_value 6 ∷ shared_value 5 ∷ shared_value 6 ∷ []

pub each_premise_counts : map (answers started) broken ≡ map (map heard_in) broken
unfolding computes
each_premise_counts = refl

-- `shape` is broken: a barrier in one run, "add VM 3" in the other, and neither touches memory
abbrev pub barrier : List ℕ
barrier = 25 ∷ 0 ∷ 0 ∷ 0 ∷ 0 ∷ 0 ∷ 0 ∷ 0 ∷ []

abbrev pub add_third : List ℕ
add_third = 1 ∷ 3 ∷ 0 ∷ 0 ∷ 0 ∷ 0 ∷ 0 ∷ 0 ∷ []

-- then CPU 2 goes to VM 3 and reads, and VM 3 is added: each is answered differently
abbrev pub other_operation : List ℕ → ℕ → ℕ → ℕ → List Line
other_operation first switched read added =
    (row first ⟼ 0 ∷ 0 ∷ 0 ∷ 0 ∷ [])
    ∷ (row (15 ∷ 2 ∷ 3 ∷ []) ⟼ switched ∷ 0 ∷ 0 ∷ 0 ∷ [])
    ∷ (row (21 ∷ 2 ∷ 16 ∷ 0 ∷ []) ⟼ read ∷ 0 ∷ 0 ∷ 0 ∷ [])
    ∷ (row add_third ⟼ added ∷ 0 ∷ 0 ∷ 0 ∷ [])
    ∷ []

abbrev pub other_operations : List (List Line)
other_operations = other_operation barrier 4 15 0 ∷ other_operation add_third 0 9 5 ∷ []

pub shape_counts : map (answers started) other_operations ≡ map (map heard_in) other_operations
unfolding computes
shape_counts = refl

-- ---- without a premise on the two states
-- the state that rows lead to
abbrev pub carried : State → List (List ℕ) → State
carried s [] = s
carried s (r ∷ rs) = carried (step_row s r).state rs

-- `Valid` is broken: the device of VM 2 keeps a slot onto page 0, which is now VM 1's alone
abbrev pub stale_slot : ℕ
stale_slot = slot_word 0 2 16 (entry 0 3 0)

abbrev pub with_stale_slot : State → State
with_stale_slot s =
    record {
      tables = with_route Dma s.tables (with_cache s.tables.dma (set s.tables.dma.cache 0 stale_slot) s.tables.dma.hand);
      memory = s.memory;
    }

abbrev pub before_stale : List (List ℕ)
before_stale = (1 ∷ 1 ∷ []) ∷ (1 ∷ 2 ∷ []) ∷ (3 ∷ 1 ∷ 0 ∷ []) ∷ (7 ∷ 1 ∷ 16 ∷ 0 ∷ 3 ∷ 0 ∷ []) ∷ (15 ∷ 0 ∷ 1 ∷ []) ∷ (16 ∷ 0 ∷ 2 ∷ []) ∷ []

abbrev pub stale : State
stale = with_stale_slot (carried started before_stale)

-- it reads VM 1's value, and then writes over it
abbrev pub incident : ℕ → List Line
incident value =
    (row (23 ∷ 0 ∷ 16 ∷ 0 ∷ value ∷ []) ⟼ 0 ∷ 0 ∷ 0 ∷ 0 ∷ [])
    ∷ (row (22 ∷ 0 ∷ 16 ∷ 0 ∷ []) ⟼ 0 ∷ 0 ∷ 0 ∷ value ∷ [])
    ∷ (row (24 ∷ 0 ∷ 16 ∷ 0 ∷ 9 ∷ []) ⟼ 0 ∷ 0 ∷ 0 ∷ 0 ∷ [])
    ∷ (row (21 ∷ 0 ∷ 16 ∷ 0 ∷ []) ⟼ 0 ∷ 0 ∷ 0 ∷ 9 ∷ [])
    ∷ []

abbrev pub incidents : List (List Line)
incidents = incident 5 ∷ incident 6 ∷ []

pub validity_counts : map (answers stale) incidents ≡ map (map heard_in) incidents
unfolding computes
validity_counts = refl

pub stale_held : holds_page stale.tables.sets 1 0 ≡ true
unfolding computes
stale_held = refl

pub stale_unshared : edge_on stale.tables.pairs 0 ≡ false
unfolding computes
stale_unshared = refl

pub stale_invalid : Valid stale → ⊥
unfolding computes
stale_invalid v =
    let h : Has stale.tables.dma.cache stale_slot = record { spot = 0; within = lit< tt; holds = refl; filled = λ e. omega arith } in
    let z : 0 ≡ map_word 2 16 (entry 0 3 0) = (v.tables.dma.cache.each stale_slot h).entry in
    omega arith

-- for `words` and `tables`: VM 2 has pages 3 and 4, guest page 16 leads to one of them, and page 3 begins with a value
abbrev pub lodging : ℕ → List (List ℕ)
lodging page =
    (1 ∷ 1 ∷ []) ∷ (1 ∷ 2 ∷ []) ∷ (3 ∷ 2 ∷ 3 ∷ []) ∷ (3 ∷ 2 ∷ 4 ∷ []) ∷ (7 ∷ 2 ∷ 16 ∷ page ∷ 3 ∷ 0 ∷ []) ∷ (15 ∷ 1 ∷ 2 ∷ []) ∷ []

abbrev pub lodged : ℕ → ℕ → State
lodged page value =
    let s = carried started (lodging page) in
    record { tables = s.tables; memory = set s.memory (memory_index 3 0) value }

-- VM 2 reads guest page 16
abbrev pub lodgers_read : ℕ → List Line
lodgers_read heard = (row (21 ∷ 1 ∷ 16 ∷ 0 ∷ []) ⟼ 0 ∷ 0 ∷ 0 ∷ heard ∷ []) ∷ []

-- `words` is broken: the tables are the same, the words of page 3 are not
pub words_count : (answers (lodged 3 5) (lodgers_read 5) ∷ answers (lodged 3 6) (lodgers_read 6) ∷ []) ≡ map (map heard_in) (lodgers_read 5 ∷ lodgers_read 6 ∷ [])
unfolding computes
words_count = refl

-- `tables` is broken: the memories are the same, guest page 16 leads to page 3 or to page 4
pub tables_count : (answers (lodged 3 9) (lodgers_read 9) ∷ answers (lodged 4 9) (lodgers_read 0) ∷ []) ≡ map (map heard_in) (lodgers_read 9 ∷ lodgers_read 0 ∷ [])
unfolding computes
tables_count = refl

-- `size` is broken: the tables are the same and so is every word that can be read, but one memory ends before page 7, of the shared
-- span, to which a device of VM 2 has a way
abbrev pub spanning : List (List ℕ)
spanning = (1 ∷ 1 ∷ []) ∷ (1 ∷ 2 ∷ []) ∷ (8 ∷ 2 ∷ 16 ∷ 7 ∷ 3 ∷ 0 ∷ []) ∷ (16 ∷ 0 ∷ 2 ∷ []) ∷ []

abbrev pub ending : ℕ → State
ending pages = record { tables = (carried started spanning).tables; memory = replicate (PAGE_WORDS * pages) 0 }

-- it writes a word there, and reads
abbrev pub last_page : ℕ → List Line
last_page heard =
    (row (24 ∷ 0 ∷ 16 ∷ 0 ∷ 9 ∷ []) ⟼ 0 ∷ 0 ∷ 0 ∷ 0 ∷ [])
    ∷ (row (22 ∷ 0 ∷ 16 ∷ 0 ∷ []) ⟼ 0 ∷ 0 ∷ 0 ∷ heard ∷ [])
    ∷ []

pub size_counts : (answers (ending 8) (last_page 9) ∷ answers (ending 7) (last_page 0) ∷ []) ≡ map (map heard_in) (last_page 9 ∷ last_page 0 ∷ [])
unfolding computes
size_counts = refl

-- ---- the theorem speaks of such runs: what it asks of a row, for any set of VMs and any reading of "private"
-- the row that writes a value
abbrev pub write_row : Side → ℕ → ℕ → ℕ → ℕ → List ℕ
write_row Cpu port guest word value = 23 ∷ port ∷ guest ∷ word ∷ value ∷ 0 ∷ 0 ∷ 0 ∷ []
write_row Dma port guest word value = 24 ∷ port ∷ guest ∷ word ∷ value ∷ 0 ∷ 0 ∷ 0 ∷ []

-- a row that shares nothing
pub no_share : (members : ℕ → Bool) (a b : State) (ns : List ℕ) → sharing_in (operation_in ns) ≡ None → SharesEqual members a.tables (operation_in ns) a.memory b.memory
no_share members a b ns n left right page word e = absurd (none_some (sym n ∙ e.share))

-- a member on the port may write the word, and it lies in this page
pub record MayWrite (members : ℕ → Bool) (side : Side) (t : Tables) (port guest word page : ℕ) : Type 0 where
  pub allowed : access_answer (route side t).ports (route side t).cache (route side t).walker WRITE port guest word ≡ accepted
  pub writer : members (vm_on (route side t).ports port) ≡ true
  pub reached : (access_place (route side t).ports (route side t).cache (route side t).walker port guest word).page ≡ page

-- it changes no word of another page
write_leaves : (members : ℕ → Bool) (side : Side) (s : State) (port guest word page value : ℕ) → MayWrite members side s.tables port guest word page → (page' word' : ℕ) →
    word < PAGE_WORDS → word' < PAGE_WORDS → (page ≡ page' → ⊥) → word_in (step_row s (write_row side port guest word value)).state.memory page' word' ≡ word_in s.memory page' word'
unfolding step_row operation_in step control decided apply stored
write_leaves members Cpu s port guest word page value w page' word' h h' n = rw w.allowed (store_elsewhere s.memory _ _ value page' word' h h' (λ e. n (sym w.reached ∙ e)))
write_leaves members Dma s port guest word page value w page' word' h h' n = rw w.allowed (store_elsewhere s.memory _ _ value page' word' h h' (λ e. n (sym w.reached ∙ e)))

-- a state is alike to itself
pub itself : (members : ℕ → Bool) (Secret : Tables → ℕ → Type 0) (s : State) → Alike members Secret s s
itself members Secret s = record { tables = refl; size = refl; words = λ page word h n. refl }

module _ (members : ℕ → Bool) (Secret : Tables → ℕ → Type 0) where
  -- of a row that is the same in both runs and shares nothing, nothing is asked
  pub asked_same : (a b : State) (ns : List ℕ) → sharing_in (operation_in ns) ≡ None → Asked members Secret a b ns ns
  asked_same a b ns n = record { differ = record { shape = refl; near = alike }; shares_equal = no_share members a b ns n }

  -- two values that a member writes to a private page, by CPU or by DMA
  near_write : (side : Side) (t : Tables) (port guest word page a b : ℕ) → MayWrite members side t port guest word page → Secret t page →
      Near members Secret t (control t (op.On side (sided.WriteWord port (guest_page guest) word a))).effect (control t (op.On side (sided.WriteWord port (guest_page guest) word b))).effect
  unfolding control decided
  near_write side t port guest word page a b w private = rw w.allowed (stores (other w.writer (rw (← w.reached) at private) stop))

  pub differ_write : (side : Side) (t : Tables) (port guest word page a b : ℕ) → MayWrite members side t port guest word page → Secret t page →
      Differ members Secret t (operation_in (write_row side port guest word a)) (operation_in (write_row side port guest word b))
  unfolding operation_in
  differ_write Cpu t port guest word page a b w private = record { shape = refl; near = near_write Cpu t port guest word page a b w private }
  differ_write Dma t port guest word page a b w private = record { shape = refl; near = near_write Dma t port guest word page a b w private }

  pub asked_write : (side : Side) (s s' : State) (port guest word page a b : ℕ) → MayWrite members side s.tables port guest word page → Secret s.tables page →
      Asked members Secret s s' (write_row side port guest word a) (write_row side port guest word b)
  unfolding operation_in
  asked_write side s s' port guest word page a b w private =
      record { differ = differ_write side s.tables port guest word page a b w private; shares_equal = no_share members s s' (write_row side port guest word a) (unlike side) }
    where
      unlike : (which : Side) → sharing_in (operation_in (write_row which port guest word a)) ≡ None
      unlike Cpu = refl
      unlike Dma = refl

-- ---- states that rows lead to
pub at_start : Valid started
unfolding computes
at_start = start_valid eight_pages lent refl

pub carried_valid : (s : State) → Valid s → (rs : List (List ℕ)) → Valid (carried s rs)
carried_valid s v [] = v
carried_valid s v (r ∷ rs) = carried_valid (step_row s r).state (row_valid s v r) rs

-- the VM holds the page and no edge names it, by computing
pub record Alone (vm page : ℕ) (t : Tables) : Type 0 where
  pub vm_ok : ltb vm VMS ≡ true
  pub page_ok : ltb page t.setup.pages ≡ true
  pub held : holds_page t.sets vm page ≡ true
  pub unshared : edge_on t.pairs page ≡ false

pub private_to : (vm page : ℕ) (t : Tables) → ((w : ℕ) → Has t.pairs w → filled_of w ≡ 1) → Alone vm page t → PrivateTo vm t page
private_to vm page t filled a =
    record { vm_ok = ltb-true _ _ a.vm_ok; page_ok = ltb-true _ _ a.page_ok; held = a.held; unshared = λ w h on. no_edge_on t.pairs page w a.unshared h (filled w h) on }

-- ---- by CPU: VM 1 has pages 0 to 2, and runs
abbrev pub prepared : List (List ℕ)
prepared = (1 ∷ 1 ∷ []) ∷ (1 ∷ 2 ∷ []) ∷ (11 ∷ 1 ∷ 16 ∷ 0 ∷ 3 ∷ 3 ∷ []) ∷ (15 ∷ 0 ∷ 1 ∷ []) ∷ []

abbrev pub begun : Progress
begun = beginning (carried started prepared) []

pub begun_valid : Valid begun.state
begun_valid = carried_valid started at_start prepared

-- it shares page 1, writes page 0, reads it back, unmaps it and gives it back
abbrev pub rows : ℕ → List ℕ
rows value =
    5 ∷ 1 ∷ 2 ∷ 1 ∷ 0 ∷ 0 ∷ 0 ∷ 0 ∷
    23 ∷ 0 ∷ 16 ∷ 0 ∷ value ∷ 0 ∷ 0 ∷ 0 ∷
    21 ∷ 0 ∷ 16 ∷ 0 ∷ 0 ∷ 0 ∷ 0 ∷ 0 ∷
    9 ∷ 1 ∷ 16 ∷ 0 ∷ 0 ∷ 0 ∷ 0 ∷ 0 ∷
    4 ∷ 1 ∷ 0 ∷ 0 ∷ 0 ∷ 0 ∷ 0 ∷ 0 ∷
    []

-- what stands when page 0 is written: it is VM 1's alone, and the write is accepted
abbrev pub after_share : State
after_share = (step_row begun.state (5 ∷ 1 ∷ 2 ∷ 1 ∷ 0 ∷ 0 ∷ 0 ∷ 0 ∷ [])).state

pub may_write : MayWrite (eqb 1) Cpu after_share.tables 0 16 0 0
unfolding computes
may_write = record { allowed = refl; writer = refl; reached = refl }

alone : Alone 1 0 after_share.tables
unfolding computes
alone = record { vm_ok = refl; page_ok = refl; held = refl; unshared = refl }

pub private : PrivateTo 1 after_share.tables 0
private = private_to 1 0 after_share.tables (λ w h. ((row_valid begun.state begun_valid _).tables.pairs.each w h).filled) alone

pub asked : (a b : ℕ) → Premise (eqb 1) (PrivateTo 1) begun begun (rows a) (rows b) 5
unfolding after operation_in
asked a b zero h = record { differ = record { shape = refl; near = alike }; shares_equal = λ left right page word e m o l. refl }
asked a b (suc zero) h = asked_write (eqb 1) (PrivateTo 1) Cpu after_share after_share 0 16 0 0 a b may_write private
asked a b (suc (suc zero)) h = asked_same _ _ _ _ _ refl
asked a b (suc (suc (suc zero))) h = asked_same _ _ _ _ _ refl
asked a b (suc (suc (suc (suc zero)))) h = asked_same _ _ _ _ _ refl
asked a b (suc (suc (suc (suc (suc k))))) h = absurd (omega arith)

-- so it holds of them, whichever two values VM 1 writes
pub secrecy_holds : (a b : ℕ) → StayAlike (eqb 1) (PrivateTo 1) begun begun (rows a) (rows b) 5
secrecy_holds a b = secrecy_one 1 begun begun (rows a) (rows b) 5 begun_valid (itself (eqb 1) (PrivateTo 1) begun.state) (asked a b)

-- ---- not more is asked of a share than that it is accepted and that the page's own words are equal: VM 1 writes page 1, shares page 0,
-- and is refused a share of page 1 with VM 3, which is not known
abbrev pub late_rows : ℕ → List ℕ
late_rows value =
    23 ∷ 0 ∷ 17 ∷ 0 ∷ value ∷ 0 ∷ 0 ∷ 0 ∷
    5 ∷ 1 ∷ 2 ∷ 0 ∷ 0 ∷ 0 ∷ 0 ∷ 0 ∷
    5 ∷ 1 ∷ 3 ∷ 1 ∷ 0 ∷ 0 ∷ 0 ∷ 0 ∷
    []

may_write_late : MayWrite (eqb 1) Cpu begun.state.tables 0 17 0 1
unfolding computes
may_write_late = record { allowed = refl; writer = refl; reached = refl }

alone_late : Alone 1 1 begun.state.tables
unfolding computes
alone_late = record { vm_ok = refl; page_ok = refl; held = refl; unshared = refl }

private_late : PrivateTo 1 begun.state.tables 1
private_late = private_to 1 1 begun.state.tables (λ w l. (begun_valid.tables.pairs.each w l).filled) alone_late

-- the page that is shared
abbrev page_shared : Option Sharing → ℕ
page_shared None = 0
page_shared (Some shared) = shared.page

-- of page 0 the write changes no word
stays_late : (value word : ℕ) → word < PAGE_WORDS → word_in (step_row begun.state (write_row Cpu 0 17 0 value)).state.memory 0 word ≡ word_in begun.state.memory 0 word
stays_late value word h = write_leaves (eqb 1) Cpu begun.state 0 17 0 1 value may_write_late 0 word (lit< tt) h (λ e. omega arith)

asked_early : (a b : ℕ) → Premise (eqb 1) (PrivateTo 1) begun begun (late_rows a) (late_rows b) 2
unfolding after operation_in
asked_early a b zero h = asked_write (eqb 1) (PrivateTo 1) Cpu begun.state begun.state 0 17 0 1 a b may_write_late private_late
asked_early a b (suc zero) h =
    record {
      differ = record { shape = refl; near = alike };
      shares_equal = λ left right page word e m o l. let z : 0 ≡ page = ap page_shared e.share in rw (← z) (stays_late a word l ∙ sym (stays_late b word l));
    }
asked_early a b (suc (suc k)) h = absurd (omega arith)

-- the tables then are the same whatever was written, by the theorem up to here
late_tables : (value : ℕ) → (after (late_rows value) 2 begun).state.tables ≡ (after (late_rows 0) 2 begun).state.tables
late_tables value =
    ((secrecy_one 1 begun begun (late_rows value) (late_rows 0) 2 begun_valid (itself (eqb 1) (PrivateTo 1) begun.state) (asked_early value 0)).states 2 (omega arith)).tables

refused_late : answer_in (after (late_rows 0) 2 begun).state.tables (operation_in (5 ∷ 1 ∷ 3 ∷ 1 ∷ 0 ∷ 0 ∷ 0 ∷ 0 ∷ [])) ≡ refuse VmUnknown 0
unfolding computes
refused_late = refl

pub asked_late : (a b : ℕ) → Premise (eqb 1) (PrivateTo 1) begun begun (late_rows a) (late_rows b) 3
unfolding after
asked_late a b zero h = asked_early a b 0 (omega arith)
asked_late a b (suc zero) h = asked_early a b 1 (omega arith)
asked_late a b (suc (suc zero)) h =
    record {
      differ = record { shape = refl; near = alike };
      shares_equal = λ left right page word e m o l.
          never_both (sym refused_late ∙ ap (λ (t : Tables). answer_in t (operation_in (5 ∷ 1 ∷ 3 ∷ 1 ∷ 0 ∷ 0 ∷ 0 ∷ 0 ∷ []))) (sym (late_tables a)) ∙ e.agreed);
    }
asked_late a b (suc (suc (suc k))) h = absurd (omega arith)

pub secrecy_holds_late : (a b : ℕ) → StayAlike (eqb 1) (PrivateTo 1) begun begun (late_rows a) (late_rows b) 3
secrecy_holds_late a b = secrecy_one 1 begun begun (late_rows a) (late_rows b) 3 begun_valid (itself (eqb 1) (PrivateTo 1) begun.state) (asked_late a b)

-- ---- by DMA: VM 1 has pages 0 to 2 on both sides, CPU 0 and device 0; VM 2 has CPU 1
abbrev pub prepared_dma : List (List ℕ)
prepared_dma =
    (1 ∷ 1 ∷ []) ∷ (1 ∷ 2 ∷ []) ∷ (11 ∷ 1 ∷ 16 ∷ 0 ∷ 3 ∷ 3 ∷ []) ∷ (13 ∷ 1 ∷ 16 ∷ 0 ∷ 3 ∷ 3 ∷ []) ∷ (15 ∷ 0 ∷ 1 ∷ []) ∷ (15 ∷ 1 ∷ 2 ∷ []) ∷ (16 ∷ 0 ∷ 1 ∷ []) ∷ []

abbrev pub begun_dma : Progress
begun_dma = beginning (carried started prepared_dma) []

begun_dma_valid : Valid begun_dma.state
begun_dma_valid = carried_valid started at_start prepared_dma

-- the device writes page 0 and reads it back, so does the CPU, and the page goes back and on to VM 2, which reads it
abbrev pub rows_dma : ℕ → List ℕ
rows_dma value =
    24 ∷ 0 ∷ 16 ∷ 0 ∷ value ∷ 0 ∷ 0 ∷ 0 ∷
    22 ∷ 0 ∷ 16 ∷ 0 ∷ 0 ∷ 0 ∷ 0 ∷ 0 ∷
    21 ∷ 0 ∷ 16 ∷ 0 ∷ 0 ∷ 0 ∷ 0 ∷ 0 ∷
    14 ∷ 1 ∷ 16 ∷ 0 ∷ 3 ∷ 3 ∷ 0 ∷ 0 ∷
    12 ∷ 1 ∷ 16 ∷ 0 ∷ 3 ∷ 3 ∷ 0 ∷ 0 ∷
    3 ∷ 2 ∷ 0 ∷ 0 ∷ 0 ∷ 0 ∷ 0 ∷ 0 ∷
    7 ∷ 2 ∷ 41 ∷ 0 ∷ 1 ∷ 0 ∷ 0 ∷ 0 ∷
    21 ∷ 1 ∷ 41 ∷ 0 ∷ 0 ∷ 0 ∷ 0 ∷ 0 ∷
    []

may_write_dma : MayWrite (eqb 1) Dma begun_dma.state.tables 0 16 0 0
unfolding computes
may_write_dma = record { allowed = refl; writer = refl; reached = refl }

alone_dma : Alone 1 0 begun_dma.state.tables
unfolding computes
alone_dma = record { vm_ok = refl; page_ok = refl; held = refl; unshared = refl }

private_dma : PrivateTo 1 begun_dma.state.tables 0
private_dma = private_to 1 0 begun_dma.state.tables (λ w h. (begun_dma_valid.tables.pairs.each w h).filled) alone_dma

pub asked_dma : (a b : ℕ) → Premise (eqb 1) (PrivateTo 1) begun_dma begun_dma (rows_dma a) (rows_dma b) 8
unfolding after operation_in
asked_dma a b zero h = asked_write (eqb 1) (PrivateTo 1) Dma begun_dma.state begun_dma.state 0 16 0 0 a b may_write_dma private_dma
asked_dma a b (suc zero) h = asked_same _ _ _ _ _ refl
asked_dma a b (suc (suc zero)) h = asked_same _ _ _ _ _ refl
asked_dma a b (suc (suc (suc zero))) h = asked_same _ _ _ _ _ refl
asked_dma a b (suc (suc (suc (suc zero)))) h = asked_same _ _ _ _ _ refl
asked_dma a b (suc (suc (suc (suc (suc zero))))) h = asked_same _ _ _ _ _ refl
asked_dma a b (suc (suc (suc (suc (suc (suc zero)))))) h = asked_same _ _ _ _ _ refl
asked_dma a b (suc (suc (suc (suc (suc (suc (suc zero))))))) h = asked_same _ _ _ _ _ refl
asked_dma a b (suc (suc (suc (suc (suc (suc (suc (suc k)))))))) h = absurd (omega arith)

pub secrecy_holds_dma : (a b : ℕ) → StayAlike (eqb 1) (PrivateTo 1) begun_dma begun_dma (rows_dma a) (rows_dma b) 8
secrecy_holds_dma a b = secrecy_one 1 begun_dma begun_dma (rows_dma a) (rows_dma b) 8 begun_dma_valid (itself (eqb 1) (PrivateTo 1) begun_dma.state) (asked_dma a b)
