-- Rows and the sequence (docs/MACHINE.md, 9): eight numbers a row, four numbers an answer.
use Rattle.std.specs.Prelude.{ℕ, ◌+◌, ◌*◌, ◌/◌, ◌%◌, not, List, [], ◌∷◌, eqb, leb, length, get_or, set, take, drop, Option, None, Some}
use Rattle.std.specs.Prelude.{if◌then◌else◌}
use Rattle.numbers.specs.Limits.{ROW_NUMBERS, ANSWER_NUMBERS, IDLE}
use Rattle.numbers.specs.Meaning.{answer_numbers, Answer}
use Rattle.numbers.specs.declared.Refusal.TheVariants.{OutOfRange}
use Rattle.numbers.specs.declared.VmId.{VmId}
use Rattle.numbers.specs.declared.GuestPage.{GuestPage}
use Rattle.numbers.specs.declared.PhysPage.{PhysPage}
use Rattle.numbers.specs.declared.Region.{Region}
use Rattle.numbers.specs.declared.Side.TheVariants.{Cpu, Dma}
use Rattle.numbers.specs.declared.SideOperation.TheVariants as sided
use Rattle.numbers.specs.declared.Operation.{Operation}
use Rattle.numbers.specs.declared.Operation.TheVariants as op
use Rattle.table.specs.Scan.{repeat}
use Rattle.model.specs.State.{State}
use Rattle.model.specs.Effect.{accepted, refused, kept}
use Rattle.model.specs.Step.{Stepped, step}

-- ---- the operation of a row; numbers past its arguments are ignored, and an unknown number is none
abbrev pub vm_id : ℕ → VmId
vm_id n = record { 0 = n }

abbrev pub guest_page : ℕ → GuestPage
guest_page n = record { 0 = n }

abbrev pub phys_page : ℕ → PhysPage
phys_page n = record { 0 = n }

-- the one place that reads a row's number as idle; `target_number` writes it
abbrev pub target_of : ℕ → Option VmId
target_of n = if eqb n IDLE then None else Some (vm_id n)

abbrev pub region_of : ℕ → ℕ → ℕ → ℕ → ℕ → Region
region_of vm guest page count access = record { vm = vm_id vm; guest = guest_page guest; page = phys_page page; count = count; access = access }

abbrev pub operation_of : ℕ → ℕ → ℕ → ℕ → ℕ → ℕ → Option Operation
operation_of number a b c d e =
    if eqb number 1 then Some (op.AddVm (vm_id a))
    else if eqb number 2 then Some (op.RemoveVm (vm_id a))
    else if eqb number 3 then Some (op.AssignPage (vm_id a) (phys_page b))
    else if eqb number 4 then Some (op.ReclaimPage (vm_id a) (phys_page b))
    else if eqb number 5 then Some (op.SharePage (vm_id a) (vm_id b) (phys_page c))
    else if eqb number 6 then Some (op.UnsharePage (vm_id a) (vm_id b) (phys_page c))
    else if eqb number 7 then Some (op.On Cpu (sided.MapPage (vm_id a) (guest_page b) (phys_page c) d e))
    else if eqb number 8 then Some (op.On Dma (sided.MapPage (vm_id a) (guest_page b) (phys_page c) d e))
    else if eqb number 9 then Some (op.On Cpu (sided.UnmapPage (vm_id a) (guest_page b)))
    else if eqb number 10 then Some (op.On Dma (sided.UnmapPage (vm_id a) (guest_page b)))
    else if eqb number 11 then Some (op.On Cpu (sided.InsertRegion (region_of a b c d e)))
    else if eqb number 12 then Some (op.On Cpu (sided.RemoveRegion (region_of a b c d e)))
    else if eqb number 13 then Some (op.On Dma (sided.InsertRegion (region_of a b c d e)))
    else if eqb number 14 then Some (op.On Dma (sided.RemoveRegion (region_of a b c d e)))
    else if eqb number 15 then Some (op.On Cpu (sided.GivePort a (target_of b)))
    else if eqb number 16 then Some (op.On Dma (sided.GivePort a (target_of b)))
    else if eqb number 17 then Some (op.On Cpu (sided.FillSlot a (guest_page b)))
    else if eqb number 18 then Some (op.On Dma (sided.FillSlot a (guest_page b)))
    else if eqb number 19 then Some (op.On Cpu (sided.EmptySlot a))
    else if eqb number 20 then Some (op.On Dma (sided.EmptySlot a))
    else if eqb number 21 then Some (op.On Cpu (sided.ReadWord a (guest_page b) c))
    else if eqb number 22 then Some (op.On Dma (sided.ReadWord a (guest_page b) c))
    else if eqb number 23 then Some (op.On Cpu (sided.WriteWord a (guest_page b) c d))
    else if eqb number 24 then Some (op.On Dma (sided.WriteWord a (guest_page b) c d))
    else if eqb number 25 then Some op.DataBarrier
    else if eqb number 26 then Some op.InstructionBarrier
    else if eqb number 27 then Some (op.RetireVm (vm_id a))
    else None

unfoldable pub operation_in : List ℕ → Option Operation
operation_in row = operation_of (get_or row 0 0) (get_or row 1 0) (get_or row 2 0) (get_or row 3 0) (get_or row 4 0) (get_or row 5 0)

-- ---- one row
abbrev pub step_known : State → Option Operation → Stepped
step_known s None = record { answer = refused OutOfRange; state = s }
step_known s (Some operation) = step s operation

unfoldable pub step_row : State → List ℕ → Stepped
step_row s row = step_known s (operation_in row)

-- ---- the sequence
abbrev pub row_at : List ℕ → ℕ → List ℕ
row_at rows k = take ROW_NUMBERS (drop (k * ROW_NUMBERS) rows)

-- numbers written over a list from a place on
abbrev pub write_at : List ℕ → ℕ → List ℕ → List ℕ
write_at room i [] = room
write_at room i (n ∷ ns) = write_at (set room i n) (i + 1) ns

-- the state so far, and the answer room
pub record Progress : Type 0 where
  pub state : State
  pub room : List ℕ

-- where rows begin
abbrev pub beginning : State → List ℕ → Progress
beginning s room = record { state = s; room = room }

abbrev pub recorded : Stepped → ℕ → List ℕ → Progress
recorded r k room = record { state = r.state; room = write_at room (k * ANSWER_NUMBERS) (answer_numbers r.answer) }

abbrev pub turn : List ℕ → ℕ → Progress → Progress
turn rows k p = recorded (step_row p.state (row_at rows k)) k p.room

-- what stands after the first k rows: every state on the way, and the answers that it has written
unfoldable pub after : List ℕ → ℕ → Progress → Progress
after rows k p = repeat (turn rows) 0 k p

abbrev pub row_count : List ℕ → ℕ
row_count rows = length rows / ROW_NUMBERS

-- ---- the whole: refused for its shape, leaving everything, or carried through
unfoldable pub shape_answer : List ℕ → List ℕ → Answer
shape_answer rows room =
    if not (eqb (length rows % ROW_NUMBERS) 0) then refused OutOfRange
    else if not (leb (row_count rows * ANSWER_NUMBERS) (length room)) then refused OutOfRange
    else accepted

pub record Sequenced : Type 0 where
  pub answer : Answer
  pub progress : Progress

unfoldable pub sequence : State → List ℕ → List ℕ → Sequenced
sequence s rows room =
    let p = beginning s room in
    record { answer = shape_answer rows room; progress = kept (shape_answer rows room) p (after rows (row_count rows) p) }
