-- Every step owes what `Good` says, and every state on the way of a sequence is valid.
use Prim.Native.Nat.{ℕ, ◌<◌}
use mathlib.Core.List.{List}
use Rattle.std.specs.Prelude.{Option, None, Some, Ok, Err}
use mathlib.Core.Path.{◌≡◌, ◌∙◌}
use native.Mathlib.Omega.{arith}
use lib.ListN.{length}
use Rattle.numbers.specs.Limits.{PAGE_WORDS}
use Rattle.numbers.specs.Meaning.{Answer, accept}
use Rattle.numbers.specs.declared.Operation.{Operation}
use Rattle.numbers.specs.declared.Operation.TheVariants as op
use Rattle.numbers.specs.declared.Side.{Side}
use Rattle.numbers.specs.declared.SideOperation.{SideOperation}
use Rattle.numbers.specs.declared.SideOperation.TheVariants as sided
use Rattle.model.specs.State.{Tables, State}
use Rattle.model.specs.Effect.{accepted, kept, memory_index}
use Rattle.model.specs.Step.{answer_of, control, step}
use Rattle.model.specs.Start.{Told, start_answer, start}
use Rattle.model.specs.Header.{Lists}
use Rattle.model.specs.Sequence.{operation_in, step_known, step_row, Progress, beginning, turn, after, row_count, shape_answer, sequence, row_at}
use Rattle.model.proofs.StepShape.{step_sizes}
use Rattle.model.specs.Valid.{ValidTables, Valid}
use Rattle.model.specs.Good.{Touches, Good}
use Rattle.model.proofs.StartKept.{start_valid}
use Rattle.table.specs.RepeatLaws.{repeat_keeps}
use Rattle.model.proofs.Refused.{AcceptedGood, good_where_accepted}
use Rattle.model.proofs.GoodLedger.{add_vm_good, remove_vm_good, assign_good, reclaim_good, share_good, unshare_good}
use Rattle.model.proofs.GoodMaps.{map-good, unmap_good}
use Rattle.model.proofs.GoodRegions.{insert_good, remove_good}
use Rattle.model.proofs.GoodPorts.{port_good, fill_good, empty_good}
use Rattle.model.proofs.GoodAccess.{read_good, write_good, data_barrier_good, instruction_barrier_good}
use Rattle.model.proofs.GoodRetire.{retire_good}

-- ---- each operation, where it is accepted
module _ (t : Tables) (v : ValidTables t) {dropped word : ℕ} where
  side_good : (side : Side) (operation : SideOperation) → answer_of t (op.On side operation) ≡ accept dropped word → AcceptedGood t (op.On side operation)
  side_good side (sided.MapPage vm guest page access generation) e = map-good side t v vm guest page access generation e
  side_good side (sided.UnmapPage vm guest) e = unmap_good side t v vm guest
  side_good side (sided.InsertRegion region) e = insert_good side t v region e
  side_good side (sided.RemoveRegion region) e = remove_good side t v region e
  side_good side (sided.GivePort port target) e = port_good side t v port target e
  side_good side (sided.FillSlot port guest) e = fill_good side t v port guest e
  side_good side (sided.EmptySlot slot) e = empty_good side t v slot
  side_good side (sided.ReadWord port guest at) e = read_good side t v port guest at e
  side_good side (sided.WriteWord port guest at value) e = write_good side t v port guest at value e

  accepted_good : (operation : Operation) → answer_of t operation ≡ accept dropped word → AcceptedGood t operation
  accepted_good (op.AddVm vm) e = add_vm_good t v vm e
  accepted_good (op.RemoveVm vm) e = remove_vm_good t v vm e
  accepted_good (op.AssignPage vm page) e = assign_good t v vm page e
  accepted_good (op.ReclaimPage vm page) e = reclaim_good t v vm page e
  accepted_good (op.SharePage left right page) e = share_good t v left right page e
  accepted_good (op.UnsharePage left right page) e = unshare_good t v left right page e
  accepted_good (op.On side operation) e = side_good side operation e
  accepted_good op.DataBarrier e = data_barrier_good t v
  accepted_good op.InstructionBarrier e = instruction_barrier_good t v
  accepted_good (op.RetireVm vm) e = retire_good t v vm e

pub good : (t : Tables) → ValidTables t → (operation : Operation) → Good t operation (control t operation)
good t v operation = good_where_accepted t v operation (λ dropped word e. accepted_good t v operation e)

-- ---- valid states
pub step_valid : (s : State) → Valid s → (operation : Operation) → Valid (step s operation).state
unfolding step
step_valid s v operation =
    let sizes = step_sizes s operation in
    record { tables = (good s.tables v.tables operation).valid; memory = sizes.memory ∙ v.memory ∙ rw sizes.tables.setup }

pub row_valid : (s : State) → Valid s → (row : List ℕ) → Valid (step_row s row).state
unfolding step_row
row_valid s v row = go (operation_in row)
  where
    go : (found : Option Operation) → Valid (step_known s found).state
    go None = v
    go (Some operation) = step_valid s v operation

-- ---- every word of a page that an operation reads or writes is one of the memory's
pub touched_inside : (s : State) → Valid s → (operation : Operation) (bit vm page word : ℕ) → Touches bit (control s.tables operation).effect vm page → word < PAGE_WORDS →
    memory_index page word < length s.memory
touched_inside s v operation bit vm page word touches h =
    let below : page < s.tables.setup.pages = ((good s.tables v.tables operation).reach bit vm page touches).may.page_ok in
    omega (arith, v.memory)

-- ---- many rows
-- every state on the way, and so the last
pub after_valid : (rows : List ℕ) (k : ℕ) (p : Progress) → Valid p.state → Valid (after rows k p).state
unfolding after
after_valid rows k p v = repeat_keeps (turn rows) (λ i q. Valid q.state) k (λ i q h w. row_valid q.state w (row_at rows i)) p v

pub sequence_valid : (s : State) → Valid s → (rows room : List ℕ) → Valid (sequence s rows room).progress.state
unfolding sequence
sequence_valid s v rows room = go (shape_answer rows room)
  where
    go : (answer : Answer) → Valid (kept answer (beginning s room) (after rows (row_count rows) (beginning s room))).state
    go (Ok ok) = after_valid rows (row_count rows) (beginning s room) v
    go (Err err) = v

-- ---- so the machine never leaves the valid states: after a start that was accepted, however many rows follow
pub started_valid : (told : Told) (lent : Lists) → start_answer told lent ≡ accepted → (rows room : List ℕ) (k : ℕ) → Valid (after rows k (beginning (start told lent).state room)).state
started_valid told lent e rows room k = after_valid rows k (beginning (start told lent).state room) (start_valid told lent e)
