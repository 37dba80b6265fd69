-- In valid tables an operation is accepted exactly where its conditions hold; and so a row, alone, at the entry or in a sequence, by the
-- number of its answer.
use Prim.Native.Nat.{ℕ, ◌+◌, ◌*◌, ◌<◌}
use mathlib.Core.List.{List}
use mathlib.Core.Logic.{◌↔◌}
use Rattle.std.specs.Prelude.{Option, None, Some, Ok, Err}
use mathlib.Core.Path.{◌≡◌, refl, sym, ◌∙◌}
use native.Mathlib.Omega.{arith}
use lib.ListN.{get_or}
use Rattle.numbers.specs.Decides.{Decides}
use Rattle.numbers.specs.DecidesLaws.{always, says_yes, says_no}
use Rattle.numbers.specs.Limits.{READ, WRITE, ANSWER_NUMBERS}
use Rattle.numbers.specs.Meaning.{number_of, Answer}
use Rattle.numbers.specs.MeaningLaws.{refusal_above}
use Rattle.numbers.specs.declared.Side.{Side}
use Rattle.numbers.specs.declared.SideOperation.{SideOperation}
use Rattle.numbers.specs.declared.SideOperation.TheVariants as sided
use Rattle.numbers.specs.declared.Operation.{Operation}
use Rattle.numbers.specs.declared.Operation.TheVariants as op
use Rattle.model.specs.State.{Tables, State}
use Rattle.model.specs.Effect.{Effect, reads, writes, clears, decided, kept}
use Rattle.model.specs.Step.{answer_of, control, Stepped, answer_with, carried_out, step}
use Rattle.model.specs.Sequence.{operation_in, step_known, step_row, Progress, Sequenced, beginning, row_at, row_count, after, shape_answer, sequence}
use Rattle.model.specs.Valid.{ValidTables, Valid}
use Rattle.model.specs.Entries.{valid, not_valid, JudgedRow, JudgedSequence}
use Rattle.model.specs.Conditions.{accepts, Conditions, RowConditions}
use Rattle.model.proofs.ExactLedger.{add_vm_exact, remove_vm_exact, assign_exact, reclaim_exact, share_exact, unshare_exact}
use Rattle.model.proofs.ExactMaps.{map-exact, unmap_exact, port_exact, fill_exact, empty_exact, access_exact}
use Rattle.model.proofs.ExactRegions.{insert_exact, remove_exact}
use Rattle.model.proofs.ExactRetire.{retire_exact}
use Rattle.model.proofs.Answers.{roomy, answer_row}
use Rattle.model.proofs.Kept.{after_valid}

-- ---- each operation
module _ (t : Tables) (v : ValidTables t) where
  side_exactly : (side : Side) (operation : SideOperation) → Decides (accepts (answer_of t (op.On side operation))) (Conditions t (op.On side operation))
  side_exactly side (sided.MapPage vm guest page access generation) = map-exact side t v vm.0 guest.0 page.0 access generation
  side_exactly side (sided.UnmapPage vm guest) = unmap_exact side t v vm.0 guest.0
  side_exactly side (sided.InsertRegion region) = insert_exact side t v region
  side_exactly side (sided.RemoveRegion region) = remove_exact side t v region
  side_exactly side (sided.GivePort port target) = port_exact t port target
  side_exactly side (sided.FillSlot port guest) = fill_exact side t v port guest.0
  side_exactly side (sided.EmptySlot slot) = empty_exact slot
  side_exactly side (sided.ReadWord port guest word) = access_exact side t v READ port guest.0 word
  side_exactly side (sided.WriteWord port guest word value) = access_exact side t v WRITE port guest.0 word

  answer_exactly : (operation : Operation) → Decides (accepts (answer_of t operation)) (Conditions t operation)
  answer_exactly (op.AddVm vm) = add_vm_exact t v vm.0
  answer_exactly (op.RemoveVm vm) = remove_vm_exact t v vm.0
  answer_exactly (op.AssignPage vm page) = assign_exact t v vm.0 page.0
  answer_exactly (op.ReclaimPage vm page) = reclaim_exact t v vm.0 page.0
  answer_exactly (op.SharePage left right page) = share_exact t v left.0 right.0 page.0
  answer_exactly (op.UnsharePage left right page) = unshare_exact t v left.0 right.0 page.0
  answer_exactly (op.On side operation) = side_exactly side operation
  answer_exactly op.DataBarrier = always
  answer_exactly op.InstructionBarrier = always
  answer_exactly (op.RetireVm vm) = retire_exact t v vm.0

pub exactly : (t : Tables) → ValidTables t → (operation : Operation) → Decides (accepts (control t operation).answer) (Conditions t operation)
unfolding control decided
exactly t v operation = answer_exactly t v operation

-- ---- 0 is the number of what is accepted, and of no refusal
zero_accepts : (answer : Answer) → Decides (accepts answer) (number_of answer ≡ 0)
zero_accepts (Ok ok) = says_yes refl
zero_accepts (Err err) = says_no (λ e. omega (arith, refusal_above err.refusal, e))

-- the word that a read fills in changes no acceptance
word_accepts : (effect : Effect) (memory : List ℕ) (answer : Answer) → accepts (answer_with effect memory answer) ≡ accepts answer
word_accepts (reads vm places) memory (Ok ok) = refl
word_accepts (reads vm places) memory (Err err) = refl
word_accepts (writes vm stores) memory answer = refl
word_accepts (clears pages) memory answer = refl

-- ---- a row: its number is 0 exactly where it names an operation whose conditions hold
pub row_exactly : (s : State) → Valid s → (row : List ℕ) → (number_of (step_row s row).answer ≡ 0) ↔ RowConditions s.tables row
unfolding step_row step
row_exactly s v row = which (operation_in row) refl
  where
    which : (found : Option Operation) → operation_in row ≡ found → (number_of (step_known s found).answer ≡ 0) ↔ RowConditions s.tables row
    which None e = (λ z. absurd (omega (arith, z)), λ c. absurd (let z : ◌≡◌ {A = ℕ} 0 1 = cc (e, c.named) in omega arith))
    which (Some operation) e =
        let c = control s.tables operation in
        let same = word_accepts c.effect s.memory c.answer in
        let number = zero_accepts (carried_out c s.memory).answer in
        let exact = exactly s.tables v.tables operation in (
          λ z. record { operation = operation; named = e; conditions = exact.sound (sym same ∙ number.complete z) },
          λ r. let it : r.operation ≡ operation = cc (e, r.named) in number.sound (same ∙ exact.complete (rw it at r.conditions)),
        )

-- ---- a row handed to the one-operation entry, in whatever state
pub entry_exactly : (s : State) (row : List ℕ) (result : Stepped) → JudgedRow s row result → (number_of result.answer ≡ 0) ↔ (Valid s × RowConditions s.tables row)
entry_exactly s row result (valid v e) = rw e (λ z. (v, (row_exactly s v row).0 z), λ c. (row_exactly s v row).1 c.1)
entry_exactly s row result (not_valid n e) = rw e (λ z. absurd (omega (arith, z)), λ c. absurd (n c.0))

-- ---- row k of a sequence that is carried out, in the state that the rows before it left
pub answer_row_exactly : (s : State) (rows room : List ℕ) (result : Sequenced) → JudgedSequence s rows room result → number_of result.answer ≡ 0 → (k : ℕ) → k < row_count rows →
    (get_or result.progress.room (k * ANSWER_NUMBERS) 0 ≡ 0) ↔ RowConditions (after rows k (beginning s room)).state.tables (row_at rows k)
unfolding sequence
answer_row_exactly s rows room result (valid v e) z k h = rw e (carried (shape_answer rows room) refl (rw e at z))
  where
    p : Progress
    p = beginning s room

    carried : (shape : Answer) → shape_answer rows room ≡ shape → number_of shape ≡ 0 →
        (get_or (kept shape p (after rows (row_count rows) p)).room (k * ANSWER_NUMBERS) 0 ≡ 0) ↔ RowConditions (after rows k p).state.tables (row_at rows k)
    carried (Ok ok) e' z' =
        let first : k * ANSWER_NUMBERS + 0 ≡ k * ANSWER_NUMBERS = omega arith in
        rw (rw first at (answer_row rows p (row_count rows) k 0 h (omega arith) (roomy rows room e').0))
        (row_exactly (after rows k p).state (after_valid rows k p v) (row_at rows k))
    carried (Err err) e' z' = absurd (omega (arith, refusal_above err.refusal, z'))
answer_row_exactly s rows room result (not_valid n e) z k h = absurd (let z' = rw e at z in omega (arith, z'))
