-- Every operation on a valid state is a run of upstream's steps, and of the five that upstream lacks; a refused one is the
-- run of none. Which steps an operation is stands in UpstreamRun.
use Prim.Native.Nat.{ℕ}
use mathlib.Core.List.{List}
use mathlib.Core.Path.{◌≡◌}
use Rattle.numbers.specs.Meaning.{accept}
use Rattle.numbers.specs.declared.Operation.{Operation}
use Rattle.numbers.specs.declared.Operation.TheVariants as op
use Rattle.numbers.specs.declared.Side.{Side}
use Rattle.numbers.specs.declared.SideOperation.{SideOperation}
use Rattle.numbers.specs.declared.SideOperation.TheVariants as sided
use Rattle.model.specs.State.{State}
use Rattle.model.specs.Step.{answer_of, next_of, effect_of, control, step}
use Rattle.model.specs.Valid.{Valid}
use Rattle.model.specs.Effect.{accepted}
use Rattle.model.specs.Start.{Told, start_answer, start}
use Rattle.model.specs.Header.{Lists}
use Rattle.model.specs.Sequence.{beginning, after}
use Rattle.model.specs.Upstream.{WellFormed}
use Rattle.model.specs.UpstreamRun.{dsb, isb, software_calls, hardware_calls, FollowsUpstream}
use Rattle.model.proofs.Kept.{started_valid}
use Rattle.model.proofs.UpstreamWf.{well_formed}
use Rattle.model.proofs.UpstreamFollows.{same_hardware, AcceptedFollows, decided_follows}
use Rattle.model.proofs.UpstreamLedger.{add_vm_follows, remove_vm_follows, assign_follows, reclaim_follows, share_follows, unshare_follows}
use Rattle.model.proofs.UpstreamMaps.{map-follows, unmap_follows}
use Rattle.model.proofs.UpstreamRegions.{insert_follows, remove_follows}
use Rattle.model.proofs.UpstreamPorts.{port_follows, fill_follows, empty_follows, barrier_follows}
use Rattle.model.proofs.UpstreamAccess.{read_follows, write_follows}
use Rattle.model.proofs.UpstreamRetire.{retire_follows}

-- ---- an accepted operation of a side, and any accepted operation
module _ (s : State) (v : Valid s) where
  side_follows : (side : Side) (operation : SideOperation) {dropped word : ℕ} → answer_of s.tables (op.On side operation) ≡ accept dropped word →
      AcceptedFollows s (op.On side operation)
  side_follows side (sided.MapPage vm guest page access generation) e = map-follows side s v.tables vm guest page access generation e
  side_follows side (sided.UnmapPage vm guest) e = unmap_follows side s v.tables vm guest e
  side_follows side (sided.InsertRegion region) e = insert_follows side s v.tables region e
  side_follows side (sided.RemoveRegion region) e = remove_follows side s v.tables region e
  side_follows side (sided.GivePort port target) e = port_follows side s v.tables port target e
  side_follows side (sided.FillSlot port guest) e = fill_follows side s v.tables port guest e
  side_follows side (sided.EmptySlot slot) e = empty_follows side s v.tables slot e
  side_follows side (sided.ReadWord port guest word) e = read_follows s v side port guest word e
  side_follows side (sided.WriteWord port guest word value) e = write_follows s v side port guest word value e

  accepted_follows : (operation : Operation) {dropped word : ℕ} → answer_of s.tables operation ≡ accept dropped word → AcceptedFollows s operation
  accepted_follows (op.AddVm vm) e = add_vm_follows s v.tables vm e
  accepted_follows (op.RemoveVm vm) e = remove_vm_follows s v.tables vm e
  accepted_follows (op.AssignPage vm page) e = assign_follows s v.tables vm page e
  accepted_follows (op.ReclaimPage vm page) e = reclaim_follows s v.tables vm page e
  accepted_follows (op.SharePage left right page) e = share_follows s v.tables left right page e
  accepted_follows (op.UnsharePage left right page) e = unshare_follows s v.tables left right page e
  accepted_follows (op.On side operation) e = side_follows side operation e
  accepted_follows op.DataBarrier e = barrier_follows s dsb (same_hardware _)
  accepted_follows op.InstructionBarrier e = barrier_follows s isb (same_hardware _)
  accepted_follows (op.RetireVm vm) e = retire_follows s v.tables vm e

-- ---- and a refused one takes no step
pub follows_upstream : (s : State) → Valid s → (operation : Operation) → FollowsUpstream s operation
unfolding control step
follows_upstream s v operation =
    let t = s.tables in
    decided_follows s (answer_of t operation) (next_of t operation) (effect_of t operation) (software_calls t operation) (hardware_calls t operation)
    (λ dropped word e. accepted_follows s v operation e)

-- ---- upstream's wf holds of every state that the machine comes to: after an accepted start, and however many rows follow
pub reached_well_formed : (told : Told) (lent : Lists) → start_answer told lent ≡ accepted → (rows room : List ℕ) (k : ℕ) → WellFormed (after rows k (beginning (start told lent).state room)).state
reached_well_formed told lent e rows room k = well_formed _ (started_valid told lent e rows room k).tables
