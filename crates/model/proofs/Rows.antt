-- A row of an operation's number and arguments is decoded to that operation.
use mathlib.Core.Bool.{false}
use mathlib.Core.List.{◌∷◌}
use Rattle.std.specs.Prelude.{Some, Option, None}
use mathlib.Core.Path.{◌≡◌, refl}
use lib.Dec.{eqb}
use Rattle.numbers.specs.Limits.{IDLE}
use Rattle.numbers.specs.Meaning.{target_number, side_number, operation_number, side_arguments, operation_arguments}
use Rattle.numbers.specs.declared.VmId.{VmId}
use Rattle.numbers.specs.declared.Operation.{Operation}
use Rattle.numbers.specs.declared.Operation.TheVariants as op
use Rattle.numbers.specs.declared.Side.{Side}
use Rattle.numbers.specs.declared.Side.TheVariants.{Cpu, Dma}
use Rattle.numbers.specs.declared.SideOperation.{SideOperation}
use Rattle.numbers.specs.declared.SideOperation.TheVariants as sided
use Rattle.model.specs.Sequence.{operation_in, target_of}

-- rows write every target but a VM of idle's number, which is no VM's
abbrev pub Writable : Option VmId → Type 0
Writable None = Unit {0}
Writable (Some vm) = eqb vm.0 IDLE ≡ false

abbrev pub SideWritable : SideOperation → Type 0
SideWritable (sided.MapPage vm guest page access generation) = Unit {0}
SideWritable (sided.UnmapPage vm guest) = Unit {0}
SideWritable (sided.InsertRegion region) = Unit {0}
SideWritable (sided.RemoveRegion region) = Unit {0}
SideWritable (sided.GivePort port target) = Writable target
SideWritable (sided.FillSlot port guest) = Unit {0}
SideWritable (sided.EmptySlot slot) = Unit {0}
SideWritable (sided.ReadWord port guest word) = Unit {0}
SideWritable (sided.WriteWord port guest word value) = Unit {0}

abbrev pub RowWritable : Operation → Type 0
RowWritable (op.AddVm vm) = Unit {0}
RowWritable (op.RemoveVm vm) = Unit {0}
RowWritable (op.AssignPage vm page) = Unit {0}
RowWritable (op.ReclaimPage vm page) = Unit {0}
RowWritable (op.SharePage left right page) = Unit {0}
RowWritable (op.UnsharePage left right page) = Unit {0}
RowWritable (op.On side operation) = SideWritable operation
RowWritable op.DataBarrier = Unit {0}
RowWritable op.InstructionBarrier = Unit {0}
RowWritable (op.RetireVm vm) = Unit {0}

target_back : (target : Option VmId) → Writable target → target_of (target_number target) ≡ target
target_back None w = refl
target_back (Some vm) w = rw w

side_back : (side : Side) (operation : SideOperation) → SideWritable operation → operation_in (side_number side operation ∷ side_arguments operation) ≡ Some (op.On side operation)
unfolding operation_in
side_back Cpu (sided.MapPage vm guest page access generation) w = refl
side_back Cpu (sided.UnmapPage vm guest) w = refl
side_back Cpu (sided.InsertRegion region) w = refl
side_back Cpu (sided.RemoveRegion region) w = refl
side_back Cpu (sided.GivePort port target) w = rw (target_back target w)
side_back Cpu (sided.FillSlot port guest) w = refl
side_back Cpu (sided.EmptySlot slot) w = refl
side_back Cpu (sided.ReadWord port guest word) w = refl
side_back Cpu (sided.WriteWord port guest word value) w = refl
side_back Dma (sided.MapPage vm guest page access generation) w = refl
side_back Dma (sided.UnmapPage vm guest) w = refl
side_back Dma (sided.InsertRegion region) w = refl
side_back Dma (sided.RemoveRegion region) w = refl
side_back Dma (sided.GivePort port target) w = rw (target_back target w)
side_back Dma (sided.FillSlot port guest) w = refl
side_back Dma (sided.EmptySlot slot) w = refl
side_back Dma (sided.ReadWord port guest word) w = refl
side_back Dma (sided.WriteWord port guest word value) w = refl

pub row_back : (operation : Operation) → RowWritable operation → operation_in (operation_number operation ∷ operation_arguments operation) ≡ Some operation
unfolding operation_in
row_back (op.AddVm vm) w = refl
row_back (op.RemoveVm vm) w = refl
row_back (op.AssignPage vm page) w = refl
row_back (op.ReclaimPage vm page) w = refl
row_back (op.SharePage left right page) w = refl
row_back (op.UnsharePage left right page) w = refl
row_back (op.On side operation) w = side_back side operation w
row_back op.DataBarrier w = refl
row_back op.InstructionBarrier w = refl
row_back (op.RetireVm vm) w = refl
