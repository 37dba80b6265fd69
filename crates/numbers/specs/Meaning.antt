-- The numbers that the paper has for each case of each enum (docs/MACHINE.md, 2 and 7).
use Rattle.std.specs.Prelude.{ℕ, List, [], ◌∷◌, get_or, Option, Some, None, Result, Ok, Err}
use Rattle.numbers.specs.Limits.{IDLE}
use Rattle.numbers.specs.declared.Refusal.{Refusal}
use Rattle.numbers.specs.declared.Refusal.TheVariants.{
  StateNotValid,
  OutOfRange,
  BadSpan,
  VmUnknown,
  VmKnown,
  PageNotHeld,
  PageClaimed,
  NoSuchUnit,
  MappingDiffers,
  MappingPresent,
  StillInUse,
  PairWrong,
  VmBusy,
  NoRoom,
  PortIdle,
  AccessLacking,
}
use Rattle.numbers.specs.declared.Accepted.{Accepted}
use Rattle.numbers.specs.declared.Refused.{Refused}
use Rattle.numbers.specs.declared.PhysPage.{PhysPage}
use Rattle.numbers.specs.declared.VmId.{VmId}
use Rattle.numbers.specs.declared.Side.{Side}
use Rattle.numbers.specs.declared.Side.TheVariants.{Cpu, Dma}
use Rattle.numbers.specs.declared.Region.{Region}
use Rattle.numbers.specs.declared.SideOperation.{SideOperation}
use Rattle.numbers.specs.declared.SideOperation.TheVariants as sided
use Rattle.numbers.specs.declared.Operation.{Operation}
use Rattle.numbers.specs.declared.Operation.TheVariants as op

abbrev pub refusal_number : Refusal → ℕ
refusal_number StateNotValid = 1
refusal_number OutOfRange = 2
refusal_number BadSpan = 3
refusal_number VmUnknown = 4
refusal_number VmKnown = 5
refusal_number PageNotHeld = 6
refusal_number PageClaimed = 7
refusal_number NoSuchUnit = 8
refusal_number MappingDiffers = 9
refusal_number MappingPresent = 10
refusal_number StillInUse = 11
refusal_number PairWrong = 12
refusal_number VmBusy = 13
refusal_number NoRoom = 14
refusal_number PortIdle = 15
refusal_number AccessLacking = 16

-- an operation is accepted, with the slots that it dropped and the word that it read, or refused, at an index of its region
abbrev pub Answer : Type 0
Answer = Result Accepted Refused

abbrev pub accept : ℕ → ℕ → Answer
accept dropped word = Ok (record { dropped = dropped; word = word })

abbrev pub refuse : Refusal → ℕ → Answer
refuse refusal index = Err (record { refusal = refusal; index = index })

-- number, region index, dropped slots, word
abbrev pub answer_numbers : Answer → List ℕ
answer_numbers (Ok ok) = 0 ∷ 0 ∷ ok.dropped ∷ ok.word ∷ []
answer_numbers (Err err) = refusal_number err.refusal ∷ err.index ∷ 0 ∷ 0 ∷ []

-- the first of the four, which an entry returns: 0, or a refusal's
abbrev pub number_of : Answer → ℕ
number_of answer = get_or (answer_numbers answer) 0 0

-- the page's number, or no number
abbrev pub lowest_numbers : Option PhysPage → List ℕ
lowest_numbers (Some page) = page.0 ∷ []
lowest_numbers None = []

abbrev pub target_number : Option VmId → ℕ
target_number None = IDLE
target_number (Some vm) = vm.0

-- an operation of a side has a number for the CPU and one for DMA
abbrev by_side : Side → ℕ → ℕ → ℕ
by_side Cpu cpu dma = cpu
by_side Dma cpu dma = dma

abbrev pub side_number : Side → SideOperation → ℕ
side_number side (sided.MapPage vm guest page access generation) = by_side side 7 8
side_number side (sided.UnmapPage vm guest) = by_side side 9 10
side_number side (sided.InsertRegion region) = by_side side 11 13
side_number side (sided.RemoveRegion region) = by_side side 12 14
side_number side (sided.GivePort port target) = by_side side 15 16
side_number side (sided.FillSlot port guest) = by_side side 17 18
side_number side (sided.EmptySlot slot) = by_side side 19 20
side_number side (sided.ReadWord port guest word) = by_side side 21 22
side_number side (sided.WriteWord port guest word value) = by_side side 23 24

abbrev pub operation_number : Operation → ℕ
operation_number (op.AddVm vm) = 1
operation_number (op.RemoveVm vm) = 2
operation_number (op.AssignPage vm page) = 3
operation_number (op.ReclaimPage vm page) = 4
operation_number (op.SharePage left right page) = 5
operation_number (op.UnsharePage left right page) = 6
operation_number (op.On side operation) = side_number side operation
operation_number op.DataBarrier = 25
operation_number op.InstructionBarrier = 26
operation_number (op.RetireVm vm) = 27

-- the arguments, in the paper's order
abbrev pub region_numbers : Region → List ℕ
region_numbers region = region.vm.0 ∷ region.guest.0 ∷ region.page.0 ∷ region.count ∷ region.access ∷ []

abbrev pub side_arguments : SideOperation → List ℕ
side_arguments (sided.MapPage vm guest page access generation) = vm.0 ∷ guest.0 ∷ page.0 ∷ access ∷ generation ∷ []
side_arguments (sided.UnmapPage vm guest) = vm.0 ∷ guest.0 ∷ []
side_arguments (sided.InsertRegion region) = region_numbers region
side_arguments (sided.RemoveRegion region) = region_numbers region
side_arguments (sided.GivePort port target) = port ∷ target_number target ∷ []
side_arguments (sided.FillSlot port guest) = port ∷ guest.0 ∷ []
side_arguments (sided.EmptySlot slot) = slot ∷ []
side_arguments (sided.ReadWord port guest word) = port ∷ guest.0 ∷ word ∷ []
side_arguments (sided.WriteWord port guest word value) = port ∷ guest.0 ∷ word ∷ value ∷ []

abbrev pub operation_arguments : Operation → List ℕ
operation_arguments (op.AddVm vm) = vm.0 ∷ []
operation_arguments (op.RemoveVm vm) = vm.0 ∷ []
operation_arguments (op.AssignPage vm page) = vm.0 ∷ page.0 ∷ []
operation_arguments (op.ReclaimPage vm page) = vm.0 ∷ page.0 ∷ []
operation_arguments (op.SharePage left right page) = left.0 ∷ right.0 ∷ page.0 ∷ []
operation_arguments (op.UnsharePage left right page) = left.0 ∷ right.0 ∷ page.0 ∷ []
operation_arguments (op.On side operation) = side_arguments operation
operation_arguments op.DataBarrier = []
operation_arguments op.InstructionBarrier = []
operation_arguments (op.RetireVm vm) = vm.0 ∷ []
