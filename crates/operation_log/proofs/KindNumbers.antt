-- Kinds are exactly the operations' numbers, and a record has a field for each argument (docs/MACHINE.md, 7 and 14).
use Prim.Native.Nat.{ℕ, ◌≤◌, ◌<◌}
use mathlib.Core.Bool.{true, false}
use mathlib.Core.List.{List}
use mathlib.Core.Logic.{⊎_elim}
use mathlib.Core.Path.{◌≡◌, refl, sym, ◌∙◌}
use native.Mathlib.Omega.{arith}
use lib.Dec.{eqb, leb}
use lib.ListN.{length}
use borrow.Author.Tests.{leb-true, leb-false, ne_eqb}
use Rattle.std.specs.Prelude.{Option, None, Some}
use Rattle.numbers.specs.CaseLaws.{cases, equal, none_some}
use Rattle.numbers.specs.Decides.{Decides}
use Rattle.numbers.specs.DecidesLaws.{decides_and, decides_less, decides_most}
use Rattle.numbers.specs.Meaning.{side_number, operation_number, side_arguments, operation_arguments}
use Rattle.numbers.specs.declared.Operation.{Operation}
use Rattle.numbers.specs.declared.Operation.TheVariants as op
use Rattle.numbers.specs.declared.Side.{Side}
use Rattle.numbers.specs.declared.Side.TheVariants.{Cpu, Dma}
use Rattle.numbers.specs.declared.SideOperation.{SideOperation}
use Rattle.numbers.specs.declared.SideOperation.TheVariants as sided
use Rattle.model.specs.Sequence.{operation_of, operation_in}
use Rattle.operation_log.specs.Kinds.{KINDS, is_kind, argument_count, argument_counts}
use Rattle.operation_log.specs.Log.{kind_of, argument}
use Rattle.operation_log.specs.KindLaws.{each_kind}

-- ---- as many arguments as the operation of that number has
side_counts : (side : Side) (operation : SideOperation) → length (side_arguments operation) ≡ argument_count (side_number side operation)
unfolding argument_counts
side_counts Cpu (sided.MapPage vm guest page access generation) = refl
side_counts Dma (sided.MapPage vm guest page access generation) = refl
side_counts Cpu (sided.UnmapPage vm guest) = refl
side_counts Dma (sided.UnmapPage vm guest) = refl
side_counts Cpu (sided.InsertRegion region) = refl
side_counts Dma (sided.InsertRegion region) = refl
side_counts Cpu (sided.RemoveRegion region) = refl
side_counts Dma (sided.RemoveRegion region) = refl
side_counts Cpu (sided.GivePort port target) = refl
side_counts Dma (sided.GivePort port target) = refl
side_counts Cpu (sided.FillSlot port guest) = refl
side_counts Dma (sided.FillSlot port guest) = refl
side_counts Cpu (sided.EmptySlot slot) = refl
side_counts Dma (sided.EmptySlot slot) = refl
side_counts Cpu (sided.ReadWord port guest word) = refl
side_counts Dma (sided.ReadWord port guest word) = refl
side_counts Cpu (sided.WriteWord port guest word value) = refl
side_counts Dma (sided.WriteWord port guest word value) = refl

pub argument_counts_lem : (operation : Operation) → length (operation_arguments operation) ≡ argument_count (operation_number operation)
unfolding argument_counts
argument_counts_lem (op.AddVm vm) = refl
argument_counts_lem (op.RemoveVm vm) = refl
argument_counts_lem (op.AssignPage vm page) = refl
argument_counts_lem (op.ReclaimPage vm page) = refl
argument_counts_lem (op.SharePage left right page) = refl
argument_counts_lem (op.UnsharePage left right page) = refl
argument_counts_lem (op.On side operation) = side_counts side operation
argument_counts_lem op.DataBarrier = refl
argument_counts_lem op.InstructionBarrier = refl
argument_counts_lem (op.RetireVm vm) = refl

-- ---- a row names an operation exactly where its number is a kind, which is then the operation's number
abbrev named : Option Operation → Option ℕ
named None = None
named (Some operation) = Some (operation_number operation)

module _ (a b c d e : ℕ) where
  known_named : (n : ℕ) → is_kind n ≡ true → named (operation_of n a b c d e) ≡ Some n
  known_named = each_kind (λ n. named (operation_of n a b c d e)) Some refl

  -- no operation has a number past the last kind
  past : (n : ℕ) → KINDS < n → (k : ℕ) → leb k KINDS ≡ true → eqb n k ≡ false
  past n h k l = ne_eqb n k (λ q. omega (arith, leb-true k KINDS l))

  past_none : (n : ℕ) → KINDS < n → operation_of n a b c d e ≡ None
  past_none n h = simp (past n h)

  kind_of_some : (n : ℕ) (operation : Operation) → operation_of n a b c d e ≡ Some operation → is_kind n ≡ true
  kind_of_some n operation is = (decides_and (decides_less 0 n) (decides_most n KINDS)).complete (nonzero, known)
    where
      nonzero : 0 < n
      nonzero = ⊎_elim (λ (z : n ≡ 0). absurd (none_some (rw z at is))) (λ nz. omega arith) (equal n 0)

      known : n ≤ KINDS
      known = ⊎_elim (λ t. leb-true n KINDS t) (λ f. absurd (none_some (sym (past_none n (leb-false n KINDS f)) ∙ is))) (cases (leb n KINDS))

-- both, of a row: the kinds are the numbers of rows that name an operation
some_named : (found : Option Operation) (n : ℕ) → named found ≡ Some n → (operation : Operation) × (found ≡ Some operation) × (operation_number operation ≡ n)
some_named None n e = absurd (none_some e)
some_named (Some operation) n e = (operation, refl, cc)

pub kinds_rows : (row : List ℕ) → Decides (is_kind (kind_of row)) ((operation : Operation) × (operation_in row ≡ Some operation))
unfolding operation_in
kinds_rows row =
    let a = argument row 0 in
    let b = argument row 1 in
    let c = argument row 2 in
    let d = argument row 3 in
    let e = argument row 4 in
    record {
      sound = λ h. let s = some_named (operation_in row) (kind_of row) (known_named a b c d e (kind_of row) h) in (s.0, s.1);
      complete = λ s. kind_of_some a b c d e (kind_of row) s.0 s.1;
    }

pub kind_named : (row : List ℕ) (operation : Operation) → operation_in row ≡ Some operation → operation_number operation ≡ kind_of row
unfolding operation_in
kind_named row operation e =
    let h = (kinds_rows row).complete (operation, e) in
    let s = some_named (operation_in row) (kind_of row) (known_named (argument row 0) (argument row 1) (argument row 2) (argument row 3) (argument row 4) (kind_of row) h) in
    cc
