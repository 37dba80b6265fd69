-- `pages::held_for_dma` meets its contract: the loop asks each VM's DMA row.
use Prim.Native.Nat.{ℕ}
use mathlib.Core.Bool.{Bool}
use mathlib.Core.List.{List}
use mathlib.Core.Path.{◌≡◌, sym, ap, ◌∙◌}
use native.Mathlib.Omega.{arith}
use Rattle.table.specs.Loops.{try_next, try_yes, try_no}
use Rattle.pages.specs.Rows.{dma_row, holds, held_for_dma}
use Rattle.pages.proofs.held_for_dma.Goals as goal

-- the row that is asked is the VM's DMA row
asked : (sets : List ℕ) (row vm page : ℕ) {answer : Bool} → row ≡ dma_row vm → holds sets row page ≡ answer → holds sets (dma_row vm) page ≡ answer
asked sets row vm page e h = ap (λ (r : ℕ). holds sets r page) (sym e) ∙ h

pub returns-then-holds : goal.returns-then-holds
unfolding held_for_dma
returns-then-holds c = try_yes _ _ _ c.loop-vm.invariant (omega arith) (asked _ _ _ _ (omega arith) (sym c.holds.ensures ∙ c.if-holds.true))

pub loop-vm-preserved : goal.loop-vm-preserved
loop-vm-preserved c = try_next _ _ _ c.loop-vm.invariant (omega arith) (asked _ _ _ _ (omega arith) (sym c.holds.ensures ∙ c.if-holds.false))

pub returns : goal.returns
unfolding held_for_dma
returns c = try_no _ _ _ c.loop-vm.invariant c.loop-vm-test.false
