-- `pages::held_for_dma` meets its contract: the loop asks each VM's DMA row.
use Prim.Native.Nat.{ℕ, ◌-◌}
use Rattle.numbers.specs.Limits.{VMS}
use Rattle.table.specs.Loops.{Trying}
use Rattle.pages.specs.Rows.{dma_row, holds}
use Rattle.pages.proofs.held_for_dma.Given as goal

abbrev pub invariant-loop-vm : goal.invariant-loop-vm
invariant-loop-vm l = Trying (λ (v : ℕ). holds l.sets (dma_row v) l.page.0) VMS l.vm
