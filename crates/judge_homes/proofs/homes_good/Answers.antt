-- `judge_homes::homes_good` meets its contract: at the head of the loop the first VMs are good.
use Prim.Native.Nat.{ℕ, ◌<◌, ◌^◌}
use native.Mathlib.Omega.{arith}
use borrow.Author.Tests.{ne_eqb, eq-eqb}
use lib.Bits.{bit_and}
use lib.Dec.{eqb}
use lib.ListN.{get_or}
use Rattle.numbers.specs.Decides.{Decides}
use Rattle.numbers.specs.DecidesLaws.{says_no, refutes}
use Rattle.model.specs.Views.{knows}
use Rattle.judge_homes.specs.Columns.{pool_word, shared_word, Apart}
use Rattle.judge_homes.specs.WordLaws.{apart_decides}
use Rattle.judge_homes.specs.ColumnLaws.{NextGood, two_apart, pass_start, pass_next, pass_good, pass_end}
use Rattle.judge_homes.proofs.homes_good.Goals as goal
use Rattle.judge_homes.proofs.homes_good.Goals.{After-column_word-shared, After-vm_good}

fit : (c : After-column_word-shared) (i : ℕ) → get_or c.args.sets.now i 0 < 2 ^ 64
fit c i = omega (arith, c.type_inv.sets i)

-- the test of the pool and the span
two : (c : After-column_word-shared) → Decides (eqb (bit_and c.column_word-pool.result c.column_word-shared.result) 0) (Apart (pool_word c.args.sets.now c.args.k) (shared_word c.args.sets.now c.args.k))
two c = rw (c.column_word-pool.ensures, c.column_word-shared.ensures) (apart_decides _ _ (fit c _) (fit c _))

-- the test of a VM
next : (c : After-vm_good) → Decides c.vm_good.result (NextGood c.args.known c.args.sets.now c.args.k c.loop-vm.vm c.loop-vm.held c.loop-vm.dma_held)
unfolding knows
next c =
    rw (
      c.has_bit.ensures,
      c.column_word-pool.ensures,
      c.column_word-cpu.ensures,
      c.cpu_row.ensures,
      c.column_word-dma.ensures,
      c.dma_row.ensures,
    ) at c.vm_good.ensures

pub returns-then-pool-shared-ne0 : goal.returns-then-pool-shared-ne0
returns-then-pool-shared-ne0 c =
    let w = (goal.at.returns-then-pool-shared-ne0 c).After-column_word-shared in
    says_no (λ g. refutes (two w) (ne_eqb _ 0 c.if-pool-shared-ne0.true) (two_apart _ _ _ (fit w) _ g))

pub loop-vm-init : goal.loop-vm-init
loop-vm-init c =
    let w = (goal.at.loop-vm-init c).After-column_word-shared in
    rw (c.column_word-pool.ensures, c.column_word-shared.ensures)
    (pass_start _ _ _ (fit w) ((two w).sound (eq-eqb _ 0 c.if-pool-shared-ne0.false)))

pub returns-then-not-vm_good : goal.returns-then-not-vm_good
returns-then-not-vm_good c =
    let w = (goal.at.returns-then-not-vm_good c).After-vm_good in
    says_no (λ g. refutes (next w) c.if-not-vm_good.true (pass_good _ _ _ _ _ _ _ c.loop-vm.invariant c.loop-vm-test.true g))

pub loop-vm-preserved : goal.loop-vm-preserved
loop-vm-preserved c =
    let w = (goal.at.loop-vm-preserved c).After-vm_good in
    rw (
      c.column_word-cpu.ensures,
      c.cpu_row.ensures,
      c.column_word-dma.ensures,
      c.dma_row.ensures,
    )
    (pass_next _ _ _ (fit (goal.at.loop-vm-preserved c).After-column_word-shared) _ _ _ c.loop-vm.invariant c.loop-vm-test.true ((next w).sound c.if-not-vm_good.false))

pub returns : goal.returns
returns c = pass_end _ _ _ _ _ _ _ c.loop-vm.invariant c.loop-vm-test.false
