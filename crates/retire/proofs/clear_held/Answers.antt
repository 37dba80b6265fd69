-- `retire::clear_held` meets its contract: the pages before this one are done.
use Rattle.std.proofs.Common.{rules, arith, ◌≡◌, ◌<◌, ◌≤◌, ◌*◌, min, sym, ◌∙◌}
use borrow.Author.Tests.{eqb-true}
use Rattle.retire.specs.HeldLaws.{clear_start, clear_hit, clear_miss, clear_skip, clear_end, unheld_block}
use Rattle.retire.proofs.clear_held.Goals as goal
use Rattle.retire.proofs.clear_held.Goals.{else-claims, then-claims}

pub loop-block-init : goal.loop-block-init
loop-block-init c =
    let z : min 0 c.args.pages ≡ 0 = omega arith in
    rw z (clear_start _ _ _ _)

pub loop-block-preserved-then-none_beside-2 : goal.loop-block-preserved-then-none_beside-2
loop-block-preserved-then-none_beside-2 c =
    let cpu = rw c.cpu_row.ensures at c.none_beside.ensures in
    let dma = rw c.dma_row.ensures at c.none_beside-then-none_beside.ensures in
    clear_skip _ _ _ _ _ _ _ c.loop-block.invariant (unheld_block _ _ _ _ (eqb-true _ _ (sym cpu ∙ c.if-none_beside.true)) (eqb-true _ _ (sym dma ∙ c.if-none_beside-2.true)))

pub loop-page-preserved : goal.loop-page-preserved
loop-page-preserved c =
    let r = c.loop-page.invariant in
    let h : c.loop-page.page < c.args.pages = search rules in
    elim c.if-claims.branch [
      | then-claims w ↦ rw w.memory-is (clear_hit _ _ _ _ _ _ _ r h w.clear_page.auto.memory (rw (← c.claims.ensures, ← c.claims-in-loop-page.ensures) w.if-claims.true) w.clear_page.ensures)
      | else-claims w ↦ rw w.memory-is (clear_miss _ _ _ _ _ _ r h (rw (← c.claims.ensures, ← c.claims-in-loop-page.ensures) w.if-claims.false))
    ]

pub returns : goal.returns
returns c =
    let h : c.args.pages ≤ min (c.loop-block.block * 64) c.args.pages = omega (arith, c.div_ceil-block-end.ensures) in
    clear_end _ _ _ _ _ _ c.loop-block.invariant h
