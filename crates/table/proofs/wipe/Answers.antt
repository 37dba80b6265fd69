-- `table::wipe` meets its contract. The loop has emptied and counted the words that passed.
use Rattle.std.proofs.Common.{◌<◌, length, arith, sym, ◌∙◌}
use lib.Seq.{set-get_or}
use Rattle.table.specs.Loops.{wipe_read, wipe_hit, wipe_miss, tally_hit, tally_miss}
use Rattle.table.proofs.wipe.Goals as goal
use Rattle.table.proofs.wipe.Goals.{then-passes, else-passes}

pub loop-w-preserved : goal.loop-w-preserved
loop-w-preserved g c =
    let l = c.loop-w in
    elim c.if-passes.branch [
      | then-passes w ↦ rw (w.wiped-is, w.left-is) (
        omega arith,
        λ p tells.
            let r = l.invariant.1 p tells in
            let t = sym (tells _ _ c.passes.ensures) ∙ w.if-passes.true in
            let h : l.w-index < length l.w-items = let q = r.0.same in let b = c.loop-w-test.true in omega arith in
            let s = wipe_read _ _ _ _ r.0 h in
            (wipe_hit _ _ _ _ r.0 h t, tally_hit _ _ _ _ r.1 (omega arith) (rw s at t)),
      )
      | else-passes w ↦ rw (w.wiped-is, w.left-is, set-get_or l.w-items l.w-index 0) (
        omega arith,
        λ p tells.
            let r = l.invariant.1 p tells in
            let t = sym (tells _ _ c.passes.ensures) ∙ w.if-passes.false in
            let h : l.w-index < length l.w-items = let q = r.0.same in let b = c.loop-w-test.true in omega arith in
            let s = wipe_read _ _ _ _ r.0 h in
            (wipe_miss _ _ _ _ r.0 h t, tally_miss _ _ _ _ r.1 (omega arith) (rw s at t)),
      )
    ]
