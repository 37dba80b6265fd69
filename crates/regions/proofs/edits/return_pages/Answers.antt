-- `edits::return_pages` meets its contract. The loop has done the pages before k.
use Rattle.table.specs.Loops.{sweep_next, sweep_end}
use Rattle.model.specs.Regions.{remove_sets}
use Rattle.regions.proofs.edits.return_pages.Goals as goal

pub loop-k-preserved : goal.loop-k-preserved
loop-k-preserved c =
    sweep_next _ _ _ _ _ _ c.loop-k.invariant c.loop-k-test.true (rw (c.return_page.ensures, c.page.ensures)) c.return_page.auto.sets

pub returns : goal.returns
unfolding remove_sets
returns c = sweep_end _ _ _ _ _ c.loop-k.invariant c.loop-k-test.false
