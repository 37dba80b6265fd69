-- `edits::take_pages` meets its contract. The loop has done the pages before k.
use Rattle.table.specs.Loops.{sweep_next, sweep_end}
use Rattle.model.specs.Regions.{insert_sets}
use Rattle.regions.proofs.edits.take_pages.Goals as goal

pub loop-k-preserved : goal.loop-k-preserved
loop-k-preserved c =
    sweep_next _ _ _ _ _ _ c.loop-k.invariant c.loop-k-test.true (rw (c.take_page.ensures, c.page.ensures)) c.take_page.auto.sets

pub returns : goal.returns
unfolding insert_sets
returns c = sweep_end _ _ _ _ _ c.loop-k.invariant c.loop-k-test.false
