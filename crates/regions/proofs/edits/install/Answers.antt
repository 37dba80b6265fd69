-- `edits::install` meets its contract. The loop has done the pages before k.
use Rattle.table.specs.Loops.{sweep_next, sweep_end}
use Rattle.model.specs.Regions.{insert_table}
use Rattle.regions.proofs.edits.install.Goals as goal

pub loop-k-preserved : goal.loop-k-preserved
loop-k-preserved c =
    sweep_next _ _ _ _ _ _ c.loop-k.invariant c.loop-k-test.true (rw (c.put.ensures, c.key.ensures, c.entry.ensures)) c.put.auto.words

pub returns : goal.returns
unfolding insert_table
returns c = sweep_end _ _ _ _ _ c.loop-k.invariant c.loop-k-test.false
