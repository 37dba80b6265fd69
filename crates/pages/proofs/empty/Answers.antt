-- `pages::empty` meets its contract: the words before k are 0.
use lib.ListN.{length-set}
use Rattle.table.specs.Loops.{sweep_next, sweep_end}
use Rattle.pages.specs.Pour.{emptied}
use Rattle.pages.specs.RowLaws.{place_first}
use Rattle.pages.proofs.empty.Goals as goal

pub loop-k-preserved : goal.loop-k-preserved
loop-k-preserved c = sweep_next _ _ _ _ _ _ c.loop-k.invariant c.loop-k-test.true (rw (c.word_of-start.ensures, place_first)) (simp length-set)

pub returns : goal.returns
unfolding emptied
returns c = sweep_end _ _ _ _ _ c.loop-k.invariant c.loop-k-test.false
