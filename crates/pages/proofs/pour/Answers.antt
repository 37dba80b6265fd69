-- `pages::pour` meets its contract: the words before k are poured.
use lib.ListN.{length-set}
use Rattle.table.specs.Loops.{sweep_next, sweep_end}
use Rattle.pages.specs.Pour.{pour}
use Rattle.pages.specs.RowLaws.{place_first}
use Rattle.pages.proofs.pour.Goals as goal

pub loop-k-preserved : goal.loop-k-preserved
loop-k-preserved c =
    sweep_next _ _ _ _ _ _ c.loop-k.invariant c.loop-k-test.true (rw (c.word_of-source.ensures, c.word_of-target.ensures) (simp place_first)) (simp length-set)

pub returns : goal.returns
unfolding pour
returns c = sweep_end _ _ _ _ _ c.loop-k.invariant c.loop-k-test.false
