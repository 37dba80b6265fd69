-- `pages::is_free` meets its contract: the pool is asked, and of a page in it the DMA rows.
use Rattle.pages.specs.Rows.{is_free}
use Rattle.pages.proofs.is_free.Goals as goal

pub returns-then-holds : goal.returns-then-holds
unfolding is_free
returns-then-holds c = rw (c.held_for_dma.ensures, ← c.holds.ensures, c.if-holds.true)

pub returns-else-holds : goal.returns-else-holds
unfolding is_free
returns-else-holds c = rw (← c.holds.ensures, c.if-holds.false)
