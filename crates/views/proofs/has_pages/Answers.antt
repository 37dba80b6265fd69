use Rattle.model.specs.Views.{has_pages}
use Rattle.views.proofs.has_pages.Goals as goal

pub returns-in-Cpu : goal.returns-in-Cpu
unfolding has_pages
returns-in-Cpu c = rw (c.in-Cpu.is, ← c.cpu_row.ensures, ← c.holds_any.ensures)

pub returns-in-Dma : goal.returns-in-Dma
unfolding has_pages
returns-in-Dma c = rw (c.in-Dma.is, ← c.dma_row.ensures, ← c.holds_any-in-Dma.ensures)
