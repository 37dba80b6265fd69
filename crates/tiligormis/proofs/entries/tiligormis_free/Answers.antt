-- `tiligormis_free` meets its contract: the query over the words that were loaded is one over the slots.
use borrow.Author.Rules.{rules}
use Rattle.box_laws.specs.BoxLaws.{free_slots}
use Rattle.tiligormis.proofs.entries.tiligormis_free.Goals as goal

pub returns : goal.returns
returns c = free_slots c.args.machine.now c.args.sets.now c.args.pairs.now c.args.cpu_map.now c.args.cpu_walker.now c.args.cpu_cache.now
    c.args.dma_map.now c.args.dma_walker.now c.args.dma_cache.now c.args.memory.now c.load-cpu_words.result c.load-dma_words.result
    c.load-cpu_words.ensures.0 c.load-dma_words.ensures.0 _ c.free.ensures
