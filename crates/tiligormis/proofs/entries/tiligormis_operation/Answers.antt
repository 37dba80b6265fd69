-- `tiligormis_operation` meets its contract: what the core leaves of the words that were loaded is what is left of the slots.
use Rattle.std.proofs.Common.{rules, ◌≡◌}
use Rattle.box_laws.specs.BoxLaws.{operation_slots}
use Rattle.tiligormis.proofs.entries.tiligormis_operation.Goals as goal

pub returns : goal.returns
returns c =
    let left = c.operation-number.new.lent in
    let sets : c.sets-1.given.0 ≡ left.sets.now = search rules in
    let pairs : c.pairs-1.given.0 ≡ left.pairs.now = search rules in
    let cpu_map : c.cpu_map-1.given.0 ≡ left.cpu_map.now = search rules in
    let cpu_walker : c.cpu_walker-1.given.0 ≡ left.cpu_walker.now = search rules in
    let dma_map : c.dma_map-1.given.0 ≡ left.dma_map.now = search rules in
    let dma_walker : c.dma_walker-1.given.0 ≡ left.dma_walker.now = search rules in
    let memory : c.memory-1.given.0 ≡ left.memory.now = search rules in
    rw (sets, pairs, cpu_map, cpu_walker, dma_map, dma_walker, memory) (
    operation_slots c.args.machine.now c.args.sets.now c.args.pairs.now c.args.cpu_map.now c.args.cpu_walker.now c.args.cpu_cache.now
    c.args.dma_map.now c.args.dma_walker.now c.args.dma_cache.now c.args.memory.now c.load-cpu_words.result c.load-dma_words.result
    c.load-cpu_words.ensures.0 c.load-dma_words.ensures.0 c.operation-number.new.header left.sets.now left.pairs.now left.cpu_map.now left.cpu_walker.now
    left.cpu_cache.now left.dma_map.now left.dma_walker.now left.dma_cache.now left.memory.now (search rules) (search rules) c.operation-number.result
    c.store.new.slots c.store-2.new.slots (search rules) (search rules) c.args.answer.now c.operation-number.new.answer c.args.row.now c.operation-number.ensures.given
    )
