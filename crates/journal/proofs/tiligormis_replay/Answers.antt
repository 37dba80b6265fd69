-- `tiligormis_replay` meets its contract: what the core leaves of the words that were loaded is what is left of the slots.
use Rattle.std.proofs.Common.{rules}
use Rattle.model.specs.Header.{Lists, lists}
use Rattle.journal.specs.ReplayLaws.{replay_slots}
use Rattle.journal.proofs.tiligormis_replay.Goals as goal

pub returns : goal.returns
returns c =
    let a = c.args in
    let given : Lists =
    record {
      sets = a.sets.now;
      pairs = a.pairs.now;
      cpu_map = a.cpu_map.now;
      cpu_walker = a.cpu_walker.now;
      cpu_cache = c.load-cpu_words.result;
      dma_map = a.dma_map.now;
      dma_walker = a.dma_walker.now;
      dma_cache = c.load-dma_words.result;
      memory = a.memory.now;
    }
    in
    rw c.stop_number.ensures
    (replay_slots a.machine.now given a.cpu_cache.now a.dma_cache.now c.load-cpu_words.ensures.0 c.load-dma_words.ensures.0
    c.replay-stop.new.header (lists c.replay-stop.new.lent) (search rules) (search rules) _ _ c.replay-stop.new.place c.replay-stop.new.answers
    c.replay-stop.new.taken a.log.now a.place.now a.most a.answers.now a.taken.now (search rules) (rw c.stored_by-stored.ensures at c.store.ensures)
    (rw c.stored_by-stored.ensures at c.store-2.ensures) c.replay-stop.ensures.given)
