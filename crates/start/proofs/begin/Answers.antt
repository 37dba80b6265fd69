-- `start::begin` meets its contract. Refused, it has lent everything to be read only; accepted, each list comes back as one call left it.
use Rattle.std.proofs.Common.{sym, ◌∙◌, rules}
use Rattle.model.specs.Start.{start, empty_state}
use Rattle.model.specs.ToldLaws.{start_passed}
use Rattle.start.specs.StartLaws.{start_accepted}
use Rattle.start.proofs.begin.Goals as goal

pub returns-in_err-start_answer-clause-begun : goal.returns-in_err-start_answer-clause-begun
unfolding start empty_state
returns-in_err-start_answer-clause-begun c = rw (← c.seen.ensures, ← c.start_answer.ensures, c.in_err-start_answer.was) (search rules)

pub fresh_sets-requires : goal.fresh_sets-requires
fresh_sets-requires c =
    let p = start_passed _ _ (sym (rw c.seen.ensures at c.start_answer.ensures) ∙ c.in_ok-start_answer.was) in
    (p.pages_ok, p.shared_ok, p.lengths.sets)

pub fresh_machine-requires : goal.fresh_machine-requires
fresh_machine-requires c = (start_passed _ _ (sym c.start_answer.ensures ∙ c.in_ok-start_answer.was)).units_ok

pub returns-clause-begun : goal.returns-clause-begun
returns-clause-begun c =
    start_accepted _ _ _ _ _ (sym (rw c.seen.ensures at c.start_answer.ensures) ∙ c.in_ok-start_answer.was)
    (record {
      header_is = c.fresh_machine.ensures;
      sets_are = c.fresh_sets.ensures;
      pairs_are = c.clear_words.ensures;
      cpu_map_is = c.clear_route.ensures.0;
      cpu_walker_is = c.clear_route.ensures.1;
      cpu_cache_is = c.clear_route.ensures.2;
      dma_map_is = c.clear_route-2.ensures.0;
      dma_walker_is = c.clear_route-2.ensures.1;
      dma_cache_is = c.clear_route-2.ensures.2;
      memory_is = c.clear_words-2.ensures;
    })
