use Rattle.std.proofs.Common.{rules}
use Rattle.table.specs.ScanLaws.{count_most}
use Rattle.model.specs.Retire.{goes, retire_dropped}
use Rattle.numbers.specs.declared.Side.TheVariants.{Cpu, Dma}
use Rattle.retire.proofs.retire_do.Goals as goal

-- no cache has more slots to drop than words, and both counts fit together, being of two slices
pub overflow_add-result : goal.overflow_add-result
overflow_add-result c =
    let a = c.args in
    let cpu = count_most (goes Cpu a.lent.now.sets.now a.vm.0) a.lent.now.cpu_cache.now in
    let dma = count_most (goes Dma a.lent.now.sets.now a.vm.0) a.lent.now.dma_cache.now in
    search rules

pub returns-clause-done : goal.returns-clause-done
unfolding retire_dropped
returns-clause-done c = search rules
