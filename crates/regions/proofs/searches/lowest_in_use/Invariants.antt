-- `searches::lowest_in_use` meets its contract. The loops have passed pages that are not in use, and words that do not hold the page back.
use Rattle.std.proofs.Common.{ℕ, ◌&&◌}
use Rattle.table.specs.Loops.{Asking, Rising}
use Rattle.model.specs.Views.{on_page, but_key}
use Rattle.model.specs.Regions.{in_use}
use Rattle.regions.proofs.searches.lowest_in_use.Given as goal

abbrev pub invariant-loop-w : goal.invariant-loop-w
invariant-loop-w l = Asking (λ (w : ℕ). but_key l.own w && on_page l.page.0 w) l.map l.w-index

abbrev pub invariant-loop-pair : goal.invariant-loop-pair
invariant-loop-pair l = Asking (on_page l.page.0) l.edges l.pair-index

abbrev pub invariant-loop-k : goal.invariant-loop-k
invariant-loop-k l = Rising (in_use l.fn.side l.pairs l.map l.placed.region) l.placed.region.count l.k
