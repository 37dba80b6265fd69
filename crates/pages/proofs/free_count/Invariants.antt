-- `pages::free_count` meets its contract: the count so far is that of the pages passed.
use Prim.Native.Nat.{◌≤◌, ◌-◌}
use mathlib.Core.Path.{◌≡◌}
use Rattle.pages.specs.Rows.{free_count}
use Rattle.pages.proofs.free_count.Given as goal

abbrev pub invariant-loop-page : goal.invariant-loop-page
invariant-loop-page l = (l.page ≤ l.pages) × (l.count ≡ free_count l.sets l.page)
