-- `pages::lowest_free` meets its contract: the loop is the search of `Rising` for a free page.
use Prim.Native.Nat.{◌-◌}
use Rattle.table.specs.Loops.{Rising}
use Rattle.pages.specs.Rows.{is_free}
use Rattle.pages.proofs.lowest_free.Given as goal

abbrev pub invariant-loop-lowest : goal.invariant-loop-lowest
invariant-loop-lowest l = Rising (is_free l.sets) l.pages l.lowest
