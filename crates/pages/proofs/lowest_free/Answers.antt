-- `pages::lowest_free` meets its contract: the loop is the search of `Rising` for a free page.
use Prim.Native.Nat.{◌<◌}
use mathlib.Core.Path.{◌≡◌, sym, ap, ◌∙◌}
use native.Mathlib.Omega.{arith}
use Rattle.table.specs.Loops.{rise_next, rise_found, rise_none}
use Rattle.pages.specs.Rows.{lowest_of, lowest_free}
use Rattle.pages.specs.RowLaws.{lowest_page, lowest_nothing}
use Rattle.pages.proofs.lowest_free.Goals as goal

pub returns-then-is_free : goal.returns-then-is_free
unfolding lowest_free
returns-then-is_free c =
    let n = c.args.pages in
    let h : c.loop-lowest.lowest < n = omega arith in
    let found = rise_found _ _ _ c.loop-lowest.invariant h (sym c.is_free.ensures ∙ c.if-is_free.true) in
    lowest_page n _ h ∙ ap (lowest_of n) found

pub loop-lowest-preserved : goal.loop-lowest-preserved
loop-lowest-preserved c = rise_next _ _ _ c.loop-lowest.invariant (omega arith) (sym c.is_free.ensures ∙ c.if-is_free.false)

pub returns : goal.returns
unfolding lowest_free
returns c =
    let n = c.args.pages in
    let e : n ≡ c.loop-lowest.lowest = omega arith in
    lowest_nothing n ∙ ap (lowest_of n) (e ∙ rise_none _ _ _ c.loop-lowest.invariant (omega arith))
