-- `pages::free_count` meets its contract: the count so far is that of the pages passed.
use mathlib.Core.Path.{sym, ◌∙◌}
use native.Mathlib.Omega.{arith}
use borrow.Author.Rules.{rules}
use Rattle.pages.specs.Rows.{free_count}
use Rattle.pages.specs.RowLaws.{free_count-found, free_count-passed, free_count-le}
use Rattle.pages.proofs.free_count.Goals as goal
use Rattle.pages.proofs.free_count.Goals.{else-is_free, then-is_free}

pub loop-page-init : goal.loop-page-init
unfolding free_count
loop-page-init c = search rules

pub overflow_add-count : goal.overflow_add-count
overflow_add-count c = omega (arith, free_count-le c.args.sets.now c.loop-page.page)

pub loop-page-preserved : goal.loop-page-preserved
loop-page-preserved c =
    let test = sym c.is_free.ensures in (
      omega arith,
      elim c.if-is_free.branch [
        | then-is_free w ↦ omega (arith, free_count-found _ _ (test ∙ w.if-is_free.true))
        | else-is_free w ↦ omega (arith, free_count-passed _ _ (test ∙ w.if-is_free.false))
      ],
    )
