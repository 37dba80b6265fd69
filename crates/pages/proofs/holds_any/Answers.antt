-- `pages::holds_any` meets its contract: the loop looks for a word of the row that is not 0.
use Prim.Native.Nat.{ℕ, ◌^◌, ◌<◌}
use mathlib.Core.Path.{◌∙◌}
use native.Mathlib.Omega.{arith}
use borrow.Author.Tests.{ne_eqb, eq-eqb}
use lib.ListN.{get_or}
use Rattle.table.specs.Loops.{try_next, try_yes, try_no}
use Rattle.pages.specs.ColumnLaws.{holds_any}
use Rattle.pages.specs.RowLaws.{place_first}
use Rattle.pages.proofs.holds_any.Goals as goal

pub returns-then-sets-from-ne0 : goal.returns-then-sets-from-ne0
returns-then-sets-from-ne0 c =
    let fit : (i : ℕ) → get_or c.args.sets.now i 0 < 2 ^ 64 = λ i. omega (arith, c.shared_slice_known-1.given i) in
    let word = rw (c.word_of-from.ensures, place_first) at c.if-sets-from-ne0.true in
    try_yes _ _ _ c.loop-k.invariant c.loop-k-test.true (rw (ne_eqb _ 0 word))
    ∙ holds_any _ _ fit

pub loop-k-preserved : goal.loop-k-preserved
loop-k-preserved c =
    let word = rw (c.word_of-from.ensures, place_first) at c.if-sets-from-ne0.false in
    try_next _ _ _ c.loop-k.invariant c.loop-k-test.true (rw (eq-eqb _ 0 word))

pub returns : goal.returns
returns c =
    let fit : (i : ℕ) → get_or c.args.sets.now i 0 < 2 ^ 64 = λ i. omega (arith, c.shared_slice_known-1.given i) in
    try_no _ _ _ c.loop-k.invariant c.loop-k-test.false ∙ holds_any _ _ fit
