-- `judge_homes::page_sets` meets its contract: the page sets are good exactly where each column is.
use Rattle.std.proofs.Common.{ℕ, ◌^◌, ◌<◌, arith, rules, refl, get_or}
use Rattle.numbers.specs.Limits.{SET_WORDS}
use Rattle.numbers.specs.DecidesLaws.{decides_as}
use Rattle.judge_homes.specs.EachLaws.{decides_each}
use Rattle.judge_homes.specs.PageLaws.{pages_good, column_good}
use Rattle.judge_homes.proofs.page_sets.Goals as goal

pub returns : goal.returns
returns c =
    let fit : (i : ℕ) → get_or c.args.sets.now i 0 < 2 ^ 64 = λ i. omega (arith, c.type_inv.sets i) in
    decides_as (decides_each SET_WORDS _ _ _ _ refl c.all.ensures.ran (λ x b q k. search rules))
    (λ all. pages_good _ _ _ _ _ all (omega arith))
    (λ good k h. column_good _ _ _ _ _ (omega arith) good k h fit)
