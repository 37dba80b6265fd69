-- `judge_homes::below` meets its contract: no bit, every bit, or the bits below the count.
use Prim.Native.Nat.{◌-◌, ◌*◌, ◌<◌, min}
use mathlib.Core.Path.{◌≡◌}
use native.Mathlib.Omega.{arith}
use Rattle.pages.specs.BitLaws.{shl_one}
use Rattle.pages.specs.Columns.{below_word}
use Rattle.judge_homes.proofs.below.Goals as goal

pub returns-then-n-from : goal.returns-then-n-from
unfolding below_word
returns-then-n-from c =
    let e : min 64 (c.args.n - c.args.k * 64) ≡ 0 = omega arith in rw e

pub returns-then-count-ge64 : goal.returns-then-count-ge64
unfolding below_word
returns-then-count-ge64 c =
    let e : min 64 (c.args.n - c.args.k * 64) ≡ 64 = omega arith in rw e

pub returns : goal.returns
unfolding below_word
returns c =
    let count = c.args.n - c.args.k * 64 in
    let h : count < 64 = omega arith in
    let e : min 64 count ≡ count = omega arith in
    rw (e, shl_one count h)
