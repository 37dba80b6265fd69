-- `judge_keys::none_left` meets its contract. Nothing that the walk has passed is left.
use mathlib.Core.Path.{◌≡◌}
use lib.ListN.{get_or}
use Rattle.judge_keys.specs.Keys.{low_of}
use Rattle.judge_keys.specs.ChainLaws.{Passing}
use Rattle.judge_keys.proofs.none_left.Given as goal

abbrev pub invariant-loop-spot : goal.invariant-loop-spot
invariant-loop-spot l =
    let at = l.spot-iterator.at in
    (l.spot-iterator.chains ≡ l.map) × Passing l.map.words.now l.class (λ i. get_or l.place (low_of (get_or l.map.words.now i 0)) 0 ≡ 0) at
