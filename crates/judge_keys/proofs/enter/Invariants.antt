-- `judge_keys::enter` meets its contract. The places that the walk has passed are entered.
use mathlib.Core.Path.{◌≡◌}
use Rattle.judge_keys.specs.Keys.{Entered}
use Rattle.judge_keys.specs.ChainLaws.{Standing}
use Rattle.judge_keys.proofs.enter.Given as goal

abbrev pub invariant-loop-spot : goal.invariant-loop-spot
invariant-loop-spot l =
    let at = l.spot-iterator.at in
    (l.spot-iterator.chains ≡ l.map) × Standing l.map.words.now l.class at × Entered l.map.words.now l.class at l.place
