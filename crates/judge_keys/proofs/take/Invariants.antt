-- `judge_keys::take` meets its contract. The words that the walk has passed are taken out, each once.
use mathlib.Core.Path.{◌≡◌}
use Rattle.judge_keys.specs.Keys.{Matched}
use Rattle.judge_keys.specs.ChainLaws.{Standing}
use Rattle.judge_keys.proofs.take.Given as goal

abbrev pub invariant-loop-spot : goal.invariant-loop-spot
invariant-loop-spot l =
    let at = l.spot-iterator.at in
    (l.spot-iterator.chains ≡ l.walker) × Standing l.walker.words.now l.class at × Matched l.map l.walker.words.now l.class at l.place
