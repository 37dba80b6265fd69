-- `judge_keys::clear` meets its contract. The places that the walk has yet to pass are entered, and no other.
use mathlib.Core.Path.{◌≡◌}
use Prim.Native.Nat.{◌<◌}
use Rattle.judge_keys.specs.Keys.{Shows}
use Rattle.judge_keys.specs.ChainLaws.{Standing}
use Rattle.judge_keys.proofs.clear.Given as goal

abbrev pub invariant-loop-spot : goal.invariant-loop-spot
invariant-loop-spot l =
    let at = l.spot-iterator.at in
    (l.spot-iterator.chains ≡ l.map) × Standing l.map.words.now l.class at × Shows l.map.words.now l.class (λ p. p < at) l.place
