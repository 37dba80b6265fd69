-- `judge_keys::has_words` meets its contract. The map has the word of each slot that the walk has passed.
use mathlib.Core.Path.{◌≡◌}
use lib.ListN.{get_or}
use Rattle.table.specs.Table.{Has}
use Rattle.judge_keys.specs.Keys.{map_word_of}
use Rattle.judge_keys.specs.ChainLaws.{Passing}
use Rattle.judge_keys.proofs.has_words.Given as goal

abbrev pub invariant-loop-spot : goal.invariant-loop-spot
invariant-loop-spot l =
    let at = l.spot-iterator.at in
    (l.spot-iterator.chains ≡ l.slots) × Passing l.slots.words.now l.class (λ i. Has l.map (map_word_of (get_or l.slots.words.now i 0))) at
