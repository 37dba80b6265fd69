-- `judge_keys::once` meets its contract. Each place before i is the first of its key.
use native.Mathlib.Omega.{arith}
use Rattle.numbers.specs.DecidesLaws.{says_yes, says_no, refutes}
use Rattle.judge_keys.specs.KeysLaws.{new_once, once_new}
use Rattle.judge_keys.proofs.once.Goals as goal

pub returns-then-not-first_of_key : goal.returns-then-not-first_of_key
returns-then-not-first_of_key c = says_no (λ d. refutes c.first_of_key.ensures c.if-not-first_of_key.true (once_new _ d _ c.loop-i-test.true))

pub returns : goal.returns
returns c = says_yes (new_once _ (λ j h. c.loop-i.invariant j (omega arith)))
