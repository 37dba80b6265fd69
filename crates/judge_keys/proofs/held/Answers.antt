-- `judge_keys::held` meets its contract. The classes before this one are as they ought to be.
use native.Mathlib.Omega.{arith}
use Rattle.numbers.specs.DecidesLaws.{says_yes, says_no, refutes}
use Rattle.judge_keys.specs.KeysLaws.{held_classes, held_class}
use Rattle.judge_keys.proofs.held.Goals as goal

pub returns-then-not-class_held : goal.returns-then-not-class_held
returns-then-not-class_held c =
    says_no (λ t. refutes c.class_held.ensures.answer c.if-not-class_held.true (held_class _ _ c.requires.1 c.requires.2 t _))

pub returns : goal.returns
returns c = says_yes (held_classes _ _ c.requires.1 (λ k h. c.loop-class.invariant.1 k (omega arith)))
