-- `judge_keys::agreed` meets its contract. The classes before this one are as they ought to be.
use native.Mathlib.Omega.{arith}
use Rattle.numbers.specs.DecidesLaws.{says_yes, says_no, refutes}
use Rattle.judge_keys.specs.KeysLaws.{agree_classes, agree_class}
use Rattle.judge_keys.proofs.agreed.Goals as goal

pub returns-then-not-class_agrees : goal.returns-then-not-class_agrees
returns-then-not-class_agrees c =
    says_no (λ t. refutes c.class_agrees.ensures.answer c.if-not-class_agrees.true (agree_class _ _ c.requires.1 c.requires.2 t _))

pub returns : goal.returns
returns c = says_yes (agree_classes _ _ c.requires.1 c.requires.2 (λ k h. c.loop-class.invariant.1 k (omega arith)))
