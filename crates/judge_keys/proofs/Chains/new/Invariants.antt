-- `judge_keys::Chains::new` meets its contract. The places before i are chained.
use Rattle.judge_keys.specs.Keys.{Chained}
use Rattle.judge_keys.proofs.Chains.new.Given as goal

abbrev pub invariant-loop-i : goal.invariant-loop-i
invariant-loop-i l = Chained l.words l.head l.next l.i
