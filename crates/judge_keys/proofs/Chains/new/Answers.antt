-- `judge_keys::Chains::new` meets its contract. The places before i are chained.
use Rattle.judge_keys.specs.ChainLaws.{chain_start}
use Rattle.judge_keys.proofs.Chains.new.Goals as goal

pub loop-i-init : goal.loop-i-init
loop-i-init c = chain_start _ _ _ c.requires.0 c.requires.1
