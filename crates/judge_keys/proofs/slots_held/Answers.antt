-- `judge_keys::slots_held` meets its contract.
use mathlib.Core.Path.{refl}
use Rattle.judge_keys.specs.PlaceLaws.{blank_start}
use Rattle.judge_keys.proofs.slots_held.Goals as goal

pub held-requires : goal.held-requires
held-requires c = (blank_start _ refl, rw c.new-2.ensures c.requires.2, rw c.new.ensures c.requires.4)
