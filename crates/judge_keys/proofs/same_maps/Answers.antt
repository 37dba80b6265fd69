-- `judge_keys::same_maps` meets its contract.
use mathlib.Core.Path.{refl}
use Rattle.judge_keys.specs.PlaceLaws.{blank_start}
use Rattle.judge_keys.proofs.same_maps.Goals as goal

pub agreed-requires : goal.agreed-requires
agreed-requires c = (blank_start _ refl, rw c.new.ensures c.requires.2, rw c.new-2.ensures c.requires.3)
