-- `pages::without_bit` meets its contract.
use native.Mathlib.Omega.{arith}
use Rattle.pages.specs.BitLaws.{shl_one, and_not_bit}
use Rattle.pages.proofs.without_bit.Goals as goal

pub returns : goal.returns
returns c = rw (shl_one c.args.k c.requires) (and_not_bit c.args.w c.args.k (omega arith) c.requires)
