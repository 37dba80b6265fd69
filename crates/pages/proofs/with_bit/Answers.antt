-- `pages::with_bit` meets its contract.
use Rattle.pages.specs.BitLaws.{shl_one, or_bit}
use Rattle.pages.proofs.with_bit.Goals as goal

pub returns : goal.returns
returns c = rw (shl_one c.args.k c.requires) (or_bit c.args.w c.args.k)
