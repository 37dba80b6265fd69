-- `edits::sweep` meets its contract: what it asks of each word is whether it lies in the region.
use Rattle.std.proofs.Common.{rules}
use Rattle.model.specs.Regions.{in_region, remove_table}
use Rattle.regions.proofs.edits.sweep.Goals as goal

pub returns : goal.returns
unfolding remove_table
returns c = let w = c.wipe.ensures (in_region c.args.placed.region) (λ w yes e. search rules) in record { dropped = w.0; words = w.1 }
