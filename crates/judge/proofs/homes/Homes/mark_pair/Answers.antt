use Rattle.std.proofs.Common.{arith}
use Rattle.model.specs.KnownLaws.{knows_below}
use Rattle.judge.specs.SharingLaws.{borrower_below}
use Rattle.judge.proofs.homes.Homes.mark_pair.Goals as goal

pub borrower-vm-requires : goal.borrower-vm-requires
borrower-vm-requires c = grind (arith, knows_below)

pub holds-requires : goal.holds-requires
holds-requires c =
    let good = c.pair_good.ensures.sound c.if-not-pair_good.false in
    grind (arith, borrower_below c.args.self.now.known_vms good)

pub add-requires : goal.add-requires
add-requires c =
    let good = c.pair_good.ensures.sound c.if-not-pair_good.false in
    grind (arith, borrower_below c.args.self.now.known_vms good)
