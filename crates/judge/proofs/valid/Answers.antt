use Rattle.judge.specs.SharingLaws.{one_owner}
use Rattle.judge.proofs.valid.Goals as goal

pub pairs-requires-clause-owners : goal.pairs-requires-clause-owners
pairs-requires-clause-owners c = one_owner _ _ _ _ _ (c.homes_good.ensures.exact.sound c.if-not-homes_good.false).pages
