use Rattle.std.proofs.Common.{rules}
use Rattle.judge.specs.RouteLaws.{filled}
use Rattle.judge.proofs.routes.caches.Goals as goal

pub slots_held-requires : goal.slots_held-requires
slots_held-requires c = search (rules, filled)
