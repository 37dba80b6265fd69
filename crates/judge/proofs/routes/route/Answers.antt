use Rattle.judge.specs.RouteLaws.{packed}
use Rattle.judge.proofs.routes.route.Goals as goal

pub caches-requires : goal.caches-requires
caches-requires c =
    let lengths = c.requires in
    let walker = (c.maps.ensures.sound c.if-maps.true).walker in
    (lengths.1, lengths.2, packed c.args.ground.now.homes.known_vms walker.each, walker.once)
