use Rattle.judge.specs.MarkLaws.{mark_start, mark_next, mark_stop, mark_end}
use Rattle.judge.proofs.homes.Homes.pairs.Goals as goal

pub loop-w-init : goal.loop-w-init
loop-w-init c =
    let homes = c.args.self.now in
    mark_start _ _ _ homes.most_pages homes.known_vms c.requires.owners _ _ c.requires.empty

pub returns-then-not-mark_pair : goal.returns-then-not-mark_pair
returns-then-not-mark_pair c =
    let homes = c.args.self.now in
    mark_stop _ _ _ homes.most_pages homes.known_vms c.requires.owners _ _ _ _ _ c.loop-w.invariant c.loop-w-test.true c.mark_pair.ensures c.if-not-mark_pair.true

pub loop-w-preserved : goal.loop-w-preserved
loop-w-preserved c =
    let homes = c.args.self.now in
    mark_next _ _ _ homes.most_pages homes.known_vms c.requires.owners _ _ _ _ _ c.loop-w.invariant c.loop-w-test.true c.mark_pair.ensures c.if-not-mark_pair.false

pub returns : goal.returns
returns c =
    let homes = c.args.self.now in
    mark_end _ _ _ homes.most_pages homes.known_vms c.requires.owners _ _ _ c.loop-w.invariant c.loop-w-test.false
