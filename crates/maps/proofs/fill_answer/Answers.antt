-- `maps::fill_answer` meets its contract. The word is not 0 exactly where the walker has the key.
use Rattle.std.proofs.Common.{rules, ◌<◌, sym, ◌∙◌, arith, length, ltb-true, lt-ltb}
use Rattle.numbers.specs.Limits.{PORTS, GUEST_PAGES, IDLE}
use Rattle.model.specs.EarlyLaws.{both}
use Rattle.model.specs.Ports.{fill_answer}
use Rattle.model.specs.MemoryLaws.{get_or-there}
use Rattle.maps.specs.PortLaws.{walk_some, walk_none}
use Rattle.maps.proofs.fill_answer.Goals as goal

pub returns-then-found-eq0 : goal.returns-then-found-eq0
unfolding fill_answer
returns-then-found-eq0 c =
    let a = c.args in
    let in-range : a.port < PORTS = ltb-true _ _ (both _ _ c.if-not-port-guest.false).0 in
    let h : a.port < length a.ports = search rules in
    let on-port = get_or-there a.ports a.port IDLE 0 h in
    let n = walk_none a.walker.now c.key.result (omega arith) (sym c.lookup-found.ensures ∙ c.if-found-eq0.true) in
    rw (on-port, c.if-not-port-guest.false, lt-ltb _ _ c.if-not-vm.false, ← c.key.ensures, n, c.refuse-then-found-eq0.ensures) (search rules)

pub returns : goal.returns
unfolding fill_answer
returns c =
    let a = c.args in
    let r = both _ _ c.if-not-port-guest.false in
    let port_ok : a.port < PORTS = ltb-true _ _ r.0 in
    let guest_ok : a.guest.0 < GUEST_PAGES = ltb-true _ _ r.1 in
    let h : a.port < length a.ports = search rules in
    let on-port = get_or-there a.ports a.port IDLE 0 h in
    let l = c.lookup-found.ensures in
    let n = walk_some a.walker.now c.key.result (λ z. c.if-found-eq0.false (l ∙ z)) in
    rw (on-port, c.if-not-port-guest.false, lt-ltb _ _ c.if-not-vm.false, ← c.key.ensures, n) (search rules)
