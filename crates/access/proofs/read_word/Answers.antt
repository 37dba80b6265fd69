-- `access::read_word` meets its contract. A place past the end of memory reads as 0.
use Rattle.std.proofs.Common.{rules, ◌≡◌, get_or}
use Rattle.model.specs.Effect.{loaded, word_in}
use Rattle.access.proofs.read_word.Goals as goal

pub returns : goal.returns
unfolding loaded word_in
returns c =
    let e = c.reach.ensures in
    let is = c.in_ok-place.was in
    let p = rw (← e.0, is) at e.1 in
    let read : c.unwrap_or-word.result ≡ get_or c.args.memory.now c.in_ok-place.place 0 = search rules in
    rw (← e.0, is, ← p, read)
