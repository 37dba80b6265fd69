-- `access::write_word` meets its contract. A store past the end of memory changes nothing.
use Rattle.std.proofs.Common.{rules, refl, sym, ◌∙◌}
use lib.Seq.{set_out}
use Rattle.model.specs.Effect.{apply, stored, cleared_pages}
use Rattle.access.proofs.write_word.Goals as goal
use Rattle.access.proofs.write_word.Goals.{then-place-memory, else-place-memory}

pub returns-in_err-place : goal.returns-in_err-place
unfolding apply cleared_pages
returns-in_err-place c =
    let is = c.in_err-place.was in
    rw (← c.reach.ensures.0, is) (search rules)

pub returns : goal.returns
unfolding apply stored
returns c =
    let e = c.reach.ensures in
    let is = c.in_ok-place.was in
    let p = rw (← e.0, is) at e.1 in
    rw (← e.0, is, ← p, c.accept.ensures) (
      refl,
      elim c.if-place-memory.branch [
        | then-place-memory w ↦ w.memory-is
        | else-place-memory w ↦ w.memory-is ∙ sym (set_out _ _ _ w.if-place-memory.false)
      ],
    )
