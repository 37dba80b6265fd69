use borrow.Author.Tests.{eq-eqb, ne_eqb}
use Rattle.model.specs.Access.{translate}
use Rattle.access.proofs.translate.Goals as goal

pub returns-then-slot-eq0 : goal.returns-then-slot-eq0
unfolding translate
returns-then-slot-eq0 c = rw (← c.slot_key.ensures, ← c.lookup-slot.ensures, eq-eqb _ _ c.if-slot-eq0.true, ← c.key.ensures) c.lookup.ensures

pub returns : goal.returns
unfolding translate
returns c = rw (← c.slot_key.ensures, ← c.lookup-slot.ensures, ne_eqb _ _ c.if-slot-eq0.false)
