-- `access::reach` meets its contract. Each return stands behind the tests that come before it in the model.
use mathlib.Core.Path.{refl}
use borrow.Author.Tests.{ne_eqb, le-ltb, lt-ltb}
use Rattle.model.specs.Access.{access_answer}
use Rattle.access.proofs.reach.Goals as goal

pub returns-then-not-port-guest : goal.returns-then-not-port-guest
unfolding access_answer
returns-then-not-port-guest c = rw (c.if-not-port-guest.true, c.refuse.ensures) (refl, refl)

pub returns-then-not-vm : goal.returns-then-not-vm
unfolding access_answer
returns-then-not-vm c = rw (c.if-not-port-guest.false, ← c.vm_on-vm.ensures, le-ltb _ _ c.if-not-vm.true, c.refuse-then-not-vm.ensures) (refl, refl)

pub returns-then-entry-eq0 : goal.returns-then-entry-eq0
unfolding access_answer
returns-then-entry-eq0 c = rw (c.if-not-port-guest.false, ← c.vm_on-vm.ensures, lt-ltb _ _ c.if-not-vm.false, ← c.translate-entry.ensures, c.if-entry-eq0.true, c.refuse-then-entry-eq0.ensures) (refl, refl)

pub returns-then-not-allows : goal.returns-then-not-allows
unfolding access_answer
returns-then-not-allows c =
    rw (c.if-not-port-guest.false, ← c.vm_on-vm.ensures, lt-ltb _ _ c.if-not-vm.false, ← c.translate-entry.ensures, ne_eqb _ _ c.if-entry-eq0.false, ← c.allows.ensures, c.if-not-allows.true, c.refuse-then-not-allows.ensures) (refl, refl)

pub returns : goal.returns
unfolding access_answer
returns c =
    rw (c.if-not-port-guest.false, ← c.vm_on-vm.ensures, lt-ltb _ _ c.if-not-vm.false, ← c.translate-entry.ensures, ne_eqb _ _ c.if-entry-eq0.false, ← c.allows.ensures, c.if-not-allows.false, ← c.page_of-page.ensures) (refl, refl)
