use Rattle.judge.specs.Sharing.{borrower_of}
use Rattle.judge.proofs.homes.Homes.borrower.Goals as goal

pub returns-then-claims : goal.returns-then-claims
unfolding borrower_of
returns-then-claims c = rw (← c.left_of-left.ensures, ← c.page_of.ensures, ← c.claims.ensures, c.if-claims.true) c.right_of.ensures

pub returns : goal.returns
unfolding borrower_of
returns c = rw (← c.left_of-left.ensures, ← c.page_of.ensures, ← c.claims.ensures, c.if-claims.false)
