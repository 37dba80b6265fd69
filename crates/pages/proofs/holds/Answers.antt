-- `pages::holds` meets its contract: the word and the bit are those of the page.
use Rattle.pages.specs.Bits.{contains}
use Rattle.pages.specs.RowLaws.{place_bit}
use Rattle.pages.proofs.holds.Goals as goal

pub returns : goal.returns
unfolding contains
returns c = rw (c.has_bit.ensures, c.word_of-at.ensures, place_bit)
