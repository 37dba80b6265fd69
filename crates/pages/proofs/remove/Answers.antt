-- `pages::remove` meets its contract: the word and the bit are those of the page.
use Rattle.pages.specs.Bits.{delete}
use Rattle.pages.specs.RowLaws.{place_bit}
use Rattle.pages.proofs.remove.Goals as goal

pub returns : goal.returns
unfolding delete
returns c = rw (c.without_bit.ensures, c.word_of-at.ensures, place_bit)
