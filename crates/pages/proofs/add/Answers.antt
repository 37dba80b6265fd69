-- `pages::add` meets its contract: the word and the bit are those of the page.
use Rattle.pages.specs.Bits.{insert}
use Rattle.pages.specs.RowLaws.{place_bit}
use Rattle.pages.proofs.add.Goals as goal

pub returns : goal.returns
unfolding insert
returns c = rw (c.with_bit.ensures, c.word_of-at.ensures, place_bit)
