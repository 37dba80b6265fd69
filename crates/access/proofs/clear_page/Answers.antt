-- `access::clear_page` meets its contract. The part that it lends is the page, and comes back all zero.
use Prim.Native.Nat.{◌+◌, ◌*◌}
use mathlib.Core.Path.{◌≡◌}
use native.Mathlib.Omega.{arith}
use Rattle.numbers.specs.Limits.{PAGE_WORDS}
use Rattle.model.specs.Effect.{clear_page}
use Rattle.model.specs.MemoryLaws.{part_zeroed}
use Rattle.access.proofs.clear_page.Goals as goal

pub returns : goal.returns
unfolding clear_page
returns c =
    let z : c.args.page.0 * PAGE_WORDS + 0 ≡ c.args.page.0 * PAGE_WORDS = omega arith in
    rw z (part_zeroed _ _ (c.args.page.0 * PAGE_WORDS) PAGE_WORDS c.requires c.clear_words.ensures)
