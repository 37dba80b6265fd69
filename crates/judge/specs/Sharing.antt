-- What the pass over the pairs keeps: a set of pages for each VM, those that pairs lend to it.
use Rattle.std.specs.Prelude.{ℕ, ◌*◌, ◌≤◌, ◌<◌, Bool, true, false, List, ◌≡◌, length, take}
use Rattle.std.specs.Prelude.{if◌then◌else◌}
use Rattle.numbers.specs.Decides.{Decides}
use Rattle.numbers.specs.Limits.{PAGES, VMS, SET_WORDS}
use Rattle.numbers.specs.Packing.{left_of, right_of, page_of}
use Rattle.table.specs.Table.{Has}
use Rattle.pages.specs.Rows.{holds, add}
use Rattle.model.specs.Valid.{PairGood, PairsGood}
use Rattle.model.specs.Views.{owns, shares}
use Rattle.judge.specs.Parts.{NotEmpty}

-- of rule 4: a page has one owner at most
pub record OneOwner (pages : ℕ) (sets : List ℕ) : Type 0 where
  pub only : (vm vm' page : ℕ) → vm < VMS → vm' < VMS → page < pages → owns sets vm page ≡ true → owns sets vm' page ≡ true → vm ≡ vm'

-- the end of a pair that does not own its page
unfoldable pub borrower_of : List ℕ → ℕ → ℕ
borrower_of sets w = if owns sets (left_of w) (page_of w) then right_of w else left_of w

-- one word: whether it is empty or a good pair that is not marked, and the marks that it leaves
pub record Marked (pages known : ℕ) (sets : List ℕ) (w : ℕ) (before after : List ℕ) (r : Bool) : Type 0 where
  pub exact : Decides r (NotEmpty w → PairGood pages known sets w × (holds before (borrower_of sets w) (page_of w) ≡ false))
  pub empty : w ≡ 0 → after ≡ before
  pub filled : r ≡ true → NotEmpty w → after ≡ add before (borrower_of sets w) (page_of w)

-- the marks of these pairs: each pair's page in its borrower's set, and nothing else
pub record Marks (sets pairs lent : List ℕ) : Type 0 where
  pub size : length lent ≡ VMS * SET_WORDS
  pub each : (w : ℕ) → Has pairs w → holds lent (borrower_of sets w) (page_of w) ≡ true
  pub only : (vm page : ℕ) → page < PAGES → holds lent vm page ≡ true → (w : ℕ) × Has pairs w × (borrower_of sets w ≡ vm) × (page_of w ≡ page)

-- at the head of the loop the first i pairs are good, and theirs are the marks
pub record Marking (pages known : ℕ) (sets pairs lent : List ℕ) (i : ℕ) : Type 0 where
  pub place : i ≤ length pairs
  pub good : PairsGood pages known sets (take i pairs)
  pub marks : Marks sets (take i pairs) lent

-- what the marks tell rule 6: a page that is not the VM's own is marked where a pair shares it with the VM
pub record Lends (pages : ℕ) (sets pairs lent : List ℕ) : Type 0 where
  pub size : length lent ≡ VMS * SET_WORDS
  pub shared : (vm page : ℕ) → page < pages → owns sets vm page ≡ false → holds lent vm page ≡ shares pairs vm page

pub record PairsJudged (pages known : ℕ) (sets pairs lent : List ℕ) (r : Bool) : Type 0 where
  pub exact : Decides r (PairsGood pages known sets pairs)
  pub lends : r ≡ true → Lends pages sets pairs lent
