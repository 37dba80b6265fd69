-- The parts of the contracts, by name. `Answer` is what an answer says, `Ready` what a deed asks of its arguments, `Done` what
-- it does, `Left` what the operation leaves: its answer, and each list new or as it was.
use Rattle.std.specs.Prelude.{ℕ, ◌+◌, ◌*◌, ◌≤◌, ◌<◌, List, ◌≡◌, length, Option, None, Result, Ok, Err, IfOk}
use Rattle.std.specs.Prelude.{if◌then◌else◌}
use Rattle.numbers.specs.Limits.{VMS, PAGES, PAGE_WORDS, SETS, SET_WORDS}
use Rattle.numbers.specs.Meaning.{Answer}
use Rattle.numbers.specs.declared.Refused.{Refused}
use Rattle.table.specs.Table.{lowest_free}
use Rattle.model.specs.Views.{paired}
use Rattle.model.specs.Effect.{accepted, kept, quiet, clears, apply}
use Rattle.model.specs.Ledger.{reclaim_sets, reclaim_clears}

-- ---- 1, 2: the known VMs
-- an accepted operation leaves the new ones, a refused one those before
pub record KnownLeft (should : Answer) (known₀ new : ℕ) (told : Answer) (known₁ : ℕ) : Type 0 where
  pub answer : told ≡ should
  pub known : known₁ ≡ kept should known₀ new

-- ---- 3, 4: a page and its owner
-- the numbers are in range, and the sets of their length
pub record PageReady (sets : List ℕ) (vm page : ℕ) : Type 0 where
  pub vm_ok : vm < VMS
  pub page_ok : page < PAGES
  pub sets_ok : length sets ≡ SETS * SET_WORDS

-- an accepted operation leaves the new sets, a refused one those before
pub record SetsLeft (should : Answer) (sets₀ new : List ℕ) (told : Answer) (sets₁ : List ℕ) : Type 0 where
  pub answer : told ≡ should
  pub sets : sets₁ ≡ kept should sets₀ new

-- besides, the page's words are there
pub record ReclaimReady (sets memory : List ℕ) (vm page : ℕ) : Type 0 where
  pub vm_ok : vm < VMS
  pub page_ok : page < PAGES
  pub sets_ok : length sets ≡ SETS * SET_WORDS
  pub memory_ok : page * PAGE_WORDS + PAGE_WORDS ≤ length memory

-- the page goes from the VM to the pool, and is cleared unless the VM still claims it for DMA
pub record ReclaimDone (sets₀ memory₀ : List ℕ) (vm page : ℕ) (sets₁ memory₁ : List ℕ) : Type 0 where
  pub sets : sets₁ ≡ reclaim_sets sets₀ vm page
  pub memory : memory₁ ≡ apply (clears (reclaim_clears sets₀ vm page)) memory₀

-- an accepted reclaim does so, a refused one leaves sets and memory
pub record ReclaimLeft (should : Answer) (sets₀ memory₀ : List ℕ) (vm page : ℕ) (told : Answer) (sets₁ memory₁ : List ℕ) : Type 0 where
  pub answer : told ≡ should
  pub sets : sets₁ ≡ kept should sets₀ (reclaim_sets sets₀ vm page)
  pub memory : memory₁ ≡ apply (kept should quiet (clears (reclaim_clears sets₀ vm page))) memory₀

-- ---- 5, 6: a pair
-- the numbers are in range
pub record PairReady (left right page : ℕ) : Type 0 where
  pub left_ok : left < VMS
  pub right_ok : right < VMS
  pub page_ok : page < PAGES

-- an accepted operation leaves the new pairs, a refused one those before
pub record PairsLeft (should : Answer) (pairs₀ new : List ℕ) (told : Answer) (pairs₁ : List ℕ) : Type 0 where
  pub answer : told ≡ should
  pub pairs : pairs₁ ≡ kept should pairs₀ new

-- the place that a new pair goes to; a pair that is stored needs none
unfoldable pub share_place : List ℕ → ℕ → ℕ → ℕ → Option ℕ
share_place pairs left right page = if paired pairs left right page then None else lowest_free pairs

-- besides, the place is that of the new pair
pub record ShareReady (pairs : List ℕ) (left right page : ℕ) (free : Option ℕ) : Type 0 where
  pub pair : PairReady left right page
  pub spot : free ≡ share_place pairs left right page

-- the answer that what is told of a share is, where it tells the place as where it refuses
abbrev pub told_answer : Result (Option ℕ) Refused → Answer
told_answer (Ok free) = accepted
told_answer (Err err) = Err err

-- the answer is the one that it should be, and where it accepts the deed is ready
pub record ShareAnswer (should : Answer) (pairs : List ℕ) (left right page : ℕ) (told : Result (Option ℕ) Refused) : Type 0 where
  pub answer : told_answer told ≡ should
  pub ready : IfOk told (ShareReady pairs left right page)
