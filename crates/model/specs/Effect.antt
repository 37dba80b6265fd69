-- What an operation does to memory, and what it decides without looking at memory (docs/MACHINE.md, 6).
use Rattle.std.specs.Prelude.{ℕ, zero, suc, ◌+◌, ◌*◌, List, [], ◌∷◌, get_or, set, Ok, Err}
use Rattle.numbers.specs.Limits.{PAGE_WORDS}
use Rattle.numbers.specs.declared.Refusal.{Refusal}
use Rattle.numbers.specs.Meaning.{Answer, accept, refuse}
use Rattle.model.specs.State.{Tables}

-- ---- answers
abbrev pub accepted : Answer
accepted = accept 0 0

abbrev pub accepted_dropping : ℕ → Answer
accepted_dropping dropped = accept dropped 0

abbrev pub refused : Refusal → Answer
refused refusal = refuse refusal 0

-- what follows an early check that passed
abbrev pub and_then : Answer → Answer → Answer
and_then (Ok ok) next = next
and_then (Err err) next = Err err

-- a value that an accepted operation replaces and a refused one leaves
abbrev pub kept {ℓ} : {A : Type ℓ} → Answer → A → A → A
kept (Ok ok) old new = new
kept (Err err) old new = old

-- ---- memory: page p's word k is word p * PAGE_WORDS + k; past the end nothing is read or written
abbrev pub memory_index : ℕ → ℕ → ℕ
memory_index page word = page * PAGE_WORDS + word

unfoldable pub word_in : List ℕ → ℕ → ℕ → ℕ
word_in memory page word = get_or memory (memory_index page word) 0

-- the words from `skip` on are set to zero, `count` of them
abbrev pub zeroed : ℕ → ℕ → List ℕ → List ℕ
zeroed skip count [] = []
zeroed zero zero (w ∷ ws) = w ∷ ws
zeroed zero (suc count) (w ∷ ws) = 0 ∷ zeroed zero count ws
zeroed (suc skip) count (w ∷ ws) = w ∷ zeroed skip count ws

unfoldable pub clear_page : List ℕ → ℕ → List ℕ
clear_page memory page = zeroed (memory_index page 0) PAGE_WORDS memory

-- ---- effects: words that a VM reads or writes, in that order, or pages that are cleared
pub record Place : Type 0 where
  pub page : ℕ
  pub word : ℕ

pub record Store : Type 0 where
  pub place : Place
  pub value : ℕ

pub data Effect : Type 0 where
  reads : ℕ → List Place → Effect
  writes : ℕ → List Store → Effect
  clears : List ℕ → Effect

abbrev pub quiet : Effect
quiet = clears []

unfoldable pub stored : List Store → List ℕ → List ℕ
stored [] memory = memory
stored (x ∷ xs) memory = stored xs (set memory (memory_index x.place.page x.place.word) x.value)

unfoldable pub loaded : List Place → List ℕ → List ℕ
loaded [] memory = []
loaded (x ∷ xs) memory = word_in memory x.page x.word ∷ loaded xs memory

unfoldable pub cleared_pages : List ℕ → List ℕ → List ℕ
cleared_pages [] memory = memory
cleared_pages (page ∷ pages) memory = cleared_pages pages (clear_page memory page)

-- the memory that an effect leaves
unfoldable pub apply : Effect → List ℕ → List ℕ
apply (reads vm places) memory = memory
apply (writes vm stores) memory = stored stores memory
apply (clears pages) memory = cleared_pages pages memory

-- ---- what the tables decide: the answer but for the word read, the new tables, and the effect on memory
pub record Control : Type 0 where
  pub answer : Answer
  pub tables : Tables
  pub effect : Effect

-- an accepted operation has its effect, a refused one changes nothing
unfoldable pub decided : Tables → Answer → Tables → Effect → Control
decided old answer new effect = record { answer = answer; tables = kept answer old new; effect = kept answer quiet effect }
