-- A step over the tables of one side, in the model's words for an operation of a side.
use Rattle.std.specs.Prelude.{ℕ, ◌*◌, ◌≤◌, Bool, List, ◌≡◌, length}
use Rattle.numbers.specs.Limits.{PAGES, PAGE_WORDS, SETS, SET_WORDS}
use Rattle.numbers.specs.Meaning.{Answer}
use Rattle.numbers.specs.declared.Side.{Side}
use Rattle.numbers.specs.declared.SideOperation.{SideOperation}
use Rattle.model.specs.State.{Route}
use Rattle.model.specs.Effect.{Effect, kept, quiet, apply}
use Rattle.model.specs.Step.{answer_with, side_answer, side_sets, side_route, side_effect}

-- all that an operation of one side may touch
pub record Sight : Type 0 where
  pub sets : List ℕ
  pub route : Route
  pub memory : List ℕ

abbrev pub sight : List ℕ → List ℕ → List ℕ → List ℕ → ℕ → List ℕ → List ℕ → Sight
sight sets map walker cache hand ports memory =
    record { sets = sets; route = record { map = map; walker = walker; cache = cache; hand = hand; ports = ports }; memory = memory }

-- its answer, and what it leaves
pub record SideStepped : Type 0 where
  pub answer : Answer
  pub after : Sight

abbrev pub side_stepped : Answer → Sight → SideStepped
side_stepped answer after = record { answer = answer; after = after }

-- the new sets, route and effect where the answer accepts, and nothing where it refuses
abbrev pub side_decided : Sight → Answer → List ℕ → Route → Effect → SideStepped
side_decided s answer sets route effect =
    side_stepped
    (answer_with (kept answer quiet effect) s.memory answer)
    (record { sets = kept answer s.sets sets; route = kept answer s.route route; memory = apply (kept answer quiet effect) s.memory })

unfoldable pub side_step : Side → ℕ → Bool → ℕ → List ℕ → Sight → SideOperation → SideStepped
side_step side pages unit known pairs s operation =
    side_decided
    s
    (side_answer side pages unit known s.sets pairs s.route operation)
    (side_sets side s.sets operation)
    (side_route s.route operation)
    (side_effect side s.sets s.route operation)

-- ---- what an operation asks for: few enough pages, and the lengths of the page sets and of memory
pub record Sized (pages : ℕ) (sets memory : List ℕ) : Type 0 where
  pub few_pages : pages ≤ PAGES
  pub sets_length : length sets ≡ SETS * SET_WORDS
  pub memory_length : length memory ≡ PAGE_WORDS * pages
