-- What replay gives for a box (docs/MACHINE.md, 14): a number, the place of the next record, the answers, how many records were taken,
-- and the box as it is left. Place and taken are rooms of one number.
use Rattle.std.specs.Prelude.{ℕ, Bool, true, false, ◌&&◌, Err, List, [], ◌∷◌, ◌≡◌, eqb, length, get_or}
use Rattle.std.specs.Prelude.{if◌then◌else◌}
use Rattle.numbers.specs.Meaning.{number_of}
use Rattle.replay.specs.Replay.{Ended, Replayed, stop_number, replay}
use Rattle.replay.specs.declared.Stop.TheVariants.{NotValid}
use Rattle.box_cores.specs.Boxes.{Box, BoxValid, state_in, left_in}
use Rattle.box_cores.specs.Given.{not_valid_answer}

pub record ReplayGiven (C : Type 0) : Type 0 where
  pub number : ℕ
  pub place : List ℕ
  pub answers : List ℕ
  pub taken : List ℕ
  pub box : Box C

abbrev pub replay_given : {C : Type 0} → ℕ → List ℕ → List ℕ → List ℕ → Box C → ReplayGiven C
replay_given number place answers taken b = record { number = number; place = place; answers = answers; taken = taken; box = b }

pub record ReplayAsked {C : Type 0} (words_of : C → List ℕ) (b : Box C) (place taken : List ℕ) : Type 0 where
  pub box : BoxValid words_of b
  pub one_place : length place ≡ 1
  pub one_taken : length taken ≡ 1

-- ---- the box was taken: whatever stopped the replay, the box is as far as it came
abbrev pub replayed_by : {C : Type 0} → (List ℕ → C) → Box C → Replayed → ReplayGiven C
replayed_by cacheOf b r =
    replay_given (stop_number r.stop) (r.course.place ∷ []) r.course.room (r.course.taken ∷ []) (left_in cacheOf b r.course.state)

abbrev pub replay_gives : {C : Type 0} → (C → List ℕ) → (List ℕ → C) → Box C → List ℕ → List ℕ → ℕ → List ℕ → ReplayGiven C
replay_gives words_of cacheOf b log place most answers = replayed_by cacheOf b (replay (state_in words_of b) log (get_or place 0 0) most answers)

-- ---- it was refused: none is taken, which is told where place and taken have one number each, and all else is left
abbrev pub none_taken : List ℕ → List ℕ → List ℕ
none_taken place taken = if eqb (length place) 1 && eqb (length taken) 1 then 0 ∷ [] else taken

abbrev pub replay_not_valid : {C : Type 0} → Box C → List ℕ → List ℕ → List ℕ → ReplayGiven C
replay_not_valid b place answers taken = replay_given (number_of not_valid_answer) place answers (none_taken place taken) b

-- ---- whether caches are stored: where the box was taken, and not where it was refused. The number that is returned does not say it,
-- since a replay that a record stopped has changed the box.
abbrev pub stored_by : Ended → Bool
stored_by (Err NotValid) = false
stored_by _ = true
