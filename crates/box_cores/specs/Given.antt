-- What each entry gives for a box (docs/MACHINE.md, 13): a number, the answer room, and the box as it is left.
use Rattle.std.specs.Prelude.{ℕ, List, ◌≡◌, length}
use Rattle.numbers.specs.Limits.{SLOTS, ROW_NUMBERS, ANSWER_NUMBERS}
use Rattle.numbers.specs.Meaning.{answer_numbers, number_of, Answer}
use Rattle.numbers.specs.declared.Refusal.TheVariants.{StateNotValid}
use Rattle.model.specs.Effect.{refused, kept}
use Rattle.model.specs.Sequence.{Sequenced, step_row, sequence}
use Rattle.model.specs.Start.{Told, Started, Free, empty_state, start, free, free_refused}
use Rattle.model.specs.Step.{Stepped}
use Rattle.box_header.specs.Numbers.{MACHINE_NUMBERS, answered, free_numbers, begun}
use Rattle.box_cores.specs.Boxes.{Box, BoxValid, state_in, lent_in, with_header, left_in, begun_in}

-- the one result where what is asked holds, the other where it does not
pub data Judgement {A : Type 0} (Asked : Type 0) (good bad result : A) : Type 0 where
  met : Asked → result ≡ good → Judgement Asked good bad result
  unmet : (Asked → ⊥) → result ≡ bad → Judgement Asked good bad result

pub record Given (C : Type 0) : Type 0 where
  pub number : ℕ
  pub room : List ℕ
  pub box : Box C

abbrev pub given : {C : Type 0} → ℕ → List ℕ → Box C → Given C
given number room b = record { number = number; room = room; box = b }

abbrev pub not_valid_answer : Answer
not_valid_answer = refused StateNotValid

-- ---- one operation: a refused one leaves the box as it was
abbrev pub answered_by : {C : Type 0} → (List ℕ → C) → Box C → List ℕ → Stepped → Given C
answered_by cacheOf b room r = given (number_of r.answer) (answered room (answer_numbers r.answer)) (kept r.answer b (left_in cacheOf b r.state))

abbrev pub operation_gives : {C : Type 0} → (C → List ℕ) → (List ℕ → C) → Box C → List ℕ → List ℕ → Given C
operation_gives words_of cacheOf b row room = answered_by cacheOf b room (step_row (state_in words_of b) row)

abbrev pub operation_refused : {C : Type 0} → Box C → List ℕ → Given C
operation_refused b room = given (number_of not_valid_answer) (answered room (answer_numbers not_valid_answer)) b

pub record OperationAsked {C : Type 0} (words_of : C → List ℕ) (b : Box C) (row room : List ℕ) : Type 0 where
  pub box : BoxValid words_of b
  pub whole_row : length row ≡ ROW_NUMBERS
  pub whole_room : length room ≡ ANSWER_NUMBERS

-- ---- the sequence: refused as a whole it leaves the box and the room
abbrev pub ran_through : {C : Type 0} → (List ℕ → C) → Box C → Sequenced → Given C
ran_through cacheOf b r = given (number_of r.answer) r.progress.room (kept r.answer b (left_in cacheOf b r.progress.state))

abbrev pub sequence_gives : {C : Type 0} → (C → List ℕ) → (List ℕ → C) → Box C → List ℕ → List ℕ → Given C
sequence_gives words_of cacheOf b rows room = ran_through cacheOf b (sequence (state_in words_of b) rows room)

abbrev pub refused_whole : {C : Type 0} → Box C → List ℕ → Given C
refused_whole b room = given (number_of not_valid_answer) room b

-- ---- the free query: its number and its two numbers
pub record FreeGiven : Type 0 where
  pub number : ℕ
  pub room : List ℕ

abbrev pub free_given : ℕ → List ℕ → FreeGiven
free_given number room = record { number = number; room = room }

abbrev pub free_told : List ℕ → Free → FreeGiven
free_told room f = record { number = number_of f.answer; room = answered room (free_numbers f.count f.lowest) }

abbrev pub FREE_NUMBERS : ℕ
FREE_NUMBERS = 2

pub record FreeAsked {C : Type 0} (words_of : C → List ℕ) (b : Box C) (room : List ℕ) : Type 0 where
  pub box : BoxValid words_of b
  pub whole_room : length room ≡ FREE_NUMBERS

abbrev pub free_gives : {C : Type 0} → (C → List ℕ) → Box C → List ℕ → FreeGiven
free_gives words_of b room = free_told room (free (state_in words_of b).tables)

-- ---- start: refused, it leaves all that is lent, and the header says the empty machine
pub record StartGiven (C : Type 0) : Type 0 where
  pub number : ℕ
  pub box : Box C

abbrev pub start_given : {C : Type 0} → ℕ → Box C → StartGiven C
start_given number b = record { number = number; box = b }

abbrev pub started_by : {C : Type 0} → (List ℕ → C) → Box C → Started → StartGiven C
started_by cacheOf b r = record { number = number_of r.answer; box = kept r.answer (with_header b (begun b.header r.state.tables)) (begun_in cacheOf b r.state) }

abbrev pub start_gives : {C : Type 0} → (C → List ℕ) → (List ℕ → C) → Box C → Told → StartGiven C
start_gives words_of cacheOf b told = started_by cacheOf b (start told (lent_in words_of b))

abbrev pub start_refused : {C : Type 0} → Box C → StartGiven C
start_refused b = record { number = number_of not_valid_answer; box = b }

abbrev pub HeaderWhole : List ℕ → Type 0
HeaderWhole numbers = length numbers ≡ MACHINE_NUMBERS

-- ---- the cores, which have 64 words of each cache whatever was lent: so many slots there were
abbrev pub Whole : ℕ → ℕ → Type 0
Whole cpuSlots dmaSlots = (cpuSlots ≡ SLOTS) × (dmaSlots ≡ SLOTS)

abbrev pub same : List ℕ → List ℕ
same ws = ws

-- caches that are not whole are refused with 1, as start refuses them
abbrev pub start_short : Box (List ℕ) → StartGiven (List ℕ)
start_short b = started_by same b (record { answer = not_valid_answer; state = empty_state (lent_in same b) })

pub data StartOfWords (cpuSlots dmaSlots : ℕ) (b : Box (List ℕ)) (told : Told) (result : StartGiven (List ℕ)) : Type 0 where
  all_there : HeaderWhole b.header → Whole cpuSlots dmaSlots → result ≡ start_gives same same b told → StartOfWords cpuSlots dmaSlots b told result
  not_whole : HeaderWhole b.header → (Whole cpuSlots dmaSlots → ⊥) → result ≡ start_short b → StartOfWords cpuSlots dmaSlots b told result
  no_header : (HeaderWhole b.header → ⊥) → result ≡ start_refused b → StartOfWords cpuSlots dmaSlots b told result
