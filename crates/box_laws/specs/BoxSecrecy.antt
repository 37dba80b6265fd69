-- Demand 3 of boxes (docs/MACHINE.md, 12 and 13): what two calls of an entry have in common whose boxes differ only in private words,
-- and what one call does to such a word. Over caches of either form and over any reading of "private".
use Rattle.std.specs.Prelude.{ℕ, ◌+◌, ◌*◌, ◌≤◌, ◌<◌, Bool, true, List, [], ◌⊎◌, ◌≡◌, length, get_or}
use Rattle.numbers.specs.Limits.{PAGE_WORDS, ROW_NUMBERS, ANSWER_NUMBERS}
use Rattle.model.specs.Effect.{word_in}
use Rattle.model.specs.Good.{Wrote}
use Rattle.model.specs.Secrecy.{effect_in, Seen, Asked, Premise}
use Rattle.model.specs.Sequence.{Progress, operation_in, row_at, row_count, after, beginning}
use Rattle.model.specs.Start.{free_refused}
use Rattle.model.specs.State.{Tables}
use Rattle.box_cores.specs.Boxes.{Box, box, BoxValid, state_in}
use Rattle.box_cores.specs.Given.{Judgement, Given, OperationAsked, operation_gives, operation_refused, sequence_gives, refused_whole, FreeGiven, FREE_NUMBERS, FreeAsked, free_gives, free_told}

-- of an answer's four numbers the last is the word
abbrev pub WORD_AT : ℕ
WORD_AT = 3

abbrev pub with_memory : {C : Type 0} → Box C → List ℕ → Box C
with_memory b memory = box b.header b.sets b.pairs b.cpu_map b.cpu_walker b.cpu_cache b.dma_map b.dma_walker b.dma_cache memory

-- the row, in these tables, is a member's read of a private page; a member's write of the word
abbrev pub SeenIn : (ℕ → Bool) → (Tables → ℕ → Type 0) → Tables → List ℕ → Type 0
SeenIn members Secret t row = Seen members Secret t (effect_in t (operation_in row)) 0

pub record WrittenBy (members : ℕ → Bool) (t : Tables) (row : List ℕ) (page word : ℕ) : Type 0 where
  pub vm : ℕ
  pub member : members vm ≡ true
  pub wrote : Wrote (effect_in t (operation_in row)) vm page word

-- the word is in the second box as it is in the first
abbrev pub WordKept : {C : Type 0} → Box C → Box C → ℕ → ℕ → Type 0
WordKept b b' page word = word_in b'.memory page word ≡ word_in b.memory page word

-- ---- two calls
-- the free query: number, and the two numbers in a room of two
pub record FreesAlike (room room' : List ℕ) (r r' : FreeGiven) : Type 0 where
  pub number : r.number ≡ r'.number
  pub numbers : length room ≡ FREE_NUMBERS → (i : ℕ) → i < FREE_NUMBERS → get_or r.room i 0 ≡ get_or r'.room i 0
  pub other_room : (length room ≡ FREE_NUMBERS → ⊥) → (r.room ≡ room) × (r'.room ≡ room')

module _ (members : ℕ → Bool) (Secret : Tables → ℕ → Type 0) {C : Type 0} (words_of : C → List ℕ) where
  -- two boxes equal but for words of memory in private pages
  pub record BoxesAlike (b b' : Box C) : Type 0 where
    pub rest : with_memory b [] ≡ with_memory b' []
    pub size : length b.memory ≡ length b'.memory
    pub words : (page word : ℕ) → word < PAGE_WORDS → (Secret (state_in words_of b).tables page → ⊥) → word_in b.memory page word ≡ word_in b'.memory page word

  -- the one-operation entry: number and box; in a room of four every number but the word, and that too unless a member saw it
  pub record OperationsAlike (b : Box C) (row room room' : List ℕ) (r r' : Given C) : Type 0 where
    pub number : r.number ≡ r'.number
    pub boxes : BoxesAlike r.box r'.box
    pub numbers : length room ≡ ANSWER_NUMBERS → (i : ℕ) → i < WORD_AT → get_or r.room i 0 ≡ get_or r'.room i 0
    pub word : length room ≡ ANSWER_NUMBERS → (SeenIn members Secret (state_in words_of b).tables row → ⊥) → get_or r.room WORD_AT 0 ≡ get_or r'.room WORD_AT 0
    pub other_room : (length room ≡ ANSWER_NUMBERS → ⊥) → (r.room ≡ room) × (r'.room ≡ room')

  -- the sequence: the same of every answer row, and any other number of the room is equal where it was
  pub record SequencesAlike (b : Box C) (rows room room' : List ℕ) (r r' : Given C) : Type 0 where
    pub number : r.number ≡ r'.number
    pub boxes : BoxesAlike r.box r'.box
    pub numbers : r.number ≡ 0 → (k i : ℕ) → k < row_count rows → i < WORD_AT → get_or r.room (k * ANSWER_NUMBERS + i) 0 ≡ get_or r'.room (k * ANSWER_NUMBERS + i) 0
    pub word : r.number ≡ 0 → (k : ℕ) → k < row_count rows → (SeenIn members Secret (after rows k (beginning (state_in words_of b) room)).state.tables (row_at rows k) → ⊥) →
        get_or r.room (k * ANSWER_NUMBERS + WORD_AT) 0 ≡ get_or r'.room (k * ANSWER_NUMBERS + WORD_AT) 0
    pub other_room : (j : ℕ) → (r.number ≡ 0 → row_count rows * ANSWER_NUMBERS ≤ j) → get_or room j 0 ≡ get_or room' j 0 → get_or r.room j 0 ≡ get_or r'.room j 0

  -- ---- the statements, of whatever the entries' contracts allow; of rows something is asked only where they are carried out
  module _ (cacheOf : List ℕ → C) where
    abbrev pub OperationSecret : Type 0
    OperationSecret =
        (b b' : Box C) (row row' room room' : List ℕ) (r r' : Given C) →
        Judgement (OperationAsked words_of b row room) (operation_gives words_of cacheOf b row room) (operation_refused b room) r →
        Judgement (OperationAsked words_of b' row' room') (operation_gives words_of cacheOf b' row' room') (operation_refused b' room') r' →
        BoxesAlike b b' → length row ≡ length row' → length room ≡ length room' →
        (OperationAsked words_of b row room → Asked members Secret (state_in words_of b) (state_in words_of b') row row') → OperationsAlike b row room room' r r'

    abbrev pub SequenceSecret : Type 0
    SequenceSecret =
        (b b' : Box C) (rows rows' room room' : List ℕ) (r r' : Given C) →
        Judgement (BoxValid words_of b) (sequence_gives words_of cacheOf b rows room) (refused_whole b room) r →
        Judgement (BoxValid words_of b') (sequence_gives words_of cacheOf b' rows' room') (refused_whole b' room') r' →
        BoxesAlike b b' → length rows ≡ length rows' → length room ≡ length room' →
        (BoxValid words_of b → r.number ≡ 0 → Premise members Secret (beginning (state_in words_of b) room) (beginning (state_in words_of b') room') rows rows' (row_count rows)) → SequencesAlike b rows room room' r r'

    abbrev pub FreeSecret : Type 0
    FreeSecret =
        (b b' : Box C) (room room' : List ℕ) (r r' : FreeGiven) →
        Judgement (FreeAsked words_of b room) (free_gives words_of b room) (free_told room free_refused) r →
        Judgement (FreeAsked words_of b' room') (free_gives words_of b' room') (free_told room' free_refused) r' →
        BoxesAlike b b' → length room ≡ length room' → FreesAlike room room' r r'

    -- ---- call after call: two runs of the one-operation entry, with all that is asked of each two calls; and what they have in common
    pub data Calls : Box C → Box C → Type 0 where
      done : {b b' : Box C} → Calls b b'
      call : {b b' : Box C} (row row' room room' : List ℕ) (r r' : Given C) →
          Judgement (OperationAsked words_of b row room) (operation_gives words_of cacheOf b row room) (operation_refused b room) r →
          Judgement (OperationAsked words_of b' row' room') (operation_gives words_of cacheOf b' row' room') (operation_refused b' room') r' →
          length row ≡ length row' → length room ≡ length room' → (OperationAsked words_of b row room → Asked members Secret (state_in words_of b) (state_in words_of b') row row') →
          Calls r.box r'.box → Calls b b'

    abbrev pub AllAlike : {b b' : Box C} → Calls b b' → Type 0
    AllAlike {b} {b'} done = BoxesAlike b b'
    AllAlike {b} (call row row' room room' r r' given given' rows rooms asked rest) = OperationsAlike b row room room' r r' × AllAlike rest

    -- ---- one call: a word of a page that is private all along is as it was, or a member wrote just that word
    abbrev pub OperationOwnWrite : Type 0
    OperationOwnWrite =
        (b : Box C) (row room : List ℕ) (r : Given C) →
        Judgement (OperationAsked words_of b row room) (operation_gives words_of cacheOf b row room) (operation_refused b room) r →
        (page word : ℕ) → word < PAGE_WORDS → Secret (state_in words_of b).tables page → Secret (state_in words_of r.box).tables page →
        WordKept b r.box page word ⊎ WrittenBy members (state_in words_of b).tables row page word

    abbrev pub SequenceOwnWrite : Type 0
    SequenceOwnWrite =
        (b : Box C) (rows room : List ℕ) (r : Given C) →
        Judgement (BoxValid words_of b) (sequence_gives words_of cacheOf b rows room) (refused_whole b room) r →
        (page word : ℕ) → word < PAGE_WORDS → ((k : ℕ) → k ≤ row_count rows → Secret (after rows k (beginning (state_in words_of b) room)).state.tables page) →
        WordKept b r.box page word ⊎ ((k : ℕ) × (k < row_count rows) × WrittenBy members (after rows k (beginning (state_in words_of b) room)).state.tables (row_at rows k) page word)
