-- Demand 3 (docs/MACHINE.md, 12): two runs that differ only in the private words of a set of VMs stay equal everywhere else.
-- Over any reading of "private", since one VM's and a set's are two readings of it.
use Rattle.std.specs.Prelude.{ℕ, zero, suc, ◌≤◌, ◌<◌, Bool, true, false, List, [], ◌∷◌, ◌≡◌, length, get_or, Ok, Err, Option, None, Some}
use Rattle.numbers.specs.Limits.{VMS, PAGE_WORDS}
use Rattle.numbers.specs.Packing.{left_of, right_of, page_of}
use Rattle.numbers.specs.Meaning.{Answer, accept}
use Rattle.numbers.specs.declared.Refusal.TheVariants.{OutOfRange}
use Rattle.numbers.specs.declared.SideOperation.{SideOperation}
use Rattle.numbers.specs.declared.SideOperation.TheVariants as sided
use Rattle.numbers.specs.declared.Operation.{Operation}
use Rattle.numbers.specs.declared.Operation.TheVariants as op
use Rattle.table.specs.Table.{Has}
use Rattle.model.specs.State.{Tables, State}
use Rattle.model.specs.Effect.{Place, Store, Effect, reads, writes, clears, quiet, word_in, loaded, accepted, refused}
use Rattle.model.specs.Step.{control}
use Rattle.model.specs.Sequence.{operation_in, step_row, row_at, Progress, after}
use Rattle.model.specs.Good.{holds_page, Sharing, sharing}

-- ---- private pages
-- to one VM: it holds the page, and no edge names it
pub record PrivateTo (vm : ℕ) (t : Tables) (page : ℕ) : Type 0 where
  pub vm_ok : vm < VMS
  pub page_ok : page < t.setup.pages
  pub held : holds_page t.sets vm page ≡ true
  pub unshared : (w : ℕ) → Has t.pairs w → page_of w ≡ page → ⊥

-- to a set of VMs: a member holds the page, and no edge on it leads out of the set
pub record Private (members : ℕ → Bool) (t : Tables) (page : ℕ) : Type 0 where
  pub holder : ℕ
  pub member : members holder ≡ true
  pub holder_ok : holder < VMS
  pub page_ok : page < t.setup.pages
  pub held : holds_page t.sets holder page ≡ true
  pub inside : (w : ℕ) → Has t.pairs w → page_of w ≡ page → (members (left_of w) ≡ true) × (members (right_of w) ≡ true)

-- ---- the operation of a row, and what it decides; a row of no operation decides nothing
abbrev pub effect_in : Tables → Option Operation → Effect
effect_in t None = quiet
effect_in t (Some operation) = (control t operation).effect

abbrev pub answer_in : Tables → Option Operation → Answer
answer_in t None = refused OutOfRange
answer_in t (Some operation) = (control t operation).answer

-- the operation but for the value that it writes
abbrev pub side_without_value : SideOperation → SideOperation
side_without_value (sided.MapPage vm guest page access generation) = sided.MapPage vm guest page access generation
side_without_value (sided.UnmapPage vm guest) = sided.UnmapPage vm guest
side_without_value (sided.InsertRegion region) = sided.InsertRegion region
side_without_value (sided.RemoveRegion region) = sided.RemoveRegion region
side_without_value (sided.GivePort port target) = sided.GivePort port target
side_without_value (sided.FillSlot port guest) = sided.FillSlot port guest
side_without_value (sided.EmptySlot slot) = sided.EmptySlot slot
side_without_value (sided.ReadWord port guest word) = sided.ReadWord port guest word
side_without_value (sided.WriteWord port guest word value) = sided.WriteWord port guest word 0

abbrev pub without_value : Operation → Operation
without_value (op.AddVm vm) = op.AddVm vm
without_value (op.RemoveVm vm) = op.RemoveVm vm
without_value (op.AssignPage vm page) = op.AssignPage vm page
without_value (op.ReclaimPage vm page) = op.ReclaimPage vm page
without_value (op.SharePage left right page) = op.SharePage left right page
without_value (op.UnsharePage left right page) = op.UnsharePage left right page
without_value (op.On side operation) = op.On side (side_without_value operation)
without_value op.DataBarrier = op.DataBarrier
without_value op.InstructionBarrier = op.InstructionBarrier
without_value (op.RetireVm vm) = op.RetireVm vm

abbrev pub without_value_in : Option Operation → Option Operation
without_value_in None = None
without_value_in (Some operation) = Some (without_value operation)

-- what a row shares
abbrev pub sharing_in : Option Operation → Option Sharing
sharing_in None = None
sharing_in (Some operation) = sharing operation

-- a share that the tables accept: the two VMs and the page
pub record Shared (t : Tables) (operation : Option Operation) (left right page : ℕ) : Type 0 where
  pub share : sharing_in operation ≡ Some (record { left = left; right = right; page = page })
  pub agreed : answer_in t operation ≡ accepted

-- a page that a member shares with a VM outside holds equal words in both memories
abbrev pub SharesEqual : (ℕ → Bool) → Tables → Option Operation → List ℕ → List ℕ → Type 0
SharesEqual members t operation a b =
    (left right page word : ℕ) → Shared t operation left right page → members left ≡ true → members right ≡ false → word < PAGE_WORDS → word_in a page word ≡ word_in b page word

-- of what is read, place k lies in a secret page
abbrev pub SecretAt : (ℕ → Type 0) → List Place → ℕ → Type 0
SecretAt Secret [] k = ⊥
SecretAt Secret (x ∷ xs) zero = Secret x.page
SecretAt Secret (x ∷ xs) (suc k) = SecretAt Secret xs k

-- the words that an effect reads, place by place
abbrev pub words_read : Effect → List ℕ → List ℕ
words_read (reads vm places) memory = loaded places memory
words_read (writes vm stores) memory = []
words_read (clears pages) memory = []

-- the answer but for the word that was read
abbrev pub without_word : Answer → Answer
without_word (Ok ok) = accept ok.dropped 0
without_word (Err err) = Err err

-- ---- two runs, over a set of VMs and a reading of "private"
module _ (members : ℕ → Bool) (Secret : Tables → ℕ → Type 0) where
  -- stores of the same words, whose values differ only where a member writes a private page
  pub data NearStores (t : Tables) (vm : ℕ) : List Store → List Store → Type 0 where
    stop : NearStores t vm [] []
    same : {x : Store} {xs ys : List Store} → NearStores t vm xs ys → NearStores t vm (x ∷ xs) (x ∷ ys)
    other : {place : Place} {a b : ℕ} {xs ys : List Store} → members vm ≡ true → Secret t place.page → NearStores t vm xs ys →
        NearStores t vm (record { place = place; value = a } ∷ xs) (record { place = place; value = b } ∷ ys)

  pub data Near (t : Tables) : Effect → Effect → Type 0 where
    alike : {effect : Effect} → Near t effect effect
    stores : {vm : ℕ} {xs ys : List Store} → NearStores t vm xs ys → Near t (writes vm xs) (writes vm ys)

  -- only values that a member writes to private pages differ
  pub record Differ (t : Tables) (a b : Option Operation) : Type 0 where
    pub shape : without_value_in a ≡ without_value_in b
    pub near : Near t (effect_in t a) (effect_in t b)

  -- a member reads a private page at place k
  abbrev pub Seen : Tables → Effect → ℕ → Type 0
  Seen t (reads vm places) k = (members vm ≡ true) × SecretAt (Secret t) places k
  Seen t (writes vm xs) k = ⊥
  Seen t (clears pages) k = ⊥

  -- two states equal but for words in private pages
  pub record Alike (a b : State) : Type 0 where
    pub tables : a.tables ≡ b.tables
    pub size : length a.memory ≡ length b.memory
    pub words : (page word : ℕ) → word < PAGE_WORDS → (Secret a.tables page → ⊥) → word_in a.memory page word ≡ word_in b.memory page word

  -- what two memories give a read: equal words but at the places where a member reads a private page
  abbrev pub SameRead : Tables → Effect → List ℕ → List ℕ → Type 0
  SameRead t effect a b = (k : ℕ) → (Seen t effect k → ⊥) → get_or (words_read effect a) k 0 ≡ get_or (words_read effect b) k 0

  -- two answers equal but for the word, which is that of the first place
  pub record SameAnswer (t : Tables) (operation : Option Operation) (x y : Answer) : Type 0 where
    pub but_word : without_word x ≡ without_word y
    pub whole : (Seen t (effect_in t operation) 0 → ⊥) → x ≡ y

  -- what is asked of two rows, in the states before them
  pub record Asked (a b : State) (row row' : List ℕ) : Type 0 where
    pub differ : Differ a.tables (operation_in row) (operation_in row')
    pub shares_equal : SharesEqual members a.tables (operation_in row) a.memory b.memory

  -- ---- the statement: for all rows, after every row
  abbrev pub Premise : Progress → Progress → List ℕ → List ℕ → ℕ → Type 0
  Premise p q rows rows' count = (k : ℕ) → k < count → Asked (after rows k p).state (after rows' k q).state (row_at rows k) (row_at rows' k)

  pub record StayAlike (p q : Progress) (rows rows' : List ℕ) (count : ℕ) : Type 0 where
    pub states : (k : ℕ) → k ≤ count → Alike (after rows k p).state (after rows' k q).state
    pub answers : (k : ℕ) → k < count →
        SameAnswer (after rows k p).state.tables (operation_in (row_at rows k)) (step_row (after rows k p).state (row_at rows k)).answer (step_row (after rows' k q).state (row_at rows' k)).answer
