-- Demand 3 (docs/MACHINE.md, 12), for a set of VMs and for one: one row, a sequence, and what changes a private page.
use Prim.Native.Nat.{ℕ, zero, suc, ◌≤◌, ◌<◌}
use mathlib.Core.Bool.{Bool, true, false}
use mathlib.Core.List.{List, [], ◌∷◌}
use mathlib.Core.Logic.{◌⊎◌, inl, inr, ⊎_elim}
use Rattle.std.specs.Prelude.{Option, None, Some, Ok, Err}
use mathlib.Core.Path.{◌≡◌, refl, sym, ap, subst, ◌∙◌}
use native.Mathlib.Omega.{arith}
use lib.Dec.{eqb}
use lib.ListN.{length}
use borrow.Author.Tests.{eqb-true, eq-eqb, ne_eqb}
use Rattle.numbers.specs.CaseLaws.{none_some}
use Rattle.numbers.specs.Limits.{PAGE_WORDS}
use Rattle.numbers.specs.Packing.{left_of, right_of}
use Rattle.numbers.specs.Meaning.{Answer}
use Rattle.numbers.specs.declared.Side.{Side}
use Rattle.numbers.specs.declared.SideOperation.{SideOperation}
use Rattle.numbers.specs.declared.SideOperation.TheVariants as sided
use Rattle.numbers.specs.declared.Operation.{Operation}
use Rattle.numbers.specs.declared.Operation.TheVariants as op
use Rattle.model.specs.State.{Tables, State}
use Rattle.model.specs.Effect.{word_in, Place, Store, Effect, reads, writes, clears, cleared_pages, apply, decided, Control}
use Rattle.model.specs.Step.{Stepped, answer_with, step, control}
use Rattle.model.specs.Sequence.{operation_in, step_known, step_row, row_at, Progress, after}
use Rattle.model.specs.Valid.{ValidTables, Valid}
use Rattle.model.specs.MemoryLaws.{length-applied}
use Rattle.model.proofs.StepShape.{control_shape}
use Rattle.model.specs.Good.{PlaceOn, Wrote}
use Rattle.model.specs.Secrecy.{PrivateTo, Private, effect_in, side_without_value, without_value, without_value_in, without_word, NearStores, stop, same, other, Near, alike, stores, SecretAt, Seen, SameRead, Alike, SharesEqual, SameAnswer, Asked, Premise, StayAlike}
use Rattle.model.proofs.Answers.{after_next}
use Rattle.model.proofs.Kept.{good, row_valid, after_valid}
use Rattle.model.proofs.EffectLaws.{inside, stored_over}
use Rattle.model.proofs.Secret.{Sound, only_own, no_outsider, same_read, same_answer, same_words}

sound : (t : Tables) → ValidTables t → (operation : Operation) → Sound t operation (control t operation)
sound t v operation = record { good = good t v operation; inside = inside t operation; setup = (control_shape t operation).setup }

-- ---- what the tables decide does not look at the value written
pub record SameControl (c d : Control) : Type 0 where
  pub answer : c.answer ≡ d.answer
  pub tables : c.tables ≡ d.tables

module _ (t : Tables) where
  side_valueless : (side : Side) (operation : SideOperation) → SameControl (control t (op.On side operation)) (control t (op.On side (side_without_value operation)))
  unfolding control decided
  side_valueless side (sided.MapPage vm guest page access generation) = record { answer = refl; tables = refl }
  side_valueless side (sided.UnmapPage vm guest) = record { answer = refl; tables = refl }
  side_valueless side (sided.InsertRegion region) = record { answer = refl; tables = refl }
  side_valueless side (sided.RemoveRegion region) = record { answer = refl; tables = refl }
  side_valueless side (sided.GivePort port target) = record { answer = refl; tables = refl }
  side_valueless side (sided.FillSlot port guest) = record { answer = refl; tables = refl }
  side_valueless side (sided.EmptySlot slot) = record { answer = refl; tables = refl }
  side_valueless side (sided.ReadWord port guest word) = record { answer = refl; tables = refl }
  side_valueless side (sided.WriteWord port guest word value) = record { answer = refl; tables = refl }

  valueless : (operation : Operation) → SameControl (control t operation) (control t (without_value operation))
  valueless (op.AddVm vm) = record { answer = refl; tables = refl }
  valueless (op.RemoveVm vm) = record { answer = refl; tables = refl }
  valueless (op.AssignPage vm page) = record { answer = refl; tables = refl }
  valueless (op.ReclaimPage vm page) = record { answer = refl; tables = refl }
  valueless (op.SharePage left right page) = record { answer = refl; tables = refl }
  valueless (op.UnsharePage left right page) = record { answer = refl; tables = refl }
  valueless (op.On side operation) = side_valueless side operation
  valueless op.DataBarrier = record { answer = refl; tables = refl }
  valueless op.InstructionBarrier = record { answer = refl; tables = refl }
  valueless (op.RetireVm vm) = record { answer = refl; tables = refl }

  pub blind : (x y : Operation) → without_value x ≡ without_value y → SameControl (control t x) (control t y)
  blind x y e =
      record {
        answer = (valueless x).answer ∙ ap (λ (z : Operation). (control t z).answer) e ∙ sym (valueless y).answer;
        tables = (valueless x).tables ∙ ap (λ (z : Operation). (control t z).tables) e ∙ sym (valueless y).tables;
      }

-- ---- answers but for the word
unread : (effect : Effect) (memory : List ℕ) (x : Answer) → without_word (answer_with effect memory x) ≡ without_word x
unread (reads vm places) memory (Ok ok) = refl
unread (reads vm places) memory (Err err) = refl
unread (writes vm xs) memory x = refl
unread (clears pages) memory x = refl

-- ---- no row yet
after_none : (rows : List ℕ) (p : Progress) → after rows 0 p ≡ p
unfolding after
after_none rows p = refl

-- ---- a word that stays
abbrev pub Unchanged : State → State → ℕ → ℕ → Type 0
Unchanged s s' page word = word_in s'.memory page word ≡ word_in s.memory page word

-- ---- what the statements say of effects they say of memory: a row leaves what its effect leaves
known_effect : (s : State) (found : Option Operation) → (step_known s found).state.memory ≡ apply (effect_in s.tables found) s.memory
unfolding step apply cleared_pages
known_effect s None = refl
known_effect s (Some x) = refl

pub row_effect : (s : State) (row : List ℕ) → (step_row s row).state.memory ≡ apply (effect_in s.tables (operation_in row)) s.memory
unfolding step_row
row_effect s row = known_effect s (operation_in row)

-- ---- a word that a VM wrote is what was stored, whatever stood there
over : (effect : Effect) (vm page word : ℕ) → word < PAGE_WORDS → Wrote effect vm page word → (a b : List ℕ) → length a ≡ length b → word_in (apply effect a) page word ≡ word_in (apply effect b) page word
unfolding apply
over (reads w xs) vm page word h wrote a b l = absurd wrote
over (clears xs) vm page word h wrote a b l = absurd wrote
over (writes w xs) vm page word h wrote a b l = stored_over page word h xs wrote.1 a b l

known_over : (t : Tables) (found : Option Operation) (vm page word : ℕ) → word < PAGE_WORDS → Wrote (effect_in t found) vm page word → (a b : List ℕ) → length a ≡ length b →
    word_in (step_known (record { tables = t; memory = a }) found).state.memory page word ≡ word_in (step_known (record { tables = t; memory = b }) found).state.memory page word
unfolding step
known_over t None vm page word h wrote a b l = absurd wrote
known_over t (Some x) vm page word h wrote a b l = over (control t x).effect vm page word h wrote a b l

pub written_over : (t : Tables) (row : List ℕ) (vm page word : ℕ) → word < PAGE_WORDS → Wrote (effect_in t (operation_in row)) vm page word → (a b : List ℕ) → length a ≡ length b →
    word_in (step_row (record { tables = t; memory = a }) row).state.memory page word ≡ word_in (step_row (record { tables = t; memory = b }) row).state.memory page word
unfolding step_row
written_over t row vm page word h wrote a b l = known_over t (operation_in row) vm page word h wrote a b l

-- ---- over any reading of "private"
module _ (members : ℕ → Bool) (Secret : Tables → ℕ → Type 0) where
  -- two runs of one row
  pub record StepAlike (t : Tables) (operation : Option Operation) (r r' : Stepped) : Type 0 where
    pub states : Alike members Secret r.state r'.state
    pub answers : SameAnswer members Secret t operation r.answer r'.answer

  -- an effect that reads no private page for a member
  abbrev pub ReadsNoSecret : Tables → Effect → Type 0
  ReadsNoSecret t effect = (vm : ℕ) (places : List Place) → effect ≡ reads vm places → members vm ≡ true → (page : ℕ) → PlaceOn page places → Secret t page → ⊥

  unseen : (t : Tables) (effect : Effect) → ReadsNoSecret t effect → Seen members Secret t effect 0 → ⊥
  unseen t (reads vm (x ∷ xs)) n (m, secret) = n vm (x ∷ xs) refl m x.page (inl refl) secret
  unseen t (reads vm []) n (m, z) = z
  unseen t (writes vm xs) n z = z
  unseen t (clears pages) n z = z

  -- a row that is no member's read of a private page is answered equally in both runs
  pub only_members_see : (p q : Progress) (rows rows' : List ℕ) (count : ℕ) → StayAlike members Secret p q rows rows' count → (k : ℕ) → k < count →
      ReadsNoSecret (after rows k p).state.tables (effect_in (after rows k p).state.tables (operation_in (row_at rows k))) →
      (step_row (after rows k p).state (row_at rows k)).answer ≡ (step_row (after rows' k q).state (row_at rows' k)).answer
  only_members_see p q rows rows' count stay k h n =
      (stay.answers k h).whole (unseen (after rows k p).state.tables (effect_in (after rows k p).state.tables (operation_in (row_at rows k))) n)

module _ (members : ℕ → Bool) where
  -- a row in which a member wrote the word
  pub record WrittenIn (rows : List ℕ) (p : Progress) (count page word : ℕ) : Type 0 where
    pub row : ℕ
    pub within : row < count
    pub vm : ℕ
    pub member : members vm ≡ true
    pub wrote : Wrote (effect_in (after rows row p).state.tables (operation_in (row_at rows row))) vm page word

  near_answer : {t : Tables} {effect effect' : Effect} → Near members (Private members) t effect effect' → (memory : List ℕ) (x : Answer) → answer_with effect memory x ≡ answer_with effect' memory x
  near_answer alike memory x = refl
  near_answer (stores near) memory x = refl

  -- ---- one row
  abbrev BothAlike : Tables → Option Operation → Stepped → Stepped → Type 0
  BothAlike = StepAlike members (Private members)

  module _ (t : Tables) (v : ValidTables t) (a b : List ℕ) (like : Alike members (Private members) (record { tables = t; memory = a }) (record { tables = t; memory = b })) where
    operation_alike : (x y : Operation) → without_value x ≡ without_value y → Near members (Private members) t (control t x).effect (control t y).effect → SharesEqual members t (Some x) a b →
        BothAlike t (Some x) (step (record { tables = t; memory = a }) x) (step (record { tables = t; memory = b }) y)
    unfolding step
    operation_alike x y shape near shares =
        let c = control t x in
        let d = control t y in
        let decides = blind t x y shape in
        let s = sound t v x in
        record {
          states =
              record {
                tables = decides.tables;
                size = length-applied c.effect a ∙ like.size ∙ sym (length-applied d.effect b);
                words = same_words members t v x c.answer c.tables a b like.words
                    (λ left right page word share agreed. shares left right page word (record { share = share; agreed = agreed })) like.size s near;
              };
          answers =
              record {
                but_word = unread c.effect a c.answer ∙ ap without_word decides.answer ∙ sym (unread d.effect b d.answer);
                whole = λ n. same_answer members t v x c.answer c.tables a b like.words c.effect s n c.answer ∙ near_answer near b c.answer ∙ ap (answer_with d.effect b) decides.answer;
              };
        }

    -- a row of no operation is refused in both
    known_alike : (x y : Option Operation) → without_value_in x ≡ without_value_in y → Near members (Private members) t (effect_in t x) (effect_in t y) → SharesEqual members t x a b →
        BothAlike t x (step_known (record { tables = t; memory = a }) x) (step_known (record { tables = t; memory = b }) y)
    known_alike None None shape near shares = record { states = like; answers = record { but_word = refl; whole = λ n. refl } }
    known_alike (Some x) (Some y) shape near shares = operation_alike x y (cc shape) near shares
    known_alike None (Some y) shape near shares = absurd (none_some shape)
    known_alike (Some x) None shape near shares = absurd (none_some (sym shape))

  pub secret_step : (s s' : State) (row row' : List ℕ) → Valid s → Alike members (Private members) s s' → Asked members (Private members) s s' row row' →
      BothAlike s.tables (operation_in row) (step_row s row) (step_row s' row')
  unfolding step_row
  secret_step s s' row row' v like asked =
      subst (λ (t : Tables). Alike members (Private members) s (record { tables = t; memory = s'.memory }) → BothAlike s.tables (operation_in row) (step_row s row) (step_row (record { tables = t; memory = s'.memory }) row'))
      like.tables (λ l. known_alike s.tables v.tables s.memory s'.memory l (operation_in row) (operation_in row') asked.differ.shape asked.differ.near asked.shares_equal) like

  -- what a row reads, place by place
  pub secret_read : (s s' : State) (row : List ℕ) → Valid s → Alike members (Private members) s s' → SameRead members (Private members) s.tables (effect_in s.tables (operation_in row)) s.memory s'.memory
  secret_read s s' row v like = go (operation_in row)
    where
      go : (found : Option Operation) → SameRead members (Private members) s.tables (effect_in s.tables found) s.memory s'.memory
      go None k n = refl
      go (Some x) k n =
          let c = control s.tables x in
          same_read members s.tables v.tables x c.answer c.tables s.memory s'.memory like.words c.effect (sound s.tables v.tables x) k n

  -- ---- a sequence, after every row
  pub secrecy : (p q : Progress) (rows rows' : List ℕ) (count : ℕ) → Valid p.state → Alike members (Private members) p.state q.state →
      Premise members (Private members) p q rows rows' count → StayAlike members (Private members) p q rows rows' count
  secrecy p q rows rows' count v like asked = record { states = states; answers = λ k h. (row k h (states k (omega arith))).answers }
    where
      row : (k : ℕ) → k < count → Alike members (Private members) (after rows k p).state (after rows' k q).state →
          BothAlike (after rows k p).state.tables (operation_in (row_at rows k)) (step_row (after rows k p).state (row_at rows k)) (step_row (after rows' k q).state (row_at rows' k))
      row k h l = secret_step (after rows k p).state (after rows' k q).state (row_at rows k) (row_at rows' k) (after_valid rows k p v) l (asked k h)

      states : (k : ℕ) → k ≤ count → Alike members (Private members) (after rows k p).state (after rows' k q).state
      states zero h = rw (after_none rows p, after_none rows' q) like
      states (suc k) h = rw (after_next rows k p, after_next rows' k q) (row k (omega arith) (states k (omega arith))).states

  -- ---- within one run: a word of a page private before and after changes only by a member's own write
  module _ (s : State) (v : Valid s) where
    known_own_write : (found : Option Operation) (page word : ℕ) → word < PAGE_WORDS → Private members s.tables page → Private members (step_known s found).state.tables page →
        Unchanged s (step_known s found).state page word ⊎ ((vm : ℕ) × (members vm ≡ true) × Wrote (effect_in s.tables found) vm page word)
    unfolding step
    known_own_write None page word h p p' = inl refl
    known_own_write (Some x) page word h p p' =
        let c = control s.tables x in
        only_own members s.tables v.tables x c.answer c.tables c.effect (sound s.tables v.tables x) s.memory page word h p p'

    pub own_write : (row : List ℕ) (page word : ℕ) → word < PAGE_WORDS → Private members s.tables page → Private members (step_row s row).state.tables page →
        Unchanged s (step_row s row).state page word ⊎ ((vm : ℕ) × (members vm ≡ true) × Wrote (effect_in s.tables (operation_in row)) vm page word)
    unfolding step_row
    own_write row page word h p p' = known_own_write (operation_in row) page word h p p'

    -- no row writes a private page for a VM outside
    known_no_outsider : (found : Option Operation) (vm page word : ℕ) → Private members s.tables page → members vm ≡ false → Wrote (effect_in s.tables found) vm page word → ⊥
    known_no_outsider None vm page word p outside z = z
    known_no_outsider (Some x) vm page word p outside z =
        let c = control s.tables x in
        no_outsider members s.tables v.tables x c.answer c.tables c.effect (sound s.tables v.tables x) vm page word p outside z

    pub no_outsider_writes : (row : List ℕ) (vm page word : ℕ) → Private members s.tables page → members vm ≡ false → Wrote (effect_in s.tables (operation_in row)) vm page word → ⊥
    no_outsider_writes row vm page word p outside wrote = known_no_outsider (operation_in row) vm page word p outside wrote

  -- the same of many rows: a word of a page that is private all along is as it was, or a member wrote it in one of them
  pub own_writes : (rows : List ℕ) (p : Progress) → Valid p.state → (page word : ℕ) → word < PAGE_WORDS → (count : ℕ) → ((k : ℕ) → k ≤ count → Private members (after rows k p).state.tables page) →
      Unchanged p.state (after rows count p).state page word ⊎ WrittenIn rows p count page word
  own_writes rows p v page word h zero private = inl (rw (after_none rows p) refl)
  own_writes rows p v page word h (suc k) private =
      ⊎_elim (λ same. ⊎_elim (λ stays. inl (rw (after_next rows k p) (stays ∙ same))) (λ w. inr (record { row = k; within = omega arith; vm = w.0; member = w.1; wrote = w.2 })) last)
      (λ w. inr (record { row = w.row; within = omega (arith, w.within); vm = w.vm; member = w.member; wrote = w.wrote }))
      (own_writes rows p v page word h k (λ j l. private j (omega arith)))
    where
      last : Unchanged (after rows k p).state (step_row (after rows k p).state (row_at rows k)).state page word
          ⊎ ((vm : ℕ) × (members vm ≡ true) × Wrote (effect_in (after rows k p).state.tables (operation_in (row_at rows k))) vm page word)
      last = own_write (after rows k p).state (after_valid rows k p v) (row_at rows k) page word h (private k (omega arith)) (rw (after_next rows k p) at (private (suc k) (omega arith)))

-- ---- two readings of "private", of which the first gives the second at valid tables
module _ (members : ℕ → Bool) (P Q : Tables → ℕ → Type 0) (gives : (t : Tables) → ValidTables t → (page : ℕ) → P t page → Q t page) where
  alike_as : (s s' : State) → Valid s → Alike members P s s' → Alike members Q s s'
  alike_as s s' v l = record { tables = l.tables; size = l.size; words = λ page word h n. l.words page word h (λ x. n (gives s.tables v.tables page x)) }

  stores_as : (t : Tables) → ValidTables t → (vm : ℕ) {xs ys : List Store} → NearStores members P t vm xs ys → NearStores members Q t vm xs ys
  stores_as t v vm stop = stop
  stores_as t v vm (same near) = same (stores_as t v vm near)
  stores_as t v vm (other {place = place} m x near) = other m (gives t v place.page x) (stores_as t v vm near)

  near_as : (t : Tables) → ValidTables t → {effect effect' : Effect} → Near members P t effect effect' → Near members Q t effect effect'
  near_as t v alike = alike
  near_as t v (stores {vm = vm} near) = stores (stores_as t v vm near)

  secret_as : (t : Tables) → ValidTables t → (places : List Place) (k : ℕ) → SecretAt (P t) places k → SecretAt (Q t) places k
  secret_as t v [] k z = z
  secret_as t v (x ∷ xs) zero secret = gives t v x.page secret
  secret_as t v (x ∷ xs) (suc k) secret = secret_as t v xs k secret

  seen_as : (t : Tables) → ValidTables t → (effect : Effect) (k : ℕ) → Seen members P t effect k → Seen members Q t effect k
  seen_as t v (reads vm places) k (m, secret) = (m, secret_as t v places k secret)
  seen_as t v (writes vm xs) k z = z
  seen_as t v (clears pages) k z = z

  asked_as : (s s' : State) (row row' : List ℕ) → Valid s → Asked members P s s' row row' → Asked members Q s s' row row'
  asked_as s s' row row' v a = record { differ = record { shape = a.differ.shape; near = near_as s.tables v.tables a.differ.near }; shares_equal = a.shares_equal }

  answer_as : (t : Tables) → ValidTables t → (found : Option Operation) (x y : Answer) → SameAnswer members P t found x y → SameAnswer members Q t found x y
  answer_as t v found x y a = record { but_word = a.but_word; whole = λ n. a.whole (λ seen. n (seen_as t v (effect_in t found) 0 seen)) }

  premise_as : (p q : Progress) (rows rows' : List ℕ) (count : ℕ) → Valid p.state → Premise members P p q rows rows' count → Premise members Q p q rows rows' count
  premise_as p q rows rows' count v asked k h = asked_as _ _ _ _ (after_valid rows k p v) (asked k h)

  stay_as : (p q : Progress) (rows rows' : List ℕ) (count : ℕ) → Valid p.state → StayAlike members P p q rows rows' count → StayAlike members Q p q rows rows' count
  stay_as p q rows rows' count v stay =
      record {
        states = λ k h. alike_as (after rows k p).state (after rows' k q).state (after_valid rows k p v) (stay.states k h);
        answers = λ k h. answer_as _ (after_valid rows k p v).tables (operation_in (row_at rows k)) _ _ (stay.answers k h);
      }

-- ---- one VM: a page with an edge is not private to it, since an edge joins two VMs
module _ (vm : ℕ) where
  one_of : (t : Tables) → ValidTables t → (page : ℕ) → Private (eqb vm) t page → PrivateTo vm t page
  one_of t v page p =
      let z : vm ≡ p.holder = eqb-true vm p.holder p.member in
      record {
        vm_ok = rw z p.holder_ok;
        page_ok = p.page_ok;
        held = rw z p.held;
        unshared = λ w h on. let both = p.inside w h on in (v.pairs.each w h).apart (sym (eqb-true vm (left_of w) both.0) ∙ eqb-true vm (right_of w) both.1);
      }

  pub set_of : (t : Tables) → ValidTables t → (page : ℕ) → PrivateTo vm t page → Private (eqb vm) t page
  set_of t v page p =
      record { holder = vm; member = eq-eqb vm vm refl; holder_ok = p.vm_ok; page_ok = p.page_ok; held = p.held; inside = λ w h on. absurd (p.unshared w h on) }

  pub secret_step_one : (s s' : State) (row row' : List ℕ) → Valid s → Alike (eqb vm) (PrivateTo vm) s s' → Asked (eqb vm) (PrivateTo vm) s s' row row' →
      StepAlike (eqb vm) (PrivateTo vm) s.tables (operation_in row) (step_row s row) (step_row s' row')
  secret_step_one s s' row row' v like asked =
      let both = secret_step (eqb vm) s s' row row' v (alike_as (eqb vm) (PrivateTo vm) (Private (eqb vm)) set_of s s' v like) (asked_as (eqb vm) (PrivateTo vm) (Private (eqb vm)) set_of s s' row row' v asked) in
      record {
        states = alike_as (eqb vm) (Private (eqb vm)) (PrivateTo vm) one_of _ _ (row_valid s v row) both.states;
        answers = answer_as (eqb vm) (Private (eqb vm)) (PrivateTo vm) one_of s.tables v.tables (operation_in row) _ _ both.answers;
      }

  pub secrecy_one : (p q : Progress) (rows rows' : List ℕ) (count : ℕ) → Valid p.state → Alike (eqb vm) (PrivateTo vm) p.state q.state →
      Premise (eqb vm) (PrivateTo vm) p q rows rows' count → StayAlike (eqb vm) (PrivateTo vm) p q rows rows' count
  secrecy_one p q rows rows' count v like asked =
      stay_as (eqb vm) (Private (eqb vm)) (PrivateTo vm) one_of p q rows rows' count v
      (secrecy (eqb vm) p q rows rows' count v (alike_as (eqb vm) (PrivateTo vm) (Private (eqb vm)) set_of p.state q.state v like)
      (premise_as (eqb vm) (PrivateTo vm) (Private (eqb vm)) set_of p q rows rows' count v asked))

  pub own_write_one : (s : State) → Valid s → (row : List ℕ) (page word : ℕ) → word < PAGE_WORDS → PrivateTo vm s.tables page → PrivateTo vm (step_row s row).state.tables page →
      Unchanged s (step_row s row).state page word ⊎ Wrote (effect_in s.tables (operation_in row)) vm page word
  own_write_one s v row page word h p p' =
      ⊎_elim inl (λ w. let (who, is, wrote) = w in inr (rw (← eqb-true vm who is) at wrote))
      (own_write (eqb vm) s v row page word h (set_of s.tables v.tables page p) (set_of _ (row_valid s v row).tables page p'))

  pub no_outsider_writes_one : (s : State) → Valid s → (row : List ℕ) (outsider page word : ℕ) → PrivateTo vm s.tables page → (vm ≡ outsider → ⊥) →
      Wrote (effect_in s.tables (operation_in row)) outsider page word → ⊥
  no_outsider_writes_one s v row outsider page word p apart =
      no_outsider_writes (eqb vm) s v row outsider page word (set_of s.tables v.tables page p) (ne_eqb vm outsider apart)

  pub own_writes_one : (rows : List ℕ) (p : Progress) → Valid p.state → (page word : ℕ) → word < PAGE_WORDS → (count : ℕ) → ((k : ℕ) → k ≤ count → PrivateTo vm (after rows k p).state.tables page) →
      Unchanged p.state (after rows count p).state page word ⊎ WrittenIn (eqb vm) rows p count page word
  own_writes_one rows p v page word h count private = own_writes (eqb vm) rows p v page word h count (λ k l. set_of _ (after_valid rows k p v).tables page (private k l))
