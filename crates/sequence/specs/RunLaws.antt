-- What holds after some rows of a sequence: where it stands, and that no list has changed its length.
use Rattle.std.specs.Prelude.{ℕ, ◌+◌, ◌*◌, ◌/◌, ◌%◌, ◌≤◌, ◌<◌, not, List, ◌≡◌, refl, eqb, leb, length, Option, None, Some}
use Rattle.std.proofs.Math.Path.{sym}
use Rattle.std.proofs.Common.{ap, ◌∙◌, leb-true}
use Rattle.std.proofs.lemmas.Bool.{not-false}
use Rattle.numbers.specs.Limits.{ROW_NUMBERS, ANSWER_NUMBERS}
use Rattle.numbers.specs.Meaning.{answer_numbers, Answer, accept, refuse}
use Rattle.numbers.specs.declared.Operation.{Operation}
use Rattle.table.specs.Loops.{Repeating, repeat_start, repeat_next, repeat_end}
use Rattle.std.specs.Borrow.{MutBor}
use Rattle.model.specs.Header.{Same}
use Rattle.model.specs.State.{State, Tables, Route}
use Rattle.model.specs.declared.Lent.{Lent}
use Rattle.model.specs.declared.Fixed.{Fixed}
use Rattle.operate.specs.Fit.{Fit}
use Rattle.numbers.specs.declared.Refusal.{Refusal}
use Rattle.numbers.specs.declared.Refusal.TheVariants.{OutOfRange}
use Rattle.model.specs.Effect.{refused}
use Rattle.model.specs.Step.{Stepped, step}
use Rattle.model.specs.Sequence.{Progress, turn, after, step_row, step_known, operation_in, row_at, recorded, shape_answer, sequence}
use Rattle.model.specs.WriteLaws.{length-written}
use Rattle.model.specs.EarlyLaws.{past}
use Rattle.model.specs.ShapeLaws.{SameRoute, SameShape, SameSizes}
use Rattle.model.proofs.StepShape.{step_sizes}
use Rattle.sequence.specs.Run.{ran, shape_of}

-- ---- sizes pass on
join_route : {a b c : Route} → SameRoute a b → SameRoute b c → SameRoute a c
join_route x y = record { map = y.map ∙ x.map; walker = y.walker ∙ x.walker; cache = y.cache ∙ x.cache; ports = y.ports ∙ x.ports }

join_shape : {a b c : Tables} → SameShape a b → SameShape b c → SameShape a c
join_shape x y = record { setup = y.setup ∙ x.setup; sets = y.sets ∙ x.sets; pairs = y.pairs ∙ x.pairs; cpu = join_route x.cpu y.cpu; dma = join_route x.dma y.dma }

pub join_sizes : {a b c : State} → SameSizes a b → SameSizes b c → SameSizes a c
join_sizes x y = record { tables = join_shape x.tables y.tables; memory = y.memory ∙ x.memory }

same_route : (r : Route) → SameRoute r r
same_route r = record { map = refl; walker = refl; cache = refl; ports = refl }

pub same_sizes : (s : State) → SameSizes s s
same_sizes s =
    record {
      tables = record { setup = refl; sets = refl; pairs = refl; cpu = same_route s.tables.cpu; dma = same_route s.tables.dma };
      memory = refl;
    }

pub row_sizes : (s : State) (o : Option Operation) → SameSizes s (step_known s o).state
row_sizes s None = same_sizes s
row_sizes s (Some operation) = step_sizes s operation

turn_sizes : (rows : List ℕ) (k : ℕ) (p : Progress) → SameSizes p.state (turn rows k p).state
unfolding step_row
turn_sizes rows k p = row_sizes p.state (operation_in (row_at rows k))

turn_room : (rows : List ℕ) (k : ℕ) (p : Progress) → length (turn rows k p).room ≡ length p.room
turn_room rows k p = length-written p.room (k * ANSWER_NUMBERS) (answer_numbers (step_row p.state (row_at rows k)).answer)

-- ---- the slices that were lent are lent on
pub same_join : (a b c : Lent (MutBor (List ℕ))) → Same a b → Same b c → Same a c
same_join a b c p q = (q.0 ∙ p.0, q.1 ∙ p.1, q.2 ∙ p.2, q.3 ∙ p.3, q.4 ∙ p.4, q.5 ∙ p.5, q.6 ∙ p.6, q.7 ∙ p.7, q.8 ∙ p.8)

-- ---- after k of n rows
pub record Running (rows : List ℕ) (n : ℕ) (start now : Progress) (k : ℕ) : Type 0 where
  pub steps : Repeating (turn rows) n start now k
  pub sizes : SameSizes start.state now.state
  pub room : length now.room ≡ length start.room

module _ (rows : List ℕ) (n : ℕ) (start : Progress) where
  pub run_start : Running rows n start start 0
  run_start = record { steps = repeat_start (turn rows) n start; sizes = same_sizes start.state; room = refl }

  pub run_next : (now next : Progress) (k : ℕ) → Running rows n start now k → k < n → next ≡ turn rows k now → Running rows n start next (k + 1)
  run_next now next k r h e =
      record {
        steps = repeat_next (turn rows) n start now next k r.steps h e;
        sizes = rw e (join_sizes r.sizes (turn_sizes rows k now));
        room = rw e (turn_room rows k now ∙ r.room);
      }

  pub run_end : (now : Progress) (k : ℕ) → Running rows n start now k → n ≤ k → now ≡ after rows n start
  unfolding after
  run_end now k r h = repeat_end (turn rows) n start now k r.steps h

-- ---- one row, from what decoding it and carrying it out gave
pub row_done : (s : State) (row : List ℕ) (decoded : Option Operation) (operation : Operation) (r : Stepped) → decoded ≡ operation_in row → decoded ≡ Some operation → r ≡ step s operation → r ≡ step_row s row
unfolding step_row
row_done s row decoded operation r e f g =
    let o : operation_in row ≡ Some operation = sym e ∙ f in
    rw (o, g)

pub row_unknown : (s : State) (row : List ℕ) (decoded : Option Operation) → decoded ≡ operation_in row → decoded ≡ None → record { answer = refused OutOfRange; state = s } ≡ step_row s row
unfolding step_row
row_unknown s row decoded e f =
    let o : operation_in row ≡ None = sym e ∙ f in
    rw o

pub turn_done :
    (rows : List ℕ) (k : ℕ) (p : Progress) (decoded : Option Operation) (operation : Operation) (r : Stepped) →
    decoded ≡ operation_in (row_at rows k) → decoded ≡ Some operation → r ≡ step p.state operation → recorded r k p.room ≡ turn rows k p
turn_done rows k p decoded operation r e f g = ap (λ (x : Stepped). recorded x k p.room) (row_done p.state (row_at rows k) decoded operation r e f g)

pub turn_unknown :
    (rows : List ℕ) (k : ℕ) (p : Progress) (decoded : Option Operation) →
    decoded ≡ operation_in (row_at rows k) → decoded ≡ None → recorded (record { answer = refused OutOfRange; state = p.state }) k p.room ≡ turn rows k p
turn_unknown rows k p decoded e f = ap (λ (x : Stepped). recorded x k p.room) (row_unknown p.state (row_at rows k) decoded e f)

-- ---- what the joined operation asks for still holds
pub fit_kept :
    (fixed : Fixed) (sets memory sets' memory' : List ℕ) →
    Fit fixed sets memory → length sets' ≡ length sets → length memory' ≡ length memory → Fit fixed sets' memory'
fit_kept fixed sets memory sets' memory' f l n =
    let s = f.sized in
    record { sized = record { few_pages = s.few_pages; sets_length = l ∙ s.sets_length; memory_length = n ∙ s.memory_length }; few_units = f.few_units }

-- ---- the whole sequence, from what its shape said
pub shape_room : (rows room : ℕ) (a : Answer) {dropped word : ℕ} → a ≡ shape_of rows room → a ≡ accept dropped word → rows / ROW_NUMBERS * ANSWER_NUMBERS ≤ room
shape_room rows room a e f =
    let b = past (not (eqb (rows % ROW_NUMBERS) 0)) _ _ _ (sym e ∙ f) in
    let c = past (not (leb (rows / ROW_NUMBERS * ANSWER_NUMBERS) room)) _ _ _ b.1 in
    leb-true _ _ (not-false _ c.0)

module _ (s : State) (rows room : List ℕ) (a : Answer) (e : a ≡ shape_of (length rows) (length room)) where
  pub sequence_refused_lem : {refusal : Refusal} {index : ℕ} → a ≡ refuse refusal index → ran (refuse refusal index) (record { state = s; room = room }) ≡ sequence s rows room
  unfolding sequence shape_answer
  sequence_refused_lem {refusal} {index} f = let g : shape_of (length rows) (length room) ≡ refuse refusal index = sym e ∙ f in rw g

  pub sequence_done : {dropped word : ℕ} (p : Progress) → a ≡ accept dropped word → p ≡ after rows (length rows / ROW_NUMBERS) (record { state = s; room = room }) → ran a p ≡ sequence s rows room
  unfolding sequence shape_answer
  sequence_done {dropped} {word} p f g =
      let h : shape_of (length rows) (length room) ≡ accept dropped word = sym e ∙ f in
      rw (f, h, g)
