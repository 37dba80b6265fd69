-- When a sequence is carried out; answer row k of it is the answer of row k from the state after the rows before it, and room past the
-- answers is kept.
use Prim.Native.Nat.{ℕ, zero, suc, ◌+◌, ◌*◌, ◌%◌, ◌≤◌, ◌<◌}
use mathlib.Core.Bool.{Bool, true, false, not}
use mathlib.Core.List.{List}
use mathlib.Core.Logic.{⊎_elim}
use mathlib.Core.Path.{◌≡◌, refl, ◌∙◌}
use native.Mathlib.Omega.{arith}
use lib.Dec.{eqb, leb}
use lib.ListN.{length, get_or}
use borrow.Author.Tests.{leb-true, not-false}
use Rattle.numbers.specs.CaseLaws.{equal}
use Rattle.std.specs.Prelude.{if◌then◌else◌}
use Rattle.numbers.specs.Limits.{ROW_NUMBERS, ANSWER_NUMBERS}
use Rattle.numbers.specs.Meaning.{answer_numbers, number_of, Answer, accept}
use Rattle.std.specs.Prelude.{Ok, Err}
use Rattle.numbers.specs.declared.Refusal.TheVariants.{OutOfRange}
use Rattle.model.specs.Effect.{accepted, refused}
use Rattle.model.specs.EarlyLaws.{past}
use Rattle.model.specs.Sequence.{write_at, Progress, step_row, row_at, row_count, shape_answer, turn, after}
use Rattle.model.specs.WriteLaws.{length-written, written_before, written_behind, written_here}
use Rattle.table.specs.RepeatLaws.{repeat_last}

-- ---- the shape
-- a shape that is accepted has room for every answer, and nothing is dropped or read
pub roomy : (rows room : List ℕ) {dropped word : ℕ} → shape_answer rows room ≡ accept dropped word → (row_count rows * ANSWER_NUMBERS ≤ length room) × (accepted ≡ accept dropped word)
unfolding shape_answer
roomy rows room e =
    let (a, b) = past (not (eqb (length rows % ROW_NUMBERS) 0)) _ _ _ e in
    let (c, d) = past (not (leb (row_count rows * ANSWER_NUMBERS) (length room))) _ _ _ b in
    (leb-true _ _ (not-false _ c), d)

-- and so is one whose number is 0
pub shape_accepted : (rows room : List ℕ) → number_of (shape_answer rows room) ≡ 0 → shape_answer rows room ≡ accepted
unfolding shape_answer
shape_accepted rows room = go (not (eqb (length rows % ROW_NUMBERS) 0)) (not (leb (row_count rows * ANSWER_NUMBERS) (length room)))
  where
    go : (t u : Bool) → number_of (if t then refused OutOfRange else if u then refused OutOfRange else accepted) ≡ 0 → (if t then refused OutOfRange else if u then refused OutOfRange else accepted) ≡ accepted
    go true u e = absurd (omega arith)
    go false true e = absurd (omega arith)
    go false false e = refl

-- ---- an answer is four numbers
pub four : (answer : Answer) → length (answer_numbers answer) ≡ ANSWER_NUMBERS
four (Ok ok) = refl
four (Err err) = refl

-- ---- one row more
pub after_next : (rows : List ℕ) (k : ℕ) (p : Progress) → after rows (suc k) p ≡ turn rows k (after rows k p)
unfolding after
after_next rows k p = let z : 0 + k ≡ k = omega arith in rw z at (repeat_last (turn rows) 0 k p)

module _ (rows : List ℕ) (p : Progress) where
  -- the answer to row k
  abbrev pub answer_to : ℕ → Answer
  answer_to k = (step_row (after rows k p).state (row_at rows k)).answer

  length-room : (n : ℕ) → length (after rows n p).room ≡ length p.room
  unfolding after
  length-room zero = refl
  length-room (suc n) = rw (after_next rows n p) (length-written (after rows n p).room (n * ANSWER_NUMBERS) (answer_numbers (answer_to n)) ∙ length-room n)

  pub room_kept : (n j : ℕ) → n * ANSWER_NUMBERS ≤ j → get_or (after rows n p).room j 0 ≡ get_or p.room j 0
  unfolding after
  room_kept zero j h = refl
  room_kept (suc n) j h =
      rw (after_next rows n p)
      (written_behind (after rows n p).room (n * ANSWER_NUMBERS) (answer_numbers (answer_to n)) j (omega (arith, four (answer_to n))) ∙ room_kept n j (omega arith))

  pub answer_row : (n k i : ℕ) → k < n → i < ANSWER_NUMBERS → n * ANSWER_NUMBERS ≤ length p.room → get_or (after rows n p).room (k * ANSWER_NUMBERS + i) 0 ≡ get_or (answer_numbers (answer_to k)) i 0
  answer_row zero k i h b l = absurd (omega arith)
  answer_row (suc n) k i h b l = rw (after_next rows n p) (⊎_elim last (λ d. earlier d ∙ answer_row n k i (omega arith) b (omega arith)) (equal k n))
    where
      room : List ℕ
      room = (after rows n p).room

      last : k ≡ n → get_or (write_at room (n * ANSWER_NUMBERS) (answer_numbers (answer_to n))) (k * ANSWER_NUMBERS + i) 0 ≡ get_or (answer_numbers (answer_to k)) i 0
      last e = rw e (written_here room (n * ANSWER_NUMBERS) (answer_numbers (answer_to n)) i (omega (arith, four (answer_to n))) (omega (arith, four (answer_to n), length-room n)))

      earlier : (k ≡ n → ⊥) → get_or (write_at room (n * ANSWER_NUMBERS) (answer_numbers (answer_to n))) (k * ANSWER_NUMBERS + i) 0 ≡ get_or room (k * ANSWER_NUMBERS + i) 0
      earlier d = written_before room (n * ANSWER_NUMBERS) (answer_numbers (answer_to n)) (k * ANSWER_NUMBERS + i) (omega arith)
