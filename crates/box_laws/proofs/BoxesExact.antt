-- When a box's row is accepted, by the number that an entry returns or writes: exactly where the entry takes the box and the row names an
-- operation whose conditions hold; and which refusals there are. For caches of any form.
use Prim.Native.Nat.{ℕ, ◌+◌, ◌*◌, ◌<◌}
use mathlib.Core.List.{List}
use mathlib.Core.Logic.{◌⊎◌, inl, inr, ◌↔◌}
use mathlib.Core.Bool.{true}
use mathlib.Core.Path.{◌≡◌, refl, sym, ap, ◌∙◌}
use native.Mathlib.Omega.{arith}
use lib.ListN.{length, get_or}
use Rattle.numbers.specs.Limits.{ANSWER_NUMBERS}
use Rattle.numbers.specs.Meaning.{answer_numbers, number_of, Answer}
use Rattle.numbers.specs.declared.Refusal.TheVariants.{StateNotValid}
use Rattle.model.specs.Conditions.{RowConditions}
use Rattle.model.specs.Entries.{valid}
use Rattle.model.specs.Sequence.{Progress, row_at, row_count, step_row, after, sequence, beginning}
use Rattle.model.proofs.AnswerNumbers.{is_in, listed, operation_at, AnswerGood, answer_good, plain_good}
use Rattle.model.proofs.Answers.{roomy, shape_accepted, four, answer_to, answer_row}
use Rattle.model.proofs.Exactly.{row_exactly, answer_row_exactly}
use Rattle.model.proofs.RefusalsListed.{entry_listed}
use Rattle.box_header.specs.Numbers.{answered}
use Rattle.box_cores.specs.Boxes.{Box, BoxValid, state_in}
use Rattle.box_cores.specs.CoreLaws.{answered_here}
use Rattle.box_cores.specs.Given.{Judgement, met, unmet, Given, not_valid_answer, OperationAsked, operation_gives, operation_refused, sequence_gives, refused_whole}

-- the four numbers at a place of a room are those of an answer to the row
pub record Answered (row room : List ℕ) (place : ℕ) : Type 0 where
  pub answer : Answer
  pub good : AnswerGood row answer
  pub numbers : (i : ℕ) → i < ANSWER_NUMBERS → get_or room (place + i) 0 ≡ get_or (answer_numbers answer) i 0

module _ {C : Type 0} (words_of : C → List ℕ) (cacheOf : List ℕ → C) (b : Box C) where
  -- ---- one operation
  module _ (row room : List ℕ) (r : Given C) where
    pub operation_exactly : Judgement (OperationAsked words_of b row room) (operation_gives words_of cacheOf b row room) (operation_refused b room) r →
        (r.number ≡ 0) ↔ (OperationAsked words_of b row room × RowConditions (state_in words_of b).tables row)
    operation_exactly (met a e) =
        let exact = row_exactly (state_in words_of b) a.box.state row in
        rw e (λ z. (a, exact.0 z), λ c. exact.1 c.1)
    operation_exactly (unmet n e) = rw e (λ z. absurd (omega (arith, z)), λ c. absurd (n c.0))

    -- a refusal is 1 where the entry does not take what it is handed, and else one that the manual lists for the row's operation
    pub record NumberListed : Type 0 where
      pub one_of : ((r.number ≡ 0) ⊎ (is_in (listed (operation_at row)) r.number ≡ true)) ⊎ (r.number ≡ 1)
      pub one : (r.number ≡ 1) ↔ (OperationAsked words_of b row room → ⊥)

    pub operation_listed : Judgement (OperationAsked words_of b row room) (operation_gives words_of cacheOf b row room) (operation_refused b room) r → NumberListed
    operation_listed (met a e) =
        let s = state_in words_of b in
        let number : r.number ≡ (operation_gives words_of cacheOf b row room).number = ap (λ (g : Given C). g.number) e in
        let l = entry_listed s row (step_row s row) (valid a.box.state refl) in
        record { one_of = rw number l.one_of; one = (λ o. absurd (l.one.0 (sym number ∙ o) a.box.state), λ n. absurd (n a)) }
    operation_listed (unmet n e) =
        let number : r.number ≡ 1 = ap (λ (g : Given C). g.number) e in
        record { one_of = inr number; one = (λ o. n, λ m. number) }

    -- what stands in a room of four is an answer as the manual has it, and its first number is what is returned
    pub operation_answered : Judgement (OperationAsked words_of b row room) (operation_gives words_of cacheOf b row room) (operation_refused b room) r → length room ≡ ANSWER_NUMBERS →
        Answered row r.room 0 × (r.number ≡ get_or r.room 0 0)
    operation_answered j l = which j
      where
        told : (answer : Answer) → AnswerGood row answer → r.number ≡ number_of answer → r.room ≡ answered room (answer_numbers answer) → Answered row r.room 0 × (r.number ≡ get_or r.room 0 0)
        told answer good number e =
            let here = answered_here room (answer_numbers answer) (l ∙ sym (four answer)) in (
              record {
                answer = answer;
                good = good;
                numbers = λ i h. let z : 0 + i ≡ i = omega arith in rw (z, e) (here i (omega (arith, four answer)));
              },
              number ∙ rw e (sym (here 0 (omega (arith, four answer)))),
            )

        which : Judgement (OperationAsked words_of b row room) (operation_gives words_of cacheOf b row room) (operation_refused b room) r → Answered row r.room 0 × (r.number ≡ get_or r.room 0 0)
        which (met a e) = told (step_row (state_in words_of b) row).answer (answer_good (state_in words_of b) row) (ap (λ (g : Given C). g.number) e) (ap (λ (g : Given C). g.room) e)
        which (unmet n e) = told not_valid_answer (plain_good row StateNotValid) (ap (λ (g : Given C). g.number) e) (ap (λ (g : Given C). g.room) e)

  -- ---- answer row k of a sequence that is carried out: an answer as the manual has it
  pub sequence_answered : (rows room : List ℕ) (r : Given C) → Judgement (BoxValid words_of b) (sequence_gives words_of cacheOf b rows room) (refused_whole b room) r → r.number ≡ 0 → (k : ℕ) → k < row_count rows →
      Answered (row_at rows k) r.room (k * ANSWER_NUMBERS)
  unfolding sequence
  sequence_answered rows room r (met v e) z k h =
      let s = state_in words_of b in
      let p = beginning s room in
      let shape = shape_accepted rows room (sym (ap (λ (g : Given C). g.number) e) ∙ z) in
      record {
        answer = answer_to rows p k;
        good = answer_good (after rows k p).state (row_at rows k);
        numbers = λ i l. rw (ap (λ (g : Given C). g.room) e, shape) (answer_row rows p (row_count rows) k i h l (roomy rows room shape).0);
      }
  sequence_answered rows room r (unmet n e) z k h = absurd (let one : r.number ≡ 1 = ap (λ (g : Given C). g.number) e in omega (arith, one, z))

  -- ---- it is accepted exactly where its conditions hold, in the state that the rows before it left
  pub sequence_exactly : (rows room : List ℕ) (r : Given C) → Judgement (BoxValid words_of b) (sequence_gives words_of cacheOf b rows room) (refused_whole b room) r → r.number ≡ 0 → (k : ℕ) → k < row_count rows →
      (get_or r.room (k * ANSWER_NUMBERS) 0 ≡ 0) ↔ RowConditions (after rows k (record { state = state_in words_of b; room = room })).state.tables (row_at rows k)
  sequence_exactly rows room r (met v e) z k h =
      let s = state_in words_of b in
      rw (ap (λ (g : Given C). g.room) e) (answer_row_exactly s rows room (sequence s rows room) (valid v.state refl) (sym (ap (λ (g : Given C). g.number) e) ∙ z) k h)
  sequence_exactly rows room r (unmet n e) z k h = absurd (let one : r.number ≡ 1 = ap (λ (g : Given C). g.number) e in omega (arith, one, z))
