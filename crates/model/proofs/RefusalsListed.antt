-- A refusal is one that the manual lists for its operation (docs/MACHINE.md, 7): for every row, and from any state, valid or not.
-- Nothing is listed that is not answered: `none_left_out` (Refusals), of the same lists, in computed valid states; and they are in
-- order: `neighbours_shown` (RefusalOrder).
use Prim.Native.Nat.{ℕ, ◌<◌}
use mathlib.Core.Bool.{false, true, true≢false}
use mathlib.Core.List.{List}
use mathlib.Core.Logic.{◌⊎◌, inl, inr, ⊎_elim, ◌↔◌}
use mathlib.Core.Path.{◌≡◌, refl, sym, ◌∙◌}
use native.Mathlib.Omega.{arith}
use lib.ListN.{length}
use Rattle.numbers.specs.CaseLaws.{equal}
use Rattle.numbers.specs.Meaning.{number_of, Answer}
use Rattle.std.specs.Prelude.{Ok, Err}
use Rattle.table.specs.Scan.{any_below}
use Rattle.model.specs.State.{State}
use Rattle.model.specs.Step.{Stepped}
use Rattle.model.specs.Sequence.{step_row}
use Rattle.model.specs.Valid.{Valid}
use Rattle.model.specs.Entries.{valid, not_valid, JudgedRow}
use Rattle.model.proofs.AnswerNumbers.{is_in, refusal_lists, listed, operation_at, each_listed, Fits, taken, plain, found, answer_fits}

-- ---- one row
listed_of : {operation count : ℕ} (answer : Answer) → Fits operation count answer → 0 < number_of answer → is_in (listed operation) (number_of answer) ≡ true
listed_of (Ok ok) (taken d w) l = absurd (omega arith)
listed_of (Err err) (plain may) l = may
listed_of (Err err) (found may region searching inside) l = may

pub refusals_listed : (s : State) (row : List ℕ) → 0 < number_of (step_row s row).answer → is_in (listed (operation_at row)) (number_of (step_row s row).answer) ≡ true
refusals_listed s row = listed_of (step_row s row).answer (answer_fits s row)

-- ---- the one-operation entry: 0 accepts, and 1 is for a state that is not valid; no operation lists either
neither_here : (any_below (λ n. is_in (listed n) 0) (length refusal_lists) ≡ false) × (any_below (λ n. is_in (listed n) 1) (length refusal_lists) ≡ false)
unfolding refusal_lists
neither_here = (refl, refl)

pub zero_unlisted : (operation : ℕ) → is_in (listed operation) 0 ≡ false
zero_unlisted = each_listed (λ n ns. is_in ns 0) neither_here.0 (λ n. refl)

pub one_unlisted : (operation : ℕ) → is_in (listed operation) 1 ≡ false
one_unlisted = each_listed (λ n ns. is_in ns 1) neither_here.1 (λ n. refl)

-- a valid state's row is accepted, or refused by what its operation lists; 1 says that the state is not valid, and nothing else
pub record EntryListed (s : State) (row : List ℕ) (number : ℕ) : Type 0 where
  pub one_of : ((number ≡ 0) ⊎ (is_in (listed (operation_at row)) number ≡ true)) ⊎ (number ≡ 1)
  pub one : (number ≡ 1) ↔ (Valid s → ⊥)

pub entry_listed : (s : State) (row : List ℕ) (result : Stepped) → JudgedRow s row result → EntryListed s row (number_of result.answer)
entry_listed s row result (valid v e) =
    rw e
    (record {
      one_of = inl (⊎_elim inl (λ d. inr (refusals_listed s row (omega (arith, d)))) (equal (number_of (step_row s row).answer) 0));
      one = (λ o. absurd (true≢false (sym (refusals_listed s row (omega (arith, o))) ∙ rw o (one_unlisted (operation_at row)))), λ n. absurd (n v));
    })
entry_listed s row result (not_valid n e) = rw e (record { one_of = inr refl; one = (λ o. n, λ m. refl) })
