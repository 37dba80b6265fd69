-- The lowest page that a box's free query gives as a number is one that the one-operation entry assigns to every known VM. For caches of
-- any form.
use Prim.Native.Nat.{ℕ, ◌+◌}
use mathlib.Core.List.{List, ◌∷◌}
use mathlib.Core.Path.{◌≡◌, refl, ap, ◌∙◌}
use native.Mathlib.Omega.{arith}
use lib.ListN.{length, get_or}
use Rattle.numbers.specs.Limits.{ROW_NUMBERS, ANSWER_NUMBERS}
use Rattle.std.specs.Prelude.{Option, Some, None}
use Rattle.numbers.specs.declared.PhysPage.{PhysPage}
use Rattle.model.specs.Conditions.{Knows}
use Rattle.model.specs.Start.{free, free_refused}
use Rattle.model.specs.State.{Tables}
use Rattle.model.proofs.FreePages.{lowest_row}
use Rattle.box_header.specs.Numbers.{NO_PAGE, lowest_number, free_numbers}
use Rattle.box_cores.specs.Boxes.{Box, state_in}
use Rattle.box_cores.specs.CoreLaws.{answered_here}
use Rattle.box_cores.specs.Given.{Judgement, met, unmet, Given, OperationAsked, operation_gives, operation_refused, FreeGiven, FreeAsked, free_gives, free_told}
use Rattle.box_laws.proofs.BoxesExact.{operation_exactly}

-- the query's second number, and the row that assigns the page of this number to a VM
abbrev pub lowest_in : FreeGiven → ℕ
lowest_in f = get_or f.room 1 0

abbrev pub assign_lowest : FreeGiven → ℕ → List ℕ → List ℕ
assign_lowest f vm rest = 3 ∷ vm ∷ lowest_in f ∷ rest

module _ {C : Type 0} (words_of : C → List ℕ) (cacheOf : List ℕ → C) (b : Box C) where
  pub lowest_assigned :
      (room : List ℕ) (f : FreeGiven) → Judgement (FreeAsked words_of b room) (free_gives words_of b room) (free_told room free_refused) f → f.number ≡ 0 → (lowest_in f ≡ NO_PAGE → ⊥) →
      (vm : ℕ) → Knows (state_in words_of b).tables vm → (rest answers : List ℕ) → length rest + 3 ≡ ROW_NUMBERS → length answers ≡ ANSWER_NUMBERS →
      (r : Given C) → Judgement (OperationAsked words_of b (assign_lowest f vm rest) answers) (operation_gives words_of cacheOf b (assign_lowest f vm rest) answers) (operation_refused b answers) r →
      r.number ≡ 0
  lowest_assigned room f (unmet n e) z some vm known rest answers l l' r j = absurd (let one : f.number ≡ 1 = ap (λ (g : FreeGiven). g.number) e in omega (arith, one, z))
  lowest_assigned room f (met a e) z some vm known rest answers l l' r j = which (free t).lowest refl
    where
      t : Tables
      t = (state_in words_of b).tables

      second : lowest_in f ≡ lowest_number (free t).lowest
      second = ap lowest_in e ∙ answered_here room (free_numbers (free t).count (free t).lowest) a.whole_room 1 (omega arith)

      which : (lowest : Option PhysPage) → (free t).lowest ≡ lowest → r.number ≡ 0
      which None q = absurd (some (second ∙ ap lowest_number q))
      which (Some page) q =
          (operation_exactly words_of cacheOf b (assign_lowest f vm rest) answers r j).1
          (record { box = a.box; whole_row = omega (arith, l); whole_room = l' }, rw (second ∙ ap lowest_number q) (lowest_row t a.box.state.tables page q vm known rest))
