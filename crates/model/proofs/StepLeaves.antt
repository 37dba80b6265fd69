-- A refused operation, and a refused row, leave the state as it was: control installs nothing where it refuses.
use Rattle.std.specs.Prelude.{ℕ, List, [], ◌∷◌, ◌≡◌, refl, Ok, Err, Option, None, Some}
use Rattle.numbers.specs.Meaning.{Answer, accept}
use Rattle.numbers.specs.declared.Operation.{Operation}
use Rattle.model.specs.Effect.{Effect, kept, quiet, decided, apply, cleared_pages, reads, writes, clears}
use Rattle.model.specs.Sequence.{step_known, step_row, operation_in}
use Rattle.model.specs.State.{State, Tables}
use Rattle.model.specs.Step.{answer_of, next_of, effect_of, control, carried_out, step}
use Rattle.model.specs.RefusedLaws.{Leaves, KeptBy}

-- ---- what is decided: nothing where it is refused
decided_leaves : (t : Tables) (answer : Answer) (new : Tables) (effect : Effect) → Leaves t (decided t answer new effect)
unfolding decided
decided_leaves t (Ok ok) new effect = record { tables = refl; effect = refl }
decided_leaves t (Err err) new effect = record { tables = refl; effect = refl }

control_leaves : (t : Tables) (operation : Operation) → Leaves t (control t operation)
unfolding control
control_leaves t operation = decided_leaves t (answer_of t operation) (next_of t operation) (effect_of t operation)

-- ---- carried out
-- a word that is read makes no refusal
accepted_still : (s : State) (dropped word : ℕ) (t : Tables) (effect : Effect) → KeptBy s (carried_out (record { answer = accept dropped word; tables = t; effect = effect }) s.memory)
accepted_still s dropped word t (reads vm []) = refl
accepted_still s dropped word t (reads vm (place ∷ places)) = refl
accepted_still s dropped word t (writes vm stores) = refl
accepted_still s dropped word t (clears pages) = refl

carried_leaves :
    (s : State) (answer : Answer) (t : Tables) (effect : Effect) →
    t ≡ kept answer s.tables t → effect ≡ kept answer quiet effect → KeptBy s (carried_out (record { answer = answer; tables = t; effect = effect }) s.memory)
unfolding apply cleared_pages
carried_leaves s (Ok ok) t effect e f = accepted_still s ok.dropped ok.word t effect
carried_leaves s (Err err) t effect e f = rw (e, f)

pub step_leaves : (s : State) (operation : Operation) → KeptBy s (step s operation)
unfolding step
step_leaves s operation =
    let l : Leaves s.tables (control s.tables operation) = control_leaves s.tables operation in
    carried_leaves s (control s.tables operation).answer (control s.tables operation).tables (control s.tables operation).effect l.tables l.effect

known_leaves : (s : State) (o : Option Operation) → KeptBy s (step_known s o)
known_leaves s None = refl
known_leaves s (Some operation) = step_leaves s operation

pub row_leaves : (s : State) (row : List ℕ) → KeptBy s (step_row s row)
unfolding step_row
row_leaves s row = known_leaves s (operation_in row)
