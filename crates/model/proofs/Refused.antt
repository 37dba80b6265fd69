-- A refused operation owes nothing new, and one that clears nothing owes little.
use Prim.Native.Nat.{ℕ, ◌<◌}
use mathlib.Core.Bool.{true, true≢false}
use mathlib.Core.Logic.{◌⊎◌, inl}
use mathlib.Core.Path.{◌≡◌, refl, sym, ◌∙◌}
use Rattle.numbers.specs.Limits.{VMS}
use Rattle.numbers.specs.Meaning.{Answer, accept}
use Rattle.std.specs.Prelude.{Ok, Err}
use Rattle.numbers.specs.declared.Operation.{Operation}
use Rattle.table.specs.Table.{Has}
use Rattle.model.specs.State.{Tables}
use Rattle.model.specs.Effect.{Effect, quiet, decided}
use Rattle.model.specs.Valid.{ValidTables}
use Rattle.model.specs.Step.{answer_of, next_of, effect_of, control}
use Rattle.model.specs.Good.{Good, Made, holds_page}

-- valid tables in which every claim stays and no edge comes from nowhere
pub quiet_good : (t : Tables) (operation : Operation) (answer : Answer) (new : Tables) → ValidTables new →
    ((vm page : ℕ) → vm < VMS → page < t.setup.pages → holds_page t.sets vm page ≡ true → holds_page new.sets vm page ≡ true) →
    ((w : ℕ) → Has new.pairs w → Has t.pairs w ⊎ Made t operation answer w) →
    Good t operation (record { answer = answer; tables = new; effect = quiet })
quiet_good t operation answer new v stays edges =
    record {
      valid = v;
      reach = λ bit vm page h. absurd h;
      still = λ h. absurd h;
      wiped = λ vm page l b h n. absurd (true≢false (sym (stays vm page l b h) ∙ n));
      free = λ vm page l b h c. absurd h;
      edges = edges;
    }

-- ---- what an operation owes where its answer accepts is all that it owes
abbrev pub AcceptedGood : Tables → Operation → Type 0
AcceptedGood t operation = Good t operation (record { answer = answer_of t operation; tables = next_of t operation; effect = effect_of t operation })

decided_good : (t : Tables) → ValidTables t → (operation : Operation) (answer : Answer) (new : Tables) (effect : Effect) →
    ((dropped word : ℕ) → answer ≡ accept dropped word → Good t operation (record { answer = answer; tables = new; effect = effect })) →
    Good t operation (decided t answer new effect)
unfolding decided
decided_good t v operation (Ok ok) new effect good = good ok.dropped ok.word refl
decided_good t v operation (Err err) new effect good = quiet_good t operation (Err err) t v (λ vm page l b h. h) (λ w h. inl h)

pub good_where_accepted : (t : Tables) → ValidTables t → (operation : Operation) → ((dropped word : ℕ) → answer_of t operation ≡ accept dropped word → AcceptedGood t operation) → Good t operation (control t operation)
unfolding control
good_where_accepted t v operation = decided_good t v operation (answer_of t operation) (next_of t operation) (effect_of t operation)
