-- What a statement of an entry leaves open: nothing. Any two results that it allows are equal.
use mathlib.Core.Path.{◌≡◌, sym, ◌∙◌}
use Rattle.model.specs.State.{State}
use Rattle.model.specs.Entries.{Judged, valid, not_valid}

pub determined : {A : Type 0} (s : State) (good bad a b : A) → Judged s good bad a → Judged s good bad b → a ≡ b
determined s good bad a b (valid v e) (valid w f) = e ∙ sym f
determined s good bad a b (valid v e) (not_valid n f) = absurd (n v)
determined s good bad a b (not_valid n e) (valid v f) = absurd (n v)
determined s good bad a b (not_valid n e) (not_valid m f) = e ∙ sym f
