-- `judge_keys::first_of_key` meets its contract.
use mathlib.Core.Path.{sym, ◌∙◌}
use Rattle.judge_keys.specs.KeysLaws.{new_found, new_none}
use Rattle.judge_keys.proofs.first_of_key.Goals as goal

pub returns-in-Some : goal.returns-in-Some
returns-in-Some c =
    let e = rw c.key_of-key.ensures at (sym c.find.ensures ∙ c.in-Some.is) in
    rw c.key_of-key.ensures (new_found _ _ c.requires _ e)

pub returns-in-None : goal.returns-in-None
returns-in-None c = new_none _ _ c.requires (rw c.key_of-key.ensures at (sym c.find.ensures ∙ c.in-None.is))
