-- `judge_keys::class_held` meets its contract.
use Rattle.std.proofs.Common.{true≢false, sym, ◌∙◌}
use Rattle.judge_keys.specs.PlaceLaws.{enter_once}
use Rattle.judge_keys.specs.KeysLaws.{tested_yes}
use Rattle.judge_keys.proofs.class_held.Goals as goal
use Rattle.judge_keys.proofs.class_held.Goals.{then-enter, else-enter}

pub returns-then-held : goal.returns-then-held
returns-then-held c =
    elim c.if-enter.branch [
      | then-enter w ↦
          let once = enter_once _ _ _ (c.enter.ensures.entered w.if-enter.true) in
          let each = w.has_words-held.ensures.sound (sym w.held-is ∙ c.if-held.true) in
          rw c.if-held.true (tested_yes (record { once = once; each = each }) c.clear.ensures)
      | else-enter w ↦ absurd (true≢false (sym c.if-held.true ∙ w.held-is ∙ w.if-enter.false))
    ]
