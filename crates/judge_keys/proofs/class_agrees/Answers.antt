-- `judge_keys::class_agrees` meets its contract.
use Rattle.std.proofs.Common.{true≢false, sym, ◌∙◌}
use Rattle.numbers.specs.DecidesLaws.{decides_as}
use Rattle.judge_keys.specs.PlaceLaws.{enter_once, agree_none, none_agree, none_blank}
use Rattle.judge_keys.proofs.class_agrees.Goals as goal
use Rattle.judge_keys.proofs.class_agrees.Goals.{then-enter, else-enter}

pub returns-then-take : goal.returns-then-take
returns-then-take c =
    elim c.if-enter.branch [
      | then-enter w ↦
          let once = enter_once _ _ _ (c.enter.ensures.entered w.if-enter.true) in
          let m = rw (← w.place-is) at (w.take.ensures.matched (sym w.value-is ∙ c.if-take.true)) in
          let d = c.none_left.ensures in
          record {
            answer = decides_as d (none_agree _ _ _ _ m once) (agree_none _ _ _ _ m);
            blank = λ z. none_blank _ _ _ _ m (d.sound z);
          }
      | else-enter w ↦ absurd (true≢false (sym c.if-take.true ∙ w.value-is ∙ w.if-enter.false))
    ]
