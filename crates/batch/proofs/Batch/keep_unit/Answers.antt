-- `batch::Batch::keep_unit` meets its contract: where there is room the unit comes last, and where there is none the units are all that are kept.
use Rattle.std.specs.Prelude.{ℕ, ◌+◌, ◌<◌, List, [], ◌∷◌, ◌++◌, take, length, ◌≡◌, refl, ◌↔◌, Result, Ok, Err, OnOk, OnErr, IsOk}
use Rattle.std.proofs.Common.{sym, ap, ◌∙◌, arith}
use Rattle.std.proofs.lemmas.List.{take_all, take_at, length-append}
use Rattle.arrayvec.specs.ArrayVec.{ArrayVec}
use Rattle.numbers.specs.Limits.{UNITS}
use Rattle.batch.specs.Room.{units_kept}
use Rattle.batch.proofs.Batch.keep_unit.Goals as goal

kept : {T E : Type 0} (r : Result T E) (units new : List (List ℕ)) (unit : List ℕ) → (IsOk r ↔ (length units < UNITS + 1)) → OnOk r (new ≡ units ++ unit ∷ []) → OnErr r (new ≡ units) → OnErr r (length units ≡ UNITS + 1) → new ≡ units_kept units unit
kept (Ok ok) units new unit room more same full = more ∙ sym (take_all (UNITS + 1) (units ++ unit ∷ []) (omega (arith, room.0 refl, length-append units (unit ∷ []))))
kept (Err err) units new unit room more same full = same ∙ sym (take_at units (unit ∷ []) (UNITS + 1) full)

-- of a vector that is handed back as it was the items are the same
same_items : {T E : Type 0} (V W : ArrayVec (List ℕ)) (r : Result T E) → OnErr r (V ≡ W) → OnErr r (V.items ≡ W.items)
same_items V W (Ok ok) e = e
same_items V W (Err err) e = ap (λ (v : ArrayVec (List ℕ)). v.items) e

pub returns-clause-unit : goal.returns-clause-unit
returns-clause-unit c = kept c.try_push.result _ _ _ c.try_push.ensures.variant c.try_push.ensures.ok (same_items _ _ c.try_push.result c.try_push.ensures.err) c.try_push.ensures.full
