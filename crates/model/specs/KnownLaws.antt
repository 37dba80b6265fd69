-- What rule 3 says of each VM.
use Rattle.std.specs.Prelude.{ℕ, ◌^◌, ◌≤◌, ◌<◌, true, false, ◌≡◌}
use Rattle.std.proofs.Common.{true≢false, ⊎_elim, sym, ◌∙◌}
use Rattle.std.proofs.Math.Nat.{div-eq_of_lt, pow-le-pow_right}
use native.Mathlib.Omega.{arith}
use Rattle.numbers.specs.Limits.{VMS}
use Rattle.pages.specs.BitLaws.{below_or}
use Rattle.model.specs.Valid.{KnownGood}
use Rattle.model.specs.Views.{knows}

module _ (known vm : ℕ) (good : KnownGood known) where
  -- a number at VMS or above is no known VM's
  pub knows_none : VMS ≤ vm → knows known vm ≡ false
  unfolding knows
  knows_none h =
      let l : 2 ^ VMS ≤ 2 ^ vm = pow-le-pow_right (omega arith) h in
      let z : known < 2 ^ vm = omega arith in
      rw (div-eq_of_lt z)

  pub knows_below : knows known vm ≡ true → vm < VMS
  knows_below t = ⊎_elim (λ h. h) (λ h. absurd (true≢false (sym t ∙ knows_none h))) (below_or vm VMS)
