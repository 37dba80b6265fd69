-- An exact test: it says true where the statement holds, and there alone.
use Rattle.std.specs.Prelude.{Bool, true, ◌≡◌}

pub record Decides (answer : Bool) (P : Type 0) : Type 0 where
  pub sound : answer ≡ true → P
  pub complete : P → answer ≡ true
