-- What an operation asks for: what the operations of a side do, and no more units than there may be.
use Rattle.std.specs.Prelude.{ℕ, ◌≤◌, List}
use Rattle.numbers.specs.Limits.{UNITS}
use Rattle.model.specs.declared.Fixed.{Fixed}
use Rattle.sides.specs.Sides.{Sized}

pub record Fit (fixed : Fixed) (sets memory : List ℕ) : Type 0 where
  pub sized : Sized fixed.pages sets memory
  pub few_units : fixed.unit_count ≤ UNITS
