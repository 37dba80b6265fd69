-- No operation changes what start fixed, nor the length of any list: what control installs has the shape of what was there.
use Rattle.numbers.specs.Meaning.{Answer}
use Rattle.std.specs.Prelude.{Ok, Err}
use Rattle.numbers.specs.declared.Operation.{Operation}
use Rattle.model.specs.State.{Tables, State}
use Rattle.model.specs.Effect.{Effect, decided}
use Rattle.model.specs.MemoryLaws.{length-applied}
use Rattle.model.specs.ShapeLaws.{SameShape, SameSizes, same_shape, next_shape}
use Rattle.model.specs.Step.{answer_of, next_of, effect_of, control, step}

decided_shape : (t : Tables) (answer : Answer) (new : Tables) (effect : Effect) → SameShape t new → SameShape t (decided t answer new effect).tables
unfolding decided
decided_shape t (Ok ok) new effect s = s
decided_shape t (Err err) new effect s = same_shape t

pub control_shape : (t : Tables) (operation : Operation) → SameShape t (control t operation).tables
unfolding control
control_shape t operation = decided_shape t (answer_of t operation) (next_of t operation) (effect_of t operation) (next_shape t operation)

pub step_sizes : (s : State) (operation : Operation) → SameSizes s (step s operation).state
unfolding step
step_sizes s operation = record { tables = control_shape s.tables operation; memory = length-applied (control s.tables operation).effect s.memory }
