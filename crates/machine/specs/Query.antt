-- What the free query gives, as the model has it: refused, it counts nothing.
use Rattle.std.specs.Prelude.{ℕ, None, Result, Ok, Err}
use Rattle.numbers.specs.declared.Refused.{Refused}
use Rattle.model.specs.Effect.{accepted}
use Rattle.model.specs.Start.{Free}
use Rattle.machine.specs.declared.entries.FreePages.{FreePages}

abbrev pub free_of : Result FreePages Refused → Free
free_of (Ok free) = record { answer = accepted; count = free.count; lowest = free.lowest }
free_of (Err err) = record { answer = Err err; count = 0; lowest = None }
