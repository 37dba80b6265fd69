-- An answer, a header and the lists behind the lent slices, as a step of the model has them.
use Rattle.numbers.specs.Meaning.{Answer}
use Rattle.model.specs.Header.{Lists, state_of}
use Rattle.model.specs.Step.{Stepped}
use Rattle.model.specs.declared.Machine.{Machine}

abbrev pub outcome : Answer → Machine → Lists → Stepped
outcome answer m l = record { answer = answer; state = state_of m l }
