-- What operations 21 to 24 answer and leave, as one step of the machine says it.
use Rattle.std.specs.Prelude.{ℕ, List, [], ◌∷◌, Result, Ok, Err}
use Rattle.numbers.specs.Limits.{READ, WRITE}
use Rattle.numbers.specs.Meaning.{Answer}
use Rattle.numbers.specs.declared.Refused.{Refused}
use Rattle.model.specs.Effect.{accepted, kept, quiet, reads, writes, apply, memory_index}
use Rattle.model.specs.Ports.{vm_on}
use Rattle.model.specs.Access.{access_answer, access_place}
use Rattle.model.specs.Step.{answer_with}

-- ---- where an access ends
abbrev pub answer_of : Result ℕ Refused → Answer
answer_of (Ok place) = accepted
answer_of (Err err) = Err err

abbrev pub place_of : Result ℕ Refused → ℕ
place_of (Ok place) = place
place_of (Err err) = 0

-- the place of the word in memory, 0 where the access is refused
abbrev pub access_index : List ℕ → List ℕ → List ℕ → ℕ → ℕ → ℕ → ℕ → ℕ
access_index ports cache walker bit port guest word =
    kept (access_answer ports cache walker bit port guest word) 0
    (memory_index (access_place ports cache walker port guest word).page word)

-- ---- what the operations answer and leave
module _ (ports cache walker memory : List ℕ) (port guest word : ℕ) where
  -- a read's answer, with the word that is read
  abbrev pub read_answer : Answer
  read_answer =
      answer_with
      (kept (access_answer ports cache walker READ port guest word) quiet (reads (vm_on ports port) (access_place ports cache walker port guest word ∷ [])))
      memory (access_answer ports cache walker READ port guest word)

  -- the memory that a write of the value leaves
  abbrev pub written_memory : ℕ → List ℕ
  written_memory value =
      apply
      (kept (access_answer ports cache walker WRITE port guest word) quiet
      (writes (vm_on ports port) (record { place = access_place ports cache walker port guest word; value = value } ∷ [])))
      memory
