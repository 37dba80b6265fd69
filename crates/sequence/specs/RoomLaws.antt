-- The answer room: an answer is four stores, each in the next place.
use Rattle.std.specs.Prelude.{ℕ, ◌+◌, List, ◌≡◌, refl, get_or, set, Ok, Err}
use Rattle.numbers.specs.Meaning.{answer_numbers, Answer}
use Rattle.model.specs.Sequence.{write_at}

pub four_stores :
    (room : List ℕ) (i : ℕ) (answer : Answer) →
    set (set (set (set room i (get_or (answer_numbers answer) 0 0)) (i + 1) (get_or (answer_numbers answer) 1 0)) (i + 1 + 1) (get_or (answer_numbers answer) 2 0)) (i + 1 + 1 + 1) (get_or (answer_numbers answer) 3 0)
    ≡ write_at room i (answer_numbers answer)
four_stores room i (Ok ok) = refl
four_stores room i (Err err) = refl
