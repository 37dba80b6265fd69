-- Numbers written over a list: its length stays, their places hold them, and every other place is as it was.
use Rattle.std.specs.Prelude.{ℕ, zero, suc, ◌+◌, ◌≤◌, ◌<◌, List, [], ◌∷◌, ◌≡◌, refl, length, get_or, set}
use Rattle.std.proofs.Common.{◌∙◌, arith, length-set, get_or-set_same, get_or-set_other}
use Rattle.model.specs.Sequence.{write_at}

pub length-written : (room : List ℕ) (i : ℕ) (ns : List ℕ) → length (write_at room i ns) ≡ length room
length-written room i [] = refl
length-written room i (n ∷ ns) = length-written (set room i n) (i + 1) ns ∙ length-set room i n

pub written_before : (room : List ℕ) (i : ℕ) (ns : List ℕ) (j : ℕ) → j < i → get_or (write_at room i ns) j 0 ≡ get_or room j 0
written_before room i [] j h = refl
written_before room i (n ∷ ns) j h = written_before (set room i n) (i + 1) ns j (omega arith) ∙ get_or-set_other room i j n 0 (omega arith)

pub written_behind : (room : List ℕ) (i : ℕ) (ns : List ℕ) (j : ℕ) → i + length ns ≤ j → get_or (write_at room i ns) j 0 ≡ get_or room j 0
written_behind room i [] j h = refl
written_behind room i (n ∷ ns) j h = written_behind (set room i n) (i + 1) ns j (omega arith) ∙ get_or-set_other room i j n 0 (omega arith)

pub written_here : (room : List ℕ) (i : ℕ) (ns : List ℕ) (j : ℕ) → j < length ns → i + length ns ≤ length room → get_or (write_at room i ns) (i + j) 0 ≡ get_or ns j 0
written_here room i [] j h l = absurd (omega arith)
written_here room i (n ∷ ns) zero h l =
    let z : i + 0 ≡ i = omega arith in
    rw z (written_before (set room i n) (i + 1) ns i (omega arith) ∙ get_or-set_same room i n 0 (omega arith))
written_here room i (n ∷ ns) (suc j) h l =
    let z : i + suc j ≡ i + 1 + j = omega arith in
    rw z (written_here (set room i n) (i + 1) ns j (omega arith) (omega (arith, length-set room i n)))
