-- A search that passes four words in one step.
use Rattle.std.specs.Prelude.{ℕ, ◌+◌, ◌≤◌, Bool, true, false, ◌||◌, List, ◌≡◌, refl, length, get_or}
use Rattle.std.proofs.Common.{true≢false, arith}
use Rattle.table.specs.Loops.{Seeking, seek_next}

neither : (a b : Bool) → a || b ≡ false → (a ≡ false) × (b ≡ false)
neither false b e = (refl, e)
neither true b e = absurd (true≢false e)

-- where none of the next four words passes, the search goes on behind them
pub seek_block : (p : ℕ → Bool) (ws : List ℕ) (i : ℕ) → Seeking p ws i → i + 4 ≤ length ws → ((p (get_or ws i 0) || p (get_or ws (i + 1) 0)) || p (get_or ws (i + 2) 0)) || p (get_or ws (i + 3) 0) ≡ false → Seeking p ws (i + 4)
seek_block p ws i r h e =
    let at2 : i + 1 + 1 ≡ i + 2 = omega arith in
    let at3 : i + 2 + 1 ≡ i + 3 = omega arith in
    let at4 : i + 3 + 1 ≡ i + 4 = omega arith in
    let (abc, d) = neither _ _ e in
    let (ab, c) = neither _ _ abc in
    let (a, b) = neither _ _ ab in
    let one = seek_next p ws i r (omega arith) a in
    let two = rw at2 at (seek_next p ws (i + 1) one (omega arith) b) in
    let three = rw at3 at (seek_next p ws (i + 2) two (omega arith) c) in
    rw at4 at (seek_next p ws (i + 3) three (omega arith) d)
