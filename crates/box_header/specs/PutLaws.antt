-- More of numbers written over a list: in pieces, all at once, one by one, and those that were there.
use Rattle.std.specs.Prelude.{ℕ, suc, ◌+◌, ◌≤◌, ◌<◌, List, [], ◌∷◌, ◌++◌, ◌≡◌, refl, length, get_or, set, take, drop}
use Rattle.std.proofs.Common.{sym, ◌∙◌, add-one, append-nil, arith, length-set, take-suc, take_all, length-take-le, drop-set-lt}
use Rattle.std.proofs.Math.Seq.{append_snoc, paste}
use Rattle.std.proofs.lemmas.List.{set-get_or, take-append-drop, take_more_set}
use Rattle.model.specs.Sequence.{write_at}

-- ---- two writes, one behind the other
pub written_append : (room : List ℕ) (i : ℕ) (ns ms : List ℕ) → write_at room i (ns ++ ms) ≡ write_at (write_at room i ns) (i + length ns) ms
written_append room i [] ms = let z : i + 0 ≡ i = omega arith in rw z
written_append room i (n ∷ ns) ms =
    let z : i + suc (length ns) ≡ i + 1 + length ns = omega arith in
    rw z (written_append (set room i n) (i + 1) ns ms)

-- ---- what stands behind, and numbers that were there
pub drop-written : (room : List ℕ) (i : ℕ) (ns : List ℕ) (j : ℕ) → i + length ns ≤ j → drop j (write_at room i ns) ≡ drop j room
drop-written room i [] j h = refl
drop-written room i (n ∷ ns) j h = drop-written (set room i n) (i + 1) ns j (omega arith) ∙ drop-set-lt j room i n (omega arith)

pub written_same : (room : List ℕ) (i : ℕ) (ns : List ℕ) → ((j : ℕ) → j < length ns → get_or room (i + j) 0 ≡ get_or ns j 0) → write_at room i ns ≡ room
written_same room i [] h = refl
written_same room i (n ∷ ns) h =
    let z : i + 0 ≡ i = omega arith in
    let e : get_or room i 0 ≡ n = rw z at (h 0 (omega arith)) in
    let more : (j : ℕ) → j < length ns → get_or room (i + 1 + j) 0 ≡ get_or ns j 0 = λ j b. let y : i + suc j ≡ i + 1 + j = omega arith in rw y at (h (suc j) (omega arith)) in
    rw (← e, set-get_or room i 0) (written_same room (i + 1) ns more)

-- ---- the numbers of a list, pasted over those that were there
pub pasted : (room : List ℕ) (i : ℕ) (ns : List ℕ) → i + length ns ≤ length room → paste room i ns (length ns) ≡ write_at room i ns
pasted room i [] h = let z : i + 0 ≡ i = omega arith in rw (z, append-nil (take i room)) (take-append-drop i room)
pasted room i (n ∷ ns) h =
    let z : i + suc (length ns) ≡ i + 1 + length ns = omega arith in
    let l : i + 1 + length ns ≤ length (set room i n) = omega (arith, length-set room i n) in
    let more = pasted (set room i n) (i + 1) ns l in
    rw (z, ← drop-set-lt (i + 1 + length ns) room i n (omega arith), ← append_snoc (take i room) n (take (length ns) ns), ← take_more_set room i n (omega arith)) more

-- ---- the numbers of a list one by one: k of them written so far
pub record Putting (room : List ℕ) (i : ℕ) (ns now : List ℕ) (k : ℕ) : Type 0 where
  pub place : k ≤ length ns
  pub same : length now ≡ length room
  pub list : now ≡ write_at room i (take k ns)

module _ (room : List ℕ) (i : ℕ) (ns : List ℕ) where
  pub put_start : Putting room i ns room 0
  put_start = record { place = omega arith; same = refl; list = refl }

  pub put_next : (now : List ℕ) (k : ℕ) → Putting room i ns now k → k < length ns → Putting room i ns (set now (i + k) (get_or ns k 0)) (k + 1)
  put_next now k r h =
      record {
        place = omega arith;
        same = length-set now (i + k) (get_or ns k 0) ∙ r.same;
        list =
            let e : i + length (take k ns) ≡ i + k = rw (length-take-le k ns r.place) in
            rw (r.list, add-one k, take-suc ns k 0 h) (sym (rw e at (written_append room i (take k ns) (get_or ns k 0 ∷ []))));
      }

  pub put_end : (now : List ℕ) (k : ℕ) → Putting room i ns now k → length ns ≤ k → now ≡ write_at room i ns
  put_end now k r h = r.list ∙ rw (take_all k ns h)
