-- What carrying out a record is in terms of the sequence, and what holds after some records: what is left to do from there, and that no
-- list has changed its length.
use Rattle.std.specs.Prelude.{ℕ, suc, ◌+◌, ◌*◌, ◌-◌, ◌/◌, ◌≤◌, ◌<◌, Bool, true, false, Some, None, Ok, Err, List, [], ◌∷◌, ◌++◌, ◌≡◌, refl, leb, length, set, take, drop}
use Rattle.std.proofs.Common.{append-nil, ap, ◌∙◌, take-append-drop, length-drop, drop_of_length-le, take_all, le-leb}
use native.Mathlib.Omega.{arith}
use Rattle.std.proofs.lemmas.List.{take-set-le, drop-set-add}
use Rattle.std.proofs.lemmas.Bool.{lt-leb}
use Rattle.std.specs.Prelude.{if◌then◌else◌}
use Rattle.numbers.specs.Limits.{ROW_NUMBERS, ANSWER_NUMBERS}
use Rattle.numbers.specs.Meaning.{answer_numbers, Answer}
use Rattle.model.specs.State.{State}
use Rattle.model.specs.Sequence.{Progress, beginning, write_at, operation_in, row_at, step_row, turn}
use Rattle.model.specs.ShapeLaws.{SameSizes}
use Rattle.model.specs.WriteLaws.{length-written}
use Rattle.sequence.specs.RunLaws.{join_sizes, same_sizes, row_sizes}
use Rattle.operation_log.specs.Log.{Read, record_at}
use Rattle.operation_log.specs.declared.LogRefusal.{LogRefusal}
use Rattle.operation_log.specs.declared.Taken.{Taken}
use Rattle.replay.specs.Replay.{done, Course, set_out, answered_at, onward, stopped, replay_from}
use Rattle.replay.specs.Run.{carried, course_of}
use Rattle.replay.specs.declared.Stop.TheVariants.{Unreadable}

-- ---- one record
-- numbers written from the j-th on behind the first i
write_part : (i : ℕ) (room : List ℕ) (j : ℕ) (ns : List ℕ) → take i room ++ write_at (drop i room) j ns ≡ write_at room (i + j) ns
write_part i room j [] = take-append-drop i room
write_part i room j (n ∷ ns) =
    let z : i + (j + 1) ≡ i + j + 1 = omega arith in
    rw (← drop-set-add i room j n, ← take-set-le i room (i + j) n (omega arith)) (rw z at (write_part i (set room (i + j) n) (j + 1) ns))

module _ (row room : List ℕ) (k : ℕ) (s : State) (eight : length row ≡ ROW_NUMBERS) where
  one_row : row_at row 0 ≡ row
  one_row = take_all ROW_NUMBERS row (omega arith)

  -- into the part of the room that begins at its place, which is then put back
  pub carry_whole : (left : Progress) → k < length room / ANSWER_NUMBERS →
      left ≡ turn row 0 (beginning s (take (length room - k * ANSWER_NUMBERS) (drop (k * ANSWER_NUMBERS) room))) →
      beginning left.state (take (k * ANSWER_NUMBERS) room ++ (left.room ++ drop (length room - k * ANSWER_NUMBERS) (drop (k * ANSWER_NUMBERS) room))) ≡ carried row k (beginning s room)
  carry_whole left h e =
      let at = k * ANSWER_NUMBERS in
      let answer = answer_numbers (step_row s row).answer in
      let fits : (k + 1) * ANSWER_NUMBERS ≤ length room = omega arith in
      let short : length (drop at room) ≤ length room - at = omega (arith, length-drop at room) in
      let z : leb ((k + 1) * ANSWER_NUMBERS) (length room) ≡ true = le-leb _ _ fits in
      let y : at + 0 ≡ at = omega arith in
      rw (z, e, one_row, take_all (length room - at) (drop at room) short, drop_of_length-le (drop at room) short, append-nil (write_at (drop at room) 0 answer))
      (ap (beginning (step_row s row).state) (rw y at (write_part at room 0 answer)))

  -- into numbers of its own
  pub carry_spare : (spare : List ℕ) (left : Progress) → length room / ANSWER_NUMBERS ≤ k → left ≡ turn row 0 (beginning s spare) → beginning left.state room ≡ carried row k (beginning s room)
  carry_spare spare left h e =
      let short : length room < (k + 1) * ANSWER_NUMBERS = omega arith in
      let z : leb ((k + 1) * ANSWER_NUMBERS) (length room) ≡ false = lt-leb _ _ short in
      rw (z, e, one_row)

-- ---- sizes
pub row_shape : (s : State) (row : List ℕ) → SameSizes s (step_row s row).state
unfolding step_row
row_shape s row = row_sizes s (operation_in row)

pub length-answered : (room : List ℕ) (k : ℕ) (answer : Answer) → length (answered_at room k answer) ≡ length room
length-answered room k answer = go (leb ((k + 1) * ANSWER_NUMBERS) (length room))
  where
    go : (fits : Bool) → length (if fits then write_at room (k * ANSWER_NUMBERS) (answer_numbers answer) else room) ≡ length room
    go true = length-written room (k * ANSWER_NUMBERS) (answer_numbers answer)
    go false = refl

-- ---- after some records
pub record Replaying (most : ℕ) (log : List ℕ) (start now : Course) : Type 0 where
  pub within : now.taken ≤ most
  pub rest : replay_from most log start ≡ replay_from (most - now.taken) log now
  pub sizes : SameSizes start.state now.state
  pub room : length now.room ≡ length start.room

pub replay_start : (most : ℕ) (log : List ℕ) (s : State) (room : List ℕ) (place : ℕ) → Replaying most log (set_out s room place) (set_out s room place)
replay_start most log s room place = record { within = omega arith; rest = let z : most - 0 ≡ most = omega arith in rw z; sizes = same_sizes s; room = refl }

module _ {most : ℕ} {log : List ℕ} {start : Course} where
  pub replay_end : (now : Course) → Replaying most log start now → most ≤ now.taken → stopped done now ≡ replay_from most log start
  unfolding replay_from
  replay_end now r h =
      let z : most - now.taken ≡ 0 = omega arith in
      rw (r.rest, z)

  -- what was read at the course's place
  module _ (now : Course) (read : Read) (r : Replaying most log start now) (h : now.taken < most) (e : read ≡ record_at log now.place) where
    less : most - now.taken ≡ suc (most - (now.taken + 1))
    less = omega arith

    pub replay_out : read ≡ Ok None → stopped done now ≡ replay_from most log start
    unfolding replay_from
    replay_out f = let g : record_at log now.place ≡ Ok None = rw e at f in rw (r.rest, less, g)

    pub replay_unread : {why : LogRefusal} → read ≡ Err why → stopped (Err (Unreadable why)) now ≡ replay_from most log start
    unfolding replay_from
    replay_unread {why} f = let g : record_at log now.place ≡ Err why = rw e at f in rw (r.rest, less, g)

    on : {taken : Taken} → read ≡ Ok (Some taken) → replay_from (most - now.taken) log now ≡ replay_from (most - (now.taken + 1)) log (onward now taken)
    unfolding replay_from
    on {taken} f = let g : record_at log now.place ≡ Ok (Some taken) = rw e at f in rw (less, g)

    pub replay_next : {taken : Taken} (left : Progress) → read ≡ Ok (Some taken) → left ≡ carried taken.row now.taken (beginning now.state now.room) →
        Replaying most log start (course_of left (now.taken + 1) taken.next)
    replay_next {taken} left f g =
        let answer = (step_row now.state taken.row).answer in
        record {
          within = omega arith;
          rest = r.rest ∙ on f ∙ rw g;
          sizes = rw g (join_sizes r.sizes (row_shape now.state taken.row));
          room = rw g (length-answered now.room now.taken answer ∙ r.room);
        }
