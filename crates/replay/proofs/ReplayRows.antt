-- What replay does is what the sequence does with the rows that reading gives: state, answers, how many and where to.
use Prim.Native.Nat.{ℕ, zero, suc, ◌+◌, ◌*◌, ◌≤◌, ◌<◌}
use mathlib.Core.Bool.{Bool, true, false}
use mathlib.Core.List.{List, [], ◌∷◌, ◌++◌}
use mathlib.Core.Logic.{⊎_elim}
use mathlib.Core.Path.{◌≡◌, refl, sym, ap, ◌∙◌}
use native.Mathlib.Numerals.{add-one}
use native.Mathlib.Omega.{arith}
use lib.Dec.{leb}
use lib.ListN.{length, get_or, drop}
use lib.Seq.{take_at, drop_at, drop-drop}
use borrow.Author.Tests.{le-leb, leb-true}
use Rattle.numbers.specs.CaseLaws.{equal}
use Rattle.std.specs.Prelude.{if◌then◌else◌, Some, None, Ok, Err}
use Rattle.numbers.specs.Limits.{ROW_NUMBERS, ANSWER_NUMBERS}
use Rattle.numbers.specs.Meaning.{answer_numbers, Answer}
use Rattle.table.specs.Scan.{repeat}
use Rattle.model.specs.State.{State}
use Rattle.model.specs.Sequence.{Progress, beginning, write_at, row_at, step_row, turn, after}
use Rattle.model.specs.WriteLaws.{length-written, written_before, written_behind, written_here}
use Rattle.model.proofs.Answers.{four}
use Rattle.table.specs.RepeatLaws.{repeat_last}
use Rattle.operation_log.specs.Log.{Read, record_at}
use Rattle.operation_log.specs.LogLaws.{row_numbers}
use Rattle.operation_log.specs.Logs.{Found, Record, End, Refused, Readings, ahead, read_on, read_all}
use Rattle.operation_log.specs.declared.Taken.{Taken}
use Rattle.replay.specs.Replay.{Ended, done, Course, Replayed, set_out, answered_at, onward, goes_on, replay_from, replay}
use Rattle.replay.specs.Run.{carried}
use Rattle.replay.specs.RunLaws.{length-answered}
use Rattle.replay.specs.declared.Stop.TheVariants.{Unreadable}

-- ---- rows one behind the other, as the sequence takes them
abbrev pub flat : List (List ℕ) → List ℕ
flat [] = []
flat (row ∷ rows) = row ++ flat rows

abbrev Whole : List (List ℕ) → Type 0
Whole [] = Unit {0}
Whole (row ∷ rows) = (length row ≡ ROW_NUMBERS) × Whole rows

-- row k of them is the k-th
row_of : (rows : List (List ℕ)) (k : ℕ) → Whole rows → k < length rows → row_at (flat rows) k ≡ get_or rows k []
row_of [] k w h = absurd (omega arith)
row_of (row ∷ rows) zero (e, w) h = take_at row (flat rows) ROW_NUMBERS e
row_of (row ∷ rows) (suc k) (e, w) h =
    let z : suc k * ROW_NUMBERS ≡ ROW_NUMBERS + k * ROW_NUMBERS = omega arith in
    rw (z, ← drop-drop (k * ROW_NUMBERS) ROW_NUMBERS (row ++ flat rows), drop_at row (flat rows) ROW_NUMBERS e) (row_of rows k w (omega arith))

-- why replay stops, from how reading ended
abbrev pub stop_of : Found → Ended
stop_of Record = done
stop_of End = done
stop_of (Refused why) = Err (Unreadable why)

-- ---- all of them, over any rows that hold those read from the course's place on
abbrev carried_in : List ℕ → ℕ → Progress → Progress
carried_in rows k p = carried (row_at rows k) k p

record Reads (readings : Readings) (c : Course) (r : Replayed) : Type 0 where
  whole : Whole readings.rows
  stop : r.stop ≡ stop_of readings.found
  taken : r.course.taken ≡ c.taken + length readings.rows
  place : r.course.place ≡ readings.place
  progress : (rows : List ℕ) → drop (c.taken * ROW_NUMBERS) rows ≡ flat readings.rows →
      beginning r.course.state r.course.room ≡ repeat (carried_in rows) c.taken (length readings.rows) (beginning c.state c.room)

module _ (c : Course) (row : List ℕ) (next : ℕ) (e : length row ≡ ROW_NUMBERS) (readings : Readings) (r : Replayed) where
  abbrev on : Course
  on = onward c (record { row = row; next = next })

  reads_next : Reads readings on r → Reads (ahead row readings) c r
  reads_next i =
      record {
        whole = (e, i.whole);
        stop = i.stop;
        taken = omega (arith, i.taken);
        place = i.place;
        progress = λ rows d.
            let here : row_at rows c.taken ≡ row = rw d (take_at row (flat readings.rows) ROW_NUMBERS e) in
            let z : (c.taken + 1) * ROW_NUMBERS ≡ c.taken * ROW_NUMBERS + ROW_NUMBERS = omega arith in
            let behind : drop ((c.taken + 1) * ROW_NUMBERS) rows ≡ flat readings.rows =
            rw (z, ← drop-drop ROW_NUMBERS (c.taken * ROW_NUMBERS) rows, d) (drop_at row (flat readings.rows) ROW_NUMBERS e)
            in
            i.progress rows behind
            ∙ ap (λ (n : ℕ). repeat (carried_in rows) n (length readings.rows) (carried row c.taken (beginning c.state c.room))) (add-one c.taken)
            ∙ ap (λ (x : List ℕ). repeat (carried_in rows) (suc c.taken) (length readings.rows) (carried x c.taken (beginning c.state c.room))) (sym here);
      }

reads : (most : ℕ) (log : List ℕ) (c : Course) → Reads (read_all most log c.place) c (replay_from most log c)
unfolding replay_from
reads zero log c = record { whole = tt; stop = refl; taken = omega arith; place = refl; progress = λ rows d. refl }
reads (suc most) log c = go (record_at log c.place) refl (λ taken. reads most log (onward c taken))
  where
    go : (read : Read) → record_at log c.place ≡ read → ((taken : Taken) → Reads (read_all most log taken.next) (onward c taken) (replay_from most log (onward c taken))) →
        Reads (read_on read c.place (λ taken. read_all most log taken.next)) c (goes_on read c (λ taken. replay_from most log (onward c taken)))
    go (Ok (Some taken)) e i = reads_next c taken.row taken.next (row_numbers log c.place taken e) _ _ (i taken)
    go (Ok None) e i = record { whole = tt; stop = refl; taken = omega arith; place = refl; progress = λ rows d. refl }
    go (Err why) e i = record { whole = tt; stop = refl; taken = omega arith; place = refl; progress = λ rows d. refl }

-- ---- states do not look at the room
same_states : (rows : List ℕ) (i n : ℕ) (p q : Progress) → p.state ≡ q.state → (repeat (carried_in rows) i n p).state ≡ (repeat (turn rows) i n q).state
same_states rows i zero p q e = e
same_states rows i (suc n) p q e = same_states rows (suc i) n (carried_in rows i p) (turn rows i q) (ap (λ (s : State). (step_row s (row_at rows i)).state) e)

-- a room for every answer is as the sequence leaves it
same_rooms : (rows : List ℕ) (i n : ℕ) (p : Progress) → (i + n) * ANSWER_NUMBERS ≤ length p.room → repeat (carried_in rows) i n p ≡ repeat (turn rows) i n p
same_rooms rows i zero p h = refl
same_rooms rows i (suc n) p h =
    let r = step_row p.state (row_at rows i) in
    let fits : (i + 1) * ANSWER_NUMBERS ≤ length p.room = omega arith in
    let z : leb ((i + 1) * ANSWER_NUMBERS) (length p.room) ≡ true = le-leb _ _ fits in
    rw z (same_rooms rows (suc i) n (turn rows i p) (omega (arith, length-written p.room (i * ANSWER_NUMBERS) (answer_numbers r.answer))))

-- ---- the answers that the room has place for
module _ (room : List ℕ) (k : ℕ) (answer : Answer) where
  answered_here : (i : ℕ) → i < ANSWER_NUMBERS → (k + 1) * ANSWER_NUMBERS ≤ length room → get_or (answered_at room k answer) (k * ANSWER_NUMBERS + i) 0 ≡ get_or (answer_numbers answer) i 0
  answered_here i b h =
      let z : leb ((k + 1) * ANSWER_NUMBERS) (length room) ≡ true = le-leb _ _ h in
      rw z (written_here room (k * ANSWER_NUMBERS) (answer_numbers answer) i (omega (arith, four answer)) (omega (arith, four answer)))

  answered_before : (j : ℕ) → j < k * ANSWER_NUMBERS → get_or (answered_at room k answer) j 0 ≡ get_or room j 0
  answered_before j h = go (leb ((k + 1) * ANSWER_NUMBERS) (length room))
    where
      go : (fits : Bool) → get_or (if fits then write_at room (k * ANSWER_NUMBERS) (answer_numbers answer) else room) j 0 ≡ get_or room j 0
      go true = written_before room (k * ANSWER_NUMBERS) (answer_numbers answer) j h
      go false = refl

  answered_behind : (j : ℕ) → (k + 1) * ANSWER_NUMBERS ≤ j → get_or (answered_at room k answer) j 0 ≡ get_or room j 0
  answered_behind j h = go (leb ((k + 1) * ANSWER_NUMBERS) (length room))
    where
      go : (fits : Bool) → get_or (if fits then write_at room (k * ANSWER_NUMBERS) (answer_numbers answer) else room) j 0 ≡ get_or room j 0
      go true = written_behind room (k * ANSWER_NUMBERS) (answer_numbers answer) j (omega (arith, four answer))
      go false = refl

  -- a place that the room has not whole
  answered_cut : (m i : ℕ) → length room < (m + 1) * ANSWER_NUMBERS → get_or (answered_at room k answer) (m * ANSWER_NUMBERS + i) 0 ≡ get_or room (m * ANSWER_NUMBERS + i) 0
  answered_cut m i h = go (leb ((k + 1) * ANSWER_NUMBERS) (length room)) refl
    where
      go : (fits : Bool) → leb ((k + 1) * ANSWER_NUMBERS) (length room) ≡ fits →
          get_or (if fits then write_at room (k * ANSWER_NUMBERS) (answer_numbers answer) else room) (m * ANSWER_NUMBERS + i) 0 ≡ get_or room (m * ANSWER_NUMBERS + i) 0
      go true e =
          let l : (k + 1) * ANSWER_NUMBERS ≤ length room = leb-true _ _ e in
          written_behind room (k * ANSWER_NUMBERS) (answer_numbers answer) (m * ANSWER_NUMBERS + i) (omega (arith, four answer))
      go false e = refl

module _ (rows : List ℕ) (p : Progress) where
  abbrev replayed : ℕ → Progress
  replayed n = repeat (carried_in rows) 0 n p

  abbrev answer_to : ℕ → Answer
  answer_to k = (step_row (replayed k).state (row_at rows k)).answer

  replayed_next : (n : ℕ) → replayed (suc n) ≡ carried_in rows n (replayed n)
  replayed_next n = let z : 0 + n ≡ n = omega arith in rw z at (repeat_last (carried_in rows) 0 n p)

  length-replayed : (n : ℕ) → length (replayed n).room ≡ length p.room
  length-replayed zero = refl
  length-replayed (suc n) = rw (replayed_next n) (length-answered (replayed n).room n (answer_to n) ∙ length-replayed n)

  replayed_behind : (n j : ℕ) → n * ANSWER_NUMBERS ≤ j → get_or (replayed n).room j 0 ≡ get_or p.room j 0
  replayed_behind zero j h = refl
  replayed_behind (suc n) j h = rw (replayed_next n) (answered_behind (replayed n).room n (answer_to n) j (omega arith) ∙ replayed_behind n j (omega arith))

  replayed_cut : (n k i : ℕ) → length p.room < (k + 1) * ANSWER_NUMBERS → get_or (replayed n).room (k * ANSWER_NUMBERS + i) 0 ≡ get_or p.room (k * ANSWER_NUMBERS + i) 0
  replayed_cut zero k i h = refl
  replayed_cut (suc n) k i h = rw (replayed_next n) (answered_cut (replayed n).room n (answer_to n) k i (omega (arith, length-replayed n)) ∙ replayed_cut n k i h)

  replayed_answer : (n k i : ℕ) → k < n → i < ANSWER_NUMBERS → (k + 1) * ANSWER_NUMBERS ≤ length p.room →
      get_or (replayed n).room (k * ANSWER_NUMBERS + i) 0 ≡ get_or (answer_numbers (answer_to k)) i 0
  replayed_answer zero k i h b l = absurd (omega arith)
  replayed_answer (suc n) k i h b l =
      rw (replayed_next n)
      (⊎_elim (λ e. rw e (answered_here (replayed n).room n (answer_to n) i b (omega (arith, length-replayed n))))
      (λ d. answered_before (replayed n).room n (answer_to n) (k * ANSWER_NUMBERS + i) (omega arith) ∙ replayed_answer n k i (omega arith) b l)
      (equal k n))

-- ---- the statement
module _ (log : List ℕ) (start most : ℕ) where
  abbrev pub readings : Readings
  readings = read_all most log start

  abbrev pub rows : List ℕ
  rows = flat readings.rows

  abbrev pub count : ℕ
  count = length readings.rows

  module _ (s : State) (lent : List ℕ) where
    pub record AsRows (r : Replayed) : Type 0 where
      pub stop : r.stop ≡ stop_of readings.found
      pub taken : r.course.taken ≡ count
      pub place : r.course.place ≡ readings.place
      -- the sequence's rows are those that were read
      pub row : (k : ℕ) → k < count → row_at rows k ≡ get_or readings.rows k []
      -- whatever room the sequence is given
      pub state : (other : List ℕ) → r.course.state ≡ (after rows count (beginning s other)).state
      -- the room: answer k in its place; places that it has not whole and numbers past all answers are kept
      pub room : length r.course.room ≡ length lent
      pub answers : (k i : ℕ) → k < count → i < ANSWER_NUMBERS → (k + 1) * ANSWER_NUMBERS ≤ length lent →
          get_or r.course.room (k * ANSWER_NUMBERS + i) 0 ≡ get_or (answer_numbers (step_row (after rows k (beginning s lent)).state (row_at rows k)).answer) i 0
      pub cut : (k i : ℕ) → length lent < (k + 1) * ANSWER_NUMBERS → get_or r.course.room (k * ANSWER_NUMBERS + i) 0 ≡ get_or lent (k * ANSWER_NUMBERS + i) 0
      pub behind : (j : ℕ) → count * ANSWER_NUMBERS ≤ j → get_or r.course.room j 0 ≡ get_or lent j 0
      -- one with place for every answer is the sequence's
      pub whole : count * ANSWER_NUMBERS ≤ length lent → r.course.room ≡ (after rows count (beginning s lent)).room

    pub replay_rows : AsRows (replay s log start most lent)
    unfolding after
    replay_rows =
        let i = reads most log (set_out s lent start) in
        let begun = beginning s lent in
        let p : beginning (replay s log start most lent).course.state (replay s log start most lent).course.room ≡ replayed rows begun count = i.progress rows refl in
        record {
          stop = i.stop;
          taken = omega (arith, i.taken);
          place = i.place;
          row = λ k h. row_of readings.rows k i.whole h;
          state = λ other. ap (λ (q : Progress). q.state) p ∙ same_states rows 0 count begun (beginning s other) refl;
          room = ap (λ (q : Progress). length q.room) p ∙ length-replayed rows begun count;
          answers = λ k j h b l.
              ap (λ (q : Progress). get_or q.room (k * ANSWER_NUMBERS + j) 0) p ∙ replayed_answer rows begun count k j h b l
              ∙ ap (λ (t : State). get_or (answer_numbers (step_row t (row_at rows k)).answer) j 0) (same_states rows 0 k begun begun refl);
          cut = λ k j h. ap (λ (q : Progress). get_or q.room (k * ANSWER_NUMBERS + j) 0) p ∙ replayed_cut rows begun count k j h;
          behind = λ j h. ap (λ (q : Progress). get_or q.room j 0) p ∙ replayed_behind rows begun count j h;
          whole = λ h. ap (λ (q : Progress). q.room) (p ∙ same_rooms rows 0 count begun (omega arith));
        }
