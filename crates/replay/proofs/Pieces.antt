-- Replay takes no more records than it is asked for; it never refuses by itself, and a refusal as a whole leaves everything; some records
-- and then some more are all of them at once.
use Prim.Native.Nat.{ℕ, zero, suc, ◌+◌, ◌≤◌, ◌<◌}
use mathlib.Core.List.{List}
use mathlib.Core.Path.{◌≡◌, refl, sym, ap, ◌∙◌}
use native.Mathlib.Omega.{arith}
use Rattle.std.specs.Prelude.{Some, None, Ok, Err}
use Rattle.model.specs.State.{State}
use Rattle.model.specs.Valid.{Valid}
use Rattle.model.specs.Entries.{valid, not_valid}
use Rattle.model.specs.Sequence.{beginning, step_row}
use Rattle.model.proofs.Kept.{row_valid}
use Rattle.operation_log.specs.Log.{Read, record_at}
use Rattle.operation_log.specs.declared.LogRefusal.{LogRefusal}
use Rattle.operation_log.specs.declared.Taken.{Taken}
use Rattle.replay.specs.Replay.{done, Course, Replayed, set_out, answered_at, onward, stopped, goes_on, replay_from, replay, replay_refused, JudgedReplay}
use Rattle.replay.specs.Run.{course_of}
use Rattle.replay.specs.declared.Stop.TheVariants.{Unreadable, NotValid}

-- what holds where it stops and of the rest holds of a record more
pub goes_on_lem : (P : Replayed → Type 0) (read : Read) (c : Course) (rest : Taken → Replayed) → P (stopped done c) → ((why : LogRefusal) → P (stopped (Err (Unreadable why)) c)) →
    ((taken : Taken) → read ≡ Ok (Some taken) → P (rest taken)) → P (goes_on read c rest)
goes_on_lem P (Ok (Some taken)) c rest ended unreadable on = on taken refl
goes_on_lem P (Ok None) c rest ended unreadable on = ended
goes_on_lem P (Err why) c rest ended unreadable on = unreadable why

-- ---- at most so many
takes_from : (most : ℕ) (log : List ℕ) (c : Course) → (replay_from most log c).course.taken ≤ c.taken + most
unfolding replay_from
takes_from zero log c = omega arith
takes_from (suc most) log c =
    goes_on_lem (λ (r : Replayed). r.course.taken ≤ c.taken + suc most) (record_at log c.place) c _ (omega arith) (λ why. omega arith)
    (λ taken _. omega (arith, takes_from most log (onward c taken)))

pub replay_takes : (s : State) (log : List ℕ) (place most : ℕ) (room : List ℕ) → (replay s log place most room).course.taken ≤ most
replay_takes s log place most room = omega (arith, takes_from most log (set_out s room place))

-- ---- a valid state stays valid
valid_from : (most : ℕ) (log : List ℕ) (c : Course) → Valid c.state → Valid (replay_from most log c).course.state
unfolding replay_from
valid_from zero log c v = v
valid_from (suc most) log c v =
    goes_on_lem (λ (r : Replayed). Valid r.course.state) (record_at log c.place) c _ v (λ why. v) (λ taken _. valid_from most log (onward c taken) (row_valid c.state v taken.row))

pub replay_valid : (s : State) (log : List ℕ) (place most : ℕ) (room : List ℕ) → Valid s → Valid (replay s log place most room).course.state
replay_valid s log place most room v = valid_from most log (set_out s room place) v

-- ---- refused as a whole
never_refused : (most : ℕ) (log : List ℕ) (c : Course) → (replay_from most log c).stop ≡ Err NotValid → ⊥
unfolding replay_from
never_refused zero log c stop = cc
never_refused (suc most) log c stop =
    goes_on_lem (λ (r : Replayed). r.stop ≡ Err NotValid → ⊥) (record_at log c.place) c _ (λ e. cc) (λ why e. cc) (λ taken _. never_refused most log (onward c taken)) stop

module _ (s : State) (log : List ℕ) (place most : ℕ) (room : List ℕ) (result : Replayed) where
  -- it stops so exactly at a state that is not valid, takes none, and leaves state, room and place
  pub replay_refused_lem : JudgedReplay s log place most room result → result.stop ≡ Err NotValid → (Valid s → ⊥) × (result.course ≡ set_out s room place)
  replay_refused_lem (valid v e) stop = absurd (never_refused most log (set_out s room place) (ap (λ (r : Replayed). r.stop) (sym e) ∙ stop))
  replay_refused_lem (not_valid n e) stop = (n, ap (λ (r : Replayed). r.course) e)

  pub replay_not_valid_lem : JudgedReplay s log place most room result → (Valid s → ⊥) → result ≡ replay_refused s place room
  replay_not_valid_lem (valid v e) n = absurd (n v)
  replay_not_valid_lem (not_valid _ e) n = e

-- ---- in pieces
-- from where the first m have led; where none more are asked for, the whole stops as those did
pub replay_in_pieces : (m n : ℕ) (log : List ℕ) (c : Course) → replay_from (m + suc n) log c ≡ replay_from (suc n) log (replay_from m log c).course
unfolding replay_from
replay_in_pieces zero n log c = let z : 0 + suc n ≡ suc n = omega arith in rw z
replay_in_pieces (suc m) n log c =
    let z : suc m + suc n ≡ suc (m + suc n) = omega arith in
    rw z (go (record_at log c.place) refl _ (λ taken. replay_in_pieces m n log (onward c taken)))
  where
    go : (read : Read) → record_at log c.place ≡ read → {all : Taken → Replayed} (some : Taken → Replayed) → ((taken : Taken) → all taken ≡ replay_from (suc n) log (some taken).course) →
        goes_on read c all ≡ replay_from (suc n) log (goes_on read c some).course
    go (Ok (Some taken)) e some on = on taken
    go (Ok None) e some on = rw e
    go (Err why) e some on = rw e

pub course_in_pieces : (m n : ℕ) (log : List ℕ) (c : Course) → (replay_from (m + n) log c).course ≡ (replay_from n log (replay_from m log c).course).course
unfolding replay_from
course_in_pieces m zero log c = let z : m + 0 ≡ m = omega arith in rw z
course_in_pieces m (suc n) log c = ap (λ (r : Replayed). r.course) (replay_in_pieces m n log c)

-- where it stops does not lie at the answer room, nor at how many records came before
record SameEnd (k k' : ℕ) (a b : Replayed) : Type 0 where
  stop : a.stop ≡ b.stop
  state : a.course.state ≡ b.course.state
  place : a.course.place ≡ b.course.place
  taken : a.course.taken + k' ≡ b.course.taken + k

same_end : (most : ℕ) (log : List ℕ) (s : State) (place : ℕ) (room room' : List ℕ) (k k' : ℕ) →
    SameEnd k k' (replay_from most log (course_of (beginning s room) k place)) (replay_from most log (course_of (beginning s room') k' place))
unfolding replay_from
same_end zero log s place room room' k k' = record { stop = refl; state = refl; place = refl; taken = omega arith }
same_end (suc most) log s place room room' k k' =
    go (record_at log place)
    (λ taken. let r = step_row s taken.row in same_end most log r.state taken.next (answered_at room k r.answer) (answered_at room' k' r.answer) (k + 1) (k' + 1))
  where
    go : (read : Read) {a b : Taken → Replayed} → ((taken : Taken) → SameEnd (k + 1) (k' + 1) (a taken) (b taken)) →
        SameEnd k k' (goes_on read (course_of (beginning s room) k place) a) (goes_on read (course_of (beginning s room') k' place) b)
    go (Ok (Some taken)) same = let e = same taken in record { stop = e.stop; state = e.state; place = e.place; taken = omega (arith, e.taken) }
    go (Ok None) same = record { stop = refl; state = refl; place = refl; taken = omega arith }
    go (Err why) same = record { stop = refl; state = refl; place = refl; taken = omega arith }

pub record InPieces (n : ℕ) (first second whole : Replayed) : Type 0 where
  pub stop : 0 < n → second.stop ≡ whole.stop
  pub none_more : n ≡ 0 → first.stop ≡ whole.stop
  pub state : second.course.state ≡ whole.course.state
  pub place : second.course.place ≡ whole.course.place
  pub taken : first.course.taken + second.course.taken ≡ whole.course.taken

module _ (s : State) (log : List ℕ) (place m n : ℕ) (room₁ room₂ room : List ℕ) where
  abbrev first : Replayed
  first = replay s log place m room₁

  -- as far as the first m led with the room of the whole
  abbrev led : Course
  led = (replay_from m log (set_out s room place)).course

  so_far : SameEnd 0 0 (replay_from m log (set_out s room place)) first
  so_far = same_end m log s place room room₁ 0 0

  later : SameEnd led.taken 0 (replay_from n log led) (replay first.course.state log first.course.place n room₂)
  later = rw (← so_far.state, ← so_far.place) (same_end n log led.state led.place led.room room₂ led.taken 0)

  stops : (n : ℕ) → 0 < n → (replay_from n log led).stop ≡ (replay s log place (m + n) room).stop
  stops zero h = absurd (omega arith)
  stops (suc n) h = sym (ap (λ (r : Replayed). r.stop) (replay_in_pieces m n log (set_out s room place)))

  pub replay_pieces : InPieces n first (replay first.course.state log first.course.place n room₂) (replay s log place (m + n) room)
  replay_pieces =
      let both = course_in_pieces m n log (set_out s room place) in
      let as-far = so_far in
      let then = later in
      record {
        stop = λ h. sym then.stop ∙ stops n h;
        none_more = λ e. let z : m + n ≡ m = omega arith in rw z (sym as-far.stop);
        state = sym then.state ∙ ap (λ (c : Course). c.state) (sym both);
        place = sym then.place ∙ ap (λ (c : Course). c.place) (sym both);
        taken = omega (arith, as-far.taken, then.taken, ap (λ (c : Course). c.taken) both);
      }
