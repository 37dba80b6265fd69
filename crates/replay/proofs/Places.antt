-- What a caller of replay's entry may count on: no more records than it asked for are taken, and a place within the log stays there.
use Prim.Native.Nat.{ℕ, zero, suc, ◌≤◌}
use mathlib.Core.List.{List}
use native.Mathlib.Omega.{arith}
use lib.ListN.{length}
use Rattle.std.specs.Prelude.{◌≡◌, refl, Some, None, Ok, Err}
use Rattle.model.specs.State.{State}
use Rattle.model.specs.Entries.{valid, not_valid}
use Rattle.operation_log.specs.Log.{Read, record_at, place_after}
use Rattle.operation_log.specs.LogLaws.{read_inside}
use Rattle.replay.specs.Replay.{Course, Replayed, set_out, onward, replay_from, JudgedReplay}
use Rattle.replay.proofs.Pieces.{goes_on_lem, replay_takes}

-- ---- the place after what stands in a log is within the log
pub next_inside : (log : List ℕ) (at : ℕ) → at ≤ length log → place_after (record_at log at) at ≤ length log
next_inside log at h = go (record_at log at) refl
  where
    go : (read : Read) → record_at log at ≡ read → place_after read at ≤ length log
    go (Ok (Some taken)) e = read_inside log at taken e
    go (Ok None) e = h
    go (Err why) e = h

inside_from : (most : ℕ) (log : List ℕ) (c : Course) → c.place ≤ length log → (replay_from most log c).course.place ≤ length log
unfolding replay_from
inside_from zero log c h = h
inside_from (suc most) log c h =
    goes_on_lem (λ (r : Replayed). r.course.place ≤ length log) (record_at log c.place) c _ h (λ why. h) (λ taken e. inside_from most log (onward c taken) (rw e at (next_inside log c.place h)))

-- ---- whatever the state was judged to be
module _ (s : State) (log : List ℕ) (place most : ℕ) (room : List ℕ) (result : Replayed) where
  pub judged_takes : JudgedReplay s log place most room result → result.course.taken ≤ most
  judged_takes (valid v e) = rw e (replay_takes s log place most room)
  judged_takes (not_valid v e) = rw e (omega arith)

  pub judged_inside : JudgedReplay s log place most room result → place ≤ length log → result.course.place ≤ length log
  judged_inside (valid v e) h = rw e (inside_from most log (set_out s room place) h)
  judged_inside (not_valid v e) h = rw e h
