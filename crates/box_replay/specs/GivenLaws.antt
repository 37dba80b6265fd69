-- From what `replay` leaves of a state to what its core gives for a box of words.
use Rattle.std.specs.Prelude.{ℕ, zero, suc, ◌<◌, Bool, true, false, ◌&&◌, Some, None, Ok, Err, List, [], ◌∷◌, ◌≡◌, refl, length, get_or, set, eqb}
use Rattle.std.proofs.Common.{⊎_elim, sym, ap, ◌∙◌, subst, arith, length-set}
use Rattle.numbers.specs.CaseLaws.{cases}
use Rattle.numbers.specs.Decides.{Decides}
use Rattle.numbers.specs.DecidesLaws.{decides_and, decides_equal}
use Rattle.numbers.specs.Meaning.{number_of}
use Rattle.model.specs.Header.{state_of}
use Rattle.model.specs.State.{State}
use Rattle.model.specs.Entries.{valid, not_valid}
use Rattle.model.specs.declared.Machine.{Machine}
use Rattle.operation_log.specs.Log.{Read, record_at}
use Rattle.operation_log.specs.declared.Taken.{Taken}
use Rattle.replay.specs.Replay.{Course, Replayed, stop_number, onward, goes_on, replay_from, replay_refused, JudgedReplay}
use Rattle.box_header.specs.Numbers.{HeaderGood, machine_of, changed}
use Rattle.box_cores.specs.Boxes.{Box, state_in, lent_in, box_of}
use Rattle.box_cores.specs.CoreLaws.{left_same}
use Rattle.box_cores.specs.Given.{Judgement, met, unmet, Whole, not_valid_answer, same}
use Rattle.box_replay.specs.Given.{ReplayGiven, replay_given, ReplayAsked, replayed_by, replay_gives, none_taken, replay_not_valid, stored_by}

-- ---- a room of one number
pub one_number : (room : List ℕ) → length room ≡ 1 → room ≡ get_or room 0 0 ∷ []
one_number [] e = absurd (omega arith)
one_number (n ∷ []) e = refl
one_number (n ∷ m ∷ ns) e = absurd (omega arith)

pub one_there : (room : List ℕ) → length room ≡ 1 → 0 < length room
one_there room e = omega arith

pub one_put : (room : List ℕ) (n : ℕ) → length room ≡ 1 → set room 0 n ≡ n ∷ []
one_put [] n e = absurd (omega arith)
one_put (m ∷ []) n e = refl
one_put (m ∷ k ∷ ms) n e = absurd (omega arith)

-- ---- a replay that began is never refused
goes_stored : (read : Read) (c : Course) (rest : Taken → Replayed) → ((taken : Taken) → stored_by (rest taken).stop ≡ true) → stored_by (goes_on read c rest).stop ≡ true
goes_stored (Ok (Some taken)) c rest e = e taken
goes_stored (Ok None) c rest e = refl
goes_stored (Err why) c rest e = refl

from_stored : (most : ℕ) (log : List ℕ) (c : Course) → stored_by (replay_from most log c).stop ≡ true
unfolding replay_from
from_stored zero log c = refl
from_stored (suc most) log c = goes_stored (record_at log c.place) c _ (λ taken. from_stored most log (onward c taken))

-- ---- for a box of words
module _ (cpuSlots dmaSlots : ℕ) (b : Box (List ℕ)) (log place : List ℕ) (most : ℕ) (answers taken : List ℕ) where
  abbrev Asked : Type 0
  Asked = Whole cpuSlots dmaSlots × ReplayAsked same b place taken

  abbrev OneEach : Type 0
  OneEach = (length place ≡ 1) × (length taken ≡ 1)

  abbrev Given : ReplayGiven (List ℕ) → Bool → Type 0
  Given result stored = Judgement Asked (replay_gives same same b log place most answers) (replay_not_valid b place answers taken) result × Judgement Asked true false stored

  -- the state of the box by the machine that was read from its header
  abbrev under : Machine → State
  under m = state_of m (lent_in same b)

  -- where place and taken have one number each it is told that none is taken
  tested : Decides (eqb (length place) 1 && eqb (length taken) 1) OneEach
  tested = decides_and (decides_equal (length place) 1) (decides_equal (length taken) 1)

  told_none : OneEach → none_taken place taken ≡ 0 ∷ []
  told_none o = rw (tested.complete o)

  told_nothing : (OneEach → ⊥) → none_taken place taken ≡ taken
  told_nothing o = ⊎_elim (λ e. absurd (o (tested.sound e))) (λ e. rw e) (cases (eqb (length place) 1 && eqb (length taken) 1))

  -- a state that is refused leaves the box, the place and the answers
  refused_given : HeaderGood b.header → OneEach → replayed_by same b (replay_refused (state_in same b) (get_or place 0 0) answers) ≡ replay_not_valid b place answers taken
  refused_given h o = λ i. replay_given (number_of not_valid_answer) (sym (one_number place o.0) i) answers (sym (told_none o) i) (left_same b h i)

  judged : Whole cpuSlots dmaSlots → HeaderGood b.header → OneEach → (r : Replayed) → JudgedReplay (state_in same b) log (get_or place 0 0) most answers r → Given (replayed_by same b r) (stored_by r.stop)
  judged w h o r (valid v e) =
      let a : Asked = (w, record { box = record { header = h; state = v }; one_place = o.0; one_taken = o.1 }) in
      (met a (ap (replayed_by same b) e), met a (ap (λ (x : Replayed). stored_by x.stop) e ∙ from_stored most log _))
  judged w h o r (not_valid n e) =
      (unmet (λ a. n a.1.box.state) (ap (replayed_by same b) e ∙ refused_given h o), unmet (λ a. n a.1.box.state) (ap (λ (x : Replayed). stored_by x.stop) e))

  -- ---- as the code has it, call by call
  pub replay_core : {m : Machine} {r : Replayed} {header' : List ℕ} → OneEach → Whole cpuSlots dmaSlots × HeaderGood b.header → m ≡ machine_of b.header
      → JudgedReplay (under m) log (get_or place 0 0) most answers r → header' ≡ changed b.header r.course.state.tables
      → Given (replay_given (stop_number r.stop) (set place 0 r.course.place) r.course.room (set (set taken 0 0) 0 r.course.taken) (box_of same header' r.course.state)) (stored_by r.stop)
  replay_core {r = r} o (w, h) e j c =
      rw (c, one_put place r.course.place o.0, one_put (set taken 0 0) r.course.taken (length-set taken 0 0 ∙ o.1)) (judged w h o r (subst (λ (x : Machine). JudgedReplay (under x) log (get_or place 0 0) most answers r) e j))

  -- refused before the state was looked at
  refused_early : (Asked → ⊥) → (taken' : List ℕ) → taken' ≡ none_taken place taken → Given (replay_given (number_of not_valid_answer) place answers taken' b) false
  refused_early n taken' t = rw t (unmet n refl, unmet n refl)

  pub not_one_each : (OneEach → ⊥) → Given (replay_given (number_of not_valid_answer) place answers taken b) false
  not_one_each o = refused_early (λ a. o (a.1.one_place, a.1.one_taken)) taken (sym (told_nothing o))

  pub not_ready : OneEach → (Whole cpuSlots dmaSlots × HeaderGood b.header → ⊥) → Given (replay_given (number_of not_valid_answer) place answers (set taken 0 0) b) false
  not_ready o n = refused_early (λ a. n (a.0, a.1.box.header)) (set taken 0 0) (one_put taken 0 o.1 ∙ sym (told_none o))
