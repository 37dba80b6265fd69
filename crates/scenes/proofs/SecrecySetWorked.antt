-- Secrecy at work, for a set of two: VMs 1 and 2 share a page of unequal words, and VM 3, outside, learns nothing of them; computed for
-- two values, 5 and 6, and proved for any two. Shared with VM 3, they are read.
use Prim.Native.Nat.{ℕ, zero, suc}
use mathlib.Core.Bool.{Bool, true, false, not, ◌&&◌, ◌||◌, true≢false}
use mathlib.Core.List.{List, [], ◌∷◌, map}
use Rattle.std.specs.Prelude.{Option, None, Some}
use mathlib.Core.Path.{◌≡◌, refl, sym, ap}
use native.Mathlib.Omega.{arith}
use lib.Dec.{eqb, ltb, lit<}
use lib.ListN.{get_or}
use borrow.Author.Tests.{ltb-true, not-false}
use Rattle.numbers.specs.Limits.{VMS}
use Rattle.numbers.specs.Packing.{left_of, right_of, filled_of}
use Rattle.numbers.specs.declared.Side.TheVariants.{Cpu}
use Rattle.table.specs.Scan.{any}
use Rattle.table.specs.ScanLaws.{any_false}
use Rattle.table.specs.Table.{Has}
use Rattle.model.specs.State.{Tables, State}
use Rattle.model.specs.Views.{on_page}
use Rattle.model.specs.EarlyLaws.{both}
use Rattle.model.specs.Sequence.{operation_in, step_row, row_at, Progress, after, beginning}
use Rattle.model.specs.Valid.{Valid}
use Rattle.model.specs.Good.{holds_page, Sharing}
use Rattle.model.specs.Secrecy.{PrivateTo, Private, effect_in, alike, Seen, Asked, Premise, StayAlike}
use Rattle.model.proofs.Computes.{computes}
use Rattle.model.proofs.Worked.{Line, row, ◌⟼◌, heard_in, answers, started}
use Rattle.model.proofs.ViewLaws.{on_page_lem}
use Rattle.model.proofs.Kept.{after_valid}
use Rattle.model.proofs.Secrecy.{secrecy}
use Rattle.scenes.proofs.SecrecyWorked.{carried, itself, MayWrite, asked_same, asked_write, at_start, carried_valid}

-- ---- the set
abbrev pub one_or_two : ℕ → Bool
one_or_two vm = eqb vm 1 || eqb vm 2

-- ---- page 0 passes between the members while its words are unequal
abbrev pub kept_in_set : ℕ → List Line
kept_in_set value =
    (row (1 ∷ 1 ∷ []) ⟼ 0 ∷ 0 ∷ 0 ∷ 0 ∷ [])
    ∷ (row (1 ∷ 2 ∷ []) ⟼ 0 ∷ 0 ∷ 0 ∷ 0 ∷ [])
    ∷ (row (1 ∷ 3 ∷ []) ⟼ 0 ∷ 0 ∷ 0 ∷ 0 ∷ [])
    ∷ (row (11 ∷ 1 ∷ 16 ∷ 0 ∷ 3 ∷ 3 ∷ []) ⟼ 0 ∷ 0 ∷ 0 ∷ 0 ∷ [])
    ∷ (row (3 ∷ 3 ∷ 5 ∷ []) ⟼ 0 ∷ 0 ∷ 0 ∷ 0 ∷ [])
    ∷ (row (7 ∷ 3 ∷ 16 ∷ 5 ∷ 3 ∷ 0 ∷ []) ⟼ 0 ∷ 0 ∷ 0 ∷ 0 ∷ [])
    ∷ (row (15 ∷ 0 ∷ 1 ∷ []) ⟼ 0 ∷ 0 ∷ 0 ∷ 0 ∷ [])
    ∷ (row (15 ∷ 1 ∷ 2 ∷ []) ⟼ 0 ∷ 0 ∷ 0 ∷ 0 ∷ [])
    ∷ (row (15 ∷ 2 ∷ 3 ∷ []) ⟼ 0 ∷ 0 ∷ 0 ∷ 0 ∷ [])
    -- VM 1 writes the value and shares its page with VM 2, which reads it and writes it beside, for VM 1 to read
    ∷ (row (23 ∷ 0 ∷ 16 ∷ 0 ∷ value ∷ []) ⟼ 0 ∷ 0 ∷ 0 ∷ 0 ∷ [])
    ∷ (row (5 ∷ 1 ∷ 2 ∷ 0 ∷ []) ⟼ 0 ∷ 0 ∷ 0 ∷ 0 ∷ [])
    ∷ (row (7 ∷ 2 ∷ 40 ∷ 0 ∷ 3 ∷ 0 ∷ []) ⟼ 0 ∷ 0 ∷ 0 ∷ 0 ∷ [])
    ∷ (row (21 ∷ 1 ∷ 40 ∷ 0 ∷ []) ⟼ 0 ∷ 0 ∷ 0 ∷ value ∷ [])
    ∷ (row (23 ∷ 1 ∷ 40 ∷ 1 ∷ value ∷ []) ⟼ 0 ∷ 0 ∷ 0 ∷ 0 ∷ [])
    ∷ (row (21 ∷ 0 ∷ 16 ∷ 1 ∷ []) ⟼ 0 ∷ 0 ∷ 0 ∷ value ∷ [])
    -- VM 3 may not map the page, and reads its own
    ∷ (row (7 ∷ 3 ∷ 40 ∷ 0 ∷ 1 ∷ 0 ∷ []) ⟼ 6 ∷ 0 ∷ 0 ∷ 0 ∷ [])
    ∷ (row (21 ∷ 2 ∷ 16 ∷ 0 ∷ []) ⟼ 0 ∷ 0 ∷ 0 ∷ 0 ∷ [])
    -- the page goes back to the pool and on to VM 3, which reads zero
    ∷ (row (9 ∷ 2 ∷ 40 ∷ []) ⟼ 0 ∷ 0 ∷ 0 ∷ 0 ∷ [])
    ∷ (row (6 ∷ 1 ∷ 2 ∷ 0 ∷ []) ⟼ 0 ∷ 0 ∷ 0 ∷ 0 ∷ [])
    ∷ (row (9 ∷ 1 ∷ 16 ∷ []) ⟼ 0 ∷ 0 ∷ 0 ∷ 0 ∷ [])
    ∷ (row (4 ∷ 1 ∷ 0 ∷ []) ⟼ 0 ∷ 0 ∷ 0 ∷ 0 ∷ [])
    ∷ (row (3 ∷ 3 ∷ 0 ∷ []) ⟼ 0 ∷ 0 ∷ 0 ∷ 0 ∷ [])
    ∷ (row (7 ∷ 3 ∷ 40 ∷ 0 ∷ 1 ∷ 0 ∷ []) ⟼ 0 ∷ 0 ∷ 0 ∷ 0 ∷ [])
    ∷ (row (21 ∷ 2 ∷ 40 ∷ 0 ∷ []) ⟼ 0 ∷ 0 ∷ 0 ∷ 0 ∷ [])
    ∷ []

abbrev pub kept_in_sets : List (List Line)
kept_in_sets = kept_in_set 5 ∷ kept_in_set 6 ∷ []

pub kept_in_set_lem : map (answers started) kept_in_sets ≡ map (map heard_in) kept_in_sets
unfolding computes
kept_in_set_lem = refl

-- `shares_equal` is broken: VM 1 shares the page with VM 3, outside, which reads the value
abbrev pub shared_outside : ℕ → List Line
shared_outside value =
    (row (1 ∷ 1 ∷ []) ⟼ 0 ∷ 0 ∷ 0 ∷ 0 ∷ [])
    ∷ (row (1 ∷ 2 ∷ []) ⟼ 0 ∷ 0 ∷ 0 ∷ 0 ∷ [])
    ∷ (row (1 ∷ 3 ∷ []) ⟼ 0 ∷ 0 ∷ 0 ∷ 0 ∷ [])
    ∷ (row (11 ∷ 1 ∷ 16 ∷ 0 ∷ 3 ∷ 3 ∷ []) ⟼ 0 ∷ 0 ∷ 0 ∷ 0 ∷ [])
    ∷ (row (15 ∷ 0 ∷ 1 ∷ []) ⟼ 0 ∷ 0 ∷ 0 ∷ 0 ∷ [])
    ∷ (row (15 ∷ 2 ∷ 3 ∷ []) ⟼ 0 ∷ 0 ∷ 0 ∷ 0 ∷ [])
    ∷ (row (23 ∷ 0 ∷ 16 ∷ 0 ∷ value ∷ []) ⟼ 0 ∷ 0 ∷ 0 ∷ 0 ∷ [])
    ∷ (row (5 ∷ 1 ∷ 3 ∷ 0 ∷ []) ⟼ 0 ∷ 0 ∷ 0 ∷ 0 ∷ [])
    ∷ (row (7 ∷ 3 ∷ 40 ∷ 0 ∷ 1 ∷ 0 ∷ []) ⟼ 0 ∷ 0 ∷ 0 ∷ 0 ∷ [])
    ∷ (row (21 ∷ 2 ∷ 40 ∷ 0 ∷ []) ⟼ 0 ∷ 0 ∷ 0 ∷ value ∷ [])
    ∷ []

abbrev pub shared_outsides : List (List Line)
shared_outsides = shared_outside 5 ∷ shared_outside 6 ∷ []

pub outside_counts : map (answers started) shared_outsides ≡ map (map heard_in) shared_outsides
unfolding computes
outside_counts = refl

-- ---- a page private to the set, by computing
-- an edge on the page that does not join two members
abbrev pub leads_out : ℕ → ℕ → Bool
leads_out page w = on_page page w && not (one_or_two (left_of w) && one_or_two (right_of w))

-- a member holds the page and no edge on it leads out
pub record Within (holder page : ℕ) (t : Tables) : Type 0 where
  pub member : one_or_two holder ≡ true
  pub holder_ok : ltb holder VMS ≡ true
  pub page_ok : ltb page t.setup.pages ≡ true
  pub held : holds_page t.sets holder page ≡ true
  pub none_out : any (leads_out page) t.pairs ≡ false

private_in : (holder page : ℕ) (t : Tables) → ((w : ℕ) → Has t.pairs w → filled_of w ≡ 1) → Within holder page t → Private one_or_two t page
private_in holder page t filled i =
    record {
      holder = holder;
      member = i.member;
      holder_ok = ltb-true _ _ i.holder_ok;
      page_ok = ltb-true _ _ i.page_ok;
      held = i.held;
      inside = λ w h on. both _ _ (not-false _ (rw (on_page_lem page w (filled w h) on) at (any_false (leads_out page) t.pairs w i.none_out h)));
    }

-- ---- the theorem speaks of such runs: VM 1 has pages 0 to 2, VM 3 page 5, and each a CPU
abbrev pub prepared_set : List (List ℕ)
prepared_set =
    (1 ∷ 1 ∷ []) ∷ (1 ∷ 2 ∷ []) ∷ (1 ∷ 3 ∷ []) ∷ (11 ∷ 1 ∷ 16 ∷ 0 ∷ 3 ∷ 3 ∷ []) ∷ (3 ∷ 3 ∷ 5 ∷ []) ∷ (7 ∷ 3 ∷ 16 ∷ 5 ∷ 3 ∷ 0 ∷ []) ∷
    (15 ∷ 0 ∷ 1 ∷ []) ∷ (15 ∷ 1 ∷ 2 ∷ []) ∷ (15 ∷ 2 ∷ 3 ∷ []) ∷ []

abbrev pub begun_set : Progress
begun_set = beginning (carried started prepared_set) []

begun_set_valid : Valid begun_set.state
begun_set_valid = carried_valid started at_start prepared_set

-- VM 1 writes page 0 and shares it with VM 2, which maps it, writes beside and reads; VM 3 may not map it, and reads its own page
abbrev pub rows_set : ℕ → List ℕ
rows_set value =
    23 ∷ 0 ∷ 16 ∷ 0 ∷ value ∷ 0 ∷ 0 ∷ 0 ∷
    5 ∷ 1 ∷ 2 ∷ 0 ∷ 0 ∷ 0 ∷ 0 ∷ 0 ∷
    7 ∷ 2 ∷ 40 ∷ 0 ∷ 3 ∷ 0 ∷ 0 ∷ 0 ∷
    23 ∷ 1 ∷ 40 ∷ 1 ∷ value ∷ 0 ∷ 0 ∷ 0 ∷
    21 ∷ 1 ∷ 40 ∷ 0 ∷ 0 ∷ 0 ∷ 0 ∷ 0 ∷
    7 ∷ 3 ∷ 40 ∷ 0 ∷ 1 ∷ 0 ∷ 0 ∷ 0 ∷
    21 ∷ 2 ∷ 16 ∷ 0 ∷ 0 ∷ 0 ∷ 0 ∷ 0 ∷
    []

-- before the first row
may_write_first : MayWrite one_or_two Cpu begun_set.state.tables 0 16 0 0
unfolding computes
may_write_first = record { allowed = refl; writer = refl; reached = refl }

within_first : Within 1 0 begun_set.state.tables
unfolding computes
within_first = record { member = refl; holder_ok = refl; page_ok = refl; held = refl; none_out = refl }

private_first : Private one_or_two begun_set.state.tables 0
private_first = private_in 1 0 begun_set.state.tables (λ w h. (begun_set_valid.tables.pairs.each w h).filled) within_first

-- the VM that a page is shared with
abbrev right_shared : Option Sharing → ℕ
right_shared None = 0
right_shared (Some shared) = shared.right

-- of a share between two members nothing is asked
asked_share : (s s' : State) → Asked one_or_two (Private one_or_two) s s' (5 ∷ 1 ∷ 2 ∷ 0 ∷ 0 ∷ 0 ∷ 0 ∷ 0 ∷ []) (5 ∷ 1 ∷ 2 ∷ 0 ∷ 0 ∷ 0 ∷ 0 ∷ 0 ∷ [])
unfolding operation_in
asked_share s s' =
    record {
      differ = record { shape = refl; near = alike };
      shares_equal = λ left right page word e m outside h. let z : 2 ≡ right = ap right_shared e.share in absurd (true≢false (rw (← z) at outside));
    }

asked_first : (a b : ℕ) → Premise one_or_two (Private one_or_two) begun_set begun_set (rows_set a) (rows_set b) 3
unfolding after operation_in
asked_first a b zero h = asked_write one_or_two (Private one_or_two) Cpu begun_set.state begun_set.state 0 16 0 0 a b may_write_first private_first
asked_first a b (suc zero) h = asked_share _ _
asked_first a b (suc (suc zero)) h = asked_same _ _ _ _ _ refl
asked_first a b (suc (suc (suc k))) h = absurd (omega arith)

-- after the share, with VM 2 on the page; the tables are the same whatever was written, by the theorem up to here
abbrev pub joined : ℕ → State
joined value = (after (rows_set value) 3 begun_set).state

joined_tables : (value : ℕ) → (joined value).tables ≡ (joined 0).tables
joined_tables value =
    ((secrecy one_or_two begun_set begun_set (rows_set value) (rows_set 0) 3 begun_set_valid (itself one_or_two (Private one_or_two) begun_set.state) (asked_first value 0)).states 3 (omega arith)).tables

may_write_joined : MayWrite one_or_two Cpu (joined 0).tables 1 40 1 0
unfolding computes
may_write_joined = record { allowed = refl; writer = refl; reached = refl }

within_joined : Within 1 0 (joined 0).tables
unfolding computes
within_joined = record { member = refl; holder_ok = refl; page_ok = refl; held = refl; none_out = refl }

-- the page is still private to the set, since its edge joins two members
pub joined_private : (value : ℕ) → Private one_or_two (joined value).tables 0
joined_private value =
    rw (joined_tables value) (private_in 1 0 (joined 0).tables (λ w h. ((after_valid (rows_set 0) 3 begun_set begun_set_valid).tables.pairs.each w h).filled) within_joined)

-- to VM 1 alone it is not
not_alone : PrivateTo 1 (joined 0).tables 0 → ⊥
unfolding computes
not_alone p = p.unshared (get_or (joined 0).tables.pairs 0 0) (record { spot = 0; within = lit< tt; holds = refl; filled = λ e. omega arith }) refl

pub joined_not_alone : (value : ℕ) → PrivateTo 1 (joined value).tables 0 → ⊥
joined_not_alone value p = not_alone (rw (joined_tables value) at p)

pub asked_set : (a b : ℕ) → Premise one_or_two (Private one_or_two) begun_set begun_set (rows_set a) (rows_set b) 7
unfolding after operation_in
asked_set a b zero h = asked_first a b 0 (omega arith)
asked_set a b (suc zero) h = asked_first a b 1 (omega arith)
asked_set a b (suc (suc zero)) h = asked_first a b 2 (omega arith)
asked_set a b (suc (suc (suc zero))) h = asked_write one_or_two (Private one_or_two) Cpu (joined a) (joined b) 1 40 1 0 a b (rw (joined_tables a) may_write_joined) (joined_private a)
asked_set a b (suc (suc (suc (suc zero)))) h = asked_same _ _ _ _ _ refl
asked_set a b (suc (suc (suc (suc (suc zero))))) h = asked_same _ _ _ _ _ refl
asked_set a b (suc (suc (suc (suc (suc (suc zero)))))) h = asked_same _ _ _ _ _ refl
asked_set a b (suc (suc (suc (suc (suc (suc (suc k))))))) h = absurd (omega arith)

pub secrecy_holds_set : (a b : ℕ) → StayAlike one_or_two (Private one_or_two) begun_set begun_set (rows_set a) (rows_set b) 7
secrecy_holds_set a b =
    secrecy one_or_two begun_set begun_set (rows_set a) (rows_set b) 7 begun_set_valid (itself one_or_two (Private one_or_two) begun_set.state) (asked_set a b)

-- so the read of VM 3 is answered the same, whichever two values the members write
not_seen : Seen one_or_two (Private one_or_two) (after (rows_set 0) 6 begun_set).state.tables (effect_in (after (rows_set 0) 6 begun_set).state.tables (operation_in (row_at (rows_set 0) 6))) 0 → ⊥
unfolding computes
not_seen seen = true≢false (sym seen.0)

pub outside_same : (a b : ℕ) → (step_row (after (rows_set a) 6 begun_set).state (row_at (rows_set a) 6)).answer ≡ (step_row (after (rows_set b) 6 begun_set).state (row_at (rows_set b) 6)).answer
outside_same a b = ((secrecy_holds_set a b).answers 6 (omega arith)).whole (λ seen. not_seen (rw ((secrecy_holds_set a 0).states 6 (omega arith)).tables at seen))
