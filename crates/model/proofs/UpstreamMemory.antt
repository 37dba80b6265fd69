-- Memory as upstream's hardware view shows it: cleared pages and written words.
use Prim.Native.Nat.{ℕ, ◌/◌, ◌<◌}
use mathlib.Core.Bool.{true, false}
use mathlib.Core.List.{List, [], ◌∷◌}
use mathlib.Core.Logic.{⊎_elim}
use Rattle.std.specs.Prelude.{Option, None, Some}
use mathlib.Core.Path.{◌≡◌, refl}
use native.Mathlib.Omega.{arith}
use lib.Dec.{eqb, ltb}
use lib.ListN.{length, get_or, set, length-set}
use lib.Seq.{get_or-set_same, get_or-set_other}
use borrow.Author.Tests.{eqb-true, eqb-false, eq-eqb, ne_eqb, lt-ltb}
use Rattle.numbers.specs.CaseLaws.{cases, equal}
use Rattle.std.specs.Prelude.{if◌then◌else◌}
use Rattle.numbers.specs.Limits.{PAGE_WORDS}
use Rattle.pages.specs.BitLaws.{below_or}
use Rattle.model.specs.State.{Tables}
use Rattle.model.specs.Effect.{memory_index, clear_page, cleared_pages}
use Rattle.model.specs.MemoryLaws.{length-zeroed, zeroed_inside, zeroed_before, zeroed_behind}
use Rattle.model.specs.Upstream.{is_some, word_seen, hardware_view, SameHardware}
use Rattle.model.specs.UpstreamStep.{with_memory, answer_at}
use Rattle.model.specs.UpstreamRun.{cleared_at, clear_calls, HardwareRun, stop, go}
use Rattle.model.proofs.UpstreamFollows.{same_with, same_hardware}

-- a page cleared, word by word
length-clear : (memory : List ℕ) (page : ℕ) → length (clear_page memory page) ≡ length memory
unfolding clear_page
length-clear memory page = length-zeroed (memory_index page 0) PAGE_WORDS memory

word_cleared : (memory : List ℕ) (page address : ℕ) → eqb (address / PAGE_WORDS) page ≡ true → get_or (clear_page memory page) address 0 ≡ 0
unfolding clear_page
word_cleared memory page address t =
    let q = eqb-true (address / PAGE_WORDS) page t in
    zeroed_inside (memory_index page 0) PAGE_WORDS memory address (omega arith) (omega arith)

word_kept : (memory : List ℕ) (page address : ℕ) → eqb (address / PAGE_WORDS) page ≡ false → get_or (clear_page memory page) address 0 ≡ get_or memory address 0
unfolding clear_page
word_kept memory page address f =
    let n = eqb-false (address / PAGE_WORDS) page f in
    ⊎_elim (λ l. zeroed_before (memory_index page 0) PAGE_WORDS memory address l) (λ l. zeroed_behind (memory_index page 0) PAGE_WORDS memory address (omega arith))
    (below_or address (memory_index page 0))

clear_seen : (memory : List ℕ) (page address : ℕ) → word_seen (clear_page memory page) address ≡ cleared_at (word_seen memory) page address
unfolding word_seen
clear_seen memory page address = rw (length-clear memory page) (⊎_elim cleared kept (cases (eqb (address / PAGE_WORDS) page)))
  where
    goal : Type 0
    goal = (if ltb address (length memory) then Some (get_or (clear_page memory page) address 0) else None) ≡ cleared_at (word_seen memory) page address

    cleared : eqb (address / PAGE_WORDS) page ≡ true → goal
    cleared t = rw (t, word_cleared memory page address t) (⊎_elim (λ y. rw y) (λ n. rw n) (cases (ltb address (length memory))))

    kept : eqb (address / PAGE_WORDS) page ≡ false → goal
    kept f = rw (f, word_kept memory page address f)

-- memory alone is another
pub memory_only : (t : Tables) (before after : List ℕ) (now : ℕ → Option ℕ) → ((address : ℕ) → word_seen after address ≡ now address) →
    SameHardware (hardware_view (record { tables = t; memory = after })) (with_memory (hardware_view (record { tables = t; memory = before })) now)
memory_only t before after now e = same_with (hardware_view (record { tables = t; memory = after })) now _ e (λ cpu. refl)

-- pages cleared one after another, whatever the tables
pub clear_run : (t : Tables) (pages memory : List ℕ) → HardwareRun (clear_calls pages) (hardware_view (record { tables = t; memory = memory }))
    (hardware_view (record { tables = t; memory = cleared_pages pages memory }))
unfolding cleared_pages
clear_run t [] memory = stop (same_hardware _)
clear_run t (page ∷ pages) memory = go (memory_only t memory (clear_page memory page) _ (clear_seen memory page)) (clear_run t pages (clear_page memory page))

-- ---- a word
pub word_backed : (memory : List ℕ) (address : ℕ) → address < length memory → is_some (word_seen memory address) ≡ true
unfolding word_seen
word_backed memory address h = rw (lt-ltb address (length memory) h)

pub write_seen : (memory : List ℕ) (at value : ℕ) → at < length memory → (address : ℕ) →
    word_seen (set memory at value) address ≡ answer_at (word_seen memory) at (Some value) address
unfolding word_seen
write_seen memory at value h address =
    rw (length-set memory at value)
    (⊎_elim (λ q. rw (eq-eqb address at q) (rw (q, lt-ltb at (length memory) h, get_or-set_same memory at value 0 h)))
    (λ d. rw (ne_eqb address at d, get_or-set_other memory at address value 0 d)) (equal address at))
