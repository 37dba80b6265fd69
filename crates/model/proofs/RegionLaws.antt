-- What an accepted insert or remove of a region tells: each search went through the whole region and met no page that fails.
use Prim.Native.Nat.{ℕ, ◌≤◌, ◌<◌}
use mathlib.Core.Bool.{Bool, false, not}
use mathlib.Core.List.{List}
use mathlib.Core.Path.{◌≡◌}
use borrow.Author.Tests.{ltb-false, leb-true, not-false}
use lib.Dec.{ltb}
use Rattle.numbers.specs.Meaning.{Answer, accept}
use Rattle.numbers.specs.declared.Refusal.{Refusal}
use Rattle.numbers.specs.declared.Refusal.TheVariants.{PageNotHeld, PageClaimed, MappingDiffers, MappingPresent, StillInUse}
use Rattle.numbers.specs.declared.Side.{Side}
use Rattle.table.specs.Scan.{lowest}
use Rattle.table.specs.ScanLaws.{lowest_none}
use Rattle.table.specs.Table.{free_entries, room_for}
use Rattle.numbers.specs.declared.Region.{Region}
use Rattle.model.specs.EarlyLaws.{past, then_passed, RegionPassed, region_passed}
use Rattle.model.specs.Regions.{clash, region_early, not_free, present, claimed, insert_answer, not_held, differs, in_use, remove_may, remove_answer}

-- no page of the region fails
abbrev pub NoneFails : (ℕ → Bool) → Region → Type 0
NoneFails fails region = (k : ℕ) → k < region.count → fails k ≡ false

clash_passed : (fails : ℕ → Bool) (region : Region) (refusal : Refusal) (next : Answer) {dropped word : ℕ} → clash fails region refusal next ≡ accept dropped word → NoneFails fails region × (next ≡ accept dropped word)
clash_passed fails region refusal next e =
    let (f, rest) = past (ltb (lowest fails region.count) region.count) refusal _ next e in
    (λ k h. lowest_none fails region.count (ltb-false _ _ f) k h, rest)

pub record InsertPassed (side : Side) (known pages : ℕ) (sets map : List ℕ) (region : Region) : Type 0 where
  pub early : RegionPassed known pages region
  pub free : NoneFails (not_free side sets region) region
  pub absent : NoneFails (present map region) region
  pub unclaimed : NoneFails (claimed side sets region) region
  pub room : region.count ≤ free_entries map

pub insert_passed : (side : Side) (known pages : ℕ) (unit : Bool) (sets map : List ℕ) (region : Region) {dropped word : ℕ} →
    insert_answer side known pages unit sets map region ≡ accept dropped word → InsertPassed side known pages sets map region
unfolding insert_answer
insert_passed side known pages unit sets map region e =
    let (d, w, early, a) = then_passed (region_early known pages region) _ e in
    let (b, c) = past (not unit) _ _ _ a in
    let (free, f) = clash_passed (not_free side sets region) region PageNotHeld _ c in
    let (absent, g) = clash_passed (present map region) region MappingPresent _ f in
    let (unclaimed, h) = clash_passed (claimed side sets region) region PageClaimed _ g in
    let (room, i) = past (not (room_for map region.count)) _ _ _ h in
    record { early = region_passed known pages region early; free = free; absent = absent; unclaimed = unclaimed; room = leb-true _ _ (not-false _ room) }

pub record RemovePassed (side : Side) (known pages : ℕ) (sets pairs map : List ℕ) (region : Region) : Type 0 where
  pub early : RegionPassed known pages region
  pub held : NoneFails (not_held side sets region) region
  pub mapped : NoneFails (differs map region) region
  pub unused : NoneFails (in_use side pairs map region) region

pub remove_passed : (side : Side) (known pages : ℕ) (unit : Bool) (sets pairs map cache : List ℕ) (region : Region) {dropped word : ℕ} →
    remove_answer side known pages unit sets pairs map cache region ≡ accept dropped word → RemovePassed side known pages sets pairs map region
unfolding remove_answer remove_may
remove_passed side known pages unit sets pairs map cache region e =
    let (n, r, may, _) = then_passed (remove_may side known pages unit sets pairs map region) _ e in
    let (d, w, early, a) = then_passed (region_early known pages region) _ may in
    let (b, c) = past (not unit) _ _ _ a in
    let (held, f) = clash_passed (not_held side sets region) region PageNotHeld _ c in
    let (same, g) = clash_passed (differs map region) region MappingDiffers _ f in
    let (unused, h) = clash_passed (in_use side pairs map region) region StillInUse _ g in
    record { early = region_passed known pages region early; held = held; mapped = same; unused = unused }
