-- What an early check that passed tells: the numbers are in range and the VMs known.
use Rattle.std.specs.Prelude.{ℕ, ◌+◌, ◌≤◌, ◌<◌, Bool, true, false, not, ◌&&◌, ◌≡◌, refl, ltb, Ok, Err}
use Rattle.std.proofs.Common.{true≢false, sym, arith, ltb-true, leb-true}
use Rattle.std.proofs.lemmas.Bool.{not-false}
use Rattle.std.specs.Prelude.{if◌then◌else◌}
use Rattle.numbers.specs.Limits.{VMS, GUEST_PAGES, ACCESSES, GENERATIONS}
use Rattle.numbers.specs.Meaning.{Answer, accept, refuse}
use Rattle.numbers.specs.declared.Refusal.{Refusal}
use Rattle.numbers.specs.declared.Region.{Region}
use Rattle.units.specs.Spans.{span_within, region_span}
use Rattle.model.specs.Views.{is_vm, is_guest, is_page, is_access, is_generation, knows}
use Rattle.model.specs.Effect.{and_then}
use Rattle.model.specs.Ledger.{vm_early, page_early, pair_early}
use Rattle.model.specs.Maps.{map_early, unmap_early}
use Rattle.model.specs.Regions.{region_early}

-- ---- chains
pub never_both : {r : Refusal} {i dropped word : ℕ} {X : Type 0} → refuse r i ≡ accept dropped word → X
never_both e = absurd (let z : ◌≡◌ {A = ℕ} 0 1 = cc in omega arith)

-- where a chain accepts, its first condition was false and the rest accepts
pub past : (t : Bool) (r : Refusal) (i : ℕ) (rest : Answer) {dropped word : ℕ} → (if t then refuse r i else rest) ≡ accept dropped word → (t ≡ false) × (rest ≡ accept dropped word)
past true r i rest e = never_both e
past false r i rest e = (refl, e)

pub both : (a b : Bool) → (a && b) ≡ true → (a ≡ true) × (b ≡ true)
both true b e = (refl, e)
both false b e = absurd (true≢false (sym e))

-- where a refused conjunction was false, both its parts held
pub hold : (a b : Bool) → not (a && b) ≡ false → (a ≡ true) × (b ≡ true)
hold a b e = both a b (not-false (a && b) e)

-- where what follows an early check accepts, the check accepted too
pub then_passed : (early next : Answer) {dropped word : ℕ} → and_then early next ≡ accept dropped word → (d : ℕ) × (w : ℕ) × (early ≡ accept d w) × (next ≡ accept dropped word)
then_passed (Ok ok) next e = (ok.dropped, ok.word, refl, e)
then_passed (Err err) next e = never_both e

-- ---- each early check
pub record VmPassed (known vm : ℕ) : Type 0 where
  pub vm_ok : vm < VMS
  pub knows_vm : knows known vm ≡ true

pub vm_passed : (known vm : ℕ) {dropped word : ℕ} → vm_early known vm ≡ accept dropped word → VmPassed known vm
vm_passed known vm e =
    let a = past (not (is_vm vm)) _ _ _ e in
    let b = past (not (knows known vm)) _ _ _ a.1 in
    record { vm_ok = ltb-true vm VMS (not-false _ a.0); knows_vm = not-false _ b.0 }

pub record PagePassed (known pages vm page : ℕ) : Type 0 where
  pub vm_ok : vm < VMS
  pub page_ok : page < pages
  pub knows_vm : knows known vm ≡ true

pub page_passed : (known pages vm page : ℕ) {dropped word : ℕ} → page_early known pages vm page ≡ accept dropped word → PagePassed known pages vm page
page_passed known pages vm page e =
    let a = past (not (is_vm vm && is_page pages page)) _ _ _ e in
    let b = past (not (knows known vm)) _ _ _ a.1 in
    let r = hold (is_vm vm) (is_page pages page) a.0 in
    record { vm_ok = ltb-true vm VMS r.0; page_ok = ltb-true page pages r.1; knows_vm = not-false _ b.0 }

pub record PairPassed (known pages left right page : ℕ) : Type 0 where
  pub left_ok : left < VMS
  pub right_ok : right < VMS
  pub page_ok : page < pages
  pub knows_left : knows known left ≡ true
  pub knows_right : knows known right ≡ true

pub pair_passed : (known pages left right page : ℕ) {dropped word : ℕ} → pair_early known pages left right page ≡ accept dropped word → PairPassed known pages left right page
pair_passed known pages left right page e =
    let a = past (not (is_vm left && is_vm right && is_page pages page)) _ _ _ e in
    let b = past (not (knows known left && knows known right)) _ _ _ a.1 in
    let r = hold (is_vm left && is_vm right) (is_page pages page) a.0 in
    let s = both (is_vm left) (is_vm right) r.0 in
    let k = hold (knows known left) (knows known right) b.0 in
    record {
      left_ok = ltb-true left VMS s.0;
      right_ok = ltb-true right VMS s.1;
      page_ok = ltb-true page pages r.1;
      knows_left = k.0;
      knows_right = k.1;
    }

pub record UnmapPassed (known vm guest : ℕ) : Type 0 where
  pub vm_ok : vm < VMS
  pub guest_ok : guest < GUEST_PAGES
  pub knows_vm : knows known vm ≡ true

pub unmap_passed : (known vm guest : ℕ) {dropped word : ℕ} → unmap_early known vm guest ≡ accept dropped word → UnmapPassed known vm guest
unmap_passed known vm guest e =
    let a = past (not (is_vm vm && is_guest guest)) _ _ _ e in
    let b = past (not (knows known vm)) _ _ _ a.1 in
    let r = hold (is_vm vm) (is_guest guest) a.0 in
    record { vm_ok = ltb-true vm VMS r.0; guest_ok = ltb-true guest GUEST_PAGES r.1; knows_vm = not-false _ b.0 }

pub record MapPassed (known pages vm guest page access generation : ℕ) : Type 0 where
  pub vm_ok : vm < VMS
  pub guest_ok : guest < GUEST_PAGES
  pub page_ok : page < pages
  pub access_ok : access < ACCESSES
  pub generation_ok : generation < GENERATIONS
  pub knows_vm : knows known vm ≡ true

pub map-passed : (known pages vm guest page access generation : ℕ) {dropped word : ℕ} → map_early known pages vm guest page access generation ≡ accept dropped word → MapPassed known pages vm guest page access generation
map-passed known pages vm guest page access generation e =
    let a = past (not (is_vm vm && is_guest guest && is_page pages page && is_access access && is_generation generation)) _ _ _ e in
    let b = past (not (knows known vm)) _ _ _ a.1 in
    let r = hold (is_vm vm && is_guest guest && is_page pages page && is_access access) (is_generation generation) a.0 in
    let s = both (is_vm vm && is_guest guest && is_page pages page) (is_access access) r.0 in
    let t = both (is_vm vm && is_guest guest) (is_page pages page) s.0 in
    let u = both (is_vm vm) (is_guest guest) t.0 in
    record {
      vm_ok = ltb-true vm VMS u.0;
      guest_ok = ltb-true guest GUEST_PAGES u.1;
      page_ok = ltb-true page pages t.1;
      access_ok = ltb-true access ACCESSES s.1;
      generation_ok = ltb-true generation GENERATIONS r.1;
      knows_vm = not-false _ b.0;
    }

pub record RegionPassed (known pages : ℕ) (region : Region) : Type 0 where
  pub vm_ok : region.vm.0 < VMS
  pub access_ok : region.access < ACCESSES
  pub some_page : 0 < region.count
  pub guest_ok : region.guest.0 + region.count ≤ GUEST_PAGES
  pub page_ok : region.page.0 + region.count ≤ pages
  pub knows_vm : knows known region.vm.0 ≡ true

pub region_passed : (known pages : ℕ) (region : Region) {dropped word : ℕ} → region_early known pages region ≡ accept dropped word → RegionPassed known pages region
region_passed known pages region e =
    let a = past (not (is_vm region.vm.0 && is_access region.access)) _ _ _ e in
    let b = past (not (region_span region pages)) _ _ _ a.1 in
    let c = past (not (knows known region.vm.0)) _ _ _ b.1 in
    let r = hold (is_vm region.vm.0) (is_access region.access) a.0 in
    let s = both (ltb 0 region.count && span_within region.guest.0 region.count GUEST_PAGES) (span_within region.page.0 region.count pages) (not-false (region_span region pages) b.0) in
    let t = both (ltb 0 region.count) (span_within region.guest.0 region.count GUEST_PAGES) s.0 in
    record {
      vm_ok = ltb-true _ _ r.0;
      access_ok = ltb-true _ _ r.1;
      some_page = ltb-true _ _ t.0;
      guest_ok = leb-true _ _ t.1;
      page_ok = leb-true _ _ s.1;
      knows_vm = not-false _ c.0;
    }
