-- What the views show after a region's edits: of tables and caches, and of the page sets.
use Prim.Native.Nat.{ℕ, suc, ◌+◌, ◌-◌, ◌≤◌, ◌<◌}
use mathlib.Core.Bool.{Bool, true, false, ◌&&◌, ◌||◌, true≢false, and_assoc, and-or_distrib_left}
use mathlib.Core.List.{List}
use mathlib.Core.Logic.{⊎_elim}
use Rattle.std.specs.Prelude.{None}
use mathlib.Core.Path.{◌≡◌, refl, sym, ap, ◌∙◌}
use native.Mathlib.Omega.{arith}
use lib.Dec.{eqb, leb, ltb}
use borrow.Author.Tests.{eq-eqb, ne_eqb, eqb-true, leb-true, ltb-true, le-leb, lt-ltb}
use Rattle.numbers.specs.CaseLaws.{cases, equal}
use Rattle.std.specs.Prelude.{if◌then◌else◌}
use Rattle.numbers.specs.Limits.{VMS, GUEST_PAGES, PAGES}
use Rattle.numbers.specs.Packing.{key, key_of, slot_key, vm_of, guest_of, filled_of}
use Rattle.numbers.specs.PackingLaws.{key_same}
use Rattle.table.specs.ScanLaws.{wipe_none}
use Rattle.table.specs.Table.{free_entries, lookup, put, Distinct}
use Rattle.table.specs.TableLaws.{lookup_put_same, lookup_put_other, place_room, free_put}
use Rattle.numbers.specs.declared.Region.{Region}
use Rattle.model.specs.Views.{is_filled}
use Rattle.model.specs.EarlyLaws.{both, RegionPassed}
use Rattle.model.specs.Regions.{guest_in, page_in, key_in, region_entry, in_region, insert_table, remove_table}
use Rattle.model.specs.Start.{in_span}
use Rattle.model.specs.Upstream.{is_some, map_at, flushed, entries_of, pages_of, union_right, seen, map_seen, tlb_seen, SameS2Map}
use Rattle.model.proofs.ViewLaws.{not_so}
use Rattle.table.specs.RepeatLaws.{repeat_keeps}
use Rattle.model.proofs.RoutesKept.{entry_key}
use Rattle.model.proofs.UpstreamMaps.{entry_shown}
use Rattle.model.proofs.UpstreamLaws.{wiped_seen, none_either, OfKey, of_key, of_slot_key}

-- ---- spans
pub in_span_lem : (base count n : ℕ) → in_span base count n ≡ true → (base ≤ n) × (n < base + count)
in_span_lem base count n e = let q = both (leb base n) (ltb n (base + count)) e in (leb-true _ _ q.0, ltb-true _ _ q.1)

pub span_in : (base count n : ℕ) → base ≤ n → n < base + count → in_span base count n ≡ true
span_in base count n l h = rw (le-leb base n l, lt-ltb n (base + count) h)

-- the place in the region of one of its pages, and of one of its keys
pub page_place : (region : Region) (page : ℕ) → pages_of region page ≡ true → (k : ℕ) × (k < region.count) × (page_in region k ≡ page)
page_place region page e = let (l, h) = in_span_lem region.page.0 region.count page e in (page - region.page.0, omega arith, omega arith)

-- the region has the key
abbrev pub has_entry : Region → ℕ → ℕ → Bool
has_entry region vm gpa = eqb vm region.vm.0 && in_span region.guest.0 region.count gpa

pub entry_some : (region : Region) (vm gpa : ℕ) → is_some (entries_of region vm gpa) ≡ has_entry region vm gpa
entry_some region vm gpa = ⊎_elim (λ t. rw t) (λ f. rw f) (cases (has_entry region vm gpa))

pub key_place : (region : Region) (vm gpa : ℕ) → has_entry region vm gpa ≡ true → (k : ℕ) × (k < region.count) × (vm ≡ region.vm.0) × (gpa ≡ guest_in region k)
key_place region vm gpa e =
    let (a, b) = both (eqb vm region.vm.0) (in_span region.guest.0 region.count gpa) e in
    let (l, h) = in_span_lem region.guest.0 region.count gpa b in
    (gpa - region.guest.0, omega arith, eqb-true _ _ a, omega arith)

-- ---- a wipe of the region's words
-- a word of a VM and guest page is one of the region's exactly where the region has the key
goes : (region : Region) (w port vm gpa : ℕ) → OfKey w port vm gpa → filled_of w ≡ 1 → in_region region w ≡ has_entry region vm gpa
goes region w port vm gpa o f =
    rw (eq-eqb (filled_of w) 1 f, o.vm_is, o.guest_is) (and_assoc (eqb vm region.vm.0) (leb region.guest.0 gpa) (ltb gpa (region.guest.0 + region.count)))

pub map-wiped : (region : Region) (table : List ℕ) (vm gpa : ℕ) → Distinct key_of table → vm < VMS → gpa < GUEST_PAGES →
    map_seen (remove_table table region) vm gpa ≡ (if has_entry region vm gpa then None else map_seen table vm gpa)
unfolding remove_table
map-wiped region table vm gpa once v g =
    wiped_seen (in_region region) table (key vm gpa) (has_entry region vm gpa) (omega arith) once (λ h e. goes region _ 0 vm gpa (of_key _ vm gpa v g e) (omega arith))

pub tlb_wiped : (region : Region) (cache : List ℕ) (port vm gpa : ℕ) → Distinct key_of cache → vm < VMS → gpa < GUEST_PAGES →
    tlb_seen (remove_table cache region) port vm gpa ≡ (if has_entry region vm gpa then None else tlb_seen cache port vm gpa)
unfolding remove_table
tlb_wiped region cache port vm gpa once v g =
    wiped_seen (in_region region) cache (slot_key port vm gpa) (has_entry region vm gpa) (omega arith) once
    (λ h e. goes region _ port vm gpa (of_slot_key _ port vm gpa v g e) (omega arith))

-- ---- a region's entries put one by one
module _ (known pages : ℕ) (region : Region) (early : RegionPassed known pages region) (most : pages ≤ PAGES) where
  guest_below : (k : ℕ) → k < region.count → guest_in region k < GUEST_PAGES
  guest_below k h = omega (arith, early.guest_ok)

  page_below : (k : ℕ) → k < region.count → page_in region k < PAGES
  page_below k h = omega (arith, early.page_ok)

  pub entry_key_in : (k : ℕ) → k < region.count → key_of (region_entry region k) ≡ key_in region k
  entry_key_in k h = entry_key region.vm.0 (guest_in region k) (page_in region k) region.access 0 early.vm_ok (guest_below k h) (page_below k h) early.access_ok (omega arith)

  pub keys_apart : (k j : ℕ) → k < region.count → j < region.count → (j ≡ k → ⊥) → key_in region k ≡ key_in region j → ⊥
  keys_apart k j h l n e = n (let q = key_same region.vm.0 (guest_in region k) region.vm.0 (guest_in region j) (guest_below k h) (guest_below j l) e in omega (arith, q.1))

  pub entry_in : (k : ℕ) → k < region.count → seen (region_entry region k) ≡ entries_of region region.vm.0 (guest_in region k)
  entry_in k h =
      let z : guest_in region k - region.guest.0 ≡ k = omega arith in
      entry_shown region.vm.0 (guest_in region k) (page_in region k) region.access 0 early.vm_ok (guest_below k h) (page_below k h) early.access_ok (omega arith)
      ∙ rw (eq-eqb region.vm.0 region.vm.0 refl, span_in region.guest.0 region.count (guest_in region k) (omega arith) (omega arith), z)

  -- the first k are in, in a table that has room for the others
  record Puts (table : List ℕ) (k : ℕ) (ws : List ℕ) : Type 0 where
    room : region.count ≤ free_entries ws + k
    inside : (j : ℕ) → j < k → lookup key_of ws (key_in region j) ≡ region_entry region j
    outside : (x : ℕ) → 0 < x → ((j : ℕ) → j < k → key_in region j ≡ x → ⊥) → lookup key_of ws x ≡ lookup key_of table x

  put_next : (table : List ℕ) (k : ℕ) (ws : List ℕ) → k < region.count → Puts table k ws → Puts table (suc k) (put key_of ws (key_in region k) (region_entry region k))
  put_next table k ws h r =
      let free : 0 < free_entries ws = omega (arith, r.room) in
      let (i, at) = place_room key_of ws (key_in region k) (λ q. free) in
      record {
        room = omega (arith, r.room, free_put key_of ws (key_in region k) (region_entry region k));
        inside = λ j l. ⊎_elim (λ q. rw q (lookup_put_same key_of ws (key_in region k) (region_entry region k) i (entry_key_in k h) at)) (λ n. earlier j (omega arith) n) (equal j k);
        outside = λ x o n. lookup_put_other key_of refl ws (key_in region k) (region_entry region k) x (entry_key_in k h) o (n k (omega arith)) ∙ r.outside x o (λ j l. n j (omega arith));
      }
    where
      earlier : (j : ℕ) → j < k → (j ≡ k → ⊥) → lookup key_of (put key_of ws (key_in region k) (region_entry region k)) (key_in region j) ≡ region_entry region j
      earlier j l n =
          lookup_put_other key_of refl ws (key_in region k) (region_entry region k) (key_in region j) (entry_key_in k h) (omega arith) (keys_apart k j h (omega arith) n) ∙ r.inside j l

  -- all of them
  all_put : (table : List ℕ) → region.count ≤ free_entries table → Puts table region.count (insert_table table region)
  unfolding insert_table
  all_put table room =
      repeat_keeps (λ k ws. put key_of ws (key_in region k) (region_entry region k)) (Puts table) region.count (λ k ws h r. put_next table k ws h r) table
      (record { room = omega arith; inside = λ j l. absurd (omega arith); outside = λ x o n. refl })

  pub insert_seen : (table : List ℕ) → region.count ≤ free_entries table → SameS2Map (map_seen (insert_table table region)) (union_right (map_seen table) (entries_of region))
  insert_seen table room vm gpa v g = ⊎_elim mine other (cases (has_entry region vm gpa))
    where
      goal : Type 0
      goal = map_seen (insert_table table region) vm gpa ≡ union_right (map_seen table) (entries_of region) vm gpa

      at : (k : ℕ) → k < region.count → vm ≡ region.vm.0 → gpa ≡ guest_in region k → has_entry region vm gpa ≡ true → goal
      at k h a b t =
          let e : key vm gpa ≡ key_in region k = rw (a, b) in
          let same : entries_of region vm gpa ≡ entries_of region region.vm.0 (guest_in region k) = rw (a, b) in
          let wins : union_right (map_seen table) (entries_of region) vm gpa ≡ entries_of region vm gpa = rw t in
          ap seen (ap (lookup key_of (insert_table table region)) e ∙ (all_put table room).inside k h) ∙ entry_in k h ∙ sym same ∙ sym wins

      mine : has_entry region vm gpa ≡ true → goal
      mine t = let (k, h, a, b) = key_place region vm gpa t in at k h a b t

      other : has_entry region vm gpa ≡ false → goal
      other f = rw f (ap seen ((all_put table room).outside (key vm gpa) (omega arith) none_here))
        where
          none_here : (j : ℕ) → j < region.count → key_in region j ≡ key vm gpa → ⊥
          none_here j l e =
              let q = key_same region.vm.0 (guest_in region j) vm gpa (guest_below j l) g e in
              true≢false (sym (rw (eq-eqb vm region.vm.0 (sym q.0)) (span_in region.guest.0 region.count gpa (omega (arith, q.1)) (omega (arith, q.1)))) ∙ f)

-- ---- the first k pages of a region, and one more
abbrev pub up_to : Region → ℕ → Region
up_to region k = record { vm = region.vm; guest = region.guest; page = region.page; count = k; access = region.access }

-- no pages, no words
outside_none : (region : Region) (w : ℕ) → in_region (up_to region 0) w ≡ false
outside_none region w =
    let low = leb region.guest.0 (guest_of w) in
    let high = ltb (guest_of w) (region.guest.0 + 0) in
    let mine = is_filled w && eqb (vm_of w) region.vm.0 in
    not_so (mine && low && high)
    (λ t.
    let (a, b) = both (mine && low) high t in
    let (c, d) = both mine low a in
    let l = leb-true region.guest.0 (guest_of w) d in
    let h = ltb-true (guest_of w) (region.guest.0 + 0) b in
    omega arith)

pub removed_none : (region : Region) (ws : List ℕ) → remove_table ws (up_to region 0) ≡ ws
unfolding remove_table
removed_none region ws = wipe_none (in_region (up_to region 0)) (outside_none region) ws

span_more : (base k n : ℕ) → in_span base (suc k) n ≡ (eqb n (base + k) || in_span base k n)
span_more base k n = ⊎_elim (λ q. rw (eq-eqb n (base + k) q) (span_in base (suc k) n (omega arith) (omega arith))) other (equal n (base + k))
  where
    other : (n ≡ base + k → ⊥) → in_span base (suc k) n ≡ (eqb n (base + k) || in_span base k n)
    other d = rw (ne_eqb n (base + k) d) (⊎_elim (λ t. rw t (span_in base (suc k) n (in_span_lem base k n t).0 (omega (arith, (in_span_lem base k n t).1)))) less (cases (in_span base k n)))
      where
        less : in_span base k n ≡ false → in_span base (suc k) n ≡ in_span base k n
        less f = rw f (not_so _ (λ t. let (l, h) = in_span_lem base (suc k) n t in true≢false (sym (span_in base k n l (omega arith)) ∙ f)))

entry_more : (region : Region) (k vm gpa : ℕ) →
    has_entry (up_to region (suc k)) vm gpa ≡ ((eqb vm region.vm.0 && eqb gpa (guest_in region k)) || has_entry (up_to region k) vm gpa)
entry_more region k vm gpa = rw (span_more region.guest.0 k gpa) (and-or_distrib_left (eqb vm region.vm.0) _ _)

-- one page more is one key unmapped, in a walker and in a cache
module _ (region : Region) (k vm gpa : ℕ) (v : vm < VMS) (g : gpa < GUEST_PAGES) where
  pub map-wiped_more : (table : List ℕ) → Distinct key_of table →
      map_seen (remove_table table (up_to region (suc k))) vm gpa ≡ map_at (map_seen (remove_table table (up_to region k))) region.vm.0 (guest_in region k) None vm gpa
  map-wiped_more table once =
      map-wiped (up_to region (suc k)) table vm gpa once v g
      ∙ rw (entry_more region k vm gpa, map-wiped (up_to region k) table vm gpa once v g) (none_either (eqb vm region.vm.0 && eqb gpa (guest_in region k)) _ _)

  pub tlb_wiped_more : (cache : List ℕ) (port : ℕ) → Distinct key_of cache →
      tlb_seen (remove_table cache (up_to region (suc k))) port vm gpa ≡ flushed (tlb_seen (remove_table cache (up_to region k))) region.vm.0 (guest_in region k) port vm gpa
  tlb_wiped_more cache port once =
      tlb_wiped (up_to region (suc k)) cache port vm gpa once v g
      ∙ rw (entry_more region k vm gpa, tlb_wiped (up_to region k) cache port vm gpa once v g) (none_either (eqb vm region.vm.0 && eqb gpa (guest_in region k)) _ _)
