-- Operations 15 to 20, 25 and 26 are upstream's steps, or ours where it has none: ports, fills, emptied slots, barriers.
use Prim.Native.Nat.{ℕ, ◌<◌}
use mathlib.Core.Bool.{true, not, ◌&&◌}
use mathlib.Core.List.{List, [], ◌∷◌}
use mathlib.Core.Logic.{◌⊎◌, inl, inr, ⊎_elim}
use Rattle.std.specs.Prelude.{Option, None, Some}
use mathlib.Core.Path.{◌≡◌, refl, sym, ap, ◌∙◌}
use native.Mathlib.Omega.{arith}
use lib.ListN.{length, get_or, set, length-set}
use lib.Seq.{get_or-set_same, get_or-set_other, set-get_or, set-set}
use borrow.Author.Tests.{eq-eqb, ne_eqb, ltb-true, lt-ltb, not-false}
use Rattle.numbers.specs.CaseLaws.{equal}
use Rattle.std.specs.Prelude.{if◌then◌else◌}
use Rattle.numbers.specs.Limits.{VMS, GUEST_PAGES, PORTS, SLOTS, IDLE}
use Rattle.numbers.specs.Packing.{key, key_of, slot_key, slot_word, entry_of, port_of, vm_of, guest_of, filled_of, WordFits, VM_FIELD}
use Rattle.numbers.specs.PackingLaws.{word_entry, word_filled, word_key, key_filled}
use Rattle.numbers.specs.Meaning.{accept}
use Rattle.numbers.specs.declared.GuestPage.{GuestPage}
use Rattle.numbers.specs.declared.Operation.TheVariants as op
use Rattle.numbers.specs.declared.VmId.{VmId}
use Rattle.numbers.specs.declared.Side.{Side}
use Rattle.numbers.specs.declared.Side.TheVariants.{Cpu, Dma}
use Rattle.numbers.specs.declared.SideOperation.TheVariants as sided
use Rattle.table.specs.ScanLaws.{found_never, found_count}
use Rattle.table.specs.Table.{is_empty, free_entries, lookup, place, Has, Distinct}
use Rattle.table.specs.TableLaws.{IsPlace, find_none, place_is, place_none, place_room, distinct_alone, lookup_has, lookup_none, has_lookup, has_set_inv, has_set_keep, lookup_set_same, lookup_set_other}
use Rattle.model.specs.State.{Tables, Route, State, route, with_side, with_cache, with_ports}
use Rattle.model.specs.Ports.{is_target, port_answer, port_ports, vm_on, fill_place, fill_cache, empty_answer, empty_cache}
use Rattle.model.specs.Views.{is_port, is_slot, is_idle}
use Rattle.model.specs.Step.{fill_route, answer_of}
use Rattle.model.specs.Effect.{quiet, apply, cleared_pages}
use Rattle.model.specs.EarlyLaws.{past, hold}
use Rattle.model.specs.Valid.{SlotGood, CacheGood, ValidTables}
use Rattle.model.specs.Upstream.{S2Entry, tlb_at, seen, map_seen, tlb_seen, active_seen, hardware_view, SameTlb, SameHardware}
use Rattle.model.specs.UpstreamRun.{HardwareStep, HardwareRun, stop, go, fill_call, forget_call, port_calls, fill_calls, empty_calls, HardwareCall, Follows}
use Rattle.model.specs.UpstreamStep.{with_active, answer_at}
use Rattle.model.proofs.RoutesKept.{slot_made}
use Rattle.model.proofs.OneRoute.{route_of_lem, lengths_of}
use Rattle.model.proofs.GoodPorts.{FillPassed, fill_passed}
use Rattle.model.proofs.UpstreamFollows.{same_with, same_software, same_hardware, hardware_once, AcceptedFollows}
use Rattle.model.proofs.UpstreamRoutes.{shown, walk_of_lem, tlb_of_lem, route_hardware}
use Rattle.model.proofs.UpstreamLaws.{seen_same, seen_filled, slot_key_test, key_parts}

-- ---- a place of a table emptied
module _ (ws : List ℕ) (i : ℕ) (once : Distinct key_of ws) (h : i < length ws) (o : 0 < key_of (get_or ws i 0)) where
  emptied_same : lookup key_of (set ws i 0) (key_of (get_or ws i 0)) ≡ 0
  emptied_same = ⊎_elim (λ z. z) (λ n. absurd (gone n)) (equal (lookup key_of (set ws i 0) (key_of (get_or ws i 0))) 0)
    where
      at : (w : ℕ) (r : Has (set ws i 0) w) → key_of w ≡ key_of (get_or ws i 0) → (r.spot ≡ i) ⊎ (r.spot ≡ i → ⊥) → ⊥
      at w r e (inl q) = r.filled (sym r.holds ∙ rw q (get_or-set_same ws i 0 0 h))
      at w r e (inr n) =
          let l : r.spot < length ws = rw length-set at r.within in
          distinct_alone key_of ws (key_of (get_or ws i 0)) i once o h refl r.spot l n (ap key_of (sym (get_or-set_other ws i r.spot 0 0 n) ∙ r.holds) ∙ e)

      gone : (lookup key_of (set ws i 0) (key_of (get_or ws i 0)) ≡ 0 → ⊥) → ⊥
      gone n = let (r, e) = lookup_has key_of (set ws i 0) (key_of (get_or ws i 0)) n in at _ r e (equal r.spot i)

  emptied_other : (k : ℕ) → 0 < k → (key_of (get_or ws i 0) ≡ k → ⊥) → lookup key_of (set ws i 0) k ≡ lookup key_of ws k
  emptied_other k p n = ⊎_elim none_left stays (equal (lookup key_of (set ws i 0) k) 0)
    where
      keep : (lookup key_of ws k ≡ 0 → ⊥) → lookup key_of (set ws i 0) k ≡ 0 → ⊥
      keep m z =
          let (r, e) = lookup_has key_of ws k m in
          lookup_none key_of refl (set ws i 0) k _ p z (has_set_keep key_of ws (key_of (get_or ws i 0)) i 0 _ (inl refl) r (λ q. n (sym q ∙ e))) e

      none_left : lookup key_of (set ws i 0) k ≡ 0 → lookup key_of (set ws i 0) k ≡ lookup key_of ws k
      none_left z = ⊎_elim (λ y. z ∙ sym y) (λ m. absurd (keep m z)) (equal (lookup key_of ws k) 0)

      old : (w : ℕ) → Has (set ws i 0) w → key_of w ≡ k → w ≡ lookup key_of ws k
      old w r e = ⊎_elim (λ z. absurd (r.filled z)) (λ q. sym (rw e at (has_lookup key_of ws w once q (rw e p)))) (has_set_inv ws i 0 w r)

      stays : (lookup key_of (set ws i 0) k ≡ 0 → ⊥) → lookup key_of (set ws i 0) k ≡ lookup key_of ws k
      stays m = let (r, e) = lookup_has key_of (set ws i 0) k m in old _ r e

-- ---- what a cache shows after an edit
-- with one key's slot replaced
at_slot : (cache cache' : List ℕ) (port vm gpa : ℕ) (answer : Option S2Entry) → vm < VM_FIELD → gpa < GUEST_PAGES → seen (lookup key_of cache' (slot_key port vm gpa)) ≡ answer →
    ((other : ℕ) → 0 < other → (slot_key port vm gpa ≡ other → ⊥) → lookup key_of cache' other ≡ lookup key_of cache other) →
    SameTlb (tlb_seen cache') (tlb_at (tlb_seen cache) port vm gpa answer)
at_slot cache cache' port vm gpa answer v g here there c u q c' u' q' =
    rw (slot_key_test port vm gpa c u q v (omega arith) g q')
    (⊎_elim (λ e. rw (eq-eqb (slot_key port vm gpa) (slot_key c u q) e) (rw (← e) here))
    (λ n. rw (ne_eqb (slot_key port vm gpa) (slot_key c u q) n) (ap seen (there (slot_key c u q) (omega arith) n))) (equal (slot_key port vm gpa) (slot_key c u q)))

module _ (walker cache : List ℕ) (good : CacheGood walker cache) where
  -- emptied
  forget_seen : (i : ℕ) → i < length cache → (get_or cache i 0 ≡ 0 → ⊥) →
      SameTlb (tlb_seen (set cache i 0)) (tlb_at (tlb_seen cache) (port_of (get_or cache i 0)) (vm_of (get_or cache i 0)) (guest_of (get_or cache i 0)) None)
  unfolding seen
  forget_seen i h n =
      let w = get_or cache i 0 in
      let f : filled_of w ≡ 1 = (good.each w (record { spot = i; within = h; holds = refl; filled = n })).filled in
      let k : key_of w ≡ slot_key (port_of w) (vm_of w) (guest_of w) = key_parts w f in
      let o = key_filled w f in
      at_slot cache (set cache i 0) (port_of w) (vm_of w) (guest_of w) None (omega arith) (omega arith)
      (rw (← k, emptied_same cache i good.once h o))
      (λ other p d. emptied_other cache i good.once h o other p (λ q. d (sym k ∙ q)))

-- filled at a place that is the key's, or is empty where the key is nowhere
fill_seen : (walker cache : List ℕ) (port vm gpa i : ℕ) → port < PORTS → vm < VMS → gpa < GUEST_PAGES → (lookup key_of walker (key vm gpa) ≡ 0 → ⊥) →
    SlotGood walker (slot_word port vm gpa (entry_of (lookup key_of walker (key vm gpa)))) → IsPlace key_of cache (slot_key port vm gpa) i →
    SameTlb (tlb_seen (set cache i (slot_word port vm gpa (entry_of (lookup key_of walker (key vm gpa)))))) (tlb_at (tlb_seen cache) port vm gpa (map_seen walker vm gpa))
fill_seen walker cache port vm gpa i c v g walks made at =
    let u = lookup key_of walker (key vm gpa) in
    let w = slot_word port vm gpa (entry_of u) in
    let f : WordFits vm gpa (entry_of (lookup key_of walker (key vm gpa))) = record { vm_fits = omega arith; guest_fits = g; low_fits = omega arith } in
    let k = word_key port f (sym (word_filled port f) ∙ made.filled) in
    at_slot cache (set cache i w) port vm gpa (map_seen walker vm gpa) f.vm_fits g
    (rw (lookup_set_same key_of cache (slot_key port vm gpa) i w k at) (seen_same w u (λ z. omega (arith, made.filled)) walks (word_entry port f)))
    (λ other o d. lookup_set_other key_of refl cache (slot_key port vm gpa) i w other k at.fits o d)

-- ---- steps of a side's cache
module _ (side : Side) (t : Tables) (memory : List ℕ) (r : Route) where
  forget_step : (cache : List ℕ) (hand w : ℕ) → SameTlb (tlb_seen cache) (tlb_at (tlb_seen r.cache) (port_of w) (vm_of w) (guest_of w) None) →
      HardwareStep (forget_call side w) (shown side t memory r) (shown side t memory (with_cache r cache hand))
  forget_step cache hand w e =
      rw (walk_of_lem side t memory r, tlb_of_lem side t memory r)
      (route_hardware side t memory r (with_cache r cache hand) _ _ refl (λ vm gpa v g. refl) e)

active_is : (ports : List ℕ) (port : ℕ) → vm_on ports port < VMS → active_seen ports port ≡ Some (vm_on ports port)
unfolding active_seen
active_is ports port v = rw (lt-ltb (vm_on ports port) VMS v)

fill_step : (side : Side) (t : Tables) (memory : List ℕ) (r : Route) (cache : List ℕ) (hand port gpa : ℕ) → vm_on r.ports port < VMS →
    (lookup key_of r.walker (key (vm_on r.ports port) gpa) ≡ 0 → ⊥) →
    SameTlb (tlb_seen cache) (tlb_at (tlb_seen r.cache) port (vm_on r.ports port) gpa (map_seen r.walker (vm_on r.ports port) gpa)) →
    HardwareStep (fill_call side port (vm_on r.ports port) gpa) (shown side t memory r) (shown side t memory (with_cache r cache hand))
fill_step Cpu t memory r cache hand port gpa v n e =
    record {
      active = active_is r.ports port v;
      reachable = seen_filled _ ∙ rw (ne_eqb _ 0 n);
      next = route_hardware Cpu t memory r (with_cache r cache hand) _ _ refl (λ vm gpa v g. refl) e;
    }
fill_step Dma t memory r cache hand port gpa v n e =
    record {
      reachable = seen_filled _ ∙ rw (ne_eqb _ 0 n);
      next = route_hardware Dma t memory r (with_cache r cache hand) _ _ refl (λ vm gpa v g. refl) e;
    }

-- ---- a fill: the key's slot, an empty one, or the one at the hand, which is given up first
full_slot : (ws : List ℕ) (k i : ℕ) → place key_of ws k ≡ None → i < length ws → get_or ws i 0 ≡ 0 → ⊥
unfolding free_entries
full_slot ws k i e h z =
    let (j, at) = place_room key_of ws k (λ q. found_count is_empty ws i h (eq-eqb (get_or ws i 0) 0 z)) in
    found_never j (sym at ∙ e)

-- once given up it is a place for the key
given_up_lem : (ws : List ℕ) (k i : ℕ) → place key_of ws k ≡ None → i < length ws → IsPlace key_of (set ws i 0) k i
given_up_lem ws k i e h =
    record {
      within = rw length-set h;
      fits = inr (get_or-set_same ws i 0 0 h);
      alone = λ j l n q. find_none key_of ws k (place_none key_of ws k e) j (rw length-set at l) (rw (get_or-set_other ws i j 0 0 n) at q);
    }

module _ (side : Side) (t : Tables) (memory : List ℕ) (r : Route) (good : CacheGood r.walker r.cache) (long : length r.cache ≡ SLOTS) (low : r.hand < SLOTS)
    (port gpa : ℕ) (a : FillPassed r.ports r.walker port gpa) where
  filled_at : (cache : List ℕ) (i hand : ℕ) → IsPlace key_of cache (slot_key port (vm_on r.ports port) gpa) i →
      HardwareStep (fill_call side port (vm_on r.ports port) gpa) (shown side t memory (with_cache r cache r.hand))
      (shown side t memory (with_cache r (set cache i (slot_word port (vm_on r.ports port) gpa (entry_of (lookup key_of r.walker (key (vm_on r.ports port) gpa))))) hand))
  filled_at cache i hand at =
      let vm = vm_on r.ports port in
      fill_step side t memory (with_cache r cache r.hand) _ hand port gpa a.vm_ok a.walks
      (fill_seen r.walker cache port vm gpa i a.port_ok a.vm_ok a.guest_ok a.walks
      (slot_made r.walker port vm gpa a.port_ok a.vm_ok a.guest_ok a.walks) at)

  pub fill_run : HardwareRun (fill_calls side r port gpa) (shown side t memory r) (shown side t memory (fill_route r port gpa))
  unfolding fill_cache fill_place
  fill_run = by_place (place key_of r.cache (slot_key port (vm_on r.ports port) gpa)) refl
    where
      goal : Type 0
      goal = HardwareRun (fill_calls side r port gpa) (shown side t memory r) (shown side t memory (fill_route r port gpa))

      by_place : (f : Option ℕ) → place key_of r.cache (slot_key port (vm_on r.ports port) gpa) ≡ f → goal
      by_place (Some i) e = rw e (hardware_once (filled_at r.cache i _ (place_is key_of r.cache _ i good.once (omega arith) e)))
      by_place None e =
          let h : r.hand < length r.cache = omega arith in
          let n = full_slot r.cache _ r.hand e h in
          rw (e, ← set-set r.cache r.hand 0 _)
          (go (forget_step side t memory r (set r.cache r.hand 0) r.hand _ (forget_seen r.walker r.cache good r.hand h n))
          (hardware_once (filled_at (set r.cache r.hand 0) r.hand _ (given_up_lem r.cache _ r.hand e h))))

-- ---- an emptied slot
empty_run : (side : Side) (t : Tables) (memory : List ℕ) (r : Route) (slot : ℕ) → CacheGood r.walker r.cache → slot < length r.cache →
    HardwareRun (empty_calls side r slot) (shown side t memory r) (shown side t memory (with_cache r (empty_cache r.cache slot) r.hand))
empty_run side t memory r slot good h = ⊎_elim None Some (equal (get_or r.cache slot 0) 0)
  where
    goal : Type 0
    goal = HardwareRun (empty_calls side r slot) (shown side t memory r) (shown side t memory (with_cache r (empty_cache r.cache slot) r.hand))

    None : get_or r.cache slot 0 ≡ 0 → goal
    None z =
        let same : set r.cache slot 0 ≡ r.cache = rw z at (set-get_or r.cache slot 0) in
        rw (eq-eqb (get_or r.cache slot 0) 0 z, same) (stop (same_hardware _))

    Some : (get_or r.cache slot 0 ≡ 0 → ⊥) → goal
    Some n =
        rw (ne_eqb (get_or r.cache slot 0) 0 n)
        (hardware_once (forget_step side t memory r (set r.cache slot 0) r.hand _ (forget_seen r.walker r.cache good slot h n)))

-- ---- a CPU switched
active_set : (ports : List ℕ) (port n : ℕ) → port < length ports → (cpu : ℕ) →
    active_seen (set ports port n) cpu ≡ answer_at (active_seen ports) port (if is_idle n then None else Some n) cpu
unfolding active_seen
active_set ports port n h cpu =
    ⊎_elim (λ q. rw (eq-eqb cpu port q) (rw (q, get_or-set_same ports port n IDLE h))) (λ d. rw (ne_eqb cpu port d, get_or-set_other ports port cpu n IDLE d)) (equal cpu port)

ports_hardware : (s : State) (ports : List ℕ) (active : ℕ → Option ℕ) → ((cpu : ℕ) → active_seen ports cpu ≡ active cpu) →
    SameHardware (hardware_view (record { tables = with_side Cpu s.tables (with_ports s.tables.cpu ports) s.tables.sets; memory = s.memory })) (with_active (hardware_view s) active)
ports_hardware s ports active e =
    same_with (hardware_view (record { tables = with_side Cpu s.tables (with_ports s.tables.cpu ports) s.tables.sets; memory = s.memory })) _ active (λ address. refl) e

switch_run : (s : State) (port : ℕ) (target : Option VmId) → port < length s.tables.cpu.ports → is_target target ≡ true →
    HardwareRun (port_calls Cpu port target) (hardware_view s)
    (hardware_view (record { tables = with_side Cpu s.tables (with_ports s.tables.cpu (port_ports s.tables.cpu.ports port target)) s.tables.sets; memory = s.memory }))
switch_run s port None h e = hardware_once (ports_hardware s (set s.tables.cpu.ports port IDLE) _ (active_set s.tables.cpu.ports port IDLE h))
switch_run s port (Some vm) h e =
    hardware_once (ports_hardware s (set s.tables.cpu.ports port vm.0) _ (λ cpu. active_set s.tables.cpu.ports port vm.0 h cpu ∙ rw e))

-- ---- the operations
-- what a device is bound to is in neither view
port_run : (side : Side) (s : State) (port : ℕ) (target : Option VmId) → port < length (route side s.tables).ports → is_target target ≡ true →
    Follows s (record {
      tables = with_side side s.tables
          (with_ports (route side s.tables) (port_ports (route side s.tables).ports port target)) s.tables.sets;
      memory = s.memory;
    }) [] (port_calls side port target)
port_run Cpu s port target h e = record { software = stop (same_software _); hardware = switch_run s port target h e }
port_run Dma s port target h e = record { software = stop (same_software _); hardware = stop (same_hardware _) }

slot_below : (slot : ℕ) {dropped word : ℕ} → empty_answer slot ≡ accept dropped word → slot < SLOTS
unfolding empty_answer
slot_below slot e = ltb-true slot SLOTS (not-false _ (past (not (is_slot slot)) _ _ _ e).0)

-- a run of hardware steps that leaves the side's maps and ports
cache_only : (side : Side) (s : State) (cache : List ℕ) (hand : ℕ) (calls : List HardwareCall) →
    HardwareRun calls (shown side s.tables s.memory (route side s.tables)) (shown side s.tables s.memory (with_cache (route side s.tables) cache hand)) →
    Follows s (record { tables = with_side side s.tables (with_cache (route side s.tables) cache hand) s.tables.sets; memory = s.memory }) [] calls
cache_only Cpu s cache hand calls run = record { software = stop (same_software _); hardware = run }
cache_only Dma s cache hand calls run = record { software = stop (same_software _); hardware = run }

module _ (side : Side) (s : State) (valid : ValidTables s.tables) where
  pub port_follows : (port : ℕ) (target : Option VmId) {dropped word : ℕ} → answer_of s.tables (op.On side (sided.GivePort port target)) ≡ accept dropped word →
      AcceptedFollows s (op.On side (sided.GivePort port target))
  unfolding port_answer apply cleared_pages
  port_follows port target e =
      let (a, b) = past (not (is_port port && is_target target)) _ _ _ e in
      let (p, r) = hold (is_port port) (is_target target) a in
      port_run side s port target (rw (lengths_of side s.tables valid).ports (ltb-true port PORTS p)) r

  pub fill_follows : (port : ℕ) (guest : GuestPage) {dropped word : ℕ} → answer_of s.tables (op.On side (sided.FillSlot port guest)) ≡ accept dropped word →
      AcceptedFollows s (op.On side (sided.FillSlot port guest))
  unfolding apply cleared_pages
  fill_follows port guest e =
      let r = route side s.tables in
      let g = route_of_lem side s.tables valid in
      cache_only side s _ _ _ (fill_run side s.tables s.memory r g.cache (lengths_of side s.tables valid).cache g.hand port guest.0
      (fill_passed r.ports r.walker port guest.0 e))

  pub empty_follows : (slot : ℕ) {dropped word : ℕ} → answer_of s.tables (op.On side (sided.EmptySlot slot)) ≡ accept dropped word →
      AcceptedFollows s (op.On side (sided.EmptySlot slot))
  unfolding apply cleared_pages
  empty_follows slot e =
      let r = route side s.tables in
      cache_only side s _ _ _ (empty_run side s.tables s.memory r slot (route_of_lem side s.tables valid).cache
      (rw (lengths_of side s.tables valid).cache (slot_below slot e)))

-- a barrier, of either kind
pub barrier_follows : (s : State) (call : HardwareCall) → HardwareStep call (hardware_view s) (hardware_view s) →
    Follows s (record { tables = s.tables; memory = apply quiet s.memory }) [] (call ∷ [])
unfolding apply cleared_pages
barrier_follows s call same = record { software = stop (same_software _); hardware = hardware_once same }
