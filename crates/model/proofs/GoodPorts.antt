-- Operations 15 to 20 owe what a step owes: a CPU switched or a device bound, a slot filled, a slot emptied.
use Prim.Native.Nat.{ℕ, ◌<◌}
use mathlib.Core.Bool.{true, not, ◌&&◌}
use mathlib.Core.List.{List}
use mathlib.Core.Logic.{◌⊎◌, inl, inr, ⊎_elim}
use mathlib.Core.Path.{◌≡◌, refl, sym, ◌∙◌}
use native.Mathlib.Omega.{arith}
use borrow.Author.Tests.{ltb-true, not-false}
use Rattle.numbers.specs.CaseLaws.{cases}
use Rattle.numbers.specs.Limits.{VMS, GUEST_PAGES, PORTS, SLOTS, IDLE}
use Rattle.numbers.specs.Meaning.{target_number, accept}
use Rattle.numbers.specs.Packing.{key_of, key, slot_key, entry_of, WordFits}
use Rattle.numbers.specs.PackingLaws.{word_key, word_filled}
use Rattle.numbers.specs.declared.Operation.TheVariants as op
use Rattle.numbers.specs.declared.SideOperation.TheVariants as sided
use Rattle.numbers.specs.declared.GuestPage.{GuestPage}
use Rattle.numbers.specs.declared.Side.{Side}
use Rattle.std.specs.Prelude.{Option, None, Some}
use Rattle.numbers.specs.declared.VmId.{VmId}
use Rattle.table.specs.ScanLaws.{found_never}
use Rattle.table.specs.Table.{find, lookup, place, is_found}
use Rattle.table.specs.TableLaws.{found_at, lookup_nothing}
use Rattle.model.specs.State.{Tables, route, with_ports}
use Rattle.model.specs.Views.{is_port, is_guest, is_idle, knows}
use Rattle.model.specs.Ports.{is_target, knows_target, port_answer, port_ports, vm_on, fill_answer, fill_cache, fill_hand}
use Rattle.model.specs.Step.{fill_route, answer_of}
use Rattle.model.specs.EarlyLaws.{past, hold}
use Rattle.model.specs.ShapeLaws.{same_switched, same_filled, same_emptied}
use Rattle.model.specs.Valid.{CacheGood, ValidTables}
use Rattle.model.proofs.Refused.{AcceptedGood}
use Rattle.model.proofs.RoutesKept.{cache_fill, cache_empty, slot_made, next_hand_lem, ports_set}
use Rattle.model.proofs.OneRoute.{GoodRoute, route_of_lem, lengths_of, cache_route, ports_route, route_good}

-- ---- a port
target_good : (known : ℕ) (target : Option VmId) → knows_target known target ≡ true → (target_number target ≡ IDLE) ⊎ (knows known (target_number target) ≡ true)
target_good known None e = inl refl
target_good known (Some vm) e = inr e

-- what an accepted switch or binding tells
record PortPassed (known port : ℕ) (target : Option VmId) : Type 0 where
  port_ok : port < PORTS
  target_ok : (target_number target ≡ IDLE) ⊎ (knows known (target_number target) ≡ true)

port_passed : (known port : ℕ) (target : Option VmId) {dropped word : ℕ} → port_answer known port target ≡ accept dropped word → PortPassed known port target
unfolding port_answer
port_passed known port target e =
    let (a, b) = past (not (is_port port && is_target target)) _ _ _ e in
    let (c, d) = past (not (knows_target known target)) _ _ _ b in
    record { port_ok = ltb-true port PORTS (hold (is_port port) (is_target target) a).0; target_ok = target_good known target (not-false _ c) }

port_kept : (side : Side) (t : Tables) → ValidTables t → (port : ℕ) (target : Option VmId) → PortPassed t.known port target → GoodRoute side t (with_ports (route side t) (port_ports (route side t).ports port target))
port_kept side t v port target a =
    let g = route_of_lem side t v in
    ports_route side t (route side t) _ g (ports_set t.known (route side t).ports port (target_number target) (lengths_of side t v).ports a.port_ok a.target_ok g.ports)

pub port_good : (side : Side) (t : Tables) → ValidTables t → (port : ℕ) (target : Option VmId) {dropped word : ℕ} → answer_of t (op.On side (sided.GivePort port target)) ≡ accept dropped word → AcceptedGood t (op.On side (sided.GivePort port target))
port_good side t v port target e =
    route_good side t v _ _ _ (same_switched (route side t) port target) (port_kept side t v port target (port_passed t.known port target e))

-- ---- a slot filled
pub record FillPassed (ports walker : List ℕ) (port guest : ℕ) : Type 0 where
  pub port_ok : port < PORTS
  pub guest_ok : guest < GUEST_PAGES
  pub vm_ok : vm_on ports port < VMS
  pub walks : lookup key_of walker (key (vm_on ports port) guest) ≡ 0 → ⊥

pub fill_passed : (ports walker : List ℕ) (port guest : ℕ) {dropped word : ℕ} → fill_answer ports walker port guest ≡ accept dropped word → FillPassed ports walker port guest
unfolding fill_answer
fill_passed ports walker port guest e =
    let (a, b) = past (not (is_port port && is_guest guest)) _ _ _ e in
    let (c, d) = past (is_idle (vm_on ports port)) _ _ _ b in
    let (f, h) = past (not (is_found (find key_of walker (key (vm_on ports port) guest)))) _ _ _ d in
    let (p, g) = hold (is_port port) (is_guest guest) a in
    let (i, q) = found_at (find key_of walker (key (vm_on ports port) guest)) (not-false _ f) in
    record {
      port_ok = ltb-true port PORTS p;
      guest_ok = ltb-true guest GUEST_PAGES g;
      vm_ok = ltb-true _ VMS (not-false _ c);
      walks = λ z. found_never i (sym q ∙ lookup_nothing key_of refl walker (key (vm_on ports port) guest) (omega arith) z);
    }

fill_cache_lem : (cache : List ℕ) (hand : ℕ) (ports walker : List ℕ) (port guest : ℕ) → FillPassed ports walker port guest → CacheGood walker cache → CacheGood walker (fill_cache cache hand ports walker port guest)
unfolding fill_cache
fill_cache_lem cache hand ports walker port guest a g =
    let vm = vm_on ports port in
    let f : WordFits (vm_on ports port) guest (entry_of (lookup key_of walker (key (vm_on ports port) guest))) = record { vm_fits = omega (arith, a.vm_ok); guest_fits = a.guest_ok; low_fits = omega arith } in
    let s = slot_made walker port vm guest a.port_ok a.vm_ok a.guest_ok a.walks in
    cache_fill walker cache g hand (slot_key port vm guest) _ s (word_key port f (sym (word_filled port f) ∙ s.filled))

fill_hand_lem : (cache : List ℕ) (hand : ℕ) (ports : List ℕ) (port guest : ℕ) → hand < SLOTS → fill_hand cache hand ports port guest < SLOTS
unfolding fill_hand
fill_hand_lem cache hand ports port guest h = ⊎_elim (λ t. rw t h) (λ f. rw f (next_hand_lem hand)) (cases (is_found (place key_of cache (slot_key port (vm_on ports port) guest))))

fill_kept : (side : Side) (t : Tables) → ValidTables t → (port guest : ℕ) → FillPassed (route side t).ports (route side t).walker port guest → GoodRoute side t (fill_route (route side t) port guest)
fill_kept side t v port guest a =
    let g = route_of_lem side t v in
    let r = route side t in
    cache_route side t r _ _ g (fill_cache_lem r.cache r.hand r.ports r.walker port guest a g.cache) (fill_hand_lem r.cache r.hand r.ports port guest g.hand)

pub fill_good : (side : Side) (t : Tables) → ValidTables t → (port : ℕ) (guest : GuestPage) {dropped word : ℕ} → answer_of t (op.On side (sided.FillSlot port guest)) ≡ accept dropped word → AcceptedGood t (op.On side (sided.FillSlot port guest))
fill_good side t v port guest e =
    route_good side t v _ _ _ (same_filled (route side t) port guest.0)
    (fill_kept side t v port guest.0 (fill_passed (route side t).ports (route side t).walker port guest.0 e))

-- ---- a slot emptied, whichever it is
pub empty_good : (side : Side) (t : Tables) → ValidTables t → (slot : ℕ) → AcceptedGood t (op.On side (sided.EmptySlot slot))
empty_good side t v slot =
    let g = route_of_lem side t v in
    route_good side t v _ _ _ (same_emptied (route side t) slot)
    (cache_route side t (route side t) _ _ g (cache_empty (route side t).walker (route side t).cache g.cache slot) g.hand)
