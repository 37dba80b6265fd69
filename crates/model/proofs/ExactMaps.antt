-- Operations 7 to 10 and 15 to 24 are accepted exactly where their conditions hold, on either side.
use Prim.{Unit, tt}
use Prim.Native.Nat.{ℕ, ◌/◌, ◌%◌, ◌<◌}
use mathlib.Core.Bool.{true, not, ◌&&◌}
use mathlib.Core.Logic.{◌⊎◌, inl, inr, ⊎_elim}
use mathlib.Core.Path.{◌≡◌, refl, sym, ap, ◌∙◌}
use native.Mathlib.Omega.{arith}
use lib.Dec.{eqb}
use borrow.Author.Tests.{eqb-false}
use Rattle.numbers.specs.CaseLaws.{cases}
use Rattle.std.specs.Prelude.{if◌then◌else◌}
use Rattle.numbers.specs.Limits.{VMS, GUEST_PAGES, PAGE_WORDS, PORTS, SLOTS, ACCESSES, GENERATIONS}
use Rattle.numbers.specs.Decides.{Decides}
use Rattle.numbers.specs.DecidesLaws.{always, decides_as, decides_itself, decides_less, decides_equal, decides_and}
use Rattle.numbers.specs.Packing.{access_of, key, key_of, slot_key}
use Rattle.numbers.specs.PackingLaws.{unported, unported_access, slot_address}
use Rattle.numbers.specs.Meaning.{accept, refuse}
use Rattle.numbers.specs.declared.Refusal.TheVariants.{MappingDiffers, AccessLacking}
use Rattle.numbers.specs.declared.Side.{Side}
use Rattle.std.specs.Prelude.{Option, None, Some}
use Rattle.numbers.specs.declared.VmId.{VmId}
use Rattle.table.specs.Table.{Has, place, is_found, lookup, free_entries}
use Rattle.table.specs.TableLaws.{lookup_has}
use Rattle.model.specs.State.{Tables, route}
use Rattle.model.specs.Views.{knows}
use Rattle.model.specs.Valid.{ValidTables}
use Rattle.model.specs.EarlyLaws.{both}
use Rattle.model.specs.Maps.{map_early, unmap_early, map_answer, unmap_answer, map_may, unmap_may}
use Rattle.model.specs.Ports.{is_target, knows_target, port_answer, vm_on, fill_answer, empty_answer}
use Rattle.model.specs.Access.{translate, allows, access_answer}
use Rattle.model.specs.Conditions.{accepts, Maps, Mapped, TargetGood, MapsPage, UnmapsPage, GivesPort, Fills, EmptiesSlot, Accesses}
use Rattle.model.proofs.OneRoute.{route_of_lem}
use Rattle.model.proofs.ExactLaws.{unless, where_so, after_early, after_check, dropping_exact}
use Rattle.model.proofs.ExactViews.{place_exact, mapped_exact, lookup_mapped, mapped_lookup, may_exact}

-- ---- early checks
map-early : (known pages vm guest page access generation : ℕ) →
    Decides (accepts (map_early known pages vm guest page access generation))
    ((((((vm < VMS) × (guest < GUEST_PAGES)) × (page < pages)) × (access < ACCESSES)) × (generation < GENERATIONS)) × ((knows known vm ≡ true) × Unit {0}))
map-early known pages vm guest page access generation =
    where_so _ _ _ _
    (decides_and (decides_and (decides_and (decides_and (decides_less vm VMS) (decides_less guest GUEST_PAGES)) (decides_less page pages)) (decides_less access ACCESSES)) (decides_less generation GENERATIONS))
    (where_so _ _ _ _ (decides_itself (knows known vm)) always)

unmap_early_lem : (known vm guest : ℕ) → Decides (accepts (unmap_early known vm guest)) (((vm < VMS) × (guest < GUEST_PAGES)) × ((knows known vm ≡ true) × Unit {0}))
unmap_early_lem known vm guest =
    where_so _ _ _ _ (decides_and (decides_less vm VMS) (decides_less guest GUEST_PAGES)) (where_so _ _ _ _ (decides_itself (knows known vm)) always)

-- ---- 15, 16
target_exact : (t : Tables) (target : Option VmId) → Decides (is_target target && knows_target t.known target) (TargetGood t target)
target_exact t None = always
target_exact t (Some vm) = decides_and (decides_less vm.0 VMS) (decides_itself (knows t.known vm.0))

pub port_exact : (t : Tables) (port : ℕ) (target : Option VmId) → Decides (accepts (port_answer t.known port target)) (GivesPort t port target)
unfolding port_answer
port_exact t port target =
    decides_as
    (where_so _ _ _ _ (decides_and (decides_less port PORTS) (decides_itself (is_target target))) (where_so _ _ _ _ (decides_itself (knows_target t.known target)) always))
    (λ ((ok, a), (b, _)). record { port_ok = ok; target_ok = (target_exact t target).sound (rw a b) })
    (λ c. let (a, b) = both (is_target target) (knows_target t.known target) ((target_exact t target).complete c.target_ok) in ((c.port_ok, a), (b, tt)))

-- ---- 19, 20
pub empty_exact : (slot : ℕ) → Decides (accepts (empty_answer slot)) (EmptiesSlot slot)
unfolding empty_answer
empty_exact slot = decides_as (where_so _ _ _ _ (decides_less slot SLOTS) always) (λ p. p.0) (λ h. (h, tt))

module _ (side : Side) (t : Tables) (v : ValidTables t) where
  -- ---- 7, 8
  room_exact : (vm guest : ℕ) → guest < GUEST_PAGES → Decides (is_found (place key_of (route side t).map (key vm guest))) (Mapped (route side t).map vm guest ⊎ (0 < free_entries (route side t).map))
  room_exact vm guest g =
      let d = mapped_exact (route_of_lem side t v).map vm guest g in
      decides_as (place_exact key_of (route side t).map (key vm guest)) (⊎_elim (λ e. inl (d.sound e)) inr) (⊎_elim (λ m. inl (d.complete m)) inr)

  pub map-exact : (vm guest page access generation : ℕ) →
      Decides (accepts (map_answer side t.known t.setup.pages t.sets t.pairs (route side t).map (route side t).cache vm guest page access generation)) (MapsPage side t vm guest page access generation)
  unfolding map_answer map_may
  map-exact vm guest page access generation =
      dropping_exact (map_may side t.known t.setup.pages t.sets t.pairs (route side t).map vm guest page access generation) _
      (decides_as
      (after_early (map_early t.known t.setup.pages vm guest page access generation) _ (map-early t.known t.setup.pages vm guest page access generation)
      (λ (((((a, g), p), x), n), _). where_so _ _ _ _ (may_exact t v side vm page) (where_so _ _ _ _ (room_exact vm guest g) always)))
      (λ ((((((a, g), p), x), n), (k, _)), (may, (room, _))).
      record { vm_ok = a; guest_ok = g; page_ok = p; access_ok = x; generation_ok = n; known = k; may = may; room = room })
      (λ c. ((((((c.vm_ok, c.guest_ok), c.page_ok), c.access_ok), c.generation_ok), (c.known, tt)), (c.may, (c.room, tt)))))

  -- ---- 9, 10
  pub unmap_exact : (vm guest : ℕ) → Decides (accepts (unmap_answer t.known (route side t).map (route side t).cache vm guest)) (UnmapsPage side t vm guest)
  unfolding unmap_answer unmap_may
  unmap_exact vm guest =
      dropping_exact (unmap_may t.known (route side t).map vm guest) _
      (decides_as
      (after_early (unmap_early t.known vm guest) _ (unmap_early_lem t.known vm guest)
      (λ ((a, g), _). where_so _ _ _ _ (mapped_exact (route_of_lem side t v).map vm guest g) always))
      (λ (((a, g), (k, _)), (m, _)). record { vm_ok = a; guest_ok = g; known = k; mapped = m })
      (λ c. (((c.vm_ok, c.guest_ok), (c.known, tt)), (c.mapped, tt))))

  -- ---- 17, 18
  pub fill_exact : (port guest : ℕ) → Decides (accepts (fill_answer (route side t).ports (route side t).walker port guest)) (Fills side t port guest)
  unfolding fill_answer
  fill_exact port guest =
      decides_as
      (after_check _ _ _ _ (decides_and (decides_less port PORTS) (decides_less guest GUEST_PAGES))
      (λ (p, g). where_so _ _ _ _ (decides_less (vm_on (route side t).ports port) VMS) (where_so _ _ _ _ (mapped_exact (route_of_lem side t v).walker (vm_on (route side t).ports port) guest g) always)))
      (λ ((p, g), (a, (m, _))). record { port_ok = p; guest_ok = g; vm = vm_on (route side t).ports port; vm_ok = a; runs = refl; mapped = m })
      (λ c. ((c.port_ok, c.guest_ok), (rw c.runs c.vm_ok, (rw c.runs c.mapped, tt))))

  -- ---- 21 to 24
  -- the walker's word, and what a translation has of it
  abbrev walks : ℕ → ℕ → ℕ
  walks vm guest = lookup key_of (route side t).walker (key vm guest)

  record Translated (vm guest w : ℕ) : Type 0 where
    none : w ≡ 0 → walks vm guest ≡ 0
    some : walks vm guest ≡ 0 → w ≡ 0
    access : access_of w ≡ access_of (walks vm guest)

  by_slot : (port vm guest w : ℕ) → vm < VMS → guest < GUEST_PAGES → Has (route side t).cache w → key_of w ≡ slot_key port vm guest → Translated vm guest w
  by_slot port vm guest w a g h e =
      let s = (route_of_lem side t v).cache.each w h in
      let q : walks vm guest ≡ unported w = rw (← slot_address port vm guest w (omega arith) g e) s.entry in
      record { none = λ z. absurd (h.filled z); some = λ z. absurd (let y = sym q ∙ z in omega (arith, s.filled)); access = sym (unported_access w) ∙ ap access_of (sym q) }

  translated : (port vm guest : ℕ) → vm < VMS → guest < GUEST_PAGES → Translated vm guest (translate (route side t).cache (route side t).walker port vm guest)
  unfolding translate
  translated port vm guest a g =
      ⊎_elim (λ e. rw e (record { none = λ z. z; some = λ z. z; access = refl }))
      (λ f. rw f (let (h, e) = lookup_has key_of (route side t).cache (slot_key port vm guest) (eqb-false _ 0 f) in by_slot port vm guest _ a g h e))
      (cases (eqb (lookup key_of (route side t).cache (slot_key port vm guest)) 0))

  -- the walker's mapping of the guest page, where it has the access bit
  record Allowed (bit vm guest : ℕ) : Type 0 where
    page : ℕ
    access : ℕ
    generation : ℕ
    mapped : Maps (route side t).walker vm guest page access generation
    allowed : access / bit % 2 ≡ 1

  allowed_exact : (bit port vm guest : ℕ) → vm < VMS → guest < GUEST_PAGES →
      Decides (accepts (if eqb (translate (route side t).cache (route side t).walker port vm guest) 0 then refuse MappingDiffers 0 else if not (allows bit (translate (route side t).cache (route side t).walker port vm guest)) then refuse AccessLacking 0 else accept 0 0)) (Allowed bit vm guest)
  allowed_exact bit port vm guest a g = decides_as (unless _ _ _ _ (decides_equal w 0) (where_so _ _ _ _ (decides_equal (access_of w / bit % 2) 1) always)) to fro
    where
      w : ℕ
      w = translate (route side t).cache (route side t).walker port vm guest

      r : Translated vm guest w
      r = translated port vm guest a g

      to : (w ≡ 0 → ⊥) × ((access_of w / bit % 2 ≡ 1) × Unit {0}) → Allowed bit vm guest
      to (n, (e, _)) =
          let m = lookup_mapped (route_of_lem side t v).walker vm guest g (λ z. n (r.some z)) in
          let q : access_of w ≡ m.access = r.access ∙ ap access_of (mapped_lookup (route_of_lem side t v).walker vm guest m.page m.access m.generation m.mapping) ∙ m.mapping.access_is in
          record { page = m.page; access = m.access; generation = m.generation; mapped = m.mapping; allowed = rw (← q) e }

      fro : Allowed bit vm guest → (w ≡ 0 → ⊥) × ((access_of w / bit % 2 ≡ 1) × Unit {0})
      fro c =
          let e = mapped_lookup (route_of_lem side t v).walker vm guest c.page c.access c.generation c.mapped in
          let q : access_of w ≡ c.access = r.access ∙ ap access_of e ∙ c.mapped.access_is in
          ((λ z. c.mapped.stored.filled (sym e ∙ r.none z)), (rw q c.allowed, tt))

  pub access_exact : (bit port guest word : ℕ) → Decides (accepts (access_answer (route side t).ports (route side t).cache (route side t).walker bit port guest word)) (Accesses side t bit port guest word)
  unfolding access_answer
  access_exact bit port guest word =
      decides_as
      (after_check _ _ _ _ (decides_and (decides_and (decides_less port PORTS) (decides_less guest GUEST_PAGES)) (decides_less word PAGE_WORDS))
      (λ ((p, g), k).
      after_check _ _ _ _ (decides_less (vm_on (route side t).ports port) VMS)
      (λ a. allowed_exact bit port (vm_on (route side t).ports port) guest a g)))
      (λ (((p, g), k), (a, m)).
      record {
        port_ok = p;
        guest_ok = g;
        word_ok = k;
        vm = vm_on (route side t).ports port;
        page = m.page;
        access = m.access;
        generation = m.generation;
        vm_ok = a;
        runs = refl;
        mapped = m.mapped;
        allowed = m.allowed;
      })
      (λ c. (
        ((c.port_ok, c.guest_ok), c.word_ok),
        (rw c.runs c.vm_ok, rw c.runs (record { page = c.page; access = c.access; generation = c.generation; mapped = c.mapped; allowed = c.allowed })),
      ))
