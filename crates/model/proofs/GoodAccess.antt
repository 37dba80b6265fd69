-- Operations 21 to 26 owe what a step owes: a read or a write reaches only a page that the VM on the port may reach, and a
-- barrier does nothing.
use Prim.Native.Nat.{ℕ, ◌<◌}
use mathlib.Core.Bool.{true, not, ◌&&◌, true≢false, or-true}
use mathlib.Core.List.{List}
use mathlib.Core.Logic.{◌⊎◌, inl, ⊎_elim}
use mathlib.Core.Path.{◌≡◌, refl, sym, ◌∙◌}
use native.Mathlib.Omega.{arith}
use lib.Dec.{eqb}
use borrow.Author.Tests.{ltb-true, eqb-false, not-false}
use Rattle.numbers.specs.CaseLaws.{cases}
use Rattle.numbers.specs.Limits.{VMS, GUEST_PAGES, READ, WRITE}
use Rattle.numbers.specs.Packing.{vm_of, page_of, access_of, key_of, address_of, key, slot_key}
use Rattle.numbers.specs.PackingLaws.{key_vm, unported, unported_vm, unported_page, unported_access}
use Rattle.numbers.specs.Meaning.{Answer, accept}
use Rattle.numbers.specs.declared.Operation.{Operation}
use Rattle.numbers.specs.declared.Operation.TheVariants as op
use Rattle.numbers.specs.declared.SideOperation.TheVariants as sided
use Rattle.numbers.specs.declared.GuestPage.{GuestPage}
use Rattle.numbers.specs.declared.Side.{Side}
use Rattle.numbers.specs.declared.Side.TheVariants.{Cpu, Dma}
use Rattle.table.specs.Table.{Has, lookup}
use Rattle.table.specs.TableLaws.{lookup_has}
use Rattle.model.specs.State.{Tables, Route, route, with_side}
use Rattle.model.specs.Views.{is_port, is_guest, is_word, is_idle, owns, may_map}
use Rattle.model.specs.Effect.{Effect, quiet, accepted}
use Rattle.model.specs.Ports.{vm_on}
use Rattle.model.specs.Access.{translate, allows, access_answer, access_place}
use Rattle.model.specs.Step.{answer_of}
use Rattle.model.specs.EarlyLaws.{past, both, hold}
use Rattle.model.specs.Valid.{EntryGood, ValidTables}
use Rattle.model.specs.Good.{Way, own, lent, span, MayReach, Reaches, Touches, Cleared, Good}
use Rattle.model.proofs.ViewLaws.{may_either}
use Rattle.model.proofs.Refused.{AcceptedGood}
use Rattle.model.proofs.RoutesKept.{slot_walks}
use Rattle.model.proofs.OneRoute.{GoodRoute, route_of_lem}

-- ---- what an accepted access tells
pub record AccessPassed (ports cache walker : List ℕ) (port guest : ℕ) : Type 0 where
  pub guest_ok : guest < GUEST_PAGES
  pub vm_ok : vm_on ports port < VMS
  pub translates : translate cache walker port (vm_on ports port) guest ≡ 0 → ⊥

pub access_passed : (ports cache walker : List ℕ) (bit port guest word : ℕ) {dropped read : ℕ} → access_answer ports cache walker bit port guest word ≡ accept dropped read → AccessPassed ports cache walker port guest
unfolding access_answer
access_passed ports cache walker bit port guest word e =
    let (a, b) = past (not (is_port port && is_guest guest && is_word word)) _ _ _ e in
    let (c, d) = past (is_idle (vm_on ports port)) _ _ _ b in
    let (f, h) = past (eqb (translate cache walker port (vm_on ports port) guest) 0) _ _ _ d in
    let (r, w) = hold (is_port port && is_guest guest) (is_word word) a in
    record {
      guest_ok = ltb-true guest GUEST_PAGES (both (is_port port) (is_guest guest) r).1;
      vm_ok = ltb-true _ VMS (not-false _ c);
      translates = eqb-false _ 0 f;
    }

pub access_allowed : (ports cache walker : List ℕ) (bit port guest word : ℕ) {dropped read : ℕ} → access_answer ports cache walker bit port guest word ≡ accept dropped read →
    allows bit (translate cache walker port (vm_on ports port) guest) ≡ true
unfolding access_answer
access_allowed ports cache walker bit port guest word e =
    let (a, b) = past (not (is_port port && is_guest guest && is_word word)) _ _ _ e in
    let (c, d) = past (is_idle (vm_on ports port)) _ _ _ b in
    let (f, h) = past (eqb (translate cache walker port (vm_on ports port) guest) 0) _ _ _ d in
    let (g, k) = past (not (allows bit (translate cache walker port (vm_on ports port) guest))) _ _ _ h in
    not-false _ g

-- ---- the entry behind a translation: the walker's own, or the one that the slot holds
record Behind (side : Side) (t : Tables) (walker : List ℕ) (vm w : ℕ) : Type 0 where
  entry : ℕ
  there : Has walker entry
  good : EntryGood side t.setup.pages t.known t.sets t.pairs entry
  vm_is : vm_of entry ≡ vm
  page_is : page_of entry ≡ page_of w
  access_is : access_of entry ≡ access_of w

module _ (side : Side) (t : Tables) (r : Route) (g : GoodRoute side t r) (port vm guest : ℕ) (v : vm < VMS) (b : guest < GUEST_PAGES) where
  behind_walker : (lookup key_of r.walker (key vm guest) ≡ 0 → ⊥) → Behind side t r.walker vm (lookup key_of r.walker (key vm guest))
  behind_walker n =
      let (h, e) = lookup_has key_of r.walker (key vm guest) n in
      record { entry = _; there = h; good = g.walker.each _ h; vm_is = key_vm 0 vm guest _ (omega arith) b (omega arith); page_is = refl; access_is = refl }

  behind_slot : (w : ℕ) → Has r.cache w → key_of w ≡ slot_key port vm guest → Behind side t r.walker vm w
  behind_slot w h e =
      let s = g.cache.each w h in
      let (m, q) = lookup_has key_of r.walker (address_of w) (slot_walks r.walker r.cache g.cache w h) in
      let there : Has r.walker (unported w) = rw s.entry at m in
      record {
        entry = unported w;
        there = there;
        good = g.walker.each (unported w) there;
        vm_is = unported_vm w ∙ key_vm port vm guest w (omega arith) b e;
        page_is = unported_page w;
        access_is = unported_access w;
      }

  behind : (translate r.cache r.walker port vm guest ≡ 0 → ⊥) → Behind side t r.walker vm (translate r.cache r.walker port vm guest)
  unfolding translate
  behind n =
      ⊎_elim (λ t. rw t (behind_walker (rw t at n)))
      (λ f. rw f (let (h, e) = lookup_has key_of r.cache (slot_key port vm guest) (eqb-false _ 0 f) in behind_slot _ h e))
      (cases (eqb (lookup key_of r.cache (slot_key port vm guest)) 0))

-- ---- a page that a VM may map is one that it may reach
way : (side : Side) (t : Tables) (vm page : ℕ) → may_map side t.sets t.pairs vm page ≡ true → Way t vm page
way Cpu t vm page m = ⊎_elim (λ c. own (rw c)) (λ l. lent l) (may_either Cpu t.sets t.pairs vm page m)
way Dma t vm page m = ⊎_elim (λ c. own (rw c (or-true (owns t.sets vm page)))) (λ l. span l) (may_either Dma t.sets t.pairs vm page m)

module _ (side : Side) (t : Tables) (g : GoodRoute side t (route side t)) (port guest : ℕ) (a : AccessPassed (route side t).ports (route side t).cache (route side t).walker port guest) where
  abbrev on : ℕ
  on = vm_on (route side t).ports port

  abbrev to : ℕ
  to = translate (route side t).cache (route side t).walker port on guest

  found : Behind side t (route side t).walker on to
  found = behind side t (route side t) g port on guest a.vm_ok a.guest_ok a.translates

  -- the VM on the port, and the page that it gets to
  pub may_reach : MayReach t on (page_of to)
  may_reach =
      let e = found in
      record { vm_ok = a.vm_ok; page_ok = rw (← e.page_is) e.good.page; way = way side t on (page_of to) (rw (← e.page_is, ← e.vm_is) e.good.may) }

  -- with a bit that the translation has
  reached : (bit : ℕ) → allows bit to ≡ true → Reaches bit t on (page_of to)
  reached bit allowed =
      let e = found in
      record {
        may = may_reach;
        through = record { side = side; entry = e.entry; stored = e.there; vm_is = e.vm_is; page_is = e.page_is; allowed = rw e.access_is allowed };
      }

-- an accepted access touches one word
access_reaches : (side : Side) (t : Tables) → ValidTables t → (needed port guest word : ℕ) {dropped read : ℕ} →
    access_answer (route side t).ports (route side t).cache (route side t).walker needed port guest word ≡ accept dropped read →
    (bit vm page : ℕ) → (bit ≡ needed) × (vm_on (route side t).ports port ≡ vm) × (((access_place (route side t).ports (route side t).cache (route side t).walker port guest word).page ≡ page) ⊎ ⊥) → Reaches bit t vm page
access_reaches side t v needed port guest word e bit vm page (b, h, o) =
    let r = route side t in
    let there = reached side t (route_of_lem side t v) port guest (access_passed r.ports r.cache r.walker needed port guest word e) needed (access_allowed r.ports r.cache r.walker needed port guest word e) in
    ⊎_elim (λ q. rw (b, ← h, ← q) there) (λ z. absurd z) o

-- ---- an operation that changes no table
still_good : (t : Tables) → ValidTables t → (operation : Operation) (answer : Answer) (new : Tables) (effect : Effect) → new ≡ t → ((bit vm page : ℕ) → Touches bit effect vm page → Reaches bit t vm page) →
    ((page : ℕ) → Cleared effect page → ⊥) → Good t operation (record { answer = answer; tables = new; effect = effect })
still_good t v operation answer new effect same reach none =
    record {
      valid = rw same v;
      reach = reach;
      still = λ h. same;
      wiped = λ vm page l b h n. absurd (true≢false (sym h ∙ (rw same at n)));
      free = λ vm page l b h c. none page h;
      edges = λ w h. inl (rw same at h);
    }

same_side : (side : Side) (t : Tables) → with_side side t (route side t) t.sets ≡ t
same_side Cpu t = refl
same_side Dma t = refl

-- ---- each
pub read_good : (side : Side) (t : Tables) → ValidTables t → (port : ℕ) (guest : GuestPage) (word : ℕ) {dropped read : ℕ} → answer_of t (op.On side (sided.ReadWord port guest word)) ≡ accept dropped read →
    AcceptedGood t (op.On side (sided.ReadWord port guest word))
read_good side t v port guest word e = still_good t v _ _ _ _ (same_side side t) (access_reaches side t v READ port guest.0 word e) (λ page h. h)

pub write_good : (side : Side) (t : Tables) → ValidTables t → (port : ℕ) (guest : GuestPage) (word value : ℕ) {dropped read : ℕ} → answer_of t (op.On side (sided.WriteWord port guest word value)) ≡ accept dropped read →
    AcceptedGood t (op.On side (sided.WriteWord port guest word value))
write_good side t v port guest word value e = still_good t v _ _ _ _ (same_side side t) (access_reaches side t v WRITE port guest.0 word e) (λ page h. h)

pub data_barrier_good : (t : Tables) → ValidTables t → AcceptedGood t op.DataBarrier
data_barrier_good t v = still_good t v op.DataBarrier accepted t quiet refl (λ bit vm page h. absurd h) (λ page h. h)

pub instruction_barrier_good : (t : Tables) → ValidTables t → AcceptedGood t op.InstructionBarrier
instruction_barrier_good t v = still_good t v op.InstructionBarrier accepted t quiet refl (λ bit vm page h. absurd h) (λ page h. h)
