-- What an accepted retire leaves: nothing names the VM, nothing leads to a page that it owned, and whatever it had no part in is as it was.
use Prim.Native.Nat.{ℕ, ◌<◌}
use mathlib.Core.Bool.{true, false, ◌&&◌, ◌||◌, true≢false, and-false}
use mathlib.Core.List.{List}
use mathlib.Core.Logic.{⊎_elim}
use mathlib.Core.Path.{◌≡◌, refl, sym, ◌∙◌}
use native.Mathlib.Omega.{arith}
use lib.Dec.{eqb, ltb}
use borrow.Author.Tests.{ne_eqb}
use Rattle.numbers.specs.CaseLaws.{cases, equal}
use Rattle.numbers.specs.Limits.{VMS, PAGES, PORTS, GUEST_PAGES}
use Rattle.numbers.specs.Packing.{filled_of, page_of, vm_of, key_of, key, slot_key}
use Rattle.numbers.specs.PackingLaws.{unported}
use Rattle.numbers.specs.Meaning.{accept}
use Rattle.numbers.specs.declared.Operation.TheVariants as op
use Rattle.numbers.specs.declared.Side.{Side}
use Rattle.numbers.specs.declared.Side.TheVariants.{Cpu, Dma}
use Rattle.numbers.specs.declared.VmId.{VmId}
use Rattle.table.specs.AgreeLaws.{lookup_wipe}
use Rattle.table.specs.ScanLaws.{has_wipe_inv, has_wipe_keep}
use Rattle.table.specs.Table.{Has, Distinct, lookup}
use Rattle.table.specs.TableLaws.{lookup_has}
use Rattle.pages.specs.BitLaws.{has_bit-without_same}
use Rattle.model.specs.State.{Tables, route}
use Rattle.model.specs.Views.{is_filled, knows, in_pool, owns, claims, joins, on_port}
use Rattle.model.specs.Retire.{onto_its, goes, retire_table, retire_pairs, retired}
use Rattle.model.specs.Step.{answer_of}
use Rattle.model.specs.Valid.{MapGood, ValidTables}
use Rattle.model.specs.Conditions.{RunsOn}
use Rattle.model.proofs.ViewLaws.{AtEnd, joined, joined_inv, on_no_port, not_so}
use Rattle.model.proofs.RoutesKept.{slot_walks}
use Rattle.model.proofs.OneRoute.{route_of_lem}
use Rattle.model.proofs.RetiredSets.{retire_pool, retire_claims, retire_none}
use Rattle.model.proofs.GoodRetire.{retire_passed, stays_other, stays_off}
use Rattle.model.proofs.UpstreamLaws.{of_key, of_slot_key}

-- ---- the statement
-- a word of the side is onto a page that the VM owned
abbrev pub Onto : Side → List ℕ → ℕ → ℕ → Type 0
Onto Cpu sets vm w = owns sets vm (page_of w) ≡ true
Onto Dma sets vm w = ⊥

-- the VM has no part in the word: it is not its own and, for CPU, not onto its page
pub record Apart (side : Side) (sets : List ℕ) (vm w : ℕ) : Type 0 where
  pub other : vm_of w ≡ vm → ⊥
  pub off : Onto side sets vm w → ⊥

-- a map or a cache as it was and as it is left
pub record TableLeft (side : Side) (sets : List ℕ) (vm : ℕ) (table left : List ℕ) : Type 0 where
  -- the VM has a part in no word that is left
  pub apart : (w : ℕ) → Has left w → Apart side sets vm w
  -- where it had none, a key finds what it found before
  pub same : (k : ℕ) → 0 < k → ((lookup key_of table k ≡ 0 → ⊥) → Apart side sets vm (lookup key_of table k)) → lookup key_of left k ≡ lookup key_of table k

pub record RouteLeft (side : Side) (t : Tables) (vm : ℕ) : Type 0 where
  pub map : TableLeft side t.sets vm (route side t).map (route side (retired t vm)).map
  pub walker : TableLeft side t.sets vm (route side t).walker (route side (retired t vm)).walker
  pub cache : TableLeft side t.sets vm (route side t).cache (route side (retired t vm)).cache

pub record Leaves (t : Tables) (vm : ℕ) : Type 0 where
  pub unknown : knows (retired t vm).known vm ≡ false
  pub no_port : (side : Side) (port : ℕ) → port < PORTS → RunsOn side (retired t vm) port vm → ⊥
  -- pages: it claims none, those that it owned are in the pool, and no other claim moves
  pub no_claim : (side : Side) (page : ℕ) → page < PAGES → claims side (retired t vm).sets vm page ≡ false
  pub pool : (page : ℕ) → page < PAGES → in_pool (retired t vm).sets page ≡ (in_pool t.sets page || owns t.sets vm page)
  pub claims_stay : (side : Side) (other page : ℕ) → page < PAGES → (other ≡ vm → ⊥) → claims side (retired t vm).sets other page ≡ claims side t.sets other page
  -- pairs: those that are left are the ones that do not join it
  pub no_pair : (w : ℕ) → Has (retired t vm).pairs w → Has t.pairs w × (AtEnd vm w → ⊥)
  pub pairs_stay : (w : ℕ) → Has t.pairs w → (AtEnd vm w → ⊥) → Has (retired t vm).pairs w
  pub routes : (side : Side) → RouteLeft side t vm

-- ---- one table
onto_not : (side : Side) (sets : List ℕ) (vm w : ℕ) → (Onto side sets vm w → ⊥) → onto_its side sets vm w ≡ false
onto_not Cpu sets vm w off = let o = not_so (owns sets vm (page_of w)) off in ⊎_elim (λ t. rw t o) (λ f. rw f) (cases (ltb (page_of w) PAGES))
onto_not Dma sets vm w off = refl

-- an empty place is nothing that goes
apart_stays : (side : Side) (sets : List ℕ) (vm w : ℕ) → ((w ≡ 0 → ⊥) → Apart side sets vm w) → goes side sets vm w ≡ false
unfolding goes
apart_stays side sets vm w h = ⊎_elim (λ z. rw z) (λ n. unfilled (h n)) (equal w 0)
  where
    neither : Apart side sets vm w → (eqb (vm_of w) vm || onto_its side sets vm w) ≡ false
    neither a = rw (ne_eqb (vm_of w) vm a.other) (onto_not side sets vm w a.off)

    unfilled : Apart side sets vm w → (is_filled w && (eqb (vm_of w) vm || onto_its side sets vm w)) ≡ false
    unfilled a = rw (neither a) (and-false (is_filled w))

stays_apart : (side : Side) (sets : List ℕ) (vm w : ℕ) → filled_of w ≡ 1 → page_of w < PAGES → goes side sets vm w ≡ false → Apart side sets vm w
stays_apart Cpu sets vm w f l n = record { other = stays_other Cpu sets vm w f n; off = λ o. true≢false (sym o ∙ stays_off sets vm w f l n) }
stays_apart Dma sets vm w f l n = record { other = stays_other Dma sets vm w f n; off = λ o. o }

table_left : (side : Side) (sets : List ℕ) (vm : ℕ) (table : List ℕ) → Distinct key_of table → ((w : ℕ) → Has table w → (filled_of w ≡ 1) × (page_of w < PAGES)) →
    TableLeft side sets vm table (retire_table side sets vm table)
unfolding retire_table
table_left side sets vm table once each =
    record {
      apart = λ w h. let (was, n) = has_wipe_inv (goes side sets vm) table w h in stays_apart side sets vm w (each w was).0 (each w was).1 n;
      same = λ k o h. lookup_wipe key_of refl (goes side sets vm) table k o once ∙ rw (apart_stays side sets vm (lookup key_of table k) h);
    }

-- ---- all of them
module _ (t : Tables) (v : ValidTables t) (vm : VmId) where
  entry_in : (side : Side) {table : List ℕ} → MapGood side t.setup.pages t.known t.sets t.pairs table → (w : ℕ) → Has table w → (filled_of w ≡ 1) × (page_of w < PAGES)
  entry_in side g w h = let e = g.each w h in (e.filled, omega (arith, e.page, v.setup.most_pages))

  -- a slot is onto the page of the walker's entry
  slot_in : (side : Side) (w : ℕ) → Has (route side t).cache w → (filled_of w ≡ 1) × (page_of w < PAGES)
  slot_in side w h =
      let g = route_of_lem side t v in
      let s = g.cache.each w h in
      let (walked, k) = lookup_has key_of (route side t).walker _ (slot_walks (route side t).walker (route side t).cache g.cache w h) in
      let e : page_of (unported w) < t.setup.pages = (g.walker.each (unported w) (rw s.entry at walked)).page in
      (s.filled, omega (arith, e, v.setup.most_pages))

  route_left : (side : Side) → RouteLeft side t vm.0
  route_left Cpu =
      record {
        map = table_left Cpu t.sets vm.0 t.cpu.map v.cpu.map.once (entry_in Cpu v.cpu.map);
        walker = table_left Cpu t.sets vm.0 t.cpu.walker v.cpu.walker.once (entry_in Cpu v.cpu.walker);
        cache = table_left Cpu t.sets vm.0 t.cpu.cache v.cpu.cache.once (slot_in Cpu);
      }
  route_left Dma =
      record {
        map = table_left Dma t.sets vm.0 t.dma.map v.dma.map.once (entry_in Dma v.dma.map);
        walker = table_left Dma t.sets vm.0 t.dma.walker v.dma.walker.once (entry_in Dma v.dma.walker);
        cache = table_left Dma t.sets vm.0 t.dma.cache v.dma.cache.once (slot_in Dma);
      }

  pub retire_leaves : {dropped word : ℕ} → answer_of t (op.RetireVm vm) ≡ accept dropped word → Leaves t vm.0
  unfolding retire_pairs knows
  retire_leaves e =
      let p = retire_passed t vm e in
      let ok = p.early.vm_ok in
      let long = v.lengths.sets in
      record {
        unknown = has_bit-without_same t.known vm.0;
        no_port = no_port p.no_cpu p.no_device;
        no_claim = λ side page h. retire_none t.sets vm.0 ok long page h side;
        pool = λ page h. retire_pool t.sets vm.0 ok long page h;
        claims_stay = λ side other page h n. retire_claims t.sets vm.0 ok long page h side other n;
        no_pair = λ w h. let (was, n) = has_wipe_inv (joins vm.0) t.pairs w h in (was, λ at. true≢false (sym (joined vm.0 w (v.pairs.each w was).filled at) ∙ n));
        pairs_stay = λ w h n. has_wipe_keep (joins vm.0) t.pairs w h (not_so (joins vm.0 w) (λ j. n (joined_inv vm.0 w j)));
        routes = route_left;
      }
    where
      no_port : on_port t.cpu.ports vm.0 ≡ false → on_port t.dma.ports vm.0 ≡ false → (side : Side) (port : ℕ) → port < PORTS → RunsOn side (retired t vm.0) port vm.0 → ⊥
      no_port c d Cpu port h e = on_no_port t.cpu.ports vm.0 port c (rw v.lengths.cpu.ports h) e
      no_port c d Dma port h e = on_no_port t.dma.ports vm.0 port d (rw v.lengths.dma.ports h) e

-- ---- by VM and guest page: a key of another VM that was not onto its pages, in a map and in a cache
module _ {side : Side} {sets : List ℕ} {vm : ℕ} {table left : List ℕ} (l : TableLeft side sets vm table left) (other guest : ℕ) (o : other < VMS) (g : guest < GUEST_PAGES) (n : other ≡ vm → ⊥) where
  pub other_mapping : (Onto side sets vm (lookup key_of table (key other guest)) → ⊥) → lookup key_of left (key other guest) ≡ lookup key_of table (key other guest)
  other_mapping off =
      l.same (key other guest) (omega arith)
      (λ z. let (h, k) = lookup_has key_of table (key other guest) z in record { other = λ q. n (sym (of_key _ other guest o g k).vm_is ∙ q); off = off })

  pub other_slot : (port : ℕ) → (Onto side sets vm (lookup key_of table (slot_key port other guest)) → ⊥) → lookup key_of left (slot_key port other guest) ≡ lookup key_of table (slot_key port other guest)
  other_slot port off =
      l.same (slot_key port other guest) (omega arith)
      (λ z. let (h, k) = lookup_has key_of table (slot_key port other guest) z in record { other = λ q. n (sym (of_slot_key _ port other guest o g k).vm_is ∙ q); off = off })
