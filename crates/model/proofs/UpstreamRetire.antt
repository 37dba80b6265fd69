-- Operation 27 is upstream's steps: the VM gives up all that it has and is removed. In hardware each entry of a walker that goes is
-- unmapped and invalidated, first of CPU, then of DMA, and the pages are cleared last.
use Prim.Native.Nat.{ℕ, ◌<◌}
use mathlib.Core.Bool.{Bool, true, false, not, ◌&&◌, ◌||◌, true≢false, and-false, or_comm}
use mathlib.Core.List.{List, [], ◌∷◌, ◌++◌, append_assoc}
use mathlib.Core.Logic.{⊎_elim}
use Rattle.std.specs.Prelude.{None}
use mathlib.Core.Path.{◌≡◌, refl, sym, ap, ◌∙◌}
use native.Mathlib.Omega.{arith}
use lib.Dec.{eqb}
use borrow.Author.Tests.{eq-eqb, ne_eqb, eqb-true, eqb-false, not-true, lt-ltb}
use Rattle.numbers.specs.CaseLaws.{cases, equal}
use Rattle.std.specs.Prelude.{if◌then◌else◌}
use Rattle.numbers.specs.Limits.{VMS, GUEST_PAGES, PAGES}
use Rattle.numbers.specs.Packing.{key, key_of, address_of, pair_key, pair_key_of, vm_of, guest_of, page_of, filled_of, left_of, right_of}
use Rattle.numbers.specs.PackingLaws.{unported, key_filled}
use Rattle.numbers.specs.Meaning.{accept}
use Rattle.numbers.specs.declared.Operation.TheVariants as op
use Rattle.numbers.specs.declared.Side.{Side}
use Rattle.numbers.specs.declared.Side.TheVariants.{Cpu, Dma}
use Rattle.numbers.specs.declared.VmId.{VmId}
use Rattle.table.specs.Scan.{any, cleared, wipe}
use Rattle.table.specs.ScanLaws.{has_any, any_true, wipe_none, wipe_same, wipe_twice}
use Rattle.table.specs.Table.{has_key, lookup, erase, Has}
use Rattle.table.specs.TableLaws.{lookup_has, has_lookup}
use Rattle.table.specs.AgreeLaws.{lookup_wipe}
use Rattle.pages.specs.Rows.{shared_row}
use Rattle.model.specs.State.{Tables, Route, State, route, with_maps, with_side}
use Rattle.model.specs.Views.{knows, in_pool, owns, claims, joins, paired}
use Rattle.model.specs.EarlyLaws.{both, VmPassed}
use Rattle.model.specs.Effect.{apply}
use Rattle.model.specs.Ledger.{remove_vm_known}
use Rattle.model.specs.Maps.{unmap_table, without_slots}
use Rattle.model.specs.Retire.{onto_its, goes, retire_table, retire_pairs, retire_sets, retire_clears, retire_route, retired}
use Rattle.model.specs.Step.{unmap_route, answer_of}
use Rattle.model.specs.Valid.{SameMap, MapGood, ValidTables}
use Rattle.model.specs.Upstream.{SameSets, plus, minus, with_set, without_set, is_some, entry_in, seen, map_seen, software_view, HardwareView}
use Rattle.model.specs.UpstreamStep.{no_pages, RemoveVmEnabled, RemoveVmStep}
use Rattle.model.specs.UpstreamRun.{onto_pages_of, unless_onto, map_left, edges_left, given_up, GiveUpStep, retire_calls, HardwareCall, HardwareRun, go}
use Rattle.model.proofs.ViewLaws.{neither, not_so}
use Rattle.model.proofs.OneRoute.{route_of_lem}
use Rattle.model.proofs.RetiredSets.{retire_pool, retire_other, retire_claims, retire_none}
use Rattle.model.proofs.GoodRetire.{retire_passed, goes_unported}
use Rattle.model.proofs.UpstreamLaws.{seen_is, found_looked, wiped_seen, none_either, of_key, key_parts, SamePair}
use Rattle.model.proofs.UpstreamWf.{pair_of_key}
use Rattle.model.proofs.UpstreamFollows.{same_software, software_once, AcceptedFollows}
use Rattle.model.proofs.UpstreamMemory.{clear_run}
use Rattle.model.proofs.UpstreamLedger.{knows_minus}
use Rattle.model.proofs.UpstreamRoutes.{shown, map_of_lem}
use Rattle.model.proofs.UpstreamMaps.{unmap_step}

module _ (t : Tables) (valid : ValidTables t) (vm : ℕ) where
  -- ---- the maps that are left
  -- a word is onto one of the VM's pages where its entry is
  onto_seen : (side : Side) (w : ℕ) → page_of w < PAGES → onto_its side t.sets vm w ≡ onto_pages_of side (software_view t) vm (entry_in w)
  onto_seen Cpu w h = rw (lt-ltb (page_of w) PAGES h)
  onto_seen Dma w h = refl

  -- so what a key shows stays unless it is onto one, and where there is no word there is no entry
  onto_word : (side : Side) (w : ℕ) → ((w ≡ 0 → ⊥) → page_of w < PAGES) →
      (if onto_its side t.sets vm w then None else seen w) ≡ unless_onto side (software_view t) vm (seen w)
  unfolding seen
  onto_word side w below = ⊎_elim empty (λ n. rw (seen_is w n, onto_seen side w (below n))) (equal w 0)
    where
      empty : w ≡ 0 → (if onto_its side t.sets vm w then None else seen w) ≡ unless_onto side (software_view t) vm (seen w)
      empty z = rw z (⊎_elim (λ y. rw y) (λ n. rw n) (cases (onto_its side t.sets vm 0)))

  map-left : (side : Side) (v gpa : ℕ) → v < VMS → gpa < GUEST_PAGES →
      map_seen (retire_table side t.sets vm (route side t).map) v gpa ≡ map_left side (software_view t) vm v gpa
  unfolding retire_table goes
  map-left side v gpa l g =
      let good = (route_of_lem side t valid).map in
      let w = lookup key_of (route side t).map (key v gpa) in
      wiped_seen (goes side t.sets vm) (route side t).map (key v gpa) (eqb v vm || onto_its side t.sets vm w) (omega arith) good.once
      (λ h e. rw (eq-eqb (filled_of w) 1 (good.each w h).filled, (of_key w v gpa l g e).vm_is))
      ∙ none_either (eqb v vm) (onto_its side t.sets vm w) (seen w)
      ∙ rw (map_of_lem side t, onto_word side w (λ n. omega (arith, (good.each w (lookup_has key_of (route side t).map (key v gpa) n).0).page, valid.setup.most_pages)))

  -- ---- the edges that are left
  -- an end of the stored pair is an end of the edge
  joins_end : (w l r p : ℕ) → filled_of w ≡ 1 → SamePair (left_of w) (right_of w) (page_of w) l r p → joins vm w ≡ (eqb l vm || eqb r vm)
  joins_end w l r p f same =
      rw (eq-eqb (filled_of w) 1 f) (⊎_elim (λ q. rw (q.0, q.1)) (λ q. rw (q.0, q.1) (or_comm (eqb r vm) (eqb l vm))) same)

  edges_left_lem : (l r page : ℕ) → l < VMS → r < VMS → page < PAGES → paired (retire_pairs t.pairs vm) l r page ≡ edges_left (software_view t) vm l r page
  unfolding paired retire_pairs
  edges_left_lem l r page a b c =
      found_looked pair_key_of refl (wipe (joins vm) t.pairs) (pair_key l r page) (omega arith)
      ∙ rw (
        lookup_wipe pair_key_of refl (joins vm) t.pairs (pair_key l r page) (omega arith) valid.pairs.once,
        found_looked pair_key_of refl t.pairs (pair_key l r page) (omega arith),
      ) (⊎_elim empty filled (equal w 0))
    where
      w : ℕ
      w = lookup pair_key_of t.pairs (pair_key l r page)

      goal : Type 0
      goal = not (eqb (cleared (joins vm) w) 0) ≡ (not (eqb l vm || eqb r vm) && not (eqb w 0))

      empty : w ≡ 0 → goal
      empty z = rw z (sym (and-false (not (eqb l vm || eqb r vm))))

      filled : (w ≡ 0 → ⊥) → goal
      filled n =
          let (there, k) = lookup_has pair_key_of t.pairs (pair_key l r page) n in
          let (good, same) = pair_of_key t valid w l r page there a b c k in
          rw (joins_end w l r page good.filled same) (⊎_elim (λ y. rw y) (λ f. rw f) (cases (eqb l vm || eqb r vm)))

  -- ---- the software steps: the VM gives up what it has, and is removed
  known_left : (v : ℕ) → knows (remove_vm_known t.known vm) v ≡ minus (plus (knows t.known) vm) vm v
  known_left v = knows_minus t.known vm v ∙ ⊎_elim (λ y. rw y) (λ f. rw f) (cases (eqb v vm))

  module _ (early : VmPassed t.known vm) where
    sets_left : (side : Side) → SameSets (record { vms = knows (remove_vm_known t.known vm); pages = claims side (retire_sets t.sets vm) })
        (without_set (with_set (record { vms = knows t.known; pages = claims side t.sets }) vm no_pages) vm)
    sets_left side =
        record {
          vms = λ v h. known_left v;
          pages = λ v page h l e. ⊎_elim (λ q. rw (eq-eqb v vm q) (rw q (retire_none t.sets vm early.vm_ok valid.lengths.sets page l side)))
              (λ n. rw (ne_eqb v vm n) (retire_claims t.sets vm early.vm_ok valid.lengths.sets page l side v n)) (equal v vm);
        }

    -- nothing is left of the VM
    none_mapped : (side : Side) (v gpa : ℕ) → is_some (map_left side (software_view t) vm v gpa) ≡ true → v ≡ vm → ⊥
    none_mapped side v gpa e q = true≢false (sym (rw (eq-eqb v vm q) at e))

    none_joined : (l r page : ℕ) → edges_left (software_view t) vm l r page ≡ true → (l ≡ vm → ⊥) × (r ≡ vm → ⊥)
    none_joined l r page e =
        let (apart, _) = both (not (eqb l vm || eqb r vm)) (paired t.pairs l r page) e in
        let (a, b) = neither (eqb l vm) (eqb r vm) (not-true _ apart) in
        (eqb-false l vm a, eqb-false r vm b)

    gave_up : GiveUpStep vm (software_view t) (given_up vm (software_view t))
    gave_up = record { known = early.knows_vm; next = same_software _ }

    removable : RemoveVmEnabled vm (given_up vm (software_view t))
    removable =
        record {
          known = early.knows_vm;
          no_cpu = λ page l. rw (eq-eqb vm vm refl);
          no_dma = λ page l. rw (eq-eqb vm vm refl);
          no_mapping = λ v gpa h g. none_mapped Cpu v gpa;
          no_dma_mapping = λ v gpa h g. none_mapped Dma v gpa;
          no_edge = λ l r page a b c. none_joined l r page;
        }

    removed : RemoveVmStep vm (given_up vm (software_view t)) (software_view (retired t vm))
    removed =
        let long = valid.lengths.sets in
        record {
          enabled = removable;
          next =
              record {
                all_vms = λ v h. knows_minus t.known vm v;
                hypervisor_owned = λ page l. retire_pool t.sets vm early.vm_ok long page l ∙ or_comm (in_pool t.sets page) (owns t.sets vm page);
                vm_owned = sets_left Cpu;
                shared_pages = edges_left_lem;
                s2_map = map-left Cpu;
                iommu_s2_map = map-left Dma;
                iommu_owned = sets_left Dma;
                iommu_shared = λ page l. retire_other t.sets vm early.vm_ok long page l shared_row (λ e. omega arith) (λ e. omega arith) (λ e. omega arith);
              };
        }

-- ---- hardware: one key after another goes
module _ (side : Side) (sets : List ℕ) (vm : ℕ) where
  -- a table without the keys of the words that go, whatever tells a key
  abbrev without : (ℕ → ℕ) → List ℕ → List ℕ → List ℕ
  without by [] table = table
  without by (u ∷ us) table = if goes side sets vm u then without by us (erase by table (key (vm_of u) (guest_of u))) else without by us table

  abbrev route_without : List ℕ → Route → Route
  route_without us r = with_maps r (without key_of us r.map) (without key_of us r.walker) (without address_of us r.cache)

  unmap_each : (t : Tables) (memory us : List ℕ) (r : Route) (calls : List HardwareCall) (h : HardwareView) → HardwareRun calls (shown side t memory (route_without us r)) h →
      HardwareRun (retire_calls side sets vm us ++ calls) (shown side t memory r) h
  unfolding unmap_table without_slots
  unmap_each t memory [] r calls h rest = rest
  unmap_each t memory (u ∷ us) r calls h rest =
      ⊎_elim
      (λ y. rw y (go (unmap_step side t memory r (vm_of u) (guest_of u) (omega arith)) (unmap_each t memory us (unmap_route r (vm_of u) (guest_of u)) calls h (rw y at rest))))
      (λ n. rw n (unmap_each t memory us r calls h (rw n at rest))) (cases (goes side sets vm u))

  -- u goes and has the key of w
  abbrev takes : (ℕ → ℕ) → ℕ → ℕ → Bool
  takes by w u = goes side sets vm u && eqb (by w) (key (vm_of u) (guest_of u))

  without_is : (by : ℕ → ℕ) (us table : List ℕ) → without by us table ≡ wipe (λ w. any (takes by w) us) table
  unfolding erase
  without_is by [] table = sym (wipe_none _ (λ w. refl) table)
  without_is by (u ∷ us) table =
      ⊎_elim (λ y. rw y (without_is by us (wipe (has_key by (key (vm_of u) (guest_of u))) table) ∙ wipe_twice (has_key by (key (vm_of u) (guest_of u))) _ table))
      (λ n. rw n (without_is by us table)) (cases (goes side sets vm u))

-- ---- of the map, the walker and the cache the calls take exactly the words that go, since the walker has each of them
module _ (side : Side) (t : Tables) (valid : ValidTables t) (vm : ℕ) where
  walker_key : (u : ℕ) → Has (route side t).walker u → key_of u ≡ key (vm_of u) (guest_of u)
  walker_key u h = let g = (route_of_lem side t valid).walker.each u h in key_parts u g.filled ∙ rw g.port (omega arith)

  -- w stands in the walker by this key, without its port
  record Walks (by : ℕ → ℕ) (w : ℕ) : Type 0 where
    filled : filled_of w ≡ 1
    found : lookup key_of (route side t).walker (by w) ≡ unported w

  taken_is : (by : ℕ → ℕ) (w : ℕ) → Walks by w → any (takes side t.sets vm by w) (route side t).walker ≡ goes side t.sets vm w
  unfolding goes
  taken_is by w walks = ⊎_elim gone kept (cases (goes side t.sets vm w))
    where
      goal : Type 0
      goal = any (takes side t.sets vm by w) (route side t).walker ≡ goes side t.sets vm w

      gone : goes side t.sets vm w ≡ true → goal
      gone y =
          let (h, k) = lookup_has key_of (route side t).walker (by w) (λ z. let e : unported w ≡ 0 = sym walks.found ∙ z in omega (arith, walks.filled)) in
          rw y (has_any (takes side t.sets vm by w) (route side t).walker _ h
          (rw (walks.found, goes_unported side t.sets vm w, y) (eq-eqb _ _ (rw walks.found at (sym k ∙ walker_key _ h)))))

      kept : goes side t.sets vm w ≡ false → goal
      kept n = rw n (not_so _ (λ y. let (u, h, q) = any_true (takes side t.sets vm by w) (route side t).walker refl y in clash u h (both _ _ q)))
        where
          clash : (u : ℕ) → Has (route side t).walker u → (goes side t.sets vm u ≡ true) × (eqb (by w) (key (vm_of u) (guest_of u)) ≡ true) → ⊥
          clash u h (y, e) =
              let good = (route_of_lem side t valid).walker in
              let k : by w ≡ key_of u = eqb-true _ _ e ∙ sym (walker_key u h) in
              let same : u ≡ unported w = sym (has_lookup key_of (route side t).walker u good.once h (key_filled u (good.each u h).filled)) ∙ rw (← k) walks.found in
              true≢false (sym y ∙ ap (goes side t.sets vm) same ∙ goes_unported side t.sets vm w ∙ n)

  -- words of both maps, and of the cache
  map-walks : (table : List ℕ) → MapGood side t.setup.pages t.known t.sets t.pairs table → SameMap table (route side t).walker → (w : ℕ) → Has table w → Walks key_of w
  unfolding SameMap
  map-walks table good same w h =
      let g = good.each w h in
      let o = key_filled w g.filled in
      record { filled = g.filled; found = sym (same (key_of w) o) ∙ has_lookup key_of table w good.once h o ∙ omega (arith, g.port) }

  cache_walks : (w : ℕ) → Has (route side t).cache w → Walks address_of w
  cache_walks w h = let g = (route_of_lem side t valid).cache.each w h in record { filled = g.filled; found = g.entry }

  all_without : (by : ℕ → ℕ) (table : List ℕ) → ((w : ℕ) → Has table w → Walks by w) →
      without side t.sets vm by (route side t).walker table ≡ retire_table side t.sets vm table
  unfolding retire_table
  all_without by table walks =
      without_is side t.sets vm by (route side t).walker table ∙ wipe_same _ (goes side t.sets vm) table (λ w h. taken_is by w (walks w h))

  -- the side's run, whatever the other side is by then
  retire_run : (now : Tables) (memory : List ℕ) (calls : List HardwareCall) (h : HardwareView) →
      HardwareRun calls (shown side now memory (retire_route side t.sets vm (route side t))) h →
      HardwareRun (retire_calls side t.sets vm (route side t).walker ++ calls) (shown side now memory (route side t)) h
  unfolding SameMap
  retire_run now memory calls h rest =
      let r = route side t in
      let good = route_of_lem side t valid in
      unmap_each side t.sets vm now memory r.walker r calls h
      (rw (
        all_without key_of r.map (map-walks r.map good.map good.same),
        all_without key_of r.walker (map-walks r.walker good.walker (λ k o. refl)),
        all_without address_of r.cache cache_walks,
      ) rest)

-- ---- the operation
pub retire_follows : (s : State) → ValidTables s.tables → (vm : VmId) {dropped word : ℕ} → answer_of s.tables (op.RetireVm vm) ≡ accept dropped word →
    AcceptedFollows s (op.RetireVm vm)
unfolding apply
retire_follows s valid vm e =
    let t = s.tables in
    let early = (retire_passed t vm e).early in
    record {
      software = go (gave_up t valid vm.0 early) (software_once (removed t valid vm.0 early));
      hardware =
          rw append_assoc
          (retire_run Cpu t valid vm.0 t s.memory _ _
          (retire_run Dma t valid vm.0 (with_side Cpu t (retire_route Cpu t.sets vm.0 t.cpu) t.sets) s.memory _ _
          (clear_run (retired t vm.0) (retire_clears t.sets t.setup.pages vm.0) s.memory)));
    }
