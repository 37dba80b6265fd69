-- Valid tables stay valid with other known VMs, other page sets or other pairs, where what rests on these stays.
use Prim.Native.Nat.{ℕ, ◌*◌, ◌<◌}
use mathlib.Core.Bool.{true}
use mathlib.Core.List.{List}
use mathlib.Core.Logic.{inl, inr, ⊎_elim}
use mathlib.Core.Path.{◌≡◌, refl, ◌∙◌}
use native.Mathlib.Omega.{arith}
use lib.ListN.{length, get_or}
use Rattle.numbers.specs.Limits.{PAGES, PORTS, PAIRS, SETS, SET_WORDS, IDLE}
use Rattle.numbers.specs.Packing.{filled_of, page_of, vm_of, left_of, right_of}
use Rattle.numbers.specs.declared.Side.{Side}
use Rattle.numbers.specs.declared.Side.TheVariants.{Cpu, Dma}
use Rattle.table.specs.Table.{Has}
use Rattle.model.specs.State.{Tables, Route, route, with_route, with_side, with_known, with_sets, with_pairs, replaced}
use Rattle.model.specs.Views.{knows, in_shared, owns, claims, shares, lent_to, may_map}
use Rattle.model.specs.Valid.{KnownGood, PagesGood, PairGood, PairsGood, EntryGood, PortsGood, ValidTables}
use Rattle.model.proofs.ViewLaws.{AtEnd, may_own, may_lent}
use Rattle.model.proofs.OneRoute.{route_of_lem}
use Rattle.model.proofs.Carried.{Ground, ground_kept, route_carried, pairs_carried, pages_carried}

-- ---- all three replaced
abbrev ledger : Tables → ℕ → List ℕ → List ℕ → Tables
ledger t known sets pairs = replaced t known sets pairs t.cpu t.dma

-- an entry of the side that rests on the old ones rests on the new
abbrev Carries : Tables → ℕ → List ℕ → List ℕ → Side → Type 0
Carries t known sets pairs side = (w : ℕ) → Has (route side t).map w → EntryGood side t.setup.pages t.known t.sets t.pairs w → Ground side known sets pairs w

module _ (t : Tables) (v : ValidTables t) (known : ℕ) (sets pairs : List ℕ) where
  ledger_valid : length sets ≡ SETS * SET_WORDS → length pairs ≡ PAIRS → KnownGood known →
      PagesGood t.setup.pages t.setup.shared_base t.setup.shared_count known sets → PairsGood t.setup.pages known sets pairs →
      ((side : Side) → Carries t known sets pairs side) → ((side : Side) → PortsGood known (route side t).ports) → ValidTables (ledger t known sets pairs)
  ledger_valid sets-long pairs-long k g p carries ports =
      record {
        lengths = record { units = v.lengths.units; sets = sets-long; pairs = pairs-long; cpu = v.lengths.cpu; dma = v.lengths.dma };
        setup = v.setup;
        known = k;
        pages = g;
        pairs = p;
        cpu = route_carried Cpu t.setup.pages t.known known t.sets sets t.pairs pairs t.cpu v.cpu (carries Cpu) (ports Cpu);
        dma = route_carried Dma t.setup.pages t.known known t.sets sets t.pairs pairs t.dma v.dma (carries Dma) (ports Dma);
      }

-- ---- other known VMs
-- the tables name the VM
pub data Named (t : Tables) (vm : ℕ) : Type 0 where
  by_claim : (side : Side) (page : ℕ) → page < t.setup.pages → claims side t.sets vm page ≡ true → Named t vm
  by_entry : (side : Side) (w : ℕ) → Has (route side t).map w → filled_of w ≡ 1 → vm_of w ≡ vm → Named t vm
  by_pair : (w : ℕ) → Has t.pairs w → filled_of w ≡ 1 → AtEnd vm w → Named t vm
  by_port : (side : Side) (port : ℕ) → port < PORTS → get_or (route side t).ports port IDLE ≡ vm → Named t vm

-- every VM that is named stays known
pub known_valid : (t : Tables) → ValidTables t → (known : ℕ) → KnownGood known → ((vm : ℕ) → Named t vm → knows t.known vm ≡ true → knows known vm ≡ true) → ValidTables (with_known t known)
known_valid t v known k keeps =
    ledger_valid t v known t.sets t.pairs v.lengths.sets v.lengths.pairs k
    (pages_carried t.setup.pages t.setup.shared_base t.setup.shared_count t.known known t.sets v.pages (λ side vm page h l e. keeps vm (by_claim side page l e)))
    (pairs_carried t.setup.pages t.known known t.sets t.sets t.pairs v.pairs
    (λ w h g.
    record {
      left = keeps _ (by_pair w h g.filled (inl refl)) g.left;
      right = keeps _ (by_pair w h g.filled (inr refl)) g.right;
      owned = g.owned;
    }))
    (λ side w h g. record { vm = keeps _ (by_entry side w h g.filled refl) g.vm; may = g.may })
    (λ side port h. ⊎_elim inl (λ e. inr (keeps _ (by_port side port h refl) e)) ((route_of_lem side t v).ports port h))

-- ---- other page sets
-- what is lent stays lent where the shared span stays
lent_same : (side : Side) (sets sets' pairs : List ℕ) (vm page : ℕ) → in_shared sets' page ≡ in_shared sets page → lent_to side sets' pairs vm page ≡ lent_to side sets pairs vm page
lent_same Cpu sets sets' pairs vm page e = refl
lent_same Dma sets sets' pairs vm page e = e

-- what is asked of the new sets: good in themselves, the shared span as it was, and the claims of entries and pairs kept
pub record SetsKept (t : Tables) (sets : List ℕ) (entries : Side → List ℕ) : Type 0 where
  pub long : length sets ≡ SETS * SET_WORDS
  pub good : PagesGood t.setup.pages t.setup.shared_base t.setup.shared_count t.known sets
  pub shared : (page : ℕ) → page < PAGES → in_shared sets page ≡ in_shared t.sets page
  pub entry : (side : Side) (w : ℕ) → Has (entries side) w → EntryGood side t.setup.pages t.known t.sets t.pairs w → claims side t.sets (vm_of w) (page_of w) ≡ true → claims side sets (vm_of w) (page_of w) ≡ true
  pub pair : (w vm : ℕ) → Has t.pairs w → PairGood t.setup.pages t.known t.sets w → owns t.sets vm (page_of w) ≡ true → owns sets vm (page_of w) ≡ true

pub sets_valid : (t : Tables) → ValidTables t → (sets : List ℕ) → SetsKept t sets (λ side. (route side t).map) → ValidTables (with_sets t sets)
sets_valid t v sets k =
    ledger_valid t v t.known sets t.pairs k.long v.lengths.pairs v.known k.good
    (pairs_carried t.setup.pages t.known t.known t.sets sets t.pairs v.pairs
    (λ w h g. record { left = g.left; right = g.right; owned = ⊎_elim (λ o. inl (k.pair w (left_of w) h g o)) (λ o. inr (k.pair w (right_of w) h g o)) g.owned }))
    carries (λ side. (route_of_lem side t v).ports)
  where
    carries : (side : Side) → Carries t t.known sets t.pairs side
    carries side w h g =
        let lent = lent_same side t.sets sets t.pairs (vm_of w) (page_of w) (k.shared (page_of w) (omega (arith, g.page, v.setup.most_pages))) in
        ground_kept side t.setup.pages t.known t.sets sets t.pairs t.pairs w g
        (λ c. may_own side sets t.pairs (vm_of w) (page_of w) (k.entry side w h g c))
        (λ l. may_lent side sets t.pairs (vm_of w) (page_of w) (lent ∙ l))

-- after an edit of a route
pub side_valid : (side : Side) (t : Tables) (r : Route) (sets : List ℕ) → ValidTables (with_route side t r) → SetsKept t sets (λ s. (route s (with_route side t r)).map) → ValidTables (with_side side t r sets)
side_valid Cpu t r sets v k = sets_valid (with_route Cpu t r) v sets (record { long = k.long; good = k.good; shared = k.shared; entry = k.entry; pair = k.pair })
side_valid Dma t r sets v k = sets_valid (with_route Dma t r) v sets (record { long = k.long; good = k.good; shared = k.shared; entry = k.entry; pair = k.pair })

-- ---- other pairs
-- every CPU entry on a page that was lent may stay
pub pairs_valid : (t : Tables) → ValidTables t → (pairs : List ℕ) → length pairs ≡ PAIRS → PairsGood t.setup.pages t.known t.sets pairs →
    ((w : ℕ) → Has t.cpu.map w → filled_of w ≡ 1 → shares t.pairs (vm_of w) (page_of w) ≡ true → may_map Cpu t.sets pairs (vm_of w) (page_of w) ≡ true) →
    ValidTables (with_pairs t pairs)
pairs_valid t v pairs long good lent = ledger_valid t v t.known t.sets pairs v.lengths.sets long v.known v.pages good carries (λ side. (route_of_lem side t v).ports)
  where
    carries : (side : Side) → Carries t t.known t.sets pairs side
    carries Cpu w h g =
        ground_kept Cpu t.setup.pages t.known t.sets t.sets t.pairs pairs w g (may_own Cpu t.sets pairs (vm_of w) (page_of w)) (lent w h g.filled)
    carries Dma w h g =
        ground_kept Dma t.setup.pages t.known t.sets t.sets t.pairs pairs w g (may_own Dma t.sets pairs (vm_of w) (page_of w)) (may_lent Dma t.sets pairs (vm_of w) (page_of w))
