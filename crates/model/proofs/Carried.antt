-- What is valid stays so where the known VMs, the page sets and the pairs change, as long as each entry and each pair
-- keeps its ground.
use Prim.Native.Nat.{ℕ, ◌<◌}
use mathlib.Core.Bool.{true}
use mathlib.Core.List.{List}
use mathlib.Core.Logic.{◌⊎◌, ⊎_elim}
use mathlib.Core.Path.{◌≡◌}
use Rattle.numbers.specs.Limits.{VMS}
use Rattle.numbers.specs.Packing.{filled_of, page_of, vm_of, left_of, right_of, key_of}
use Rattle.numbers.specs.PackingLaws.{key_filled}
use Rattle.numbers.specs.declared.Side.{Side}
use Rattle.numbers.specs.declared.Side.TheVariants.{Cpu, Dma}
use Rattle.table.specs.Table.{Has, Distinct}
use Rattle.table.specs.AgreeLaws.{agree_has}
use Rattle.model.specs.State.{Route}
use Rattle.model.specs.Views.{knows, owns, claims, lent_to, may_map}
use Rattle.model.specs.Valid.{PagesGood, PairGood, PairsGood, EntryGood, MapGood, SameMap, PortsGood, RouteGood}
use Rattle.model.proofs.ViewLaws.{may_either}

-- ---- what an entry rests on: its VM is known and may map the page
pub record Ground (side : Side) (known : ℕ) (sets pairs : List ℕ) (w : ℕ) : Type 0 where
  pub vm : knows known (vm_of w) ≡ true
  pub may : may_map side sets pairs (vm_of w) (page_of w) ≡ true

-- what the VM claims, or is lent, it may map still
pub ground_kept : (side : Side) (pages known : ℕ) (sets sets' pairs pairs' : List ℕ) (w : ℕ) → EntryGood side pages known sets pairs w →
    (claims side sets (vm_of w) (page_of w) ≡ true → may_map side sets' pairs' (vm_of w) (page_of w) ≡ true) →
    (lent_to side sets pairs (vm_of w) (page_of w) ≡ true → may_map side sets' pairs' (vm_of w) (page_of w) ≡ true) →
    Ground side known sets' pairs' w
ground_kept side pages known sets sets' pairs pairs' w g claimed lent =
    record { vm = g.vm; may = ⊎_elim claimed lent (may_either side sets pairs (vm_of w) (page_of w) g.may) }

-- tables that are equal as maps have the same words
pub same_has : (a b : List ℕ) (w : ℕ) → SameMap a b → Distinct key_of b → Has b w → filled_of w ≡ 1 → Has a w
unfolding SameMap
same_has a b w same once h f = agree_has key_of a b w once same h (key_filled w f)

module _ (side : Side) (pages known known' : ℕ) (sets sets' pairs pairs' : List ℕ) where
  map-carried : (table : List ℕ) → MapGood side pages known sets pairs table → ((w : ℕ) → Has table w → Ground side known' sets' pairs' w) → MapGood side pages known' sets' pairs' table
  map-carried table g keeps = record { each = each; once = g.once }
    where
      each : (w : ℕ) → Has table w → EntryGood side pages known' sets' pairs' w
      each w h =
          let old = g.each w h in
          let new = keeps w h in
          record { port = old.port; filled = old.filled; page = old.page; vm = new.vm; may = new.may }

  -- the walker's entries are those of the software map, so these decide
  pub route_carried : (r : Route) → RouteGood side pages known sets pairs r → ((w : ℕ) → Has r.map w → EntryGood side pages known sets pairs w → Ground side known' sets' pairs' w) → PortsGood known' r.ports → RouteGood side pages known' sets' pairs' r
  route_carried r g keeps ports =
      record {
        map = map-carried r.map g.map (λ w h. keeps w h (g.map.each w h));
        walker = map-carried r.walker g.walker walks;
        same = g.same;
        cache = g.cache;
        ports = ports;
        hand = g.hand;
      }
    where
      walks : (w : ℕ) → Has r.walker w → Ground side known' sets' pairs' w
      walks w h = let e = g.walker.each w h in keeps w (same_has r.map r.walker w g.same g.walker.once h e.filled) e

-- ---- what a pair rests on: both ends are known, and one of them owns the page
pub record PairGround (known : ℕ) (sets : List ℕ) (w : ℕ) : Type 0 where
  pub left : knows known (left_of w) ≡ true
  pub right : knows known (right_of w) ≡ true
  pub owned : (owns sets (left_of w) (page_of w) ≡ true) ⊎ (owns sets (right_of w) (page_of w) ≡ true)

pub pairs_carried : (pages known known' : ℕ) (sets sets' pairs : List ℕ) → PairsGood pages known sets pairs → ((w : ℕ) → Has pairs w → PairGood pages known sets w → PairGround known' sets' w) → PairsGood pages known' sets' pairs
pairs_carried pages known known' sets sets' pairs g keeps = record { each = each; once = g.once }
  where
    each : (w : ℕ) → Has pairs w → PairGood pages known' sets' w
    each w h =
        let old = g.each w h in
        let new = keeps w h old in
        record {
          port = old.port;
          filled = old.filled;
          access = old.access;
          generation = old.generation;
          page = old.page;
          apart = old.apart;
          left = new.left;
          right = new.right;
          owned = new.owned;
        }

-- ---- the page sets rest on the known VMs alone
pub pages_carried : (pages base count known known' : ℕ) (sets : List ℕ) → PagesGood pages base count known sets → ((side : Side) (vm page : ℕ) → vm < VMS → page < pages → claims side sets vm page ≡ true → knows known vm ≡ true → knows known' vm ≡ true) → PagesGood pages base count known' sets
pages_carried pages base count known known' sets g keeps =
    record {
      inside = g.inside;
      span = g.span;
      some_home = g.some_home;
      one_home = g.one_home;
      one_dma = g.one_dma;
      dma_home = g.dma_home;
      cpu_known = λ vm page v l e. keeps Cpu vm page v l e (g.cpu_known vm page v l e);
      dma_known = λ vm page v l e. keeps Dma vm page v l e (g.dma_known vm page v l e);
    }
