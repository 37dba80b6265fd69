-- An edit of one route, as upstream's views show it: that side's maps and cache, and nothing of the other side.
use Prim.Native.Nat.{ℕ}
use mathlib.Core.Bool.{true}
use mathlib.Core.List.{List}
use mathlib.Core.Path.{◌≡◌, refl}
use Rattle.numbers.specs.declared.Side.{Side}
use Rattle.numbers.specs.declared.Side.TheVariants.{Cpu, Dma}
use Rattle.model.specs.State.{Tables, Route, route, with_side}
use Rattle.model.specs.Views.{knows, may_map}
use Rattle.model.specs.Valid.{ValidTables}
use Rattle.model.specs.Upstream.{S2Map, Tlb, map_seen, tlb_seen, software_view, HardwareView, hardware_view, SameS2Map, SameTlb, SameSoftware, SameHardware}
use Rattle.model.specs.UpstreamStep.{map_of, with_map_of, MayTarget, walk_of, tlb_of, with_walk}
use Rattle.model.proofs.UpstreamWf.{may_cpu, may_dma}
use Rattle.model.proofs.UpstreamFollows.{same_sets}

-- the hardware view with this route on the side
abbrev pub shown : Side → Tables → List ℕ → Route → HardwareView
shown side t memory r = hardware_view (record { tables = with_side side t r t.sets; memory = memory })

pub with_own : (side : Side) (t : Tables) → with_side side t (route side t) t.sets ≡ t
with_own Cpu t = refl
with_own Dma t = refl

-- hardware does not see the page sets
pub sets_unseen : (side : Side) (t : Tables) (memory : List ℕ) (r : Route) (sets : List ℕ) →
    hardware_view (record { tables = with_side side t r sets; memory = memory }) ≡ shown side t memory r
sets_unseen Cpu t memory r sets = refl
sets_unseen Dma t memory r sets = refl

-- what the side's fields are
pub map_of_lem : (side : Side) (t : Tables) → map_of side (software_view t) ≡ map_seen (route side t).map
map_of_lem Cpu t = refl
map_of_lem Dma t = refl

pub walk_of_lem : (side : Side) (t : Tables) (memory : List ℕ) (r : Route) → walk_of side (shown side t memory r) ≡ map_seen r.walker
walk_of_lem Cpu t memory r = refl
walk_of_lem Dma t memory r = refl

pub tlb_of_lem : (side : Side) (t : Tables) (memory : List ℕ) (r : Route) → tlb_of side (shown side t memory r) ≡ tlb_seen r.cache
tlb_of_lem Cpu t memory r = refl
tlb_of_lem Dma t memory r = refl

pub may_target : (side : Side) (t : Tables) → ValidTables t → (vm page : ℕ) → knows t.known vm ≡ true → may_map side t.sets t.pairs vm page ≡ true →
    MayTarget side (software_view t) vm page
may_target Cpu t valid vm page k m = may_cpu t valid vm page k m
may_target Dma t valid vm page k m = (k, may_dma t valid vm page m)

-- the software map replaced, the walker and cache replaced
pub route_software : (side : Side) (t : Tables) (r : Route) (map : S2Map) → SameS2Map (map_seen r.map) map →
    SameSoftware (software_view (with_side side t r t.sets)) (with_map_of side (software_view t) map)
route_software Cpu t r map e =
    record {
      all_vms = λ vm v. refl;
      hypervisor_owned = λ page h. refl;
      vm_owned = same_sets _;
      shared_pages = λ left right page l r h. refl;
      s2_map = e;
      iommu_s2_map = λ vm gpa v g. refl;
      iommu_owned = same_sets _;
      iommu_shared = λ page h. refl;
    }
route_software Dma t r map e =
    record {
      all_vms = λ vm v. refl;
      hypervisor_owned = λ page h. refl;
      vm_owned = same_sets _;
      shared_pages = λ left right page l r h. refl;
      s2_map = λ vm gpa v g. refl;
      iommu_s2_map = e;
      iommu_owned = same_sets _;
      iommu_shared = λ page h. refl;
    }

pub route_hardware : (side : Side) (t : Tables) (memory : List ℕ) (r r' : Route) (map : S2Map) (tlb : Tlb) → r'.ports ≡ r.ports → SameS2Map (map_seen r'.walker) map →
    SameTlb (tlb_seen r'.cache) tlb →
    SameHardware (shown side t memory r') (with_walk side (shown side t memory r) map tlb)
route_hardware Cpu t memory r r' map tlb p e f =
    record {
      tlb = f;
      s2map = e;
      iommu_tlb = λ cpu vm gpa c v g. refl;
      iommu_s2map = λ vm gpa v g. refl;
      memory = λ address. refl;
      active_vm = λ cpu c. rw p;
    }
route_hardware Dma t memory r r' map tlb p e f =
    record {
      tlb = λ cpu vm gpa c v g. refl;
      s2map = λ vm gpa v g. refl;
      iommu_tlb = f;
      iommu_s2map = e;
      memory = λ address. refl;
      active_vm = λ cpu c. refl;
    }
