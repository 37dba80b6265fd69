-- A view is equal to itself; a refused operation takes no step; and which edits of our tables a view does not see.
use Prim.Native.Nat.{ℕ}
use mathlib.Core.List.{List, [], ◌∷◌}
use Rattle.std.specs.Prelude.{Option, Ok, Err}
use mathlib.Core.Path.{◌≡◌, refl}
use Rattle.numbers.specs.Meaning.{Answer, accept}
use Rattle.numbers.specs.declared.Operation.{Operation}
use Rattle.model.specs.State.{Tables, Setup, State}
use Rattle.model.specs.Effect.{Effect, decided, apply, cleared_pages}
use Rattle.model.specs.Step.{next_of, effect_of}
use Rattle.model.specs.Upstream.{PageSets, SameSets, SoftwareView, HardwareView, SameSoftware, SameHardware}
use Rattle.model.specs.UpstreamStep.{with_active, with_memory}
use Rattle.model.specs.UpstreamRun.{SoftwareCall, HardwareCall, SoftwareStep, HardwareStep, SoftwareRun, HardwareRun, stop, go, software_calls, hardware_calls, Follows, FollowsControl}

pub same_sets : (a : PageSets) → SameSets a a
same_sets a = record { vms = λ vm v. refl; pages = λ vm page v h e. refl }

pub same_software : (s : SoftwareView) → SameSoftware s s
same_software s =
    record {
      all_vms = λ vm v. refl;
      hypervisor_owned = λ page h. refl;
      vm_owned = same_sets s.vm_owned;
      shared_pages = λ left right page l r h. refl;
      s2_map = λ vm gpa v g. refl;
      iommu_s2_map = λ vm gpa v g. refl;
      iommu_owned = same_sets s.iommu_owned;
      iommu_shared = λ page h. refl;
    }

-- a view with another memory and other active VMs that answer as its own do
pub same_with : (h : HardwareView) (memory active : ℕ → Option ℕ) → ((address : ℕ) → h.memory address ≡ memory address) → ((cpu : ℕ) → h.active_vm cpu ≡ active cpu) →
    SameHardware h (with_active (with_memory h memory) active)
same_with h memory active e f =
    record {
      tlb = λ cpu vm gpa c v g. refl;
      s2map = λ vm gpa v g. refl;
      iommu_tlb = λ cpu vm gpa c v g. refl;
      iommu_s2map = λ vm gpa v g. refl;
      memory = e;
      active_vm = λ cpu c. f cpu;
    }

pub same_hardware : (h : HardwareView) → SameHardware h h
same_hardware h = same_with h h.memory h.active_vm (λ address. refl) (λ cpu. refl)

-- runs of one step
pub software_once : {setup : Setup} {call : SoftwareCall} {a b : SoftwareView} → SoftwareStep setup call a b → SoftwareRun setup (call ∷ []) a b
software_once x = go x (stop (same_software _))

pub hardware_once : {call : HardwareCall} {a b : HardwareView} → HardwareStep call a b → HardwareRun (call ∷ []) a b
hardware_once x = go x (stop (same_hardware _))

-- what an accepted operation owes: its steps lead to the tables and the memory that it leaves
abbrev pub AcceptedFollows : State → Operation → Type 0
AcceptedFollows s operation =
    Follows s (record { tables = next_of s.tables operation; memory = apply (effect_of s.tables operation) s.memory }) (software_calls s.tables operation)
    (hardware_calls s.tables operation)

-- and that is all that is asked for: a refused one takes no step
pub decided_follows : (s : State) (answer : Answer) (new : Tables) (effect : Effect) (software : List SoftwareCall) (hardware : List HardwareCall) →
    ((dropped word : ℕ) → answer ≡ accept dropped word → Follows s (record { tables = new; memory = apply effect s.memory }) software hardware) →
    FollowsControl s (decided s.tables answer new effect) software hardware
unfolding decided apply cleared_pages
decided_follows s (Ok ok) new effect software hardware follows = follows ok.dropped ok.word refl
decided_follows s (Err err) new effect software hardware follows =
    record { software = stop (same_software _); hardware = stop (same_hardware _) }
