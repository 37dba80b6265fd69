-- Operation 27 is accepted exactly where its conditions hold: the VM is known, and on no port.
use Prim.{tt}
use Prim.Native.Nat.{ℕ, ◌<◌}
use mathlib.Core.Logic.{◌⊎◌, inl, inr, ⊎_elim}
use Rattle.numbers.specs.Limits.{PORTS}
use Rattle.numbers.specs.Decides.{Decides}
use Rattle.numbers.specs.DecidesLaws.{always, decides_as, decides_or}
use Rattle.numbers.specs.declared.Side.{Side}
use Rattle.numbers.specs.declared.Side.TheVariants.{Cpu, Dma}
use Rattle.model.specs.State.{Tables}
use Rattle.model.specs.Valid.{ValidTables}
use Rattle.model.specs.Ledger.{vm_early}
use Rattle.model.specs.Retire.{retire_may, retire_answer}
use Rattle.model.specs.Conditions.{accepts, RunsOn, Retires}
use Rattle.model.proofs.ExactLaws.{unless, and_then_lem, dropping_exact}
use Rattle.model.proofs.ExactLedger.{vm_early_lem}
use Rattle.model.proofs.ExactViews.{port_exact}

module _ (t : Tables) (v : ValidTables t) where
  -- what keeps a VM
  abbrev OnSome : Side → ℕ → Type 0
  OnSome side vm = (port : ℕ) × (port < PORTS) × RunsOn side t port vm

  pub retire_exact : (vm : ℕ) → Decides (accepts (retire_answer t.known t.sets t.cpu.cache t.dma.cache t.cpu.ports t.dma.ports vm)) (Retires t vm)
  unfolding retire_answer retire_may
  retire_exact vm =
      dropping_exact (retire_may t.known t.cpu.ports t.dma.ports vm) _
      (decides_as
      (and_then_lem (vm_early t.known vm) _ (vm_early_lem t.known vm)
      (unless _ _ _ _ (decides_or (port_exact t.cpu.ports vm v.lengths.cpu.ports) (port_exact t.dma.ports vm v.lengths.dma.ports)) always))
      (λ ((ok, (known, _)), (idle, _)). record { vm_ok = ok; known = known; no_port = no_port idle })
      (λ c. ((c.vm_ok, (c.known, tt)), (⊎_elim (on c Cpu) (on c Dma), tt))))
    where
      no_port : (OnSome Cpu vm ⊎ OnSome Dma vm → ⊥) → (side : Side) (port : ℕ) → port < PORTS → RunsOn side t port vm → ⊥
      no_port idle Cpu port h e = idle (inl (port, h, e))
      no_port idle Dma port h e = idle (inr (port, h, e))

      on : Retires t vm → (side : Side) → OnSome side vm → ⊥
      on c side (port, h, e) = c.no_port side port h e
