-- What each operation's step leaves, part by part: a part that an accepted operation replaces is `kept` by a refused one.
use Rattle.std.specs.Prelude.{ℕ, Bool, List, ◌≡◌, Ok, Err}
use Rattle.std.proofs.Math.Path.{refl, sym}
use Rattle.std.proofs.Common.{ap, ◌∙◌}
use Rattle.numbers.specs.Meaning.{Answer}
use Rattle.numbers.specs.declared.Side.{Side}
use Rattle.numbers.specs.declared.Side.TheVariants.{Cpu, Dma}
use Rattle.numbers.specs.declared.SideOperation.{SideOperation}
use Rattle.numbers.specs.declared.VmId.{VmId}
use Rattle.numbers.specs.declared.PhysPage.{PhysPage}
use Rattle.numbers.specs.declared.Operation.TheVariants.{AddVm, RemoveVm, AssignPage, ReclaimPage, SharePage, UnsharePage, On, DataBarrier, InstructionBarrier, RetireVm}
use Rattle.model.specs.Header.{Lists, header_of, setup_of, tables_of, state_of}
use Rattle.model.specs.declared.Fixed.{Fixed}
use Rattle.model.specs.declared.SideRegisters.{SideRegisters}
use Rattle.model.specs.declared.Registers.{Registers}
use Rattle.model.specs.declared.Machine.{Machine}
use Rattle.model.specs.State.{Tables, Route, State, route, replaced, with_side, with_known, with_sets, with_pairs, with_maps}
use Rattle.model.specs.Effect.{Effect, clears, quiet, kept, decided, accepted, apply, cleared_pages}
use Rattle.model.specs.Ledger.{add_vm_answer, add_vm_known, remove_vm_answer, remove_vm_known, assign_answer, assign_sets, reclaim_answer, reclaim_sets, reclaim_clears, share_answer, share_pairs, unshare_answer, unshare_pairs}
use Rattle.model.specs.Retire.{retire_answer, retire_clears, retired}
use Rattle.model.specs.Step.{Stepped, unit_for, carried_out, control, step}
use Rattle.sides.specs.Sides.{Sight, SideStepped, sight, side_stepped, side_decided, side_step}
use Rattle.retire.specs.Parts.{Left, retired_lists}
use Rattle.operate.specs.Outcome.{outcome}

abbrev pub stepped : Answer → Tables → List ℕ → Stepped
stepped answer t memory = record { answer = answer; state = record { tables = t; memory = memory } }

module _ (t : Tables) (memory : List ℕ) where
  -- ---- what changes is one part
  known_arm : (a : Answer) (known : ℕ) → carried_out (decided t a (with_known t known) quiet) memory ≡ stepped a (with_known t (kept a t.known known)) memory
  unfolding decided apply cleared_pages
  known_arm (Ok ok) known = refl
  known_arm (Err err) known = refl

  pairs_arm : (a : Answer) (pairs : List ℕ) → carried_out (decided t a (with_pairs t pairs) quiet) memory ≡ stepped a (with_pairs t (kept a t.pairs pairs)) memory
  unfolding decided apply cleared_pages
  pairs_arm (Ok ok) pairs = refl
  pairs_arm (Err err) pairs = refl

  -- pages that move, with nothing cleared
  move_arm : (a : Answer) (sets : List ℕ) → carried_out (decided t a (with_sets t sets) quiet) memory ≡ stepped a (with_sets t (kept a t.sets sets)) memory
  unfolding decided apply cleared_pages
  move_arm (Ok ok) sets = refl
  move_arm (Err err) sets = refl

  sets_arm : (a : Answer) (sets pages : List ℕ) → carried_out (decided t a (with_sets t sets) (clears pages)) memory ≡ stepped a (with_sets t (kept a t.sets sets)) (apply (kept a quiet (clears pages)) memory)
  unfolding decided
  sets_arm (Ok ok) sets pages = refl
  sets_arm (Err err) sets pages = refl

  -- one side's route and the page sets, by what a step over that side leaves
  abbrev sight_of : Side → Sight
  sight_of side = record { sets = t.sets; route = route side t; memory = memory }

  abbrev joined : Side → SideStepped → Stepped
  joined side r = stepped r.answer (with_side side t r.after.route r.after.sets) r.after.memory

  side_arm :
      (side : Side) (a : Answer) (r : Route) (sets : List ℕ) (effect : Effect) →
      carried_out (decided t a (with_side side t r sets) effect) memory ≡ joined side (side_decided (sight_of side) a sets r effect)
  unfolding decided
  side_arm Cpu (Ok ok) r sets effect = refl
  side_arm Cpu (Err err) r sets effect = refl
  side_arm Dma (Ok ok) r sets effect = refl
  side_arm Dma (Err err) r sets effect = refl

  side_step_lem :
      (side : Side) (operation : SideOperation) →
      joined side (side_step side t.setup.pages (unit_for side t.setup operation) t.known t.pairs (sight_of side) operation) ≡ step (record { tables = t; memory = memory }) (On side operation)
  unfolding step control side_step
  side_step_lem side operation = sym (side_arm side _ _ _ _)

-- ---- each operation, over what start fixed, the registers and what is lent
module _ (fixed : Fixed) (r : Registers) (l : Lists) where
  abbrev header : Machine
  header = header_of fixed r

  -- the same with other known VMs
  abbrev known : ℕ → Machine
  known v = header_of fixed (record r { known = v })

  abbrev here : Tables
  here = tables_of header l

  abbrev now : State
  now = state_of header l

  pub add_vm_step : (vm : VmId) → let a = add_vm_answer r.known vm.0 in outcome a (known (kept a r.known (add_vm_known r.known vm.0))) l ≡ step now (AddVm vm)
  unfolding step control
  add_vm_step vm = sym (known_arm here l.memory _ _)

  pub remove_vm_step : (vm : VmId) →
      let a = remove_vm_answer r.known l.sets l.pairs l.cpu_map l.dma_map r.cpu.ports r.dma.ports vm.0 in
      outcome a (known (kept a r.known (remove_vm_known r.known vm.0))) l ≡ step now (RemoveVm vm)
  unfolding step control
  remove_vm_step vm = sym (known_arm here l.memory _ _)

  pub assign_step : (vm : VmId) (page : PhysPage) →
      let a = assign_answer r.known fixed.pages l.sets vm.0 page.0 in
      outcome a header (record l { sets = kept a l.sets (assign_sets l.sets vm.0 page.0) }) ≡ step now (AssignPage vm page)
  unfolding step control
  assign_step vm page = sym (move_arm here l.memory _ _)

  pub reclaim_step : (vm : VmId) (page : PhysPage) →
      let a = reclaim_answer r.known fixed.pages l.sets l.pairs l.cpu_map vm.0 page.0 in
      outcome a header (record l {
        sets = kept a l.sets (reclaim_sets l.sets vm.0 page.0);
        memory = apply (kept a quiet (clears (reclaim_clears l.sets vm.0 page.0))) l.memory;
      }) ≡ step now (ReclaimPage vm page)
  unfolding step control
  reclaim_step vm page = sym (sets_arm here l.memory _ _ _)

  pub share_step : (left right : VmId) (page : PhysPage) →
      let a = share_answer r.known fixed.pages l.sets l.pairs left.0 right.0 page.0 in
      outcome a header (record l { pairs = kept a l.pairs (share_pairs l.pairs left.0 right.0 page.0) }) ≡ step now (SharePage left right page)
  unfolding step control
  share_step left right page = sym (pairs_arm here l.memory _ _)

  pub unshare_step : (left right : VmId) (page : PhysPage) →
      let a = unshare_answer r.known fixed.pages l.sets l.pairs l.cpu_map left.0 right.0 page.0 in
      outcome a header (record l { pairs = kept a l.pairs (unshare_pairs l.pairs left.0 right.0 page.0) }) ≡ step now (UnsharePage left right page)
  unfolding step control
  unshare_step left right page = sym (pairs_arm here l.memory _ _)

  pub data_barrier_step : outcome accepted header l ≡ step now DataBarrier
  unfolding step control decided apply cleared_pages
  data_barrier_step = refl

  pub instruction_barrier_step : outcome accepted header l ≡ step now InstructionBarrier
  unfolding step control decided apply cleared_pages
  instruction_barrier_step = refl

  -- ---- a VM retired, where the code left what is given
  retire_arm : (a : Answer) (vm : ℕ) →
      carried_out (decided here a (retired here vm) (clears (retire_clears l.sets fixed.pages vm))) l.memory
      ≡ outcome a (known (kept a r.known (remove_vm_known r.known vm))) (kept a l (retired_lists fixed.pages vm l))
  unfolding decided apply cleared_pages
  retire_arm (Ok ok) vm = refl
  retire_arm (Err err) vm = refl

  pub retire_step : (vm : VmId) {told : Answer} {known' : ℕ} {l' : Lists} →
      Left (retire_answer r.known l.sets l.cpu_cache l.dma_cache r.cpu.ports r.dma.ports vm.0) fixed.pages vm.0 r.known l told known' l' →
      outcome told (known known') l' ≡ step now (RetireVm vm)
  unfolding step control
  retire_step vm left = rw (left.answer, left.known, left.lists) (sym (retire_arm _ vm.0))

  -- ---- an operation of a side, where a step over the side's tables left what is given
  pub cpu_step :
      (operation : SideOperation) {unit : Bool} {a : Answer} {sets map walker cache : List ℕ} {own : SideRegisters} {memory : List ℕ} →
      unit ≡ unit_for Cpu (setup_of fixed) operation →
      side_stepped a (sight sets map walker cache own.hand own.ports memory)
      ≡ side_step Cpu fixed.pages unit r.known l.pairs (sight l.sets l.cpu_map l.cpu_walker l.cpu_cache r.cpu.hand r.cpu.ports l.memory) operation →
      outcome a (header_of fixed (record r { cpu = own })) (record l { sets = sets; cpu_map = map; cpu_walker = walker; cpu_cache = cache; memory = memory }) ≡ step now (On Cpu operation)
  cpu_step operation u e = ap (joined here l.memory Cpu) (rw u at e) ∙ side_step_lem here l.memory Cpu operation

  pub dma_step :
      (operation : SideOperation) {unit : Bool} {a : Answer} {sets map walker cache : List ℕ} {own : SideRegisters} {memory : List ℕ} →
      unit ≡ unit_for Dma (setup_of fixed) operation →
      side_stepped a (sight sets map walker cache own.hand own.ports memory)
      ≡ side_step Dma fixed.pages unit r.known l.pairs (sight l.sets l.dma_map l.dma_walker l.dma_cache r.dma.hand r.dma.ports l.memory) operation →
      outcome a (header_of fixed (record r { dma = own })) (record l { sets = sets; dma_map = map; dma_walker = walker; dma_cache = cache; memory = memory }) ≡ step now (On Dma operation)
  dma_step operation u e = ap (joined here l.memory Dma) (rw u at e) ∙ side_step_lem here l.memory Dma operation
