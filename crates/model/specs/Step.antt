-- The joined operation (docs/MACHINE.md, 7): what the tables decide for each, and one step of the whole machine.
use Rattle.std.specs.Prelude.{ℕ, Bool, false, List, [], ◌∷◌, get_or, Ok, Err}
use Rattle.numbers.specs.Limits.{READ, WRITE}
use Rattle.numbers.specs.Meaning.{Answer, accept}
use Rattle.numbers.specs.declared.Operation.{Operation}
use Rattle.numbers.specs.declared.Operation.TheVariants as op
use Rattle.numbers.specs.declared.Region.{Region}
use Rattle.numbers.specs.declared.Side.{Side}
use Rattle.numbers.specs.declared.SideOperation.{SideOperation}
use Rattle.numbers.specs.declared.SideOperation.TheVariants as sided
use Rattle.units.specs.Units.{assignable}
use Rattle.model.specs.State.{Setup, Tables, Route, State, route, with_side, with_known, with_sets, with_pairs, with_maps, with_cache, with_ports}
use Rattle.model.specs.Effect.{Effect, reads, writes, clears, quiet, Control, decided, accepted, apply, loaded}
use Rattle.model.specs.Ledger.{
  add_vm_answer,
  add_vm_known,
  remove_vm_answer,
  remove_vm_known,
  assign_answer,
  assign_sets,
  reclaim_answer,
  reclaim_sets,
  reclaim_clears,
  share_answer,
  share_pairs,
  unshare_answer,
  unshare_pairs,
}
use Rattle.model.specs.Maps.{map_answer, map_table, unmap_answer, unmap_table, without_slots}
use Rattle.model.specs.Regions.{insert_answer, insert_sets, insert_table, remove_answer, remove_sets, remove_table, remove_clears}
use Rattle.model.specs.Ports.{port_answer, port_ports, vm_on, fill_answer, fill_cache, fill_hand, empty_answer, empty_cache}
use Rattle.model.specs.Access.{access_answer, access_place}
use Rattle.model.specs.Retire.{retire_answer, retire_clears, retired}

-- ---- 7 to 24, an operation of one side: it looks at the side's route and at what both sides have, and never at the other route
-- whether the region that an operation names is a unit's for this side (refusal 8); no other operation asks
abbrev pub unit_for : Side → Setup → SideOperation → Bool
unit_for side setup (sided.MapPage vm guest page access generation) = false
unit_for side setup (sided.UnmapPage vm guest) = false
unit_for side setup (sided.InsertRegion region) = assignable setup.units setup.unit_count side region
unit_for side setup (sided.RemoveRegion region) = assignable setup.units setup.unit_count side region
unit_for side setup (sided.GivePort port target) = false
unit_for side setup (sided.FillSlot port guest) = false
unit_for side setup (sided.EmptySlot slot) = false
unit_for side setup (sided.ReadWord port guest word) = false
unit_for side setup (sided.WriteWord port guest word value) = false

-- its answer, but for the word that a read fills in
abbrev pub side_answer : Side → ℕ → Bool → ℕ → List ℕ → List ℕ → Route → SideOperation → Answer
side_answer side pages unit known sets pairs r (sided.MapPage vm guest page access generation) =
    map_answer side known pages sets pairs r.map r.cache vm.0 guest.0 page.0 access generation
side_answer side pages unit known sets pairs r (sided.UnmapPage vm guest) = unmap_answer known r.map r.cache vm.0 guest.0
side_answer side pages unit known sets pairs r (sided.InsertRegion region) = insert_answer side known pages unit sets r.map region
side_answer side pages unit known sets pairs r (sided.RemoveRegion region) = remove_answer side known pages unit sets pairs r.map r.cache region
side_answer side pages unit known sets pairs r (sided.GivePort port target) = port_answer known port target
side_answer side pages unit known sets pairs r (sided.FillSlot port guest) = fill_answer r.ports r.walker port guest.0
side_answer side pages unit known sets pairs r (sided.EmptySlot slot) = empty_answer slot
side_answer side pages unit known sets pairs r (sided.ReadWord port guest word) = access_answer r.ports r.cache r.walker READ port guest.0 word
side_answer side pages unit known sets pairs r (sided.WriteWord port guest word value) = access_answer r.ports r.cache r.walker WRITE port guest.0 word

-- what an accepted one leaves of the route, of the page sets, and its effect on memory
abbrev pub map_route : Route → ℕ → ℕ → ℕ → ℕ → ℕ → Route
map_route r vm guest page access generation =
    with_maps r (map_table r.map vm guest page access generation) (map_table r.walker vm guest page access generation) (without_slots r.cache vm guest)

abbrev pub unmap_route : Route → ℕ → ℕ → Route
unmap_route r vm guest = with_maps r (unmap_table r.map vm guest) (unmap_table r.walker vm guest) (without_slots r.cache vm guest)

abbrev pub insert_route : Route → Region → Route
insert_route r region = with_maps r (insert_table r.map region) (insert_table r.walker region) r.cache

abbrev pub remove_route : Route → Region → Route
remove_route r region = with_maps r (remove_table r.map region) (remove_table r.walker region) (remove_table r.cache region)

abbrev pub fill_route : Route → ℕ → ℕ → Route
fill_route r port guest =
    with_cache r (fill_cache r.cache r.hand r.ports r.walker port guest) (fill_hand r.cache r.hand r.ports port guest)

abbrev pub side_route : Route → SideOperation → Route
side_route r (sided.MapPage vm guest page access generation) = map_route r vm.0 guest.0 page.0 access generation
side_route r (sided.UnmapPage vm guest) = unmap_route r vm.0 guest.0
side_route r (sided.InsertRegion region) = insert_route r region
side_route r (sided.RemoveRegion region) = remove_route r region
side_route r (sided.GivePort port target) = with_ports r (port_ports r.ports port target)
side_route r (sided.FillSlot port guest) = fill_route r port guest.0
side_route r (sided.EmptySlot slot) = with_cache r (empty_cache r.cache slot) r.hand
side_route r (sided.ReadWord port guest word) = r
side_route r (sided.WriteWord port guest word value) = r

abbrev pub side_sets : Side → List ℕ → SideOperation → List ℕ
side_sets side sets (sided.MapPage vm guest page access generation) = sets
side_sets side sets (sided.UnmapPage vm guest) = sets
side_sets side sets (sided.InsertRegion region) = insert_sets side sets region
side_sets side sets (sided.RemoveRegion region) = remove_sets side sets region
side_sets side sets (sided.GivePort port target) = sets
side_sets side sets (sided.FillSlot port guest) = sets
side_sets side sets (sided.EmptySlot slot) = sets
side_sets side sets (sided.ReadWord port guest word) = sets
side_sets side sets (sided.WriteWord port guest word value) = sets

abbrev pub side_effect : Side → List ℕ → Route → SideOperation → Effect
side_effect side sets r (sided.MapPage vm guest page access generation) = quiet
side_effect side sets r (sided.UnmapPage vm guest) = quiet
side_effect side sets r (sided.InsertRegion region) = quiet
side_effect side sets r (sided.RemoveRegion region) = clears (remove_clears side sets region)
side_effect side sets r (sided.GivePort port target) = quiet
side_effect side sets r (sided.FillSlot port guest) = quiet
side_effect side sets r (sided.EmptySlot slot) = quiet
side_effect side sets r (sided.ReadWord port guest word) = reads (vm_on r.ports port) (access_place r.ports r.cache r.walker port guest.0 word ∷ [])
side_effect side sets r (sided.WriteWord port guest word value) =
    writes (vm_on r.ports port) (record { place = access_place r.ports r.cache r.walker port guest.0 word; value = value } ∷ [])

-- ---- all of them: the answer
abbrev pub answer_of : Tables → Operation → Answer
answer_of t (op.AddVm vm) = add_vm_answer t.known vm.0
answer_of t (op.RemoveVm vm) = remove_vm_answer t.known t.sets t.pairs t.cpu.map t.dma.map t.cpu.ports t.dma.ports vm.0
answer_of t (op.AssignPage vm page) = assign_answer t.known t.setup.pages t.sets vm.0 page.0
answer_of t (op.ReclaimPage vm page) = reclaim_answer t.known t.setup.pages t.sets t.pairs t.cpu.map vm.0 page.0
answer_of t (op.SharePage left right page) = share_answer t.known t.setup.pages t.sets t.pairs left.0 right.0 page.0
answer_of t (op.UnsharePage left right page) = unshare_answer t.known t.setup.pages t.sets t.pairs t.cpu.map left.0 right.0 page.0
answer_of t (op.On side operation) =
    side_answer side t.setup.pages (unit_for side t.setup operation) t.known t.sets t.pairs (route side t) operation
answer_of t op.DataBarrier = accepted
answer_of t op.InstructionBarrier = accepted
answer_of t (op.RetireVm vm) = retire_answer t.known t.sets t.cpu.cache t.dma.cache t.cpu.ports t.dma.ports vm.0

-- the tables that an accepted one leaves
abbrev pub next_of : Tables → Operation → Tables
next_of t (op.AddVm vm) = with_known t (add_vm_known t.known vm.0)
next_of t (op.RemoveVm vm) = with_known t (remove_vm_known t.known vm.0)
next_of t (op.AssignPage vm page) = with_sets t (assign_sets t.sets vm.0 page.0)
next_of t (op.ReclaimPage vm page) = with_sets t (reclaim_sets t.sets vm.0 page.0)
next_of t (op.SharePage left right page) = with_pairs t (share_pairs t.pairs left.0 right.0 page.0)
next_of t (op.UnsharePage left right page) = with_pairs t (unshare_pairs t.pairs left.0 right.0 page.0)
next_of t (op.On side operation) = with_side side t (side_route (route side t) operation) (side_sets side t.sets operation)
next_of t op.DataBarrier = t
next_of t op.InstructionBarrier = t
next_of t (op.RetireVm vm) = retired t vm.0

-- its effect on memory
abbrev pub effect_of : Tables → Operation → Effect
effect_of t (op.AddVm vm) = quiet
effect_of t (op.RemoveVm vm) = quiet
effect_of t (op.AssignPage vm page) = quiet
effect_of t (op.ReclaimPage vm page) = clears (reclaim_clears t.sets vm.0 page.0)
effect_of t (op.SharePage left right page) = quiet
effect_of t (op.UnsharePage left right page) = quiet
effect_of t (op.On side operation) = side_effect side t.sets (route side t) operation
effect_of t op.DataBarrier = quiet
effect_of t op.InstructionBarrier = quiet
effect_of t (op.RetireVm vm) = clears (retire_clears t.sets t.setup.pages vm.0)

-- ---- what is decided: all three where the answer accepts, and nothing where it refuses
unfoldable pub control : Tables → Operation → Control
control t operation = decided t (answer_of t operation) (next_of t operation) (effect_of t operation)

-- ---- one step: the answer with the word that was read, and the state after it
pub record Stepped : Type 0 where
  pub answer : Answer
  pub state : State

abbrev pub with_word : Answer → List ℕ → Answer
with_word (Ok ok) words = accept ok.dropped (get_or words 0 0)
with_word (Err err) words = Err err

-- only a read fills in the word
abbrev pub answer_with : Effect → List ℕ → Answer → Answer
answer_with (reads vm places) memory answer = with_word answer (loaded places memory)
answer_with (writes vm stores) memory answer = answer
answer_with (clears pages) memory answer = answer

abbrev pub carried_out : Control → List ℕ → Stepped
carried_out c memory =
    record {
      answer = answer_with c.effect memory c.answer;
      state = record { tables = c.tables; memory = apply c.effect memory };
    }

unfoldable pub step : State → Operation → Stepped
step s operation = carried_out (control s.tables operation) s.memory
