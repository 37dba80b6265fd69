-- Operations 15 to 20: switch a CPU or bind a device, fill and empty a slot (docs/MACHINE.md, 7).
use Rattle.std.specs.Prelude.{ℕ, ◌+◌, Bool, true, not, ◌&&◌, List, ltb, get_or, set, Option, None, Some}
use Rattle.std.specs.Prelude.{if◌then◌else◌}
use Rattle.numbers.specs.Limits.{SLOTS, IDLE}
use Rattle.numbers.specs.Meaning.{target_number, Answer}
use Rattle.numbers.specs.Packing.{slot_word, slot_key, key, key_of, entry_of}
use Rattle.numbers.specs.declared.Refusal.TheVariants.{OutOfRange, VmUnknown, MappingDiffers, PortIdle}
use Rattle.numbers.specs.declared.VmId.{VmId}
use Rattle.table.specs.Table.{find, place, lookup, is_found, set_at, or_else}
use Rattle.model.specs.Views.{is_vm, is_guest, is_port, is_slot, is_idle, knows}
use Rattle.model.specs.Effect.{accepted, refused}

-- ---- 15, 16: a CPU or a device to a VM, or to idle
abbrev pub is_target : Option VmId → Bool
is_target None = true
is_target (Some vm) = is_vm vm.0

abbrev pub knows_target : ℕ → Option VmId → Bool
knows_target known None = true
knows_target known (Some vm) = knows known vm.0

unfoldable pub port_answer : ℕ → ℕ → Option VmId → Answer
port_answer known port target =
    if not (is_port port && is_target target) then refused OutOfRange
    else if not (knows_target known target) then refused VmUnknown
    else accepted

abbrev pub port_ports : List ℕ → ℕ → Option VmId → List ℕ
port_ports ports port target = set ports port (target_number target)

-- ---- 17, 18: fill a slot from the walker
-- the VM on a port
abbrev pub vm_on : List ℕ → ℕ → ℕ
vm_on ports port = get_or ports port IDLE

unfoldable pub fill_answer : List ℕ → List ℕ → ℕ → ℕ → Answer
fill_answer ports walker port guest =
    if not (is_port port && is_guest guest) then refused OutOfRange
    else if is_idle (vm_on ports port) then refused PortIdle
    else if not (is_found (find key_of walker (key (vm_on ports port) guest))) then refused MappingDiffers
    else accepted

-- the slot of the key, else the lowest empty slot, else the slot at the hand
unfoldable pub fill_place : List ℕ → ℕ → ℕ → Option ℕ
fill_place cache hand k = or_else (place key_of cache k) (Some hand)

unfoldable pub fill_cache : List ℕ → ℕ → List ℕ → List ℕ → ℕ → ℕ → List ℕ
fill_cache cache hand ports walker port guest =
    set_at cache (fill_place cache hand (slot_key port (vm_on ports port) guest))
    (slot_word port (vm_on ports port) guest (entry_of (lookup key_of walker (key (vm_on ports port) guest))))

-- the hand steps only where its slot was taken, from the last to the first
abbrev pub next_hand : ℕ → ℕ
next_hand hand = if ltb (hand + 1) SLOTS then hand + 1 else 0

unfoldable pub fill_hand : List ℕ → ℕ → List ℕ → ℕ → ℕ → ℕ
fill_hand cache hand ports port guest = if is_found (place key_of cache (slot_key port (vm_on ports port) guest)) then hand else next_hand hand

-- ---- 19, 20: empty a slot
unfoldable pub empty_answer : ℕ → Answer
empty_answer slot = if not (is_slot slot) then refused OutOfRange else accepted

abbrev pub empty_cache : List ℕ → ℕ → List ℕ
empty_cache cache slot = set cache slot 0
