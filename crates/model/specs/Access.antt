-- Operations 21 to 24: a CPU or a device reads or writes one word (docs/MACHINE.md, 7).
use Rattle.std.specs.Prelude.{ℕ, ◌/◌, ◌%◌, Bool, not, ◌&&◌, List, eqb}
use Rattle.std.specs.Prelude.{if◌then◌else◌}
use Rattle.numbers.specs.Packing.{slot_key, key, key_of, access_of, page_of}
use Rattle.numbers.specs.Meaning.{Answer}
use Rattle.numbers.specs.declared.Refusal.TheVariants.{OutOfRange, MappingDiffers, PortIdle, AccessLacking}
use Rattle.table.specs.Table.{lookup}
use Rattle.model.specs.Views.{is_guest, is_port, is_word, is_idle}
use Rattle.model.specs.Effect.{Place, accepted, refused}
use Rattle.model.specs.Ports.{vm_on}

-- the word that translates: the slot if one is held, else the walker's, 0 where there is neither
unfoldable pub translate : List ℕ → List ℕ → ℕ → ℕ → ℕ → ℕ
translate cache walker port vm guest =
    let slot = lookup key_of cache (slot_key port vm guest) in
    if eqb slot 0 then lookup key_of walker (key vm guest) else slot

-- the entry has the access bit, READ or WRITE
abbrev pub allows : ℕ → ℕ → Bool
allows bit w = eqb (access_of w / bit % 2) 1

unfoldable pub access_answer : List ℕ → List ℕ → List ℕ → ℕ → ℕ → ℕ → ℕ → Answer
access_answer ports cache walker bit port guest word =
    if not (is_port port && is_guest guest && is_word word) then refused OutOfRange
    else if is_idle (vm_on ports port) then refused PortIdle
    else if eqb (translate cache walker port (vm_on ports port) guest) 0 then refused MappingDiffers
    else if not (allows bit (translate cache walker port (vm_on ports port) guest)) then refused AccessLacking
    else accepted

-- the word of memory that it reaches
abbrev pub access_place : List ℕ → List ℕ → List ℕ → ℕ → ℕ → ℕ → Place
access_place ports cache walker port guest word = record { page = page_of (translate cache walker port (vm_on ports port) guest); word = word }
