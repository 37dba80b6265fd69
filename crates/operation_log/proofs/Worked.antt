-- Records and what each says, by computing it (docs/MACHINE.md, 14): the manual's example, every kind, every refusal and each two that meet.
use Prim.Native.Nat.{ℕ, ◌+◌}
use mathlib.Core.List.{List, [], ◌∷◌, ◌++◌, map}
use mathlib.Core.Path.{◌≡◌, refl}
use lib.ListN.{take, replicate}
use Rattle.std.specs.Prelude.{None, Result, Ok, Err}
use Rattle.operation_log.specs.Kinds.{KINDS, argument_counts}
use Rattle.operation_log.specs.Log.{log_refusal_number, record_of, Read, record_at, place_after, written_at, written}
use Rattle.operation_log.specs.Logs.{log_of, Found, Record, End, Refused, Readings, read_all}
use Rattle.operation_log.specs.declared.LogRefusal.TheVariants.{CutShort, UnknownKind, WrongLength, DoesNotFit}
use Rattle.operation_log.specs.declared.LogRefusal.{LogRefusal}
use Rattle.operation_log.proofs.ReadWritten.{a_record}

-- a row of the numbers that are given, and 0 behind them
abbrev pub padded : List ℕ → List ℕ
padded ns = take 8 (ns ++ replicate 8 0)

-- ---- the example: adding VM 1
abbrev pub add_one : List ℕ
add_one = 6 ∷ 0 ∷ 1 ∷ 0 ∷ 1 ∷ 0 ∷ 0 ∷ 0 ∷ []

pub add_one_written : record_of (padded (1 ∷ 1 ∷ [])) ≡ add_one
unfolding record_of argument_counts
add_one_written = refl

pub add_one_read : record_at add_one 0 ≡ a_record (padded (1 ∷ 1 ∷ [])) 8
unfolding record_at argument_counts
add_one_read = refl

-- between other bytes, which stay
pub add_one_between : written (padded (1 ∷ 1 ∷ [])) (replicate 11 9) 2 ≡ 9 ∷ 9 ∷ (add_one ++ (9 ∷ []))
unfolding written written_at record_of argument_counts
add_one_between = refl

-- ---- every kind: a row of eight numbers, written into a buffer at place 1 and read there
abbrev pub full : ℕ → List ℕ
full kind = kind ∷ 11 ∷ 12 ∷ 13 ∷ 14 ∷ 15 ∷ 16 ∷ 17 ∷ []

abbrev pub read_back : List ℕ → Read
read_back row = record_at (written row (replicate 25 9) 1) 1

-- what is read, and the place behind it
abbrev pub kinds : List Read
kinds =
    -- VMs, ownership and sharing
    a_record (padded (1 ∷ 11 ∷ [])) 9
    ∷ a_record (padded (2 ∷ 11 ∷ [])) 9
    ∷ a_record (padded (3 ∷ 11 ∷ 12 ∷ [])) 13
    ∷ a_record (padded (4 ∷ 11 ∷ 12 ∷ [])) 13
    ∷ a_record (padded (5 ∷ 11 ∷ 12 ∷ 13 ∷ [])) 17
    ∷ a_record (padded (6 ∷ 11 ∷ 12 ∷ 13 ∷ [])) 17
    -- map and unmap
    ∷ a_record (padded (7 ∷ 11 ∷ 12 ∷ 13 ∷ 14 ∷ 15 ∷ [])) 25
    ∷ a_record (padded (8 ∷ 11 ∷ 12 ∷ 13 ∷ 14 ∷ 15 ∷ [])) 25
    ∷ a_record (padded (9 ∷ 11 ∷ 12 ∷ [])) 13
    ∷ a_record (padded (10 ∷ 11 ∷ 12 ∷ [])) 13
    -- regions
    ∷ a_record (padded (11 ∷ 11 ∷ 12 ∷ 13 ∷ 14 ∷ 15 ∷ [])) 25
    ∷ a_record (padded (12 ∷ 11 ∷ 12 ∷ 13 ∷ 14 ∷ 15 ∷ [])) 25
    ∷ a_record (padded (13 ∷ 11 ∷ 12 ∷ 13 ∷ 14 ∷ 15 ∷ [])) 25
    ∷ a_record (padded (14 ∷ 11 ∷ 12 ∷ 13 ∷ 14 ∷ 15 ∷ [])) 25
    -- ports, fills, emptied slots
    ∷ a_record (padded (15 ∷ 11 ∷ 12 ∷ [])) 13
    ∷ a_record (padded (16 ∷ 11 ∷ 12 ∷ [])) 13
    ∷ a_record (padded (17 ∷ 11 ∷ 12 ∷ [])) 13
    ∷ a_record (padded (18 ∷ 11 ∷ 12 ∷ [])) 13
    ∷ a_record (padded (19 ∷ 11 ∷ [])) 9
    ∷ a_record (padded (20 ∷ 11 ∷ [])) 9
    -- reads and writes
    ∷ a_record (padded (21 ∷ 11 ∷ 12 ∷ 13 ∷ [])) 17
    ∷ a_record (padded (22 ∷ 11 ∷ 12 ∷ 13 ∷ [])) 17
    ∷ a_record (padded (23 ∷ 11 ∷ 12 ∷ 13 ∷ 14 ∷ [])) 25
    ∷ a_record (padded (24 ∷ 11 ∷ 12 ∷ 13 ∷ 14 ∷ [])) 25
    -- barriers
    ∷ a_record (padded (25 ∷ [])) 5
    ∷ a_record (padded (26 ∷ [])) 5
    -- a VM retired
    ∷ a_record (padded (27 ∷ 11 ∷ [])) 9
    ∷ []

abbrev pub every_kind : List ℕ
every_kind = 1 ∷ 2 ∷ 3 ∷ 4 ∷ 5 ∷ 6 ∷ 7 ∷ 8 ∷ 9 ∷ 10 ∷ 11 ∷ 12 ∷ 13 ∷ 14 ∷ 15 ∷ 16 ∷ 17 ∷ 18 ∷ 19 ∷ 20 ∷ 21 ∷ 22 ∷ 23 ∷ 24 ∷ 25 ∷ 26 ∷ 27 ∷ []

pub kinds_read : map (λ kind. read_back (full kind)) every_kind ≡ kinds
unfolding record_at written written_at record_of argument_counts
kinds_read = refl

-- ---- what is refused
-- the manual's numbers
pub refusal_numbers : map log_refusal_number (CutShort ∷ UnknownKind ∷ WrongLength ∷ DoesNotFit ∷ []) ≡ 20 ∷ 21 ∷ 22 ∷ 23 ∷ []
refusal_numbers = refl

-- a log, a place, and what is found there: not a record
pub record Reading : Type 0 where
  pub log : List ℕ
  pub place : ℕ
  pub says : Read

abbrev pub reading : List ℕ → ℕ → Read → Reading
reading log place says = record { log = log; place = place; says = says }

abbrev pub readings : List Reading
readings =
    -- 20: one, two and three bytes left; one byte and many fewer than the length says
    reading (6 ∷ []) 0 (Err CutShort)
    ∷ reading (6 ∷ 0 ∷ []) 0 (Err CutShort)
    ∷ reading (6 ∷ 0 ∷ 1 ∷ []) 0 (Err CutShort)
    ∷ reading (take 7 add_one) 0 (Err CutShort)
    ∷ reading (255 ∷ 255 ∷ 1 ∷ 0 ∷ 1 ∷ 0 ∷ 0 ∷ 0 ∷ []) 0 (Err CutShort)
    ∷ reading add_one 5 (Err CutShort)
    -- 21: before the first kind, past the last one, the highest number of two bytes, and a kind in the high byte
    ∷ reading (2 ∷ 0 ∷ 0 ∷ 0 ∷ []) 0 (Err UnknownKind)
    ∷ reading (2 ∷ 0 ∷ (KINDS + 1) ∷ 0 ∷ []) 0 (Err UnknownKind)
    ∷ reading (2 ∷ 0 ∷ 255 ∷ 255 ∷ []) 0 (Err UnknownKind)
    ∷ reading (2 ∷ 0 ∷ 0 ∷ 25 ∷ []) 0 (Err UnknownKind)
    -- 22: a byte less and a byte more than the kind has, with other bytes behind them; a length that does not hold the kind
    ∷ reading (5 ∷ 0 ∷ 1 ∷ 0 ∷ 1 ∷ 0 ∷ 0 ∷ 0 ∷ 0 ∷ []) 0 (Err WrongLength)
    ∷ reading (7 ∷ 0 ∷ 1 ∷ 0 ∷ 1 ∷ 0 ∷ 0 ∷ 0 ∷ 0 ∷ []) 0 (Err WrongLength)
    ∷ reading (0 ∷ 0 ∷ 25 ∷ 0 ∷ []) 0 (Err WrongLength)
    ∷ reading (1 ∷ 0 ∷ 25 ∷ 0 ∷ []) 0 (Err WrongLength)
    ∷ reading add_one 2 (Err WrongLength)
    -- two that meet: cut short comes before an unknown kind and before a wrong length, and an unknown kind before a wrong length
    ∷ reading (3 ∷ 0 ∷ (KINDS + 1) ∷ 0 ∷ []) 0 (Err CutShort)
    ∷ reading (7 ∷ 0 ∷ 1 ∷ 0 ∷ 1 ∷ 0 ∷ 0 ∷ 0 ∷ []) 0 (Err CutShort)
    ∷ reading (0 ∷ 0 ∷ (KINDS + 1) ∷ 0 ∷ []) 0 (Err UnknownKind)
    ∷ reading (1 ∷ 0 ∷ 0 ∷ 0 ∷ []) 0 (Err UnknownKind)
    -- at a record's place in a log of more
    ∷ reading (add_one ++ (2 ∷ 0 ∷ (KINDS + 1) ∷ 0 ∷ [])) 8 (Err UnknownKind)
    -- the end, and past it
    ∷ reading [] 0 (Ok None)
    ∷ reading [] 3 (Ok None)
    ∷ reading add_one 8 (Ok None)
    ∷ reading add_one 1000 (Ok None)
    ∷ []

-- a reader that finds none stays where it is
abbrev pub says_in : Reading → Read × ℕ
says_in r = (r.says, r.place)

pub readings_say : map (λ (r : Reading). let read = record_at r.log r.place in (read, place_after read r.place)) readings ≡ map says_in readings
unfolding record_at argument_counts
readings_say = refl

-- a row, the bytes that the buffer has, a place in it, and what the writer says
pub record Writing : Type 0 where
  pub row : List ℕ
  pub room : ℕ
  pub place : ℕ
  pub says : Result ℕ LogRefusal

abbrev pub writing : List ℕ → ℕ → ℕ → Result ℕ LogRefusal → Writing
writing ns room place says = record { row = padded ns; room = room; place = place; says = says }

-- the first number that four bytes cannot hold
abbrev pub over : ℕ
over = 4294967296

abbrev pub writings : List Writing
writings =
    -- 21: no kind, in bytes or not
    writing [] 100 0 (Err UnknownKind)
    ∷ writing ((KINDS + 1) ∷ []) 100 0 (Err UnknownKind)
    ∷ writing (65537 ∷ []) 100 0 (Err UnknownKind)
    -- 23: an argument that four bytes cannot hold, first and last; behind the arguments it is no argument
    ∷ writing (1 ∷ over ∷ []) 100 0 (Err DoesNotFit)
    ∷ writing (7 ∷ 1 ∷ 2 ∷ 3 ∷ 4 ∷ over ∷ []) 100 0 (Err DoesNotFit)
    ∷ writing (23 ∷ 1 ∷ 2 ∷ over ∷ 4 ∷ []) 100 0 (Err DoesNotFit)
    ∷ writing (1 ∷ 4294967295 ∷ over ∷ []) 100 0 (Ok 8)
    ∷ writing (25 ∷ over ∷ []) 100 0 (Ok 4)
    -- but a value may be one
    ∷ writing (23 ∷ 1 ∷ 2 ∷ 3 ∷ over ∷ []) 100 0 (Ok 24)
    -- 23: a byte too little room, at the start and behind other bytes; at the end and past it; room that is just enough
    ∷ writing (1 ∷ 1 ∷ []) 7 0 (Err DoesNotFit)
    ∷ writing (1 ∷ 1 ∷ []) 8 1 (Err DoesNotFit)
    ∷ writing (25 ∷ []) 4 1 (Err DoesNotFit)
    ∷ writing (25 ∷ []) 4 4 (Err DoesNotFit)
    ∷ writing (25 ∷ []) 4 9 (Err DoesNotFit)
    ∷ writing (25 ∷ []) 0 0 (Err DoesNotFit)
    ∷ writing (1 ∷ 1 ∷ []) 8 0 (Ok 8)
    ∷ writing (25 ∷ []) 9 5 (Ok 9)
    -- two that meet: an unknown kind comes before what does not fit, by its number or by the room
    ∷ writing ((KINDS + 1) ∷ over ∷ []) 100 0 (Err UnknownKind)
    ∷ writing ((KINDS + 1) ∷ []) 0 0 (Err UnknownKind)
    ∷ writing (0 ∷ over ∷ []) 0 9 (Err UnknownKind)
    ∷ []

pub writings_say : map (λ (w : Writing). written_at w.row w.room w.place) writings ≡ map (λ (w : Writing). w.says) writings
unfolding written_at argument_counts
writings_say = refl

-- ---- the highest value
abbrev pub highest : List ℕ
highest = padded (24 ∷ 1 ∷ 2 ∷ 3 ∷ 18446744073709551615 ∷ [])

pub highest_written : record_of highest ≡ 22 ∷ 0 ∷ 24 ∷ 0 ∷ 1 ∷ 0 ∷ 0 ∷ 0 ∷ 2 ∷ 0 ∷ 0 ∷ 0 ∷ 3 ∷ 0 ∷ 0 ∷ 0 ∷ replicate 8 255
unfolding record_of argument_counts
highest_written = refl

pub highest_read : read_back highest ≡ a_record highest 25
unfolding record_at written written_at record_of argument_counts
highest_read = refl

-- ---- a log: three records, then bytes that are none; as many as are asked for, and no more than there are
abbrev pub three : List (List ℕ)
three = padded (1 ∷ 1 ∷ []) ∷ padded (25 ∷ []) ∷ padded (23 ∷ 0 ∷ 16 ∷ 5 ∷ 4294967298 ∷ []) ∷ []

abbrev pub three_bytes : List ℕ
three_bytes = add_one ++ (2 ∷ 0 ∷ 25 ∷ 0 ∷ 22 ∷ 0 ∷ 23 ∷ 0 ∷ 0 ∷ 0 ∷ 0 ∷ 0 ∷ 16 ∷ 0 ∷ 0 ∷ 0 ∷ 5 ∷ 0 ∷ 0 ∷ 0 ∷ 2 ∷ 0 ∷ 0 ∷ 0 ∷ 1 ∷ 0 ∷ 0 ∷ 0 ∷ [])

abbrev pub read_to : ℕ → Found → Readings
read_to place found = record { rows = three; place = place; found = found }

pub three_written : log_of three ≡ three_bytes
unfolding record_of argument_counts
three_written = refl

pub three_read : read_all 3 three_bytes 0 ∷ read_all 9 three_bytes 0 ∷ read_all 9 (three_bytes ++ (2 ∷ 0 ∷ 0 ∷ [])) 0 ∷ [] ≡ read_to 36 Record ∷ read_to 36 End ∷ read_to 36 (Refused CutShort) ∷ []
unfolding record_at argument_counts
three_read = refl
