-- Every limit of the machine, under the name that the code has for it (docs/MACHINE.md, 1).
use Rattle.std.specs.Prelude.{ℕ, ◌+◌, ◌*◌, ◌/◌}

-- a page is this many 64-bit words
abbrev pub PAGE_WORDS : ℕ
PAGE_WORDS = 512

-- the most physical pages a machine may have
abbrev pub PAGES : ℕ
PAGES = 1024

-- guest pages of a VM
abbrev pub GUEST_PAGES : ℕ
GUEST_PAGES = 65536

-- VM ids
abbrev pub VMS : ℕ
VMS = 16

-- CPUs, and as many devices
abbrev pub PORTS : ℕ
PORTS = 8

-- entries of a map, software or walker
abbrev pub ENTRIES : ℕ
ENTRIES = 512

-- sharing pairs
abbrev pub PAIRS : ℕ
PAIRS = 128

-- slots of a translation cache
abbrev pub SLOTS : ℕ
SLOTS = 64

-- units that start may be given
abbrev pub UNITS : ℕ
UNITS = 32

-- accesses: every sum of READ, WRITE and EXECUTE; no operation asks for the last
abbrev pub ACCESSES : ℕ
ACCESSES = 8

abbrev pub READ : ℕ
READ = 1

abbrev pub WRITE : ℕ
WRITE = 2

abbrev pub EXECUTE : ℕ
EXECUTE = 4

-- generations of an entry
abbrev pub GENERATIONS : ℕ
GENERATIONS = 65536

-- words of one page set: a bit for each of PAGES
abbrev pub SET_WORDS : ℕ
SET_WORDS = PAGES / 64

-- page sets: the pool, the shared span, and two for each VM
abbrev pub SETS : ℕ
SETS = 2 + 2 * VMS

-- numbers in a row of the sequence, and in its answer
abbrev pub ROW_NUMBERS : ℕ
ROW_NUMBERS = 8

abbrev pub ANSWER_NUMBERS : ℕ
ANSWER_NUMBERS = 4

-- how rows and the header write that a port is idle
abbrev pub IDLE : ℕ
IDLE = 4294967295
