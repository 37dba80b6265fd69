-- The room in which records wait to be written.
use Rattle.std.specs.Prelude.{ℕ}

abbrev pub LOG_ROOM : ℕ
LOG_ROOM = 65536
