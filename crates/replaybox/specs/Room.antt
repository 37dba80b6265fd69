-- The log's buffer, and the text of a record.
use Rattle.std.specs.Prelude.{ℕ, ◌+◌, ◌*◌}
use Rattle.batch.specs.Room.{NUMBER_BYTES, ANSWER_BYTES}
use Rattle.operation_log.specs.Log.{FIELDS}

-- the buffer's bytes: the longest record has 65,537
abbrev pub LOG_ROOM : ℕ
LOG_ROOM = 131072

-- the most bytes of a record's numbers: the kind and its arguments, each with the byte after it, and a blank
abbrev pub ROW_BYTES : ℕ
ROW_BYTES = (FIELDS + 1) * NUMBER_BYTES + 1

-- and with its answer
abbrev pub LINE_BYTES : ℕ
LINE_BYTES = ROW_BYTES + ANSWER_BYTES
