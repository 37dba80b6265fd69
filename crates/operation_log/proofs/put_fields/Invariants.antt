-- `put_fields`: the fields so far stand in the buffer.
use Rattle.std.specs.Prelude.{◌≡◌, take}
use Rattle.std.specs.List.{flat_map}
use Rattle.model.specs.Sequence.{write_at}
use Rattle.records.specs.Little.{bytes_of}
use Rattle.operation_log.specs.Kinds.{FIELD_BYTES}
use Rattle.operation_log.proofs.put_fields.Given as goal

abbrev pub invariant-loop-i : goal.invariant-loop-i
invariant-loop-i l = l.log ≡ write_at l.initial.log l.at (flat_map (bytes_of FIELD_BYTES) (take l.i l.fields))
