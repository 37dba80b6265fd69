use Rattle.script.specs.LineLaws.{Reading}
use Rattle.script.proofs.read_line.Given as goal

abbrev pub invariant-loop-byte : goal.invariant-loop-byte
invariant-loop-byte l = Reading l.bytes l.reader l.byte-index
