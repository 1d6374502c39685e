-- What `read_as` knows at each turn of its loop.
use lib.ListN.{length}
use Rattle.text.specs.Text.{fields}
use Rattle.trace_lines.proofs.Lines.{ReadSoFar}
use Rattle.trace_lines.proofs.read_as.Given as goal

abbrev pub invariant-loop-i : goal.invariant-loop-i
invariant-loop-i l = ReadSoFar l.kind (fields l.line) (length l.yielded) l.dash l.numbers
