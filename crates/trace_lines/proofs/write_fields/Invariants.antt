-- What `write_fields` knows at each turn of its loop.
use mathlib.Core.Path.{◌≡◌}
use mathlib.Core.List.{map}
use lib.ListN.{take}
use Rattle.text.specs.Writer.{with_text}
use Rattle.trace_lines.specs.TraceLines.{field_text, joined}
use Rattle.trace_lines.proofs.write_fields.Given as goal

-- after i fields their texts are written, with a tab between each two
abbrev pub invariant-loop-i : goal.invariant-loop-i
invariant-loop-i l = l.out ≡ with_text l.initial.out (joined (map field_text (take l.i l.line)))
