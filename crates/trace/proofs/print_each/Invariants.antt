-- What `print_each` knows at each turn of its loop.
use mathlib.Core.Path.{◌≡◌}
use lib.ListN.{take}
use Rattle.text.specs.Writer.{with_text}
use Rattle.trace.specs.Trace.{lines_text, each_line}
use Rattle.trace.proofs.print_each.Given as goal

-- after i elements their lines are written
abbrev pub invariant-loop-x : goal.invariant-loop-x
invariant-loop-x g l = l.out ≡ with_text l.initial.out (lines_text (each_line g.T.Printed.line (take l.x-index l.items)))
