-- What `write_rows` knows at each turn of its loop.
use mathlib.Core.Path.{◌≡◌}
use lib.ListN.{take}
use Rattle.text.specs.Writer.{with_text}
use Rattle.yard_list.specs.YardList.{rows_from}
use Rattle.yard_list.proofs.write_rows.Given as goal

-- after i candidates their lines are written
abbrev pub invariant-loop-i : goal.invariant-loop-i
invariant-loop-i l = l.out ≡ with_text l.initial.out (rows_from l.entries 1 (take l.i l.index-items))
