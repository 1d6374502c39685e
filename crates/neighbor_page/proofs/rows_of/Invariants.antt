-- What `rows_of` knows at each turn of its loop.
use Rattle.std.proofs.Common.{◌≡◌, length}
use Rattle.nib.specs.Neighbors.{entries_of}
use Rattle.lists.specs.Lists.{over}
use Rattle.neighbor_page.proofs.Gathered.{first_rows}
use Rattle.neighbor_page.proofs.rows_of.Given as goal

-- after i slots the first row and those of i slots stand in front
abbrev pub invariant-loop-i : goal.invariant-loop-i
invariant-loop-i l = (length l.initial.rows ≡ 17) × (l.rows ≡ over l.initial.rows (first_rows (entries_of l.table) l.i))
