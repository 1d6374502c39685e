-- `change_at` meets its contract. Assumes nothing.
use Prim.Native.Nat.{◌≤◌, ◌<◌}
use mathlib.Core.Path.{sym}
use native.Mathlib.Omega.{arith}
use lib.ListN.{length, length-take}
use Rattle.lists.specs.Lists.{change_at}
use Rattle.lists.proofs.Maps.{change-past, change-set}
use Rattle.nib.specs.Neighbors.{blank, entries_of}
use Rattle.nib.specs.NeighborTable.{on_entries}
use Rattle.nib.proofs.Entries.{on-kept}
use Rattle.nib.proofs.neighbor_table.change_at.Goals as goal

pub returns-then-len-index : goal.returns-then-len-index
returns-then-len-index g c = λ f d.
    let h : length (entries_of c.args.table) ≤ c.args.index = omega (arith, c.len.ensures) in
    sym (on-kept (change_at c.args.index f) c.args.table (change-past f c.args.index (entries_of c.args.table) h))

-- past the test: the index is below the count
pub returns : goal.returns
unfolding on_entries
returns g c = λ f d.
    let t = c.args.table in
    let h : c.args.index < t.count = omega (arith, c.len.ensures, length-take t.count t.entries) in
    rw (d _ _ c.change.ensures, change-set f t.count c.args.index t.entries blank h)
