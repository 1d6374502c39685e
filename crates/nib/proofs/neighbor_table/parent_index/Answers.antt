-- `parent_index` meets its contract. Assumes nothing.
use Rattle.std.proofs.Common.{rules}
use Rattle.lists.proofs.First.{first-found}
use Rattle.nib.specs.Neighbors.{entries_of}
use Rattle.nib.specs.NeighborTable.{is_parent}
use Rattle.nib.proofs.neighbor_table.parent_index.Goals as goal

pub returns : goal.returns
returns c = rw (← first-found is_parent (entries_of c.args.table.now)) (search rules)
