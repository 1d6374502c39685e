-- `neighbor_ieee_address` meets its contract. Assumes nothing.
use Rattle.std.proofs.Common.{rules}
use Rattle.nib.specs.Neighbors.{entries_of}
use Rattle.nib.specs.NeighborTable.{ieee_of}
use Rattle.nib.proofs.Looks.{found-find}
use Rattle.nib.proofs.neighbor_table.neighbor_ieee_address.Goals as goal

pub returns : goal.returns
unfolding ieee_of
returns c = rw (found-find c.args.address.0 (entries_of c.args.table.now)) (search rules)
