-- What `retain` knows at each turn of its loop.
use Rattle.std.proofs.Common.{◌≡◌, take}
use Rattle.nib.specs.Neighbors.{table_of}
use Rattle.nib.specs.NeighborTable.{retained}
use Rattle.nib.proofs.neighbor_table.retain.Given as goal

-- after so many entries the result has those of them whose address is another
abbrev pub invariant-loop-e : goal.invariant-loop-e
invariant-loop-e l = l.out ≡ table_of (retained l.address.0 (take l.e-index l.e-items))
