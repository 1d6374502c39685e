-- What `neighbor_table_from` knows at each turn of its loop.
use Rattle.std.proofs.Common.{◌≡◌, take}
use Rattle.nib.specs.Neighbors.{table_of}
use Rattle.discovery.specs.Discovery.{neighbors_heard}
use Rattle.discovery.proofs.neighbor_table_from.Given as goal

-- after i descriptors the table has the first 16 of the entries that they give
abbrev pub invariant-loop-pd : goal.invariant-loop-pd
invariant-loop-pd l = l.table ≡ table_of (take 16 (neighbors_heard l.clock (take l.pd-index l.pd-items)))
