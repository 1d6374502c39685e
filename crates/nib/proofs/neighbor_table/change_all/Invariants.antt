-- What `change_all` knows at each turn of its loop.
use Rattle.std.proofs.Common.{◌≡◌, map}
use Rattle.lists.specs.Lists.{on_front}
use Rattle.nib.specs.declared.NwkNeighbor.{NwkNeighbor}
use Rattle.nib.specs.Private.{Changes}
use Rattle.nib.proofs.neighbor_table.change_all.Given as goal

-- the first entries, up to the index, are changed, and the others are as before
abbrev pub invariant-loop-e : goal.invariant-loop-e
invariant-loop-e g l = (f : NwkNeighbor → NwkNeighbor) → Changes (goal.F-post g l.change) f → l.front ≡ on_front l.e-index (map f) l.initial.front
