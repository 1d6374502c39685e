-- What `write_page` knows at each turn of its loop.
use Rattle.std.proofs.Common.{◌≡◌, take}
use Rattle.std.proofs.lemmas.List.Edits.{sets}
use mathlib.Core.List.{flat_map}
use Rattle.neighbor_page.proofs.write_page.Given as goal

-- after k rows these stand at the front of the buffer
abbrev pub invariant-loop-k : goal.invariant-loop-k
invariant-loop-k l = l.page ≡ sets l.initial.page 0 (flat_map (λ r. r) (take l.k l.row-items))
