-- What the private functions ask and say. No public promise uses it.
use Rattle.std.specs.Prelude.{◌≤◌, ◌<◌, length}
use Rattle.lists.specs.Lists.{All}
use Rattle.nib.specs.Neighbors.{entries_of}
use Rattle.nib.specs.declared.NeighborTable.{NeighborTable}
use Rattle.candidates.specs.Candidates.{items_of}
use Rattle.candidates.specs.declared.CandidateList.{CandidateList}

-- a list of at most 16 candidates, each an index of the table
pub record InTable (t : NeighborTable) (c : CandidateList) : Type 0 where
  pub few : c.count ≤ 16
  pub within : All (λ i. i < length (entries_of t)) (items_of c)
