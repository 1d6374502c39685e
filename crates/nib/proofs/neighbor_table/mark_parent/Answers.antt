-- `mark_parent` meets its contract. Assumes nothing.
use borrow.Author.Rules.{rules}
use Rattle.nib.specs.Neighbors.{PARENT}
use Rattle.nib.specs.NeighborTable.{marked, with_relationship}
use Rattle.nib.proofs.neighbor_table.mark_parent.Goals as goal

pub returns : goal.returns
unfolding marked
returns c = c.change_at.ensures (with_relationship PARENT) (λ e r p. search rules)
