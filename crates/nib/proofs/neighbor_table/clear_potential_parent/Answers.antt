-- `clear_potential_parent` meets its contract. Assumes nothing.
use borrow.Author.Rules.{rules}
use Rattle.nib.specs.NeighborTable.{potential_cleared_at, without_potential}
use Rattle.nib.proofs.neighbor_table.clear_potential_parent.Goals as goal

pub returns : goal.returns
unfolding potential_cleared_at
returns c = c.change_at.ensures (without_potential) (λ e r p. search rules)
