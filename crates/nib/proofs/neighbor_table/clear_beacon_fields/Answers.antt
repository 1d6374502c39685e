-- `clear_beacon_fields` meets its contract. Assumes nothing.
use borrow.Author.Rules.{rules}
use Rattle.nib.specs.NeighborTable.{all_cleared, cleared}
use Rattle.nib.proofs.neighbor_table.clear_beacon_fields.Goals as goal

pub returns : goal.returns
unfolding all_cleared
returns c = c.change_all.ensures cleared (λ e r p. search rules)
