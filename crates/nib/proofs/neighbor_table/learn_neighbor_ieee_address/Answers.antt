-- `learn_neighbor_ieee_address` meets its contract. Assumes nothing.
use borrow.Author.Rules.{rules}
use Rattle.nib.specs.NeighborTable.{learnt, with_ieee}
use Rattle.nib.proofs.neighbor_table.learn_neighbor_ieee_address.Goals as goal

pub returns : goal.returns
unfolding learnt
returns c = c.change_first.ensures (with_ieee c.args.ieee) (λ e r p. search rules)
