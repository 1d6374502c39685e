-- `renew_last_heard` meets its contract. Assumes nothing.
use borrow.Author.Rules.{rules}
use Rattle.nib.specs.NeighborTable.{renewed, heard_at}
use Rattle.nib.proofs.neighbor_table.renew_last_heard.Goals as goal

pub returns : goal.returns
unfolding renewed
returns c = c.change_first.ensures (heard_at c.args.clock) (λ e r p. search rules)
