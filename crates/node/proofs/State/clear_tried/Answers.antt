-- `State::clear_tried` meets its contract. Assumes nothing.
use mathlib.Core.Path.{refl}
use mathlib.Core.Bool.{true}
use Rattle.node.proofs.Writes.{clear-is}
use Rattle.node.proofs.State.clear_tried.Goals as goal

pub returns : goal.returns
returns c = clear-is true c.args.self.now _ _ _ refl c.len.ensures c.tried_index-index.ensures c.clear_potential_parent-self.ensures
