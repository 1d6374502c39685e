-- `State::join_tried` meets its contract. Assumes nothing.
use mathlib.Core.Path.{refl}
use Rattle.operation.specs.declared.Move.TheVariants.{JoinTried}
use Rattle.node.proofs.Writes.{join_is}
use Rattle.node.proofs.State.join_tried.Goals as goal

pub returns : goal.returns
returns c = join_is JoinTried c.args.self.now _ _ _ _ refl c.len.ensures c.tried_index-index.ensures c.mark_parent-self.ensures c.clear_beacon_fields-self.ensures
