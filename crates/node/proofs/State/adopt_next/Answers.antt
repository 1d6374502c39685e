-- `State::adopt_next` meets its contract. Assumes nothing.
use mathlib.Core.Path.{refl}
use Rattle.operation.specs.declared.Move.TheVariants.{AdoptNext}
use Rattle.node.proofs.Writes.{adopt-is}
use Rattle.node.proofs.State.adopt_next.Goals as goal

pub returns : goal.returns
returns c = adopt-is AdoptNext c.args.self.now _ _ _ _ refl c.len-count.ensures c.next_index-index.ensures c.adopt_parent-self.ensures c.take_next-self.ensures
