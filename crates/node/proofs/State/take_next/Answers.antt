-- `State::take_next` meets its contract. Assumes nothing.
use mathlib.Core.Path.{refl}
use Rattle.operation.specs.declared.Move.TheVariants.{TakeNext}
use Rattle.node.proofs.Writes.{take-is}
use Rattle.node.proofs.State.take_next.Goals as goal

pub returns : goal.returns
returns c = take-is TakeNext c.args.self.now _ _ refl c.len.ensures c.take_next-self.ensures
