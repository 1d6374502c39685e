-- `learn_source` meets its contract. Assumes nothing.
use Rattle.std.specs.Prelude.{None}
use mathlib.Core.Path.{refl, sym}
use Rattle.nib.proofs.Entries.{on-kept}
use Rattle.nlme.specs.Received.{taught_by}
use Rattle.nlme.proofs.received.learn_source.Goals as goal

pub returns-in-None : goal.returns-in-None
unfolding taught_by
returns-in-None c = rw c.in-None.is (sym (on-kept (taught_by None c.args.source.address) c.args.table refl))
