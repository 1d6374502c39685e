-- `hear_sender` meets its contract. Assumes nothing.
use mathlib.Core.Path.{refl, sym, ap, ◌∙◌}
use Rattle.nib.specs.Neighbors.{entries_of}
use Rattle.nib.specs.NeighborTable.{on_entries, renewed}
use Rattle.nib.proofs.Entries.{on-kept, on-on}
use Rattle.nlme.specs.Received.{taught_by, heard_from}
use Rattle.nlme.proofs.Taught.{taught-long}
use Rattle.nlme.proofs.received.hear_sender.Goals as goal

pub returns-in-Some : goal.returns-in-Some
unfolding heard_from
returns-in-Some c =
    let s = c.in-Some.source in
    let es = entries_of c.args.table in
    rw (sym c.sender.ensures ∙ c.in-Some.is)
    (c.renew_last_heard.ensures
    ∙ ap (on_entries (renewed s.address.0 c.args.clock)) c.learn_source-taught.ensures
    ∙ on-on (taught_by s.ieee s.address) c.args.table (taught-long s.ieee s.address es) (renewed s.address.0 c.args.clock))

pub returns-in-None : goal.returns-in-None
unfolding heard_from
returns-in-None c = rw (sym c.sender.ensures ∙ c.in-None.is) (sym (on-kept (λ es. es) c.args.table refl))
