-- `seen_at` meets its contract. Assumes nothing.
use Rattle.std.proofs.Common.{rules, sym}
use Rattle.nib.proofs.Looks.{found-find}
use Rattle.nib.proofs.neighbor_table.seen_at.Goals as goal

pub returns : goal.returns
returns c = rw (sym c.in_ok-e.ensures) (search (rules, found-find))
