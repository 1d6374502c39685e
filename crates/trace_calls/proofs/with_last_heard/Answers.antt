-- `with_last_heard` meets its contract. Assumes nothing.
use mathlib.Core.Path.{sym}
use native.Mathlib.Omega.{arith}
use Rattle.lists.proofs.Maps.{change-past}
use Rattle.lists.proofs.Pairs.{change-is}
use Rattle.nib.specs.Neighbors.{blank}
use Rattle.nib.specs.NeighborTable.{heard_at}
use Rattle.trace_calls.proofs.with_last_heard.Goals as goal

pub returns-then-last-lt-MAX_NEIGBOUR_TABLE : goal.returns-then-last-lt-MAX_NEIGBOUR_TABLE
returns-then-last-lt-MAX_NEIGBOUR_TABLE c =
    let t = c.args.table in
    rw (sym c.saturating_sub-last.ensures, change-is c.saturating_sub-last.result (heard_at c.args.seconds) t.entries blank)

-- the last place is past the array
pub returns-else-last-lt-MAX_NEIGBOUR_TABLE : goal.returns-else-last-lt-MAX_NEIGBOUR_TABLE
returns-else-last-lt-MAX_NEIGBOUR_TABLE c = rw (sym c.saturating_sub-last.ensures, change-past (heard_at c.args.seconds) c.saturating_sub-last.result c.args.table.entries (omega (arith)))
