-- `TransmitFailures::count_at` meets its contract. Assumes nothing.
use Rattle.supervision.specs.Failures.{pairs_of}
use Rattle.supervision.proofs.Failures.{counted-of}
use Rattle.supervision.proofs.TransmitFailures.count_at.Goals as goal

pub returns : goal.returns
returns c = rw (c.saturating_add-total.ensures, c.blank_unused-failures.ensures) (counted-of (pairs_of c.args.self.now) c.args.place c.requires)
