-- `TransmitFailures::blank_unused` meets its contract. Assumes nothing.
use Rattle.std.proofs.Common.{length, ap, ◌∙◌, arith}
use Rattle.lists.proofs.Pairs.{remove-past}
use Rattle.supervision.specs.Failures.{pairs_of, failures_of}
use Rattle.supervision.proofs.TransmitFailures.blank_unused.Goals as goal

pub returns : goal.returns
returns c = c.without.ensures ∙ ap failures_of (remove-past _ (pairs_of c.args.self.now) (omega (arith, ap length c.used.ensures)))
