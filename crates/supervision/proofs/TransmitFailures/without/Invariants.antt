-- What `without` knows at each turn of its loop.
use Rattle.std.proofs.Common.{◌≡◌, take}
use Rattle.lists.specs.Private.{remove_at}
use Rattle.supervision.specs.Failures.{failures_of}
use Rattle.supervision.proofs.TransmitFailures.without.Given as goal

-- after i pairs the result has those of them that don't stand at the place
abbrev pub invariant-loop-i : goal.invariant-loop-i
invariant-loop-i l = l.out ≡ failures_of (remove_at l.place (take l.i l.p-items))
