-- A law of the polls for a response. Assumes nothing.
use Rattle.std.specs.Prelude.{Option, Some, None, Result, MatchResult}
use mathlib.Core.Path.{◌≡◌, subst}
use Rattle.nib.specs.declared.NwkNeighbor.{NwkNeighbor}
use Rattle.operation.specs.Operation.{polling, polled_or, poll_on, polled_by, next_poll}
use Rattle.operation.specs.declared.ReceptionFor.{ReceptionFor}
use Rattle.operation.specs.declared.Control.{Control}
use Rattle.operation.specs.declared.Decision.{Decision}

-- the next poll, or what follows once they are over; r is what the code has found
pub polls_on : (u : ReceptionFor) (parent : Option NwkNeighbor) (over : Control → Decision) (c : Control) {r : Result Decision Control} {d : Decision} {P : Control → Type 0}
    → r ≡ next_poll u parent c → MatchResult r (λ x. d ≡ x) P → ((k : Control) → P k → d ≡ over k) → d ≡ poll_on u parent over c
unfolding poll_on next_poll
polls_on u parent over c {d = d} {P = P} e m f =
    asked (polling parent c).parent (polling parent c).control (subst (λ (r : Result Decision Control). MatchResult r (λ x. d ≡ x) P) e m)
  where
    asked : (p : Option NwkNeighbor) (k : Control) → MatchResult (polled_by u p k) (λ x. d ≡ x) P → d ≡ polled_or u over p k
    asked None k q = f k q
    asked (Some p) k q = q
