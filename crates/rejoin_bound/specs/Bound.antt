-- The bound on a rejoin (01, "Join request and confirm", the paragraphs on the rejoin):
-- "With a leave's announcement allowed in each poll, a rejoin uses at most 698 outcomes: 17 × 41 + 1. A set-channel or set-address note has no outcome."
use Rattle.std.specs.Prelude.{ℕ, ◌+◌, ◌*◌, ◌≤◌, ◌≡◌, Bool, true, false, cond, not, ◌&&◌, List, [], ◌∷◌}
use Rattle.management.specs.declared.NlmeJoinRequest.{NlmeJoinRequest}
use Rattle.operation.specs.declared.ReceptionFor.{ReceptionFor}
use Rattle.operation.specs.declared.ScanFor.{ScanFor}
use Rattle.operation.specs.declared.TransmissionFor.{TransmissionFor}
use Rattle.operation.specs.declared.Phase.{Phase}
use Rattle.operation.specs.declared.Step.{Step}
use Rattle.node.specs.Calls.{Call, discovery, join, send, poll, receive, timeout, scan, association, transmission, reception, elapsed, take_leave, take_status, answer}
use Rattle.node.specs.declared.State.{State}
use Rattle.node.specs.declared.Answer.{Answer}

-- a rejoin is under way: it awaits its scan, the send of a request, a poll, or the announcement of a leave that a poll brought
abbrev pub for_rejoin : ReceptionFor → Bool
for_rejoin ReceptionFor.RejoinResponse = true
for_rejoin ReceptionFor.SinglePoll = false
for_rejoin ReceptionFor.SingleReceive = false
for_rejoin (ReceptionFor.TimeoutResponse u) = false

abbrev pub in_rejoin : Phase → Bool
in_rejoin Phase.Idle = false
in_rejoin (Phase.Scan ScanFor.Discovery) = false
in_rejoin (Phase.Scan ScanFor.Rejoin) = true
in_rejoin Phase.Association = false
in_rejoin (Phase.Transmission TransmissionFor.RejoinRequest) = true
in_rejoin (Phase.Transmission TransmissionFor.Data) = false
in_rejoin (Phase.Transmission (TransmissionFor.TimeoutRequest u)) = false
in_rejoin (Phase.Transmission (TransmissionFor.Leave l)) = for_rejoin l.purpose
in_rejoin (Phase.Reception u) = for_rejoin u

-- a call that reports what came of a request to the radio
abbrev pub is_outcome : Call → Bool
is_outcome (discovery r) = false
is_outcome (join r) = false
is_outcome (send destination secure) = false
is_outcome poll = false
is_outcome receive = false
is_outcome (timeout u) = false
is_outcome (scan o t) = true
is_outcome (association o) = true
is_outcome (transmission ok) = true
is_outcome (reception o t) = true
is_outcome (elapsed ms) = false
is_outcome take_leave = false
is_outcome take_status = false

abbrev pub is_refused : Step → Bool
is_refused (Step.Refused k) = true
is_refused (Step.Ask r) = false
is_refused Step.Discovered = false
is_refused Step.DiscoveryFailed = false
is_refused (Step.Joined x) = false
is_refused (Step.Sent x) = false
is_refused (Step.Polled x) = false
is_refused (Step.NegotiationOver x) = false
is_refused (Step.KeepaliveOver x) = false
is_refused (Step.Expired x) = false
is_refused (Step.LeaveTaken x) = false
is_refused (Step.StatusTaken x) = false
is_refused Step.PageWritten = false
is_refused Step.Done = false

-- an accepted outcome: such a call that is not refused
abbrev pub is_accepted : Call → Answer → Bool
is_accepted c a = not (is_refused a.step) && is_outcome c

-- how many accepted outcomes a list of calls has until the rejoin is over, the one that ends it included; any other call may stand among them
abbrev pub outcomes : State → List Call → ℕ
outcomes s [] = 0
outcomes s (c ∷ cs) =
    cond (in_rejoin s.control.operation.phase) (cond (is_accepted c (answer s c)) 1 0 + outcomes (answer s c).state cs) 0

-- 17 tries, the remembered parent's and those of 16 candidates, each of one send and of 20 polls with a leave's announcement in each; and one scan
abbrev pub most : ℕ
most = 17 * 41 + 1

-- the claim: from any state with no operation under way, after any join request (after one that starts no rejoin nothing is counted), whatever is called
abbrev pub RejoinBound : Type 0
RejoinBound =
    (s : State) → s.control.operation.phase ≡ Phase.Idle → (r : NlmeJoinRequest) → (cs : List Call) → outcomes (answer s (join r)).state cs ≤ most

-- no smaller number would do: some rejoin uses as many
abbrev pub BoundReached : Type 0
BoundReached =
    (s : State) × (r : NlmeJoinRequest) × (cs : List Call) × (s.control.operation.phase ≡ Phase.Idle) × (outcomes (answer s (join r)).state cs ≡ most)
