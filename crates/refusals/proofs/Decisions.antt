-- No decision is a refusal, and the polls that it uses are those that it requests. Assumes nothing.
-- In all but ticks, takings and announcements the leave indication stays and is not handed out, and no announcement is awaited afterwards.
use Rattle.std.specs.Prelude.{Result, Ok, Err, Option, Some, None}
use Prim.Native.Nat.{ℕ}
use mathlib.Core.Path.{◌≡◌, refl}
use mathlib.Core.Bool.{Bool, true, false}
use lib.Dec.{eqb, leb}
use Rattle.lists.proofs.Conditions.{by_cases}
use Rattle.nib.specs.declared.CapabilityInformation.{CapabilityInformation}
use Rattle.nib.specs.declared.ShortAddress.{ShortAddress}
use Rattle.management.specs.declared.NlmeJoinRequest.{NlmeJoinRequest}
use Rattle.management.specs.declared.NlmeJoinStatus.{NlmeJoinStatus}
use Rattle.management.specs.declared.NegotiationAnswer.{NegotiationAnswer}
use Rattle.management.specs.declared.PollAnswer.{PollAnswer}
use Rattle.management.specs.declared.RejoinResponse.{RejoinResponse}
use Rattle.supervision.specs.Failures.{transmit_failed}
use Rattle.nlme.specs.Nlme.{parent_address, link_failure, refreshed, negotiation_reset, timeout_requested, sent_via_parent, failure_counted}
use Rattle.nlme.specs.declared.Nlme.{Nlme}
use Rattle.operation.specs.Operation.{polled_or, polling, poll_on}
use Rattle.operation.specs.declared.TimeoutFor.{TimeoutFor}
use Rattle.operation.specs.declared.Phase.{Phase}
use Rattle.operation.specs.declared.ReceptionFor.{ReceptionFor}
use Rattle.operation.specs.declared.TransmissionFor.{TransmissionFor}
use Rattle.operation.specs.declared.Control.{Control}
use Rattle.operation.specs.declared.RadioRequest.{RadioRequest}
use Rattle.operation.specs.declared.Step.{Step}
use Rattle.operation.specs.declared.Decision.{Decision}
use Rattle.operation.specs.declared.Polling.{Polling}
use Rattle.join.specs.Join.{associating, join_started, joined_by, candidate_failed, succeeded, associated}
use Rattle.join.specs.declared.association.AssociationResponse.{AssociationResponse}
use Rattle.join.specs.Rejoin.{invalid, trying, scan_or_end, try_remembered, rejoin_started, try_candidate, try_next, try_failed, rejoined, responded, answered_by, request_sent}
use Rattle.exchange.specs.Exchange.{send_started, data_sent, poll_started, poll_over, timeout_accepted, timeout_failed, timeout_started, timeout_answered_by, timeout_request_sent}
use Rattle.node.specs.Calls.{continuing}
use Rattle.nib.specs.declared.NwkNeighbor.{NwkNeighbor}
use Rattle.management.specs.declared.EndDeviceTimeoutResponse.{EndDeviceTimeoutResponse}
use Rattle.management.specs.declared.NlmeLeaveIndication.{NlmeLeaveIndication}
use Rattle.discovery.specs.declared.mlme.MacError.{MacError}

-- a step that is made, and the polls that it uses: 1 with the request of a poll, 0 with any other; a refusal is not made
abbrev pub Uses : Step → ℕ → Type 0
Uses (Step.Refused k) n = ⊥
Uses (Step.Ask (RadioRequest.Scan r)) n = n ≡ 0
Uses (Step.Ask (RadioRequest.Associate r)) n = n ≡ 0
Uses (Step.Ask (RadioRequest.Transmit t)) n = n ≡ 0
Uses (Step.Ask (RadioRequest.Poll network address)) n = n ≡ 1
Uses (Step.Ask RadioRequest.Receive) n = n ≡ 0
Uses Step.Discovered n = n ≡ 0
Uses Step.DiscoveryFailed n = n ≡ 0
Uses (Step.Joined x) n = n ≡ 0
Uses (Step.Sent x) n = n ≡ 0
Uses (Step.Polled x) n = n ≡ 0
Uses (Step.NegotiationOver x) n = n ≡ 0
Uses (Step.KeepaliveOver x) n = n ≡ 0
Uses (Step.Expired x) n = n ≡ 0
Uses (Step.LeaveTaken x) n = n ≡ 0
Uses (Step.StatusTaken x) n = n ≡ 0
Uses Step.PageWritten n = n ≡ 0
Uses Step.Done n = n ≡ 0

-- an announcement of a leave is not awaited
abbrev pub NotLeaving : Phase → Type 0
NotLeaving (Phase.Transmission (TransmissionFor.Leave l)) = ⊥
NotLeaving (Phase.Transmission TransmissionFor.RejoinRequest) = Unit {0}
NotLeaving (Phase.Transmission TransmissionFor.Data) = Unit {0}
NotLeaving (Phase.Transmission (TransmissionFor.TimeoutRequest u)) = Unit {0}
NotLeaving Phase.Idle = Unit {0}
NotLeaving (Phase.Scan u) = Unit {0}
NotLeaving Phase.Association = Unit {0}
NotLeaving (Phase.Reception u) = Unit {0}

-- a leave indication is not handed out
abbrev pub NotTaken : Step → Type 0
NotTaken (Step.LeaveTaken x) = ⊥
NotTaken (Step.Refused k) = Unit {0}
NotTaken (Step.Ask r) = Unit {0}
NotTaken Step.Discovered = Unit {0}
NotTaken Step.DiscoveryFailed = Unit {0}
NotTaken (Step.Joined x) = Unit {0}
NotTaken (Step.Sent x) = Unit {0}
NotTaken (Step.Polled x) = Unit {0}
NotTaken (Step.NegotiationOver x) = Unit {0}
NotTaken (Step.KeepaliveOver x) = Unit {0}
NotTaken (Step.Expired x) = Unit {0}
NotTaken (Step.StatusTaken x) = Unit {0}
NotTaken Step.PageWritten = Unit {0}
NotTaken Step.Done = Unit {0}

-- a decision on a control part: its step and polls, the leave indication, and what is awaited then
abbrev held : Control → Option NlmeLeaveIndication
held c = c.nlme.signals.leave_indication

abbrev pub Made : Control → Decision → Type 0
Made c d = Uses d.step d.polls_used × (held d.control ≡ held c) × NotLeaving d.control.operation.phase × NotTaken d.step

-- the polls
polls-made : (u : ReceptionFor) (p : Option NwkNeighbor) (over : Control → Decision) (c : Control) → ((x : Control) → Made x (over x)) → Made c (poll_on u p over c)
unfolding polling poll_on
polls-made u None over c h = h _
polls-made u (Some e) over c h = by_cases (λ (x : Polling). Made c (polled_or u over x.parent x.control)) (eqb c.operation.polls_left 0) (λ _. h c) (refl, refl, tt, tt)

-- the association
pub join-made : (i : CapabilityInformation) (x : Option NwkNeighbor) (c : Control) → Made c (join_started i x c)
unfolding join_started associating negotiation_reset
join-made i None c = (refl, refl, tt, tt)
join-made i (Some e) c = (refl, refl, tt, tt)

candidate-made : (st : NlmeJoinStatus) (x : Option NwkNeighbor) (c : Control) → Made c (candidate_failed st x c)
unfolding candidate_failed associating
candidate-made st None c = (refl, refl, tt, tt)
candidate-made st (Some e) c = (refl, refl, tt, tt)

succeeded-made : (r : AssociationResponse) (t x : Option NwkNeighbor) (c : Control) → Made c (succeeded r t x c)
unfolding succeeded joined_by
succeeded-made r None x c = candidate-made _ x c
succeeded-made r (Some e) x c = (refl, refl, tt, tt)

pub associated-made : (o : Result AssociationResponse MacError) (t x : Option NwkNeighbor) (c : Control) → Made c (associated o t x c)
unfolding associated
associated-made (Err e) t x c = candidate-made _ x c
associated-made (Ok r) t x c = by_cases (Made c) (eqb r.status 0) (λ _. succeeded-made r t x c) (candidate-made _ x c)

-- the rejoin
scan-made : (st : NlmeJoinStatus) (c : Control) → Made c (scan_or_end st c)
unfolding scan_or_end
scan-made st c = by_cases (Made c) (leb c.operation.scan.past c.operation.scan.first) (λ _. (refl, refl, tt, tt)) (refl, refl, tt, tt)

remembered-made : (p : Option NwkNeighbor) (c : Control) → Made c (try_remembered p c)
unfolding try_remembered trying
remembered-made None c = scan-made _ c
remembered-made (Some e) c = (refl, refl, tt, tt)

pub rejoin-made : (r : NlmeJoinRequest) (p : Option NwkNeighbor) (c : Control) → Made c (rejoin_started r p c)
unfolding rejoin_started negotiation_reset
rejoin-made r p c = by_cases (Made c) (invalid r c.nlme) (λ _. (refl, refl, tt, tt)) (remembered-made p _)

pub next-made : (st : NlmeJoinStatus) (x : Option NwkNeighbor) (c : Control) → Made c (try_next st x c)
unfolding try_next try_candidate trying
next-made st None c = (refl, refl, tt, tt)
next-made st (Some e) c = (refl, refl, tt, tt)

failed-made : (st : NlmeJoinStatus) (x : Option NwkNeighbor) (c : Control) → Made c (try_failed st x c)
unfolding try_failed
failed-made st x c = by_cases (Made c) c.operation.scan_requested (λ _. next-made st x c) (scan-made st c)

rejoined-made : (r : RejoinResponse) (c : Control) → Made c (rejoined r c)
unfolding rejoined
rejoined-made r c = (refl, by_cases (λ (n : Nlme). n.signals.leave_indication ≡ held c) (eqb c.operation.extended_pan_id.0 0) (λ _. refl) refl, tt, tt)

answered-made : (a : Option RejoinResponse) (p x : Option NwkNeighbor) (c : Control) → Made c (answered_by a p x c)
unfolding answered_by responded
answered-made (Some r) p x c = by_cases (Made c) (eqb r.status 0) (λ _. rejoined-made r _) (failed-made _ x _)
answered-made None p x c = polls-made _ p _ c (failed-made _ x)

pub request-made : (ok : Bool) (p x : Option NwkNeighbor) (c : Control) → Made c (request_sent ok p x c)
unfolding request_sent
request-made true p x c = answered-made _ p x c
request-made false p x c = failed-made _ x c

-- sends, polls, negotiation and keepalive
pub send-made : (d : ShortAddress) (secure : Bool) (p : Option NwkNeighbor) (c : Control) → Made c (send_started d secure p c)
unfolding send_started
send-made d secure None c = (refl, refl, tt, tt)
send-made d secure (Some e) c = (refl, refl, tt, tt)

pub sent-made : (ok : Bool) (p : Option NwkNeighbor) (c : Control) → Made c (data_sent ok p c)
unfolding data_sent sent_via_parent refreshed failure_counted link_failure
sent-made true p c = (refl, refl, tt, tt)
sent-made false p c =
    (refl, by_cases (λ (n : Nlme). n.signals.leave_indication ≡ held c) (transmit_failed c.nlme.transmit_failures (parent_address p)).link_failed (λ _. refl) refl, tt, tt)

pub poll_started-made : (p : Option NwkNeighbor) (c : Control) → Made c (poll_started p c)
unfolding poll_started
poll_started-made None c = (refl, refl, tt, tt)
poll_started-made (Some e) c = (refl, refl, tt, tt)

timeout_failed-made : (a : NegotiationAnswer) (u : TimeoutFor) (p : Option NwkNeighbor) (c : Control) → Made c (timeout_failed a u p c)
unfolding timeout_failed link_failure
timeout_failed-made a TimeoutFor.Negotiation p c = (refl, refl, tt, tt)
timeout_failed-made a TimeoutFor.Keepalive p c = (refl, refl, tt, tt)

pub timeout-made : (u : TimeoutFor) (p : Option NwkNeighbor) (c : Control) → Made c (timeout_started u p c)
unfolding timeout_started timeout_requested
timeout-made u None c = timeout_failed-made _ u _ _
timeout-made u (Some e) c = (refl, refl, tt, tt)

timeout_accepted-made : (u : TimeoutFor) (c : Control) → Made c (timeout_accepted u c)
unfolding timeout_accepted refreshed
timeout_accepted-made TimeoutFor.Negotiation c = (refl, refl, tt, tt)
timeout_accepted-made TimeoutFor.Keepalive c = (refl, refl, tt, tt)

timeout_answered-made : (a : Option EndDeviceTimeoutResponse) (u : TimeoutFor) (p : Option NwkNeighbor) (c : Control) → Made c (timeout_answered_by a u p c)
unfolding timeout_answered_by
timeout_answered-made (Some r) u p c = by_cases (Made c) (eqb r.status 0) (λ _. timeout_accepted-made u _) (timeout_failed-made _ u p _)
timeout_answered-made None u p c = polls-made _ p _ c (timeout_failed-made _ u p)

pub timeout_sent-made : (u : TimeoutFor) (ok : Bool) (p : Option NwkNeighbor) (c : Control) → Made c (timeout_request_sent u ok p c)
unfolding timeout_request_sent
timeout_sent-made u true p c = timeout_answered-made _ u p c
timeout_sent-made u false p c = timeout_failed-made _ u p c

-- what a poll was for goes on
pub continuing-made : (u : ReceptionFor) (a : PollAnswer) (p x : Option NwkNeighbor) (c : Control) → Made c (continuing u a p x c)
unfolding continuing poll_over
continuing-made ReceptionFor.RejoinResponse a p x c = answered-made _ p x c
continuing-made ReceptionFor.SinglePoll a p x c = (refl, refl, tt, tt)
continuing-made ReceptionFor.SingleReceive a p x c = (refl, refl, tt, tt)
continuing-made (ReceptionFor.TimeoutResponse u) a p x c = timeout_answered-made _ u p c
