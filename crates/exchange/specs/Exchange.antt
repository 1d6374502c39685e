-- Sends, polls, receives, negotiation and keepalive outside a rejoin, the tick and the takings (01, "Supervision record"; Zigbee 3.6.3, 3.6.6 and 3.6.10).
-- `parent` is the present parent, seen with the IEEE address known of its short address.
use Rattle.std.specs.Prelude.{Option, Some, None, Bool, true, false, cond, eqb}
use Rattle.nib.specs.declared.NwkNeighbor.{NwkNeighbor}
use Rattle.nib.specs.declared.ShortAddress.{ShortAddress}
use Rattle.management.specs.Signals.{with_timeout_response, with_leave_indication, with_status_indication}
use Rattle.management.specs.declared.SendAnswer.{SendAnswer}
use Rattle.management.specs.declared.PollAnswer.{PollAnswer}
use Rattle.management.specs.declared.NegotiationAnswer.{NegotiationAnswer}
use Rattle.management.specs.declared.KeepaliveAnswer.{KeepaliveAnswer}
use Rattle.management.specs.Frame.{next_seq}
use Rattle.management.specs.declared.frame.SentFrame.{SentFrame}
use Rattle.nlme.specs.Fields.{with_signals}
use Rattle.nlme.specs.Nlme.{link_failure, refreshed, seq_used, transmission, timeout_requested, sent_via_parent, failed_via_parent}
use Rattle.nlme.specs.declared.NlmeTicked.{NlmeTicked}
use Rattle.nlme.specs.declared.ViaParent.{ViaParent}
use Rattle.nlme.specs.declared.Transmitting.{Transmitting}
use Rattle.operation.specs.Operation.{with_nlme, with_polls_left, telling, asking, ending, polled, poll_on}
use Rattle.operation.specs.declared.TimeoutFor.{TimeoutFor}
use Rattle.operation.specs.declared.TransmissionFor.{TransmissionFor}
use Rattle.operation.specs.declared.Phase.{Phase}
use Rattle.operation.specs.declared.ReceptionFor.{ReceptionFor}
use Rattle.operation.specs.declared.Control.{Control}
use Rattle.operation.specs.declared.RadioRequest.{RadioRequest}
use Rattle.operation.specs.declared.Step.{Step}
use Rattle.operation.specs.declared.Decision.{Decision}
use Rattle.management.specs.declared.EndDeviceTimeoutResponse.{EndDeviceTimeoutResponse}

-- a data send (`send_data`): it goes through the parent and carries no IEEE address; with no parent it uses up a sequence number all the same
abbrev pub data_to : ShortAddress → Bool → NwkNeighbor → Control → Decision
data_to destination secure p c =
    asking (Phase.Transmission TransmissionFor.Data)
    (RadioRequest.Transmit
    (transmission c.nlme p.network_address
    (SentFrame.DataFrame
    (record {
      destination = destination;
      source = c.nlme.nib.network_address;
      sequence_number = next_seq c.nlme.nwk_seq;
      secure = secure;
    }))))
    (with_nlme (seq_used c.nlme) c)

unfoldable pub send_started : ShortAddress → Bool → Option NwkNeighbor → Control → Decision
send_started destination secure None c = ending (Step.Sent SendAnswer.SendNotJoined) (with_nlme (seq_used c.nlme) c)
send_started destination secure (Some p) c = data_to destination secure p c

-- its outcome: "Only sends by `transmit_via_parent` count"
abbrev pub send_over : ViaParent → Control → Decision
send_over v c = ending (Step.Sent v.answer) (with_nlme v.nlme c)

unfoldable pub data_sent : Bool → Option NwkNeighbor → Control → Decision
data_sent true parent c = send_over (sent_via_parent parent c.nlme) c
data_sent false parent c = send_over (failed_via_parent parent c.nlme) c

-- one poll of the parent (Zigbee 3.6.6), or one passive receive
unfoldable pub poll_started : Option NwkNeighbor → Control → Decision
poll_started None c = ending (Step.Polled PollAnswer.PollNotJoined) c
poll_started (Some p) c = polled ReceptionFor.SinglePoll p c

unfoldable pub receive_started : Control → Decision
receive_started c = asking (Phase.Reception ReceptionFor.SingleReceive) RadioRequest.Receive c

-- nothing buffered is no error of a poll; a receive that brings nothing is a radio error (`poll_parent` and `receive_nwk_frame` of the source)
abbrev pub no_data : ReceptionFor → PollAnswer
no_data ReceptionFor.RejoinResponse = PollAnswer.PollNothing
no_data ReceptionFor.SinglePoll = PollAnswer.PollNothing
no_data ReceptionFor.SingleReceive = PollAnswer.PollMacError
no_data (ReceptionFor.TimeoutResponse u) = PollAnswer.PollNothing

unfoldable pub poll_over : PollAnswer → Control → Decision
poll_over a c = ending (Step.Polled a) c

-- a keepalive that fails signals ParentLinkFailure, whatever the reason; a negotiation says the reason
unfoldable pub timeout_failed : NegotiationAnswer → TimeoutFor → Option NwkNeighbor → Control → Decision
timeout_failed a TimeoutFor.Keepalive parent c = ending (Step.KeepaliveOver KeepaliveAnswer.KeepaliveParentLinkFailure) (with_nlme (link_failure parent c.nlme) c)
timeout_failed a TimeoutFor.Negotiation parent c = ending (Step.NegotiationOver a) c

unfoldable pub timeout_accepted : TimeoutFor → Control → Decision
timeout_accepted TimeoutFor.Keepalive c = ending (Step.KeepaliveOver KeepaliveAnswer.KeepaliveOk) (with_nlme (refreshed c.nlme) c)
timeout_accepted TimeoutFor.Negotiation c = ending (Step.NegotiationOver NegotiationAnswer.Negotiated) c

-- the start of a negotiation or keepalive (Zigbee 3.6.10.2 and 3.6.10.3): an old response is dropped, with no parent too.
-- "at most 3 polls follow a send that succeeded"
abbrev pub no_timeout_response : Control → Control
no_timeout_response c = with_nlme (with_signals (with_timeout_response None c.nlme.signals) c.nlme) c

abbrev pub requesting : TimeoutFor → Transmitting → Control → Decision
requesting u t c = asking (Phase.Transmission (TransmissionFor.TimeoutRequest u)) (RadioRequest.Transmit t.transmission) (with_polls_left 3 (with_nlme t.nlme c))

unfoldable pub timeout_started : TimeoutFor → Option NwkNeighbor → Control → Decision
timeout_started u None c = timeout_failed NegotiationAnswer.NegotiationNotJoined u None (no_timeout_response c)
timeout_started u (Some p) c = requesting u (timeout_requested p (no_timeout_response c).nlme) (no_timeout_response c)

-- the polls: any timeout response ends them and its status decides
unfoldable pub timeout_answered_by : Option EndDeviceTimeoutResponse → TimeoutFor → Option NwkNeighbor → Control → Decision
timeout_answered_by (Some r) u parent c =
    cond (eqb r.status 0) (timeout_accepted u (no_timeout_response c)) (timeout_failed NegotiationAnswer.NotNegotiated u parent (no_timeout_response c))
timeout_answered_by None u parent c = poll_on (ReceptionFor.TimeoutResponse u) parent (timeout_failed NegotiationAnswer.NotNegotiated u parent) c

abbrev pub timeout_goes_on : TimeoutFor → Option NwkNeighbor → Control → Decision
timeout_goes_on u parent c = timeout_answered_by c.nlme.signals.timeout_response u parent c

-- the outcome of the request's send
unfoldable pub timeout_request_sent : TimeoutFor → Bool → Option NwkNeighbor → Control → Decision
timeout_request_sent u true parent c = timeout_goes_on u parent c
timeout_request_sent u false parent c = timeout_failed NegotiationAnswer.NegotiationMacError u parent c

-- The tick and the takings (01, "Supervision record"; Zigbee 3.2.2.19 and 3.2.2.32).
-- 01, "Received frame": "Each indication slot keeps the newest value until taken"

abbrev pub tick_told : NlmeTicked → Control → Decision
tick_told t c = telling (Step.Expired t.expired) (with_nlme t.nlme c)

-- the timer restarted by the node's owner, who has other evidence that the parent still knows the device
-- (`refresh_parent_timeout` of the source; Zigbee 3.6.10.6)
abbrev pub timeout_refreshed : Control → Decision
timeout_refreshed c = telling Step.Done (with_nlme (refreshed c.nlme) c)

abbrev pub leave_taken : Control → Decision
leave_taken c =
    telling (Step.LeaveTaken c.nlme.signals.leave_indication)
    (with_nlme (with_signals (with_leave_indication None c.nlme.signals) c.nlme) c)

abbrev pub status_taken : Control → Decision
status_taken c =
    telling (Step.StatusTaken c.nlme.signals.nwk_status_indication)
    (with_nlme (with_signals (with_status_indication None c.nlme.signals) c.nlme) c)
