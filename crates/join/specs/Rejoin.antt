-- The rejoin (01, "Join request and confirm", the paragraphs on the rejoin; Zigbee 3.6.1.4.2, 3.4.6 and 3.4.7).
-- `parent` is the present parent and `next` the next candidate, seen with the IEEE address known of their short address.
use Rattle.std.specs.Prelude.{Option, Some, None, Bool, true, false, cond, not, ◌&&◌, ◌||◌, eqb, leb}
use Rattle.nib.specs.declared.NwkNeighbor.{NwkNeighbor}
use Rattle.nib.specs.declared.ExtendedPanId.{ExtendedPanId}
use Rattle.nib.specs.NeighborTable.{known_ieee}
use Rattle.management.specs.Signals.{with_rejoin_response}
use Rattle.management.specs.declared.NlmeJoinStatus.{NlmeJoinStatus}
use Rattle.management.specs.declared.NlmeJoinRequest.{NlmeJoinRequest}
use Rattle.management.specs.declared.RejoinResponse.{RejoinResponse}
use Rattle.management.specs.declared.frame.SentCommand.{SentCommand}
use Rattle.management.specs.declared.frame.SentFrame.{SentFrame}
use Rattle.nlme.specs.Fields.{with_nib, with_signals, with_extended_pan_id, with_adopted}
use Rattle.nlme.specs.Nlme.{command_header, seq_used, transmission}
use Rattle.nlme.specs.declared.Nlme.{Nlme}
use Rattle.operation.specs.Operation.{with_nlme, with_operation, awaiting, with_polls, with_channel, with_scan_requested, in_phase, decided, asking, poll_on}
use Rattle.operation.specs.declared.ScanFor.{ScanFor}
use Rattle.operation.specs.declared.TransmissionFor.{TransmissionFor}
use Rattle.operation.specs.declared.Phase.{Phase}
use Rattle.operation.specs.declared.ReceptionFor.{ReceptionFor}
use Rattle.operation.specs.declared.Operation.{Operation}
use Rattle.operation.specs.declared.Control.{Control}
use Rattle.operation.specs.declared.RadioRequest.{RadioRequest}
use Rattle.operation.specs.declared.Note.{Note}
use Rattle.operation.specs.declared.Step.{Step}
use Rattle.operation.specs.declared.Move.{Move}
use Rattle.operation.specs.declared.Decision.{Decision}
use Rattle.join.specs.Join.{failing, failed_status, reset_negotiation, store_capabilities}

-- "InvalidRequest at address 0xffff, or where remembered and requested ids are both non-zero and differ"
unfoldable pub invalid : NlmeJoinRequest → Nlme → Bool
invalid r n =
    eqb n.nib.network_address.0 0xffff
    || (not (eqb n.nib.extended_panid.0 0)
    && not (eqb r.extended_pan_id.0 0)
    && not (eqb n.nib.extended_panid.0 r.extended_pan_id.0))

-- "A zero request takes the remembered id"
abbrev pub resolved : NlmeJoinRequest → Nlme → ExtendedPanId
resolved r n = cond (eqb r.extended_pan_id.0 0) n.nib.extended_panid r.extended_pan_id

-- what the rejoin keeps of its request; what follows says what is awaited
abbrev pub operation_for : NlmeJoinRequest → Nlme → Operation
operation_for r n =
    record {
      phase = Phase.Idle;
      extended_pan_id = resolved r n;
      security_enabled = r.security_enabled;
      scan = r.scan;
      scan_requested = false;
      channel = 0;
      polls_left = 20;
    }

-- a try (01: "A try is one send and at most 20 polls"): the rejoin request to an entry, before which an old response is dropped
abbrev pub no_response : Nlme → Nlme
no_response n = with_signals (with_rejoin_response None n.signals) n

abbrev pub rejoin_request : NwkNeighbor → Control → RadioRequest
rejoin_request p c =
    RadioRequest.Transmit
    (transmission c.nlme p.network_address
    (SentFrame.CommandFrame (command_header c.nlme p.network_address (known_ieee (Some p)) c.operation.security_enabled) (SentCommand.RejoinRequest c.nlme.nib.capability_information)))

unfoldable pub trying : Move → Option Note → NwkNeighbor → Control → Decision
trying m note p c =
    decided m note (Step.Ask (rejoin_request p c))
    (record { nlme = no_response (seq_used c.nlme); operation = with_polls 20 (awaiting (Phase.Transmission TransmissionFor.RejoinRequest) c.operation) })

-- after the remembered parent: "An empty channel range ends it there with that try's status, or InvalidRequest if there was no parent. Else comes a scan"
unfoldable pub scan_or_end : NlmeJoinStatus → Control → Decision
scan_or_end st c =
    cond (leb c.operation.scan.past c.operation.scan.first)
    (failing st c)
    (asking (Phase.Scan ScanFor.Rejoin) (RadioRequest.Scan c.operation.scan) (with_operation (with_scan_requested c.operation) c))

-- "The remembered parent comes first"
unfoldable pub try_remembered : Option NwkNeighbor → Control → Decision
try_remembered None c = scan_or_end NlmeJoinStatus.InvalidRequest c
try_remembered (Some p) c = trying Move.Stay None p c

-- the start
abbrev pub begun : NlmeJoinRequest → Control → Control
begun r c = with_operation (operation_for r c.nlme) (store_capabilities r.capability_information (reset_negotiation c))

unfoldable pub rejoin_started : NlmeJoinRequest → Option NwkNeighbor → Control → Decision
rejoin_started r parent c = cond (invalid r c.nlme) (failing NlmeJoinStatus.InvalidRequest c) (try_remembered parent (begun r c))

-- a candidate is tried: it is marked PARENT and all others NONE, PAN id and update id become its own, and the radio is told its channel.
-- This stays, whatever comes of the try
abbrev pub adopting : NwkNeighbor → Control → Control
adopting e c =
    record { nlme = with_nib (with_adopted e c.nlme.nib) c.nlme; operation = with_channel e.logical_channel c.operation }

unfoldable pub try_candidate : NwkNeighbor → Control → Decision
try_candidate e c = trying Move.AdoptNext (Some (Note.SetChannel e.logical_channel)) e (adopting e c)

-- the next candidate, or "The last try's status stands"
unfoldable pub try_next : NlmeJoinStatus → Option NwkNeighbor → Control → Decision
try_next st None c = failing st c
try_next st (Some e) c = try_candidate e c

-- a try has failed with a status
unfoldable pub try_failed : NlmeJoinStatus → Option NwkNeighbor → Control → Decision
try_failed st next c = cond c.operation.scan_requested (try_next st next c) (scan_or_end st c)

-- the response ends the try: "Its status 0 succeeds; 1 and 2 give PanAtCapacity and PanAccessDenied and clear nothing; any other .. gives MacError".
-- "The confirm's channel is the candidate's, or 0 by the remembered parent"; a zero id erases no remembered one
abbrev pub remembering : ExtendedPanId → Nlme → Nlme
remembering e n = cond (eqb e.0 0) n (with_nib (with_extended_pan_id e n.nib) n)

unfoldable pub rejoined : RejoinResponse → Control → Decision
rejoined r c =
    decided Move.Stay (Some (Note.SetAddress r.network_address))
    (Step.Joined
    (record {
      status = NlmeJoinStatus.Success;
      network_address = r.network_address;
      extended_pan_id = c.operation.extended_pan_id;
      channel = c.operation.channel;
    }))
    (in_phase Phase.Idle (with_nlme (remembering c.operation.extended_pan_id c.nlme) c))

unfoldable pub responded : RejoinResponse → Option NwkNeighbor → Control → Decision
responded r next c = cond (eqb r.status 0) (rejoined r c) (try_failed (failed_status r.status) next c)

-- "at most 20 polls, ended by the first rejoin response" (Zigbee 3.4.7.1); "no response gives MacError"
unfoldable pub answered_by : Option RejoinResponse → Option NwkNeighbor → Option NwkNeighbor → Control → Decision
answered_by (Some r) parent next c = responded r next (with_nlme (no_response c.nlme) c)
answered_by None parent next c = poll_on ReceptionFor.RejoinResponse parent (try_failed NlmeJoinStatus.MacError next) c

abbrev pub try_goes_on : Option NwkNeighbor → Option NwkNeighbor → Control → Decision
try_goes_on parent next c = answered_by c.nlme.signals.rejoin_response parent next c

-- the outcome of the send: "a failed send (no polls follow)"
unfoldable pub request_sent : Bool → Option NwkNeighbor → Option NwkNeighbor → Control → Decision
request_sent true parent next c = try_goes_on parent next c
request_sent false parent next c = try_failed NlmeJoinStatus.MacError next c
