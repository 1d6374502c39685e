-- Every call on a state: what it answers, and the state that it leaves.
use Rattle.std.specs.Prelude.{Some, None, Result, Ok, Err, Option, ℕ, Bool, true, false, cond, not, List, [], map, eqb, ltb}
use Rattle.nib.specs.Neighbors.{table_of}
use Rattle.nib.specs.declared.CapabilityInformation.{CapabilityInformation}
use Rattle.nib.specs.declared.ShortAddress.{ShortAddress}
use Rattle.nib.specs.NeighborTable.{on_entries, retained}
use Rattle.discovery.specs.Mlme.{descriptors_of}
use Rattle.discovery.specs.declared.mlme.PanDescriptor.{PanDescriptor}
use Rattle.discovery.specs.Discovery.{neighbors_heard, short_addressed, network_descriptor_of, confirm_of}
use Rattle.discovery.specs.declared.NlmeNetworkDiscoveryConfirm.{NlmeNetworkDiscoveryConfirm}
use Rattle.candidates.specs.Candidates.{candidates, list_of}
use Rattle.candidates.specs.Tries.{chosen_from}
use Rattle.management.specs.declared.RejoinNetwork.{RejoinNetwork}
use Rattle.management.specs.declared.ScanRange.{ScanRange}
use Rattle.management.specs.declared.NlmeJoinRequest.{NlmeJoinRequest}
use Rattle.management.specs.declared.PollAnswer.{PollAnswer}
use Rattle.management.specs.Frame.{sender_of}
use Rattle.management.specs.declared.frame.ReceivedFrame.{ReceivedFrame}
use Rattle.nlme.specs.Nlme.{nlme_ticked}
use Rattle.nlme.specs.declared.Nlme.{Nlme}
use Rattle.nlme.specs.Received.{heard_from, handled, leave_announced}
use Rattle.nlme.specs.declared.received.Then.{Then}
use Rattle.nlme.specs.declared.received.Handled.{Handled}
use Rattle.operation.specs.Operation.{with_nlme, scan_for, association_for, transmission_for, reception_for, is_discovered, telling, asking, announcing_leave, ending}
use Rattle.operation.specs.declared.TimeoutFor.{TimeoutFor}
use Rattle.operation.specs.declared.ReceptionFor.{ReceptionFor}
use Rattle.operation.specs.declared.ScanFor.{ScanFor}
use Rattle.operation.specs.declared.TransmissionFor.{TransmissionFor}
use Rattle.operation.specs.declared.Phase.{Phase}
use Rattle.operation.specs.declared.Control.{Control}
use Rattle.operation.specs.declared.RadioRequest.{RadioRequest}
use Rattle.operation.specs.declared.Step.{Step}
use Rattle.operation.specs.declared.Decision.{Decision}
use Rattle.join.specs.Join.{failing, join_started, associated}
use Rattle.join.specs.Rejoin.{rejoin_started, try_next, try_goes_on, request_sent}
use Rattle.exchange.specs.Exchange.{send_started, data_sent, poll_started, receive_started, no_data, poll_over, timeout_started, timeout_goes_on, timeout_request_sent, tick_told, timeout_refreshed, leave_taken, status_taken}
use Rattle.node.specs.declared.State.{State}
use Rattle.node.specs.declared.Answer.{Answer}
use Rattle.node.specs.declared.ScanAnswer.{ScanAnswer}
use Rattle.node.specs.Looks.{with_control, with_table, with_candidates, entries, parent, tried, next, broadcast, deciding_with, deciding}
use Rattle.node.specs.Refusals.{refuse, bad, start, outcome}
use Rattle.management.specs.declared.NlmeJoinStatus.{NlmeJoinStatus}
use Rattle.neighbor_page.specs.Page.{too_short, written}
use Rattle.nib.specs.declared.NwkNeighbor.{NwkNeighbor}
use Rattle.discovery.specs.declared.mlme.MacError.{MacError}
use Rattle.join.specs.declared.association.AssociationResponse.{AssociationResponse}
use Rattle.discovery.specs.declared.mlme.PanDescriptorList.{PanDescriptorList}
use Rattle.candidates.specs.declared.CandidateList.{CandidateList}
use Rattle.operation.specs.declared.Refusal.{Refusal}
use Rattle.operation.specs.declared.Refusal.TheVariants.{TooManyDescriptors, TooManyShortAddressed, BadState, ShortPage}

-- Join and rejoin (01, "Join request and confirm"; Zigbee 3.2.2.13)

-- the candidates chosen from the present table
unfoldable pub with_chosen : Bool → ℕ → CapabilityInformation → State → State
with_chosen permit n i s = with_candidates (chosen_from (entries s) s.control.nlme.nib.stack_profile permit n i) s

-- the first of them is tried
abbrev pub join_among : CapabilityInformation → State → Answer
join_among i s = deciding s (join_started i (next s) s.control)

-- "Association with a network address other than 0xffff: InvalidRequest"
unfoldable pub associate : NlmeJoinRequest → State → Answer
associate r s =
    cond (eqb s.control.nlme.nib.network_address.0 0xffff)
    (join_among r.capability_information (with_chosen true r.extended_pan_id.0 r.capability_information s))
    (deciding s (failing NlmeJoinStatus.InvalidRequest s.control))

-- "Kinds other than association and NWK rejoin: InvalidRequest"
unfoldable pub join_by : RejoinNetwork → NlmeJoinRequest → State → Answer
join_by RejoinNetwork.Association r s = associate r s
join_by RejoinNetwork.Orphan r s = deciding s (failing NlmeJoinStatus.InvalidRequest s.control)
join_by RejoinNetwork.NwkRejoin r s = deciding s (rejoin_started r (parent s) s.control)
join_by RejoinNetwork.ChannelChange r s = deciding s (failing NlmeJoinStatus.InvalidRequest s.control)

-- The outcome of a scan (01, "Neighbour entry", "Join request and confirm")

-- "A failed scan leaves the table"; a rejoin's: MacError
unfoldable pub scan_failed : ScanFor → State → Answer
scan_failed ScanFor.Discovery s = deciding s (ending Step.DiscoveryFailed s.control)
scan_failed ScanFor.Rejoin s = deciding s (failing NlmeJoinStatus.MacError s.control)

-- the table made from the scan: "One entry for each short-addressed descriptor, in scan order", each last heard at the time t of the scan's outcome (02, L4)
unfoldable pub with_scan : ℕ → List PanDescriptor → State → State
with_scan t ds s = with_table (table_of (neighbors_heard t ds)) s

-- a rejoin goes on to its candidates: "no candidate: NotPermitted"
abbrev pub rejoin_among : State → Answer
rejoin_among s = deciding s (try_next NlmeJoinStatus.NotPermitted (next s) s.control)

unfoldable pub scan_heard : ScanFor → State → Answer
scan_heard ScanFor.Discovery s = deciding s (ending Step.Discovered s.control)
scan_heard ScanFor.Rejoin s =
    rejoin_among (with_chosen false s.control.operation.extended_pan_id.0 s.control.nlme.nib.capability_information s)

-- "for a scan, 3 above 27 descriptors, then 4 above 16 short-addressed ones" (01, "When a call is turned down")
unfoldable pub scan_decided : Result PanDescriptorList MacError → ℕ → ScanFor → State → Answer
scan_decided (Err e) t u s = scan_failed u s
scan_decided (Ok l) t u s =
    cond (ltb 27 l.count) (refuse TooManyDescriptors s)
    (cond (ltb 16 (short_addressed (descriptors_of l))) (refuse TooManyShortAddressed s) (scan_heard u (with_scan t (descriptors_of l) s)))

-- The outcome of an association (01, "Join request and confirm")

abbrev pub association_decided : Result AssociationResponse MacError → Unit {0} → State → Answer
association_decided o u s = deciding s (associated o (tried s) (next s) s.control)

-- The outcome of a poll or a receive (01, "Received frame"; Zigbee 3.6.6)

-- what it was for goes on: a single poll or receive answers; a rejoin, a negotiation or a keepalive polls on
unfoldable pub continuing : ReceptionFor → PollAnswer → Option NwkNeighbor → Option NwkNeighbor → Control → Decision
continuing ReceptionFor.RejoinResponse a parent next c = try_goes_on parent next c
continuing ReceptionFor.SinglePoll a parent next c = poll_over a c
continuing ReceptionFor.SingleReceive a parent next c = poll_over a c
continuing (ReceptionFor.TimeoutResponse u) a parent next c = timeout_goes_on u parent c

abbrev pub go_on : Bool → ReceptionFor → PollAnswer → State → Answer
go_on reset u a s = deciding_with reset s (continuing u a (parent s) (next s) s.control)

abbrev pub with_node : Nlme → State → State
with_node n s = with_control (with_nlme n s.control) s

-- what a frame does to the table
unfoldable pub table_changed : Option ShortAddress → State → State
table_changed None s = s
table_changed (Some a) s = with_table (table_of (retained a.0 (entries s))) s

-- a frame is dealt with: the poll goes on, or a leave is announced first
unfoldable pub after_frame : ReceptionFor → Then → State → Answer
after_frame u (Then.Over a) s = go_on false u a s
after_frame u (Then.Announce a) s = deciding s (announcing_leave u a s.control)

abbrev pub handled_on : ReceptionFor → Handled → State → Answer
handled_on u h s = after_frame u h.then (table_changed h.removed (with_node h.nlme s))

-- what a frame does to its sender's entry, before it is dealt with: "first teach it" (01), and it "renews" it (02, L4) at the time t of the outcome
abbrev pub heard_on : ReceivedFrame → ℕ → State → State
heard_on f t s = with_table (on_entries (heard_from (sender_of f) t) s.table) s

abbrev pub processed : ReceptionFor → ReceivedFrame → State → Answer
processed u f s = handled_on u (handled (parent s) (broadcast s) f s.control.nlme) s

unfoldable pub reception_decided : Result (Option ReceivedFrame) MacError → ℕ → ReceptionFor → State → Answer
reception_decided (Ok None) t u s = go_on false u (no_data u) s
reception_decided (Err e) t u s = go_on false u PollAnswer.PollMacError s
reception_decided (Ok (Some f)) t u s = processed u f (heard_on f t s)

-- The outcome of a transmission (01, "Received frame", "Supervision record")

-- after the announcement of a leave; without the rejoin bit the table is cleared
unfoldable pub after_leave : Bool → State → State
after_leave true s = with_node (leave_announced true s.control.nlme) s
after_leave false s = with_table (table_of []) (with_node (leave_announced false s.control.nlme) s)

-- a leave announced without the rejoin bit has the reset note: what lies outside this part is reset
unfoldable pub transmission_decided : Bool → TransmissionFor → State → Answer
transmission_decided ok TransmissionFor.RejoinRequest s = deciding s (request_sent ok (parent s) (next s) s.control)
transmission_decided ok TransmissionFor.Data s = deciding s (data_sent ok (parent s) s.control)
transmission_decided ok (TransmissionFor.TimeoutRequest u) s = deciding s (timeout_request_sent u ok (parent s) s.control)
transmission_decided ok (TransmissionFor.Leave l) s = go_on (not l.rejoin) l.purpose PollAnswer.PollNothing (after_leave l.rejoin s)

-- Every call

-- starts of any kind, outcomes, ticks, and takings of an indication. The outcome of a scan, and that of a poll or a receive, come with the caller's clock, in
-- seconds (02, L4)
pub data Call : Type 0 where
  discovery : ScanRange → Call
  join : NlmeJoinRequest → Call
  send : ShortAddress → Bool → Call
  poll : Call
  receive : Call
  timeout : TimeoutFor → Call
  scan : Result PanDescriptorList MacError → ℕ → Call
  association : Result AssociationResponse MacError → Call
  transmission : Bool → Call
  reception : Result (Option ReceivedFrame) MacError → ℕ → Call
  elapsed : ℕ → Call
  take_leave : Call
  take_status : Call

-- what a call does to a state that 5 lets pass: a start is turned down by 1, an outcome by 2, and its step is made
abbrev pub made : State → Call → Answer
made s (discovery r) = start (deciding s (asking (Phase.Scan ScanFor.Discovery) (RadioRequest.Scan r) s.control)) s
made s (join r) = start (join_by r.rejoin_network r s) s
made s (send destination secure) = start (deciding s (send_started destination secure (parent s) s.control)) s
made s poll = start (deciding s (poll_started (parent s) s.control)) s
made s receive = start (deciding s (receive_started s.control)) s
made s (timeout u) = start (deciding s (timeout_started u (parent s) s.control)) s
made s (scan o t) = outcome (scan_for s.control.operation.phase) (scan_decided o t) s
made s (association o) = outcome (association_for s.control.operation.phase) (association_decided o) s
made s (transmission ok) = outcome (transmission_for s.control.operation.phase) (transmission_decided ok) s
made s (reception o t) = outcome (reception_for s.control.operation.phase) (reception_decided o t) s
made s (elapsed ms) = deciding s (tick_told (nlme_ticked (parent s) ms s.control.nlme) s.control)
made s take_leave = deciding s (leave_taken s.control)
made s take_status = deciding s (status_taken s.control)

-- what a call answers: 5 comes first; of a discovery without its confirm
unfoldable pub answer : State → Call → Answer
answer s c = cond (bad s) (refuse BadState s) (made s c)

-- the confirm of a discovery tells of every descriptor (Zigbee 3.2.2.4); there is none with any other answer
abbrev pub confirm_by : Step → Result PanDescriptorList MacError → Option NlmeNetworkDiscoveryConfirm
confirm_by st (Err e) = None
confirm_by st (Ok l) = cond (is_discovered st) (Some (confirm_of (map network_descriptor_of (descriptors_of l)))) None

unfoldable pub scanned : Result PanDescriptorList MacError → ℕ → State → ScanAnswer
scanned o t s = record { answer = answer s (scan o t); confirm = confirm_by (answer s (scan o t)).step o }

-- the choice of candidates (01, "Candidate list"): "5 only"
unfoldable pub choose : ℕ → Bool → Bool → State → Result CandidateList Refusal
choose n router permit s =
    cond (bad s) (Err BadState) (Ok (list_of (candidates s.control.nlme.nib.stack_profile router permit n (entries s))))

-- the parent's timer restarted (`refresh_parent_timeout` of the source): 5 only
unfoldable pub refresh : State → Answer
refresh s = cond (bad s) (refuse BadState s) (deciding s (timeout_refreshed s.control))

-- the neighbour page, written into a lent buffer of n bytes (02, L1): "6, a lent buffer shorter than 816 bytes, after 5"; the state stays
unfoldable pub page_answer : ℕ → State → Answer
page_answer n s = cond (bad s) (refuse BadState s) (cond (too_short n) (refuse ShortPage s) (deciding s (telling Step.PageWritten s.control)))

-- what stands in the lent buffer b then; after a refusal all that stood there
unfoldable pub page_left : List ℕ → State → List ℕ
page_left b s = cond (bad s) b (written (entries s) b)
