-- What a node answers, as lines of a trace (compare/FORMAT.md, "Output"): the fields of each, of which the first is the line's word.
use Rattle.std.specs.Prelude.{Option, Some, None, option_map, Result, Ok, Err, ℕ, Bool, cond, List, [], ◌∷◌, map}
use Rattle.nib.specs.declared.DeviceType.{DeviceType}
use Rattle.nib.specs.declared.DeviceType.TheVariants.{Coordinator, Router, EndDevice, Invalid}
use Rattle.nib.specs.declared.Nib.{Nib}
use Rattle.nib.specs.declared.NwkNeighbor.{NwkNeighbor}
use Rattle.nib.specs.declared.PanId.{PanId}
use Rattle.nib.specs.declared.ShortAddress.{ShortAddress}
use Rattle.discovery.specs.declared.NetworkDescriptor.{NetworkDescriptor}
use Rattle.candidates.specs.Candidates.{items_of}
use Rattle.candidates.specs.declared.CandidateList.{CandidateList}
use Rattle.management.specs.declared.KeepaliveAnswer.{KeepaliveAnswer}
use Rattle.management.specs.declared.KeepaliveAnswer.TheVariants.{KeepaliveOk, KeepaliveParentLinkFailure}
use Rattle.management.specs.declared.LeavingDevice.{LeavingDevice}
use Rattle.management.specs.declared.LeavingDevice.TheVariants.{ThisDevice, NeighborByIeee, NeighborByShort}
use Rattle.management.specs.declared.NegotiationAnswer.{NegotiationAnswer}
use Rattle.management.specs.declared.NegotiationAnswer.TheVariants.{Negotiated, NotNegotiated, NegotiationNotJoined, NegotiationMacError}
use Rattle.management.specs.declared.NlmeJoinConfirm.{NlmeJoinConfirm}
use Rattle.management.specs.declared.NlmeJoinStatus.{NlmeJoinStatus}
use Rattle.management.specs.declared.NlmeJoinStatus.TheVariants.{Success, InvalidRequest, NotPermitted, NoNetworks, PanAtCapacity, PanAccessDenied, MacError}
use Rattle.management.specs.declared.NlmeLeaveIndication.{NlmeLeaveIndication}
use Rattle.management.specs.declared.PollAnswer.{PollAnswer}
use Rattle.management.specs.declared.PollAnswer.TheVariants.{PollData, PollNothing, PollNotJoined, PollMacError, PollUndecodable}
use Rattle.management.specs.declared.ScanRange.{ScanRange}
use Rattle.management.specs.declared.SendAnswer.{SendAnswer}
use Rattle.management.specs.declared.SendAnswer.TheVariants.{SendOk, SendNotJoined, SendMacError, SendParentLinkFailure}
use Rattle.management.specs.declared.Signals.{Signals}
use Rattle.management.specs.declared.frame.CommandHeader.{CommandHeader}
use Rattle.management.specs.declared.frame.DataHeader.{DataHeader}
use Rattle.management.specs.declared.frame.SentFrame.{SentFrame}
use Rattle.management.specs.declared.frame.SentFrame.TheVariants.{DataFrame, CommandFrame}
use Rattle.management.specs.declared.frame.SentCommand.{SentCommand}
use Rattle.management.specs.declared.frame.SentCommand.TheVariants.{RejoinRequest, TimeoutRequest, Leave}
use Rattle.supervision.specs.declared.TransmitFailure.{TransmitFailure}
use Rattle.nlme.specs.declared.Nlme.{Nlme}
use Rattle.operation.specs.declared.AssociateRequest.{AssociateRequest}
use Rattle.operation.specs.declared.Note.{Note}
use Rattle.operation.specs.declared.Note.TheVariants.{SetChannel, SetAddress}
use Rattle.operation.specs.declared.RadioRequest.{RadioRequest}
use Rattle.operation.specs.declared.RadioRequest.TheVariants.{Scan, Associate, Transmit, Poll, Receive}
use Rattle.operation.specs.declared.Step.{Step}
use Rattle.operation.specs.declared.Step.TheVariants as step
use Rattle.operation.specs.declared.Refusal.{Refusal}
use Rattle.operation.specs.Operation.{refusal_number}
use Rattle.trace_lines.specs.declared.Field.{Field}
use Rattle.trace_lines.specs.declared.Field.TheVariants.{Named, Short, Long, OrDash, Flag, U8, U16, U32}
use Rattle.trace_lines.specs.declared.Word.TheVariants as word
use Rattle.trace_lines.specs.declared.Word.{Word}
use Rattle.nib.specs.declared.IeeeAddress.{IeeeAddress}
use Rattle.management.specs.declared.RejoinResponse.{RejoinResponse}
use Rattle.management.specs.declared.EndDeviceTimeoutResponse.{EndDeviceTimeoutResponse}
use Rattle.management.specs.declared.NlmeNwkStatusIndication.{NlmeNwkStatusIndication}

-- a line: its fields in order
abbrev pub Line : Type 0
Line = List Field

-- a line of a word alone, and a line of a word and the number of a refusal
abbrev pub word_line : Word → Line
word_line w = Named w ∷ []

abbrev pub refusal_line : Refusal → Line
refusal_line r = Named word.Refused ∷ U8 (refusal_number r) ∷ []

-- The state: its node, the neighbour entries, the failure pairs, the slots.

-- a node: its attributes, sequence number, pending timeout request and timer
abbrev pub nib_line : Nib → ℕ → ℕ → ℕ → Line
nib_line n seq pending timer =
    Named word.Node ∷ Short n.network_address.0 ∷ Long n.ieee_address.0 ∷ Long n.extended_panid.0 ∷ Short n.panid.0 ∷ U8 n.update_id
    ∷ U8 n.capability_information.0 ∷ U8 n.stack_profile ∷ U8 n.parent_information ∷ U8 n.end_device_timeout ∷ U8 n.end_device_timeout_default
    ∷ Flag n.leave_request_allowed ∷ U8 seq ∷ U8 pending ∷ U32 timer ∷ []

abbrev pub node_line : Nlme → Line
node_line n = nib_line n.nib n.nwk_seq n.pending_timeout_request n.parent_timer.remaining_ms

-- 0 coordinator, 1 router, 2 end device, other numbers invalid
abbrev pub device_type_number : DeviceType → ℕ
device_type_number Coordinator = 0
device_type_number Router = 1
device_type_number EndDevice = 2
device_type_number (Invalid n) = n

-- the fields in the source's order
abbrev pub entry_line : NwkNeighbor → Line
entry_line e =
    Named word.E ∷ Long e.extended_address.0 ∷ Short e.network_address.0 ∷ U8 (device_type_number e.device_type) ∷ Flag e.rx_on_when_idle
    ∷ U16 e.end_device_configuration ∷ U8 e.relationship ∷ U8 e.lqi ∷ U8 e.outgoing_cost ∷ U8 e.age ∷ Flag e.keepalive_received
    ∷ Long e.extended_pan_id.0 ∷ U8 e.logical_channel ∷ U8 e.depth ∷ Flag e.permit_joining ∷ U8 e.potential_parent
    ∷ Flag e.router_capacity ∷ Flag e.end_device_capacity ∷ U8 e.update_id ∷ Short e.pan_id.0 ∷ []

abbrev pub failure_line : TransmitFailure → Line
failure_line p = Named word.F ∷ Short p.address.0 ∷ U8 p.count ∷ []

-- a slot that is full has a line
abbrev pub rejoin_response_line : RejoinResponse → Line
rejoin_response_line r = Named word.RejoinResponse ∷ Short r.network_address.0 ∷ U8 r.status ∷ []

abbrev pub timeout_response_line : EndDeviceTimeoutResponse → Line
timeout_response_line r = Named word.TimeoutResponse ∷ U8 r.status ∷ U8 r.parent_information ∷ []

-- whose leave it is: `-` this device's, 16 digits a neighbour's by IEEE address, 4 digits a neighbour's by short address
abbrev pub device_field : LeavingDevice → Field
device_field ThisDevice = OrDash None
device_field (NeighborByIeee a) = OrDash (Some a.0)
device_field (NeighborByShort a) = Short a.0

-- then the rejoin bit
abbrev pub leave_line : NlmeLeaveIndication → Line
leave_line i = Named word.LeaveIndication ∷ device_field i.device ∷ Flag i.rejoin ∷ []

abbrev pub status_line : NlmeNwkStatusIndication → Line
status_line i = Named word.StatusIndication ∷ Short i.network_address.0 ∷ []

-- what is printed behind the failure pairs: of the four slots those that are full, and the line that ends a state
abbrev pub slot_lines : Signals → List (Option Line)
slot_lines s =
    option_map rejoin_response_line s.rejoin_response ∷ option_map timeout_response_line s.timeout_response
    ∷ option_map leave_line s.leave_indication ∷ option_map status_line s.nwk_status_indication ∷ Some (word_line word.End) ∷ []

-- A call's answer: the reset note, the note, and the request, confirm, answer or refusal.

abbrev pub reset_line : Bool → Option Line
reset_line reset = cond reset (Some (word_line word.Reset)) None

abbrev pub note_line : Note → Line
note_line (SetChannel c) = Named word.SetChannel ∷ U8 c ∷ []
note_line (SetAddress a) = Named word.SetAddress ∷ Short a.0 ∷ []

abbrev pub scan_line : ScanRange → Line
scan_line r = Named word.Scan ∷ U8 r.first ∷ U8 r.past ∷ U8 r.duration ∷ []

abbrev pub associate_line : AssociateRequest → Line
associate_line r =
    Named word.Associate ∷ U8 r.channel ∷ Short r.pan_id.0 ∷ Short r.address.0 ∷ Flag r.capabilities.full_function_device
    ∷ Flag r.capabilities.mains_power ∷ Flag r.capabilities.idle_receive ∷ Flag r.capabilities.frame_protection
    ∷ Flag r.capabilities.allocate_address ∷ []

abbrev pub data_line : PanId → ShortAddress → DataHeader → Line
data_line pan address h =
    Named word.Transmit ∷ Short pan.0 ∷ Short address.0 ∷ Named word.DataFrame ∷ Short h.destination.0 ∷ Short h.source.0
    ∷ U8 h.sequence_number ∷ Flag h.secure ∷ []

-- a command frame that is sent: its word, its header, and what it carries
abbrev pub command_line : PanId → ShortAddress → CommandHeader → Word → List Field → Line
command_line pan address h w carried =
    Named word.Transmit ∷ Short pan.0 ∷ Short address.0 ∷ Named w ∷ Short h.destination.0
    ∷ OrDash (option_map (λ (a : IeeeAddress). a.0) h.destination_ieee) ∷ Short h.source.0 ∷ Long h.source_ieee.0
    ∷ U8 h.sequence_number ∷ Flag h.secure ∷ carried

abbrev pub command_frame_line : PanId → ShortAddress → CommandHeader → SentCommand → Line
command_frame_line pan address h (RejoinRequest c) = command_line pan address h word.RejoinRequest (U8 c.0 ∷ [])
command_frame_line pan address h (TimeoutRequest i) = command_line pan address h word.TimeoutRequest (U8 i ∷ [])
command_frame_line pan address h (Leave o) = command_line pan address h word.Leave (Flag o.rejoin ∷ Flag o.remove_children ∷ [])

unfoldable pub transmit_line : PanId → ShortAddress → SentFrame → Line
transmit_line pan address (DataFrame h) = data_line pan address h
transmit_line pan address (CommandFrame h command) = command_frame_line pan address h command

abbrev pub poll_line : PanId → ShortAddress → Line
poll_line pan address = Named word.Poll ∷ Short pan.0 ∷ Short address.0 ∷ []

unfoldable pub request_line : RadioRequest → Line
request_line (Scan range) = scan_line range
request_line (Associate r) = associate_line r
request_line (Transmit t) = transmit_line t.pan_id t.address t.frame
request_line (Poll pan address) = poll_line pan address
request_line Receive = word_line word.Receive

-- the words of a status and of the answers
abbrev pub status_word : NlmeJoinStatus → Word
status_word Success = word.Success
status_word InvalidRequest = word.InvalidRequest
status_word NotPermitted = word.NotPermitted
status_word NoNetworks = word.NoNetworks
status_word PanAtCapacity = word.PanAtCapacity
status_word PanAccessDenied = word.PanAccessDenied
status_word MacError = word.MacError

abbrev pub send_word : SendAnswer → Word
send_word SendOk = word.Ok
send_word SendNotJoined = word.NotJoined
send_word SendMacError = word.MacError
send_word SendParentLinkFailure = word.ParentLinkFailure

abbrev pub poll_word : PollAnswer → Word
poll_word PollData = word.PolledData
poll_word PollNothing = word.PolledNothing
poll_word PollNotJoined = word.NotJoined
poll_word PollMacError = word.MacError
poll_word PollUndecodable = word.Undecodable

-- 1, 0 or a word
abbrev pub negotiation_field : NegotiationAnswer → Field
negotiation_field Negotiated = U8 1
negotiation_field NotNegotiated = U8 0
negotiation_field NegotiationNotJoined = Named word.NotJoined
negotiation_field NegotiationMacError = Named word.MacError

abbrev pub keepalive_word : KeepaliveAnswer → Word
keepalive_word KeepaliveOk = word.Ok
keepalive_word KeepaliveParentLinkFailure = word.ParentLinkFailure

abbrev pub confirm_line : NlmeJoinConfirm → Line
confirm_line c = Named word.Confirm ∷ Named (status_word c.status) ∷ Short c.network_address.0 ∷ Long c.extended_pan_id.0 ∷ U8 c.channel ∷ []

-- what was taken, or that the slot was empty
abbrev pub taken_line : {A : Type 0} → (A → Line) → Option A → Line
taken_line f None = word_line word.Nothing
taken_line f (Some i) = f i

-- n is the number of networks, whose lines follow a discovery's answer; a page that is written is printed as it stands, with no line before it
unfoldable pub step_line : Step → ℕ → Option Line
step_line (step.Refused r) n = Some (refusal_line r)
step_line (step.Ask r) n = Some (request_line r)
step_line step.Discovered n = Some (Named word.Discovered ∷ U8 n ∷ [])
step_line step.DiscoveryFailed n = Some (word_line word.DiscoveryFailed)
step_line (step.Joined c) n = Some (confirm_line c)
step_line (step.Sent a) n = Some (Named word.SendAnswer ∷ Named (send_word a) ∷ [])
step_line (step.Polled a) n = Some (Named word.PollAnswer ∷ Named (poll_word a) ∷ [])
step_line (step.NegotiationOver a) n = Some (Named word.Negotiated ∷ negotiation_field a ∷ [])
step_line (step.KeepaliveOver a) n = Some (Named word.KeepaliveAnswer ∷ Named (keepalive_word a) ∷ [])
step_line (step.Expired b) n = Some (Named word.Expired ∷ Flag b ∷ [])
step_line (step.LeaveTaken slot) n = Some (taken_line leave_line slot)
step_line (step.StatusTaken slot) n = Some (taken_line status_line slot)
step_line step.PageWritten n = None
step_line step.Done n = Some (word_line word.Done)

-- a network that a discovery tells of
abbrev pub descriptor_line : NetworkDescriptor → Line
descriptor_line d =
    Named word.D ∷ Long d.extended_pan_id.0 ∷ Short d.pan_id.0 ∷ U8 d.update_id ∷ U8 d.logical_channel ∷ U8 d.stack_profile
    ∷ U8 d.zigbee_version ∷ U8 d.beacon_order ∷ U8 d.superframe_order ∷ Flag d.permit_joining ∷ Flag d.router_capacity
    ∷ Flag d.end_device_capacity ∷ []

-- the candidates' indexes, as many fields as there are
abbrev pub candidates_line : List ℕ → Line
candidates_line l = Named word.Candidates ∷ map U8 l

-- the answer to a choice of candidates
abbrev pub choice_line : Result CandidateList Refusal → Line
choice_line (Ok list) = candidates_line (items_of list)
choice_line (Err r) = refusal_line r

-- when each entry was last heard, as many fields as there are entries
abbrev pub last_heard_line : List NwkNeighbor → Line
last_heard_line es = Named word.LastHeard ∷ map (λ e. U32 e.last_heard) es

-- the line with this number is not of the format
abbrev pub bad_line : ℕ → Line
bad_line n = Named word.Bad ∷ U32 n ∷ []
