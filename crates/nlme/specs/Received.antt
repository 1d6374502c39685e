-- What a received frame does (01, "Received frame"; Zigbee 3.4 and 3.6.1.10).
-- The parent is the first entry with relationship PARENT, and its IEEE address the one known of its short address.
-- `broadcastIeee` is the IEEE address known of the broadcast address 0xffff.
use Rattle.std.specs.Prelude.{Option, Some, None, ℕ, Bool, true, false, cond, not, ◌&&◌, List, eqb, ltb}
use Rattle.nib.specs.Bits.{bit}
use Rattle.nib.specs.declared.Nib.{Nib}
use Rattle.nib.specs.declared.NwkNeighbor.{NwkNeighbor}
use Rattle.nib.specs.declared.ShortAddress.{ShortAddress}
use Rattle.nib.specs.NeighborTable.{learnt, renewed, known_ieee}
use Rattle.management.specs.Signals.{with_rejoin_response, with_timeout_response, with_leave_indication}
use Rattle.management.specs.declared.RejoinResponse.{RejoinResponse}
use Rattle.management.specs.declared.EndDeviceTimeoutResponse.{EndDeviceTimeoutResponse}
use Rattle.management.specs.declared.LeavingDevice.{LeavingDevice}
use Rattle.management.specs.declared.PollAnswer.{PollAnswer}
use Rattle.management.specs.declared.frame.Source.{Source}
use Rattle.management.specs.declared.frame.LeaveOptions.{LeaveOptions}
use Rattle.management.specs.declared.frame.ReceivedFrame.{ReceivedFrame}
use Rattle.management.specs.declared.frame.SentCommand.{SentCommand}
use Rattle.management.specs.declared.frame.SentFrame.{SentFrame}
use Rattle.nlme.specs.Fields.{with_nib, with_pending, with_signals, with_address, with_extended_pan_id, with_negotiated, with_network_left}
use Rattle.nlme.specs.Nlme.{refreshed, command_header, seq_used, transmission, parent_address}
use Rattle.nlme.specs.declared.Nlme.{Nlme}
use Rattle.nlme.specs.declared.Transmission.{Transmission}
use Rattle.nlme.specs.declared.received.Then.{Then}
use Rattle.nlme.specs.declared.received.Handled.{Handled}
use Rattle.nib.specs.declared.IeeeAddress.{IeeeAddress}

-- "Data and commands that carry the sender's IEEE address first teach it to the first entry with its short address"
unfoldable pub taught_by : Option IeeeAddress → ShortAddress → List NwkNeighbor → List NwkNeighbor
taught_by None a es = es
taught_by (Some x) a es = learnt a.0 x es

-- what a frame does to the entries at a time: it teaches, and "a received data or command frame renews the first entry with its sender's short address"
-- (02, L4), with an IEEE address in it or not
unfoldable pub heard_from : Option Source → ℕ → List NwkNeighbor → List NwkNeighbor
heard_from None t es = es
heard_from (Some s) t es = renewed s.address.0 t (taught_by s.ieee s.address es)

-- "A rejoin response of status 0 sets the network address". Every response fills its slot, asked for or not
-- (`handle_nwk_command` of the source; Zigbee 3.4.7.3.1)
abbrev pub rejoin_signalled : RejoinResponse → Nlme → Nlme
rejoin_signalled r n = with_signals (with_rejoin_response (Some r) n.signals) n

unfoldable pub rejoin_responded : RejoinResponse → Nlme → Nlme
rejoin_responded r n = rejoin_signalled r (cond (eqb r.status 0) (with_nib (with_address r.network_address n.nib) n) n)

-- "A timeout response uses up the pending index; with status 0 and a pending index it stores both and restarts the timer".
-- Both are parent information and timeout index. Every response fills its slot, asked for or not
-- (`handle_nwk_command` of the source; Zigbee 3.6.10.2 and 3.6.10.3)
abbrev pub timeout_signalled : EndDeviceTimeoutResponse → Nlme → Nlme
timeout_signalled r n = with_signals (with_timeout_response (Some r) n.signals) (with_pending 0xff n)

unfoldable pub stored : ℕ → Nlme → Nlme
stored information n = refreshed (with_nib (with_negotiated information n.pending_timeout_request n.nib) n)

unfoldable pub timeout_responded : EndDeviceTimeoutResponse → Nlme → Nlme
timeout_responded r n =
    timeout_signalled r (cond (eqb r.status 0 && not (eqb n.pending_timeout_request 0xff)) (stored r.parent_information n) n)

-- whether a frame is the parent's
abbrev pub is_from_parent : Option NwkNeighbor → ShortAddress → Bool
is_from_parent None a = false
is_from_parent (Some p) a = eqb p.network_address.0 a.0

-- the leave indication: whose leave it is, and its rejoin bit (Zigbee 3.2.2.19; a short address in it is request L2's)
abbrev pub leave_indicated : LeavingDevice → Bool → Nlme → Nlme
leave_indicated device rejoin n =
    with_signals (with_leave_indication (Some (record { device = device; rejoin = rejoin })) n.signals) n

-- 02, L2: "a neighbour by IEEE address; a neighbour by short address, exactly where a leave without the request bit from another than the parent
-- has no IEEE address". The frame's field is meant, and not what the table knows of its sender: an IEEE address of 0 is one
abbrev pub neighbor_leaving : Option IeeeAddress → ShortAddress → LeavingDevice
neighbor_leaving (Some x) a = LeavingDevice.NeighborByIeee x
neighbor_leaving None a = LeavingDevice.NeighborByShort a

-- "Leave without the request bit": "From the parent it zeroes the extended PAN id" (01), and is indicated as "this device, for the parent's leave" (02, L2).
-- From another it is indicated as that neighbour's
unfoldable pub neighbor_left : Option NwkNeighbor → Source → Bool → Nlme → Nlme
neighbor_left parent s rejoin n =
    cond (is_from_parent parent s.address)
    (leave_indicated LeavingDevice.ThisDevice rejoin (with_nib (with_extended_pan_id (record { 0 = 0 }) n.nib) n))
    (leave_indicated (neighbor_leaving s.ieee s.address) rejoin n)

-- `accepts_leave_request` (Zigbee 3.6.1.10.3.1): not by the coordinator, and not to a broadcast address (0xfff8 and above);
-- by a router as nwkLeaveRequestAllowed says, by an end device from its parent
unfoldable pub accepts_leave : Nib → ShortAddress → Bool → Bool
accepts_leave nib destination by_parent =
    not (eqb nib.network_address.0 0)
    && ltb destination.0 0xfff8
    && cond (bit 1 nib.capability_information.0) nib.leave_request_allowed by_parent

-- `announce_leave` (Zigbee 3.6.1.10.1): a router broadcasts, an end device tells its parent with the remove children bit 0
abbrev pub leave_to : Nlme → ShortAddress → Option IeeeAddress → Bool → Bool → Transmission
leave_to n to ieee rejoin children =
    transmission n to (SentFrame.CommandFrame (command_header n to ieee true) (SentCommand.Leave (record { request = false; rejoin = rejoin; remove_children = children })))

unfoldable pub announcement : Nlme → Option NwkNeighbor → Option IeeeAddress → LeaveOptions → Transmission
announcement n parent broadcastIeee o =
    cond (bit 1 n.nib.capability_information.0)
    (leave_to n (record { 0 = 0xffff }) broadcastIeee o.rejoin o.remove_children)
    (leave_to n (parent_address parent) (known_ieee parent) o.rejoin false)

-- a frame that is dealt with: the table as it is, and what a single poll or receive answers
abbrev pub dealt_with : Nlme → PollAnswer → Handled
dealt_with n a = record { nlme = n; removed = None; then = Then.Over a }

-- a leave request: an accepted one is announced, which uses a sequence number (01, "Received frame")
unfoldable pub leave_requested : Option NwkNeighbor → Option IeeeAddress → ShortAddress → ShortAddress → LeaveOptions → Nlme → Handled
leave_requested parent broadcastIeee s d o n =
    cond (accepts_leave n.nib d (is_from_parent parent s))
    (record { nlme = seq_used n; removed = None; then = Then.Announce (record { transmission = announcement n parent broadcastIeee o; rejoin = o.rejoin }) })
    (dealt_with n PollAnswer.PollNothing)

-- a leave command: "Leave without the request bit removes every entry of that address" (Zigbee 3.6.1.10.3)
unfoldable pub leave_handled : Option NwkNeighbor → Option IeeeAddress → Source → ShortAddress → LeaveOptions → Nlme → Handled
leave_handled parent broadcastIeee s d o n =
    cond o.request
    (leave_requested parent broadcastIeee s.address d o n)
    (record { nlme = neighbor_left parent s o.rejoin n; removed = Some s.address; then = Then.Over PollAnswer.PollNothing })

-- `process_received_nwk_frame`, after what it does to the entries
unfoldable pub handled : Option NwkNeighbor → Option IeeeAddress → ReceivedFrame → Nlme → Handled
handled parent broadcastIeee ReceivedFrame.Undecodable n = dealt_with n PollAnswer.PollUndecodable
handled parent broadcastIeee (ReceivedFrame.Data s) n = dealt_with n PollAnswer.PollData
handled parent broadcastIeee (ReceivedFrame.RejoinResponseCommand s r) n = dealt_with (rejoin_responded r n) PollAnswer.PollNothing
handled parent broadcastIeee (ReceivedFrame.TimeoutResponseCommand s r) n = dealt_with (timeout_responded r n) PollAnswer.PollNothing
handled parent broadcastIeee (ReceivedFrame.LeaveCommand s d o) n = leave_handled parent broadcastIeee s d o n
handled parent broadcastIeee (ReceivedFrame.OtherCommand s) n = dealt_with n PollAnswer.PollNothing
handled parent broadcastIeee ReceivedFrame.OtherFrame n = dealt_with n PollAnswer.PollNothing

-- after the announcement, sent or not: an end device's extended PAN id is 0 (Zigbee 3.6.1.10.1).
-- Unless the rejoin bit is set, the fields of `clear_nib_on_leave` are reset (Zigbee 3.6.1.10.4), so the timer runs on
unfoldable pub left_for : Bool → Nib → Nib
left_for true nib = cond (bit 1 nib.capability_information.0) nib (with_extended_pan_id (record { 0 = 0 }) nib)
left_for false nib = with_network_left nib

-- "this device, for .. an accepted request" (02, L2), "announced or not" (01)
unfoldable pub leave_announced : Bool → Nlme → Nlme
leave_announced rejoin n = leave_indicated LeavingDevice.ThisDevice rejoin (with_nib (left_for rejoin n.nib) n)
