-- A trace's lines taken one by one (compare/FORMAT.md): which may come, what each leaves, and what it says of the node.
use Rattle.std.specs.Prelude.{Option, Some, None, Result, Ok, Err, ℕ, ◌+◌, ◌-◌, Bool, true, false, cond, eqb, ltb, set, replicate}
use Rattle.lists.specs.Lists.{change_at}
use Rattle.nib.specs.Neighbors.{pushed}
use Rattle.nib.specs.NeighborTable.{heard_at}
use Rattle.nib.specs.declared.NeighborTable.{NeighborTable}
use Rattle.discovery.specs.declared.mlme.PanDescriptor.{PanDescriptor}
use Rattle.discovery.specs.declared.mlme.PanDescriptorList.{PanDescriptorList}
use Rattle.discovery.specs.Mlme.{blank_beacon, mac_error}
use Rattle.discovery.specs.declared.NlmeNetworkDiscoveryConfirm.{NlmeNetworkDiscoveryConfirm}
use Rattle.supervision.specs.declared.TransmitFailure.{TransmitFailure}
use Rattle.supervision.specs.declared.TransmitFailures.{TransmitFailures}
use Rattle.nlme.specs.Fields.{with_pending, with_timer, with_failures}
use Rattle.nlme.specs.Nlme.{new_nlme}
use Rattle.nlme.specs.declared.Nlme.{Nlme}
use Rattle.node.specs.Beginning.{new_state}
use Rattle.node.specs.Looks.{with_table}
use Rattle.operation.specs.declared.TimeoutFor.{TimeoutFor}
use Rattle.node.specs.Calls.{with_node, scanned, choose}
use Rattle.node.specs.Calls as node
use Rattle.node.specs.declared.State.{State}
use Rattle.node.specs.declared.Answer.{Answer}
use Rattle.node.specs.declared.ScanAnswer.{ScanAnswer}
use Rattle.trace_input.specs.declared.NodeFields.{NodeFields}
use Rattle.trace_input.specs.declared.TraceCall.{TraceCall}
use Rattle.trace_input.specs.declared.TraceCall.TheVariants.{Node, Entry, Failure, Discovery, Join, Send, Poll, Receive, Negotiate, Keepalive, Scan, Beacon, ScanFailed, Association, Transmission, Reception, Tick, TakeLeave, TakeStatus, Choose, PrintState, Page, Refresh, Heard, Clock, PrintLastHeard}
use Rattle.trace_calls.specs.declared.Stage.{Stage}
use Rattle.trace_calls.specs.declared.Stage.TheVariants.{NoNode, SettingUp, BelowEntry, Running}
use Rattle.trace_calls.specs.declared.Session.{Session}
use Rattle.trace_calls.specs.declared.Answered.{Answered}
use Rattle.trace_calls.specs.declared.Said.{Said}
use Rattle.trace_calls.specs.declared.Said.TheVariants as said
use Rattle.trace_calls.specs.declared.Turn.{Turn}
use Rattle.discovery.specs.declared.mlme.MacError.{MacError}

-- The state that a `node` line begins: "no neighbours, no pairs, every slot empty, no operation under way"

abbrev pub own_part : NodeFields → Nlme
own_part l = with_timer (record { remaining_ms = l.remaining_ms }) (with_pending l.pending_timeout_request (new_nlme l.nib l.nwk_seq))

unfoldable pub node_begun : NodeFields → State
node_begun l = with_node (own_part l) (new_state l.nib l.nwk_seq)

-- a `node` line of zeros: what stands in the place of a node before the first
abbrev pub no_node : NodeFields
no_node =
    record {
      nib =
          record {
            network_address = record { 0 = 0 };
            ieee_address = record { 0 = 0 };
            extended_panid = record { 0 = 0 };
            panid = record { 0 = 0 };
            update_id = 0;
            capability_information = record { 0 = 0 };
            stack_profile = 0;
            parent_information = 0;
            end_device_timeout = 0;
            end_device_timeout_default = 0;
            leave_request_allowed = false;
          };
      nwk_seq = 0;
      pending_timeout_request = 0;
      remaining_ms = 0;
    }

-- The beacons of a scan

-- n beacons, none of which was heard yet
abbrev pub unheard : ℕ → PanDescriptorList
unheard n = record { descriptors = replicate 27 blank_beacon; count = n }

-- the next of them, where so many are missing. A list has room for 27: those past it are only counted
abbrev pub with_beacon : ℕ → PanDescriptor → PanDescriptorList → PanDescriptorList
with_beacon missing d l = record { descriptors = set l.descriptors (l.count - missing) d; count = l.count }

-- Sessions

-- before the first line
abbrev pub before : Session
before = record { state = node_begun no_node; stage = NoNode; missing = 0; beacons = unheard 0; clock = 0 }

-- after `node`, and the further lines of the state behind it
abbrev pub set_up : State → Stage → Session → Session
set_up st stage s = record s { state = st; stage = stage; missing = 0 }

-- the caller's clock, in seconds
abbrev pub at_clock : ℕ → Session → Session
at_clock t s = record s { clock = t }

-- after a call, with the state that it leaves; the beacons of the last scan and the clock stay
abbrev pub running : State → Session → Session
running st s = record s { state = st; stage = Running; missing = 0 }

-- in the midst of a scan's beacons
abbrev pub beacons_due : ℕ → PanDescriptorList → Session → Session
beacons_due n l s = record s { stage = Running; missing = n; beacons = l }

-- What a line says

abbrev pub saying : Said → Session → Turn
saying w s = record { session = s; said = w }

-- a line that is not of the format leaves the session
abbrev pub saying_bad : Session → Turn
saying_bad s = saying said.Bad s

abbrev pub nothing : Session → Turn
nothing s = saying said.Nothing s

-- what a call answers, with the networks that a discovery found
abbrev pub answer_with_networks : Answer → Option NlmeNetworkDiscoveryConfirm → Answered
answer_with_networks a n = record { reset = a.reset; note = a.note; step = a.step; networks = n }

abbrev pub told : Answer → Option NlmeNetworkDiscoveryConfirm → Session → Turn
told a n s = saying (said.Told (answer_with_networks a n)) (running a.state s)

-- what the outcome of a scan answers
abbrev pub confirm_told : ScanAnswer → Session → Turn
confirm_told a s = told a.answer a.confirm s

abbrev pub scan_told : Result PanDescriptorList MacError → Session → Turn
scan_told o s = confirm_told (scanned o s.clock s.state) s

-- "count n; then n `b` lines": the outcome reaches the node with the last of them, at once where there are none. n of them are still to come
abbrev pub scan_after : ℕ → PanDescriptorList → Session → Turn
scan_after n l s = cond (eqb n 0) (scan_told (Ok l) s) (nothing (beacons_due n l s))

-- the failure pairs, and one more of them behind those in use; a full record stays
abbrev pub pairs : State → TransmitFailures
pairs st = st.control.nlme.transmit_failures

abbrev pub with_pairs : TransmitFailures → State → State
with_pairs f st = with_node (with_failures f st.control.nlme) st

abbrev pub with_pair : TransmitFailure → TransmitFailures → TransmitFailures
with_pair p f = cond (ltb f.count 16) (record { pairs = set f.pairs f.count p; count = f.count + 1 }) f

-- the last entry, which is that of the `e` line above, was last heard at a time
abbrev pub with_last_heard : ℕ → NeighborTable → NeighborTable
with_last_heard t table = record table { entries = change_at (table.count - 1) (heard_at t) table.entries }

-- the choice of candidates on the present table
abbrev pub choice_told : ℕ → Bool → Bool → Session → Turn
choice_told n router permit s = saying (said.Chosen (choose n router permit s.state)) (running s.state s)

abbrev pub state_told : Session → Turn
state_told s = saying said.Shown (running s.state s)

abbrev pub last_heard_told : Session → Turn
last_heard_told s = saying said.LastHeard (running s.state s)

-- a page, by the length of the lent buffer; the call leaves the state as it is
abbrev pub paged : ℕ → Session → Turn
paged n s = saying (said.Paged n) (running s.state s)

-- each line of the format, and the call that it makes
unfoldable pub call_made : TraceCall → Session → Turn
call_made (Node l) s = nothing (set_up (node_begun l) SettingUp (at_clock 0 s))
call_made (Entry e) s = nothing (set_up (with_table (pushed s.state.table e) s.state) BelowEntry s)
call_made (Failure p) s = nothing (set_up (with_pairs (with_pair p (pairs s.state)) s.state) SettingUp s)
call_made (Heard t) s = nothing (set_up (with_table (with_last_heard t s.state.table) s.state) SettingUp s)
call_made (Discovery r) s = told (node.answer s.state (node.discovery r)) None s
call_made (Join r) s = told (node.answer s.state (node.join r)) None s
call_made (Send destination secure) s = told (node.answer s.state (node.send destination secure)) None s
call_made Poll s = told (node.answer s.state node.poll) None s
call_made Receive s = told (node.answer s.state node.receive) None s
call_made Negotiate s = told (node.answer s.state (node.timeout TimeoutFor.Negotiation)) None s
call_made Keepalive s = told (node.answer s.state (node.timeout TimeoutFor.Keepalive)) None s
call_made (Scan n) s = scan_after n (unheard n) s
call_made (Beacon d) s = scan_after (s.missing - 1) (with_beacon s.missing d s.beacons) s
call_made ScanFailed s = scan_told (Err mac_error) s
call_made (Association o) s = told (node.answer s.state (node.association o)) None s
call_made (Transmission ok) s = told (node.answer s.state (node.transmission ok)) None s
call_made (Reception o) s = told (node.answer s.state (node.reception o s.clock)) None s
call_made (Tick ms) s = told (node.answer s.state (node.elapsed ms)) None s
call_made TakeLeave s = told (node.answer s.state node.take_leave) None s
call_made TakeStatus s = told (node.answer s.state node.take_status) None s
call_made (Choose n router permit) s = choice_told n.0 router permit s
call_made (Clock t) s = nothing (running s.state (at_clock t s))
call_made PrintState s = state_told s
call_made PrintLastHeard s = last_heard_told s
call_made (Page n) s = paged n s
call_made Refresh s = told (node.refresh s.state) None s

-- Which lines may come

-- "`e` and `f` lines follow it, at most 16 each"
abbrev pub has_room : Stage → ℕ → Bool
has_room NoNode n = false
has_room SettingUp n = ltb n 16
has_room BelowEntry n = ltb n 16
has_room Running n = false

abbrev pub has_node : Stage → Bool
has_node NoNode = false
has_node SettingUp = true
has_node BelowEntry = true
has_node Running = true

-- directly below an `e` line
abbrev pub is_below_entry : Stage → Bool
is_below_entry NoNode = false
is_below_entry SettingUp = false
is_below_entry BelowEntry = true
is_below_entry Running = false

abbrev pub is_beacon : TraceCall → Bool
is_beacon (Beacon d) = true
is_beacon _ = false

-- a `node` line always; behind it lines of the state: `e` and `f` with so many entries and pairs before them, and `h` directly below an `e`; then all others
abbrev pub may_come : TraceCall → Session → Bool
may_come (Node l) s = true
may_come (Entry e) s = has_room s.stage s.state.table.count
may_come (Failure p) s = has_room s.stage (pairs s.state).count
may_come (Heard t) s = is_below_entry s.stage
may_come (Beacon d) s = false
may_come _ s = has_node s.stage

-- where a beacon is due nothing else may come
abbrev pub is_in_place : TraceCall → Session → Bool
is_in_place c s = cond (eqb s.missing 0) (may_come c s) (is_beacon c)

-- a line taken: the next session, and what the line says. Without a call it is not of the format
unfoldable pub turn_taken : Option TraceCall → Session → Turn
turn_taken None s = saying_bad s
turn_taken (Some c) s = cond (is_in_place c s) (call_made c s) (saying_bad s)
