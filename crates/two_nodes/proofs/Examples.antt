-- Runs that antt computes: the theorem at some lists, and why each of its premises is there.
use Rattle.std.specs.Prelude.{Result, Ok, Err, Option, Some, None}
use Prim.Native.Nat.{ℕ}
use mathlib.Core.Path.{◌≡◌, refl, ap}
use mathlib.Core.Bool.{Bool, true, false, false≢true}
use mathlib.Core.List.{List, [], ◌∷◌, map, flat_map}
use native.Mathlib.Omega.{arith}
use lib.ListN.{length, replicate}
use Rattle.nib.specs.Attributes.{blank_nib}
use Rattle.nib.specs.declared.Nib.{Nib}
use Rattle.discovery.specs.declared.mlme.Address.TheVariants.{Short}
use Rattle.discovery.specs.declared.mlme.PanDescriptor.{PanDescriptor}
use Rattle.management.specs.declared.RejoinNetwork.{RejoinNetwork}
use Rattle.management.specs.declared.RejoinNetwork.TheVariants.{Association, NwkRejoin}
use Rattle.management.specs.declared.ScanRange.{ScanRange}
use Rattle.management.specs.declared.NlmeJoinStatus.TheVariants.{Success, NotPermitted, PanAtCapacity, MacError}
use Rattle.management.specs.Frame.{sender_of}
use Rattle.management.specs.declared.frame.Source.{Source}
use Rattle.management.specs.declared.frame.ReceivedFrame.TheVariants.{Data, RejoinResponseCommand, LeaveCommand}
use Rattle.management.specs.declared.frame.CommandHeader.{CommandHeader}
use Rattle.management.specs.declared.frame.ReceivedFrame.{ReceivedFrame}
use Rattle.management.specs.declared.frame.SentFrame.{SentFrame}
use Rattle.management.specs.declared.frame.SentFrame.TheVariants.{CommandFrame}
use Rattle.management.specs.declared.frame.SentCommand.TheVariants.{RejoinRequest, Leave}
use Rattle.operation.specs.Operation.{is_idle, with_operation, polling, poll_on}
use Rattle.operation.specs.declared.ScanFor.{ScanFor}
use Rattle.operation.specs.declared.Phase.{Phase}
use Rattle.operation.specs.declared.RadioRequest.TheVariants.{Scan, Associate, Transmit, Poll}
use Rattle.operation.specs.declared.Step.{Step}
use Rattle.operation.specs.declared.Step.TheVariants.{Refused, Ask, Discovered, Joined, StatusTaken}
use Rattle.node.specs.Beginning.{new_state}
use Rattle.node.specs.Looks.{with_control, entries, moved, potential_cleared, deciding_with}
use Rattle.node.specs.Refusals.{refuse, bad, outcome}
use Rattle.node.specs.Calls.{with_chosen, associate, join_by, with_scan, scan_heard, scan_decided, continuing, table_changed, after_frame, reception_decided, transmission_decided, Call, discovery, join, scan, transmission, reception, take_status, answer}
use Rattle.candidates.specs.Tries.{parent_in, tried_index, skipped, next_index, next_in, past_table, taking, adopted_next}
use Rattle.nib.specs.NeighborTable.{found, ieee_of, parent_of, on_entries, learnt, renewed, marked, adopted, retained}
use Rattle.candidates.specs.Candidates.{eligible, depth_at, candidates}
use Rattle.candidates.specs.UpdateIds.{newer, newest}
use Rattle.discovery.specs.Discovery.{potential_parent_of, entry_from, neighbor_by, present, neighbors_of}
use Rattle.join.specs.Join.{failure, associating, join_started, failed_status}
use Rattle.join.specs.Rejoin.{invalid, trying, scan_or_end, try_remembered, rejoin_started, try_candidate, try_next, try_failed, rejoined, responded, answered_by, request_sent}
use Rattle.nlme.specs.Received.{taught_by, heard_from, rejoin_responded, neighbor_left, accepts_leave, announcement, leave_requested, leave_handled, handled}
use Rattle.nlme.specs.Nlme.{new_nlme, negotiation_reset, command_header}
use Rattle.nib.specs.LinkCost.{link_cost}
use Rattle.node.specs.declared.State.{State}
use Rattle.two_nodes.specs.Statement.{Shown, shown, run, AlikeScan, within, same, scans, none, more}
use Rattle.two_nodes.proofs.TwoNodes.{two-nodes}
use Rattle.nib.specs.declared.IeeeAddress.{IeeeAddress}
use Rattle.discovery.specs.declared.mlme.PanDescriptorList.{PanDescriptorList}
use Rattle.discovery.specs.declared.mlme.MacError as radio
use Rattle.operation.specs.declared.Refusal.TheVariants.{OperationUnderWay, TooManyDescriptors, TooManyShortAddressed}

-- NODES, BEACONS AND CALLS

abbrev range : ScanRange
range = record { first = 11; past = 27; duration = 3 }

-- the attributes of a node with an own address (0xffff for none) and a remembered network (0 for none)
abbrev attributes : ℕ → ℕ → Nib
attributes address network =
    record (blank_nib (record { 0 = 1 })) {
      network_address = record { 0 = address };
      extended_panid = record { 0 = network };
      capability_information = record { 0 = 0x80 };
      stack_profile = 1;
    }

-- the node, with an empty table, and an operation that keeps the network's id
abbrev node : ℕ → ℕ → Phase → State
node address network awaited =
    let s = new_state (attributes address network) 0 in
    let o = record (s.control.operation) { phase = awaited; extended_pan_id = record { 0 = network }; scan = range; scan_requested = true } in
    with_control (with_operation o s.control) s

-- the beacon of a short address in a network on a channel, with an update id: joining permitted, room for routers and end devices, depth 1
abbrev beacon : ℕ → ℕ → ℕ → ℕ → PanDescriptor
beacon address network channel id =
    record {
      channel = channel;
      coord_pan_id = record { 0 = 17 };
      coord_address = Short (record { 0 = 17 }) (record { 0 = address });
      superframe_spec = record { beacon_order = 15; superframe_order = 15; association_permit = true };
      link_quality = 200;
      zigbee_beacon = record { stack_profile = record { 0 = 0x8c22 }; extended_pan_id = record { 0 = network }; update_id = id };
    }

abbrev scan_of : List PanDescriptor → Result PanDescriptorList radio.MacError
scan_of ds = Ok (record { descriptors = ds; count = length ds })

-- scans are heard at 100 seconds, and frames come at 200
abbrev hears : List PanDescriptor → Call
hears ds = scan (scan_of ds) 100

abbrev frame_comes : ReceivedFrame → Call
frame_comes f = reception (Ok (Some f)) 200

-- a join or rejoin with capabilities, and an end device's
abbrev join_as : ℕ → RejoinNetwork → ℕ → Call
join_as capabilities kind network =
    join
    (record {
      extended_pan_id = record { 0 = network };
      rejoin_network = kind;
      capability_information = record { 0 = capabilities };
      security_enabled = false;
      scan = range;
    })

abbrev join_of : RejoinNetwork → ℕ → Call
join_of kind network = join_as 0x80 kind network

-- a frame from a short address, with or without its IEEE address
abbrev from : ℕ → Option IeeeAddress → Source
from address ieee = record { address = record { 0 = address }; ieee = ieee }

-- a leave command to a short address: the notification of a neighbour that goes, and a request from the broadcast address that asks for a rejoin
abbrev leave : Source → ℕ → Bool → Call
leave source to request = frame_comes (LeaveCommand source (record { 0 = to }) (record { request = request; rejoin = request; remove_children = false }))

abbrev leaves : ℕ → Call
leaves address = leave (from address None) 0xffff false

abbrev asks_to_leave : Call
asks_to_leave = leave (from 0xffff (Some (record { 0 = 99 }))) 0x1234 true

-- the response to a rejoin request: with an address for the node, and of a parent that is at capacity
abbrev responds : ℕ → ℕ → ℕ → Call
responds address status given = frame_comes (RejoinResponseCommand (from address None) (record { network_address = record { 0 = given }; status = status }))

abbrev accepts : ℕ → Call
accepts address = responds address 0 0x2345

abbrev declines : ℕ → Call
declines address = responds address 1 0xffff

-- the answers of a run, without the states
abbrev steps : List Shown → List Step
steps [] = []
steps (a ∷ rest) = a.step ∷ steps rest

-- the state after a list of calls
abbrev reached : State → List Call → State
reached s [] = s
reached s (c ∷ cs) = reached (answer s c).state cs

-- the request to associate with a short address on a channel
abbrev associates : ℕ → ℕ → Step
associates address channel =
    Ask
    (Associate
    (record {
      channel = channel;
      pan_id = record { 0 = 17 };
      address = record { 0 = address };
      capabilities = record { full_function_device = false; mains_power = false; idle_receive = false; frame_protection = false; allocate_address = true };
    }))

-- the header of a command to a short address, with the IEEE address known of it and a sequence number
abbrev header : ℕ → Option IeeeAddress → ℕ → Bool → CommandHeader
header to ieee sequence secure =
    record { destination = record { 0 = to }; destination_ieee = ieee; source = record { 0 = 0x1234 }; source_ieee = record { 0 = 1 }; sequence_number = sequence; secure = secure }

abbrev transmits : ℕ → SentFrame → Step
transmits to frame = Ask (Transmit (record { pan_id = record { 0 = 17 }; address = record { 0 = to }; frame = frame }))

-- the rejoin request of a node with capabilities, and an end device's; the announcement of a leave by a router
abbrev rejoins_as : ℕ → ℕ → ℕ → Option IeeeAddress → Step
rejoins_as capabilities sequence address ieee = transmits address (CommandFrame (header address ieee sequence false) (RejoinRequest (record { 0 = capabilities })))

abbrev rejoins : ℕ → ℕ → Option IeeeAddress → Step
rejoins sequence address ieee = rejoins_as 0x80 sequence address ieee

abbrev announces : ℕ → Option IeeeAddress → Step
announces sequence ieee = transmits 0xffff (CommandFrame (header 0xffff ieee sequence true) (Leave (record { request = false; rejoin = true; remove_children = false })))

abbrev polls : ℕ → Step
polls address = Ask (Poll (record { 0 = 17 }) (record { 0 = address }))

-- THE CALLS OF EACH EXAMPLE, for what its scan hears

abbrev new : State
new = node 0xffff 0 Phase.Idle

abbrev member : State
member = node 0x1234 170 Phase.Idle

abbrev lone : State
lone = node 0x1234 0 Phase.Idle

abbrev joining : List PanDescriptor → List Call
joining ds = discovery range ∷ hears ds ∷ take_status ∷ join_of Association 170 ∷ join_of NwkRejoin 3 ∷ []

abbrev joins : ℕ → List PanDescriptor → List Call
joins network ds = discovery range ∷ hears ds ∷ join_of Association network ∷ []

abbrev discovers : Result PanDescriptorList radio.MacError → List Call
discovers o = discovery range ∷ scan o 100 ∷ []

abbrev succeeds : List PanDescriptor → List Call
succeeds ds = join_of NwkRejoin 0 ∷ hears ds ∷ transmission true ∷ accepts 7 ∷ []

abbrev asked : List PanDescriptor → List Call
asked ds = join_as 0x82 NwkRejoin 0 ∷ hears ds ∷ transmission true ∷ asks_to_leave ∷ []

abbrev left : List PanDescriptor → List Call
left ds = join_of NwkRejoin 0 ∷ hears ds ∷ transmission true ∷ leaves 5 ∷ declines 7 ∷ []

abbrev taught_by7 : List PanDescriptor → List Call
taught_by7 ds = join_of NwkRejoin 0 ∷ hears ds ∷ transmission true ∷ frame_comes (Data (from 7 (Some (record { 0 = 99 })))) ∷ declines 8 ∷ []

abbrev twice : List PanDescriptor → List Call
twice ds = join_of NwkRejoin 0 ∷ hears ds ∷ transmission false ∷ join_of NwkRejoin 0 ∷ transmission false ∷ hears ds ∷ []

-- beacons of the network 170, and of the foreign network 9, whose update id is newer
abbrev own-7 : PanDescriptor
own-7 = beacon 7 170 15 5

abbrev own-8 : PanDescriptor
own-8 = beacon 8 170 15 5

abbrev foreign : ℕ → PanDescriptor
foreign address = beacon address 9 20 6

-- the IEEE addresses that the entries themselves hold
abbrev addresses : State → List ℕ
addresses s = map (λ e. e.extended_address.0) (entries s)

-- when they were last heard
abbrev times : State → List ℕ
times s = map (λ e. e.last_heard) (entries s)

-- the index of the candidate being tried
abbrev index : State → ℕ
index s = tried_index (length (entries s)) s.candidates

record Computed : Type 0 where
  -- a foreign beacon first, then one of the network: the association is asked of the second, though the newest update id of the whole table is the foreign one.
  -- A start while it is under way is refused
  joins-past : steps (run new (joining (foreign 1 ∷ own-7 ∷ []))) ≡ Ask (Scan range) ∷ Discovered ∷ StatusTaken None ∷ associates 7 15 ∷ Refused OperationUnderWay ∷ []
  -- the network is a "non-zero extended PAN id": a join that names 0 takes any network, and tries the foreign beacon first where it is heard
  wild-with : steps (run new (joins 0 (foreign 1 ∷ own-7 ∷ []))) ≡ Ask (Scan range) ∷ Discovered ∷ associates 1 20 ∷ []
  wild-without : steps (run new (joins 0 (own-7 ∷ []))) ≡ Ask (Scan range) ∷ Discovered ∷ associates 7 15 ∷ []
  -- the join names that network: one that names 9 differs in what was heard of 9
  other-with : steps (run new (joins 9 (foreign 1 ∷ own-7 ∷ []))) ≡ Ask (Scan range) ∷ Discovered ∷ associates 1 20 ∷ []
  other-without : steps (run new (joins 9 (own-7 ∷ []))) ≡ Ask (Scan range) ∷ Discovered ∷ Joined (failure NotPermitted) ∷ []
  -- so does a rejoin that names 9, where no network is remembered
  elsewhere-with : steps (run lone (join_of NwkRejoin 9 ∷ hears (foreign 1 ∷ own-7 ∷ []) ∷ [])) ≡ Ask (Scan range) ∷ rejoins 1 1 None ∷ []
  elsewhere-without : steps (run lone (join_of NwkRejoin 9 ∷ hears (own-7 ∷ []) ∷ [])) ≡ Ask (Scan range) ∷ Joined (failure NotPermitted) ∷ []
  -- the network's beacons are "equal in every field and in order": of two at one depth the first heard is tried first, and on the channel that it was heard on
  order-one : steps (run new (joins 170 (own-7 ∷ own-8 ∷ []))) ≡ Ask (Scan range) ∷ Discovered ∷ associates 7 15 ∷ []
  order_other : steps (run new (joins 170 (own-8 ∷ own-7 ∷ []))) ≡ Ask (Scan range) ∷ Discovered ∷ associates 8 15 ∷ []
  field-other : steps (run new (joins 170 (beacon 7 170 20 5 ∷ own-8 ∷ []))) ≡ Ask (Scan range) ∷ Discovered ∷ associates 7 20 ∷ []
  -- scans are "both within 27 and 16" or both above: 17 foreign beacons are refused by 4, 28 descriptors by 3
  above-16 : steps (run new (discovers (scan_of (replicate 17 (foreign 1))))) ≡ Ask (Scan range) ∷ Refused TooManyShortAddressed ∷ []
  above-27 : steps (run new (discovers (Ok (record { descriptors = replicate 27 (foreign 1); count = 28 })))) ≡ Ask (Scan range) ∷ Refused TooManyDescriptors ∷ []
  above-none : steps (run new (discovers (scan_of []))) ≡ Ask (Scan range) ∷ Discovered ∷ []
  -- no leave command is handled: a leave of the foreign 5, while 7 is tried, removes its entry, and the index of 8 lies past the table then.
  -- So 8 is skipped where 5 was heard
  left-with : steps (run member (left (foreign 5 ∷ own-7 ∷ own-8 ∷ []))) ≡ Ask (Scan range) ∷ rejoins 1 7 None ∷ polls 7 ∷ polls 7 ∷ Joined (failure PanAtCapacity) ∷ []
  left-without : steps (run member (left (own-7 ∷ own-8 ∷ []))) ≡ Ask (Scan range) ∷ rejoins 1 7 None ∷ polls 7 ∷ polls 7 ∷ rejoins 2 8 None ∷ []
  -- nor a leave request: a router announces it to the broadcast address, with the IEEE address that a foreign entry of that address has learnt
  asked-with : steps (run member (asked (own-7 ∷ foreign 0xffff ∷ []))) ≡ Ask (Scan range) ∷ rejoins_as 0x82 1 7 None ∷ polls 7 ∷ announces 2 (Some (record { 0 = 99 })) ∷ []
  asked-without : steps (run member (asked (own-7 ∷ []))) ≡ Ask (Scan range) ∷ rejoins_as 0x82 1 7 None ∷ polls 7 ∷ announces 2 None ∷ []
  -- nothing is under way at the start: a rejoin of the network 9 that awaits its scan tries what is heard of 9,
  -- though the list names no network and may be read with 170
  awaited-with : steps (run (node 0x1234 9 (Phase.Scan ScanFor.Rejoin)) (hears (foreign 5 ∷ []) ∷ [])) ≡ rejoins 1 5 None ∷ []
  awaited-without : steps (run (node 0x1234 9 (Phase.Scan ScanFor.Rejoin)) (hears [] ∷ [])) ≡ Joined (failure NotPermitted) ∷ []
  -- a frame from 7 arrives while 8 is tried. Where a foreign 7 was heard first, its entry learns the IEEE address, and the network's own entry of 7 keeps 0.
  -- Else the own entry learns it. The request to 7 carries 99 in both, since it is looked up by short address.
  -- Read off the candidate's own entry it would differ
  taught-with : steps (run member (taught_by7 (foreign 7 ∷ own-8 ∷ own-7 ∷ []))) ≡ Ask (Scan range) ∷ rejoins 1 8 None ∷ polls 8 ∷ polls 8 ∷ rejoins 2 7 (Some (record { 0 = 99 })) ∷ []
  taught-without : steps (run member (taught_by7 (own-8 ∷ own-7 ∷ []))) ≡ Ask (Scan range) ∷ rejoins 1 8 None ∷ polls 8 ∷ polls 8 ∷ rejoins 2 7 (Some (record { 0 = 99 })) ∷ []
  addresses-with : addresses (reached member (taught_by7 (foreign 7 ∷ own-8 ∷ own-7 ∷ []))) ≡ 99 ∷ 0 ∷ 0 ∷ []
  addresses-without : addresses (reached member (taught_by7 (own-8 ∷ own-7 ∷ []))) ≡ 0 ∷ 99 ∷ []
  -- the same frame renews the foreign 7 where that was heard first: the network's own 7 was last heard at 100 there, and at 200 else.
  -- So last-heard times are not compared. 8 was last heard when it declined
  times-with : times (reached member (taught_by7 (foreign 7 ∷ own-8 ∷ own-7 ∷ []))) ≡ 200 ∷ 200 ∷ 100 ∷ []
  times-without : times (reached member (taught_by7 (own-8 ∷ own-7 ∷ []))) ≡ 200 ∷ 200 ∷ []
  -- the index of the candidate that is being tried differs: a confirm that named it would
  index-with : index (reached new (joining (foreign 1 ∷ own-7 ∷ []))) ≡ 1
  index-without : index (reached new (joining (own-7 ∷ []))) ≡ 0
  -- a rejoin whose one candidate fails, and another, which tries that candidate as its remembered parent and scans anew
  tries-twice : steps (run member (twice (foreign 1 ∷ own-7 ∷ []))) ≡ Ask (Scan range) ∷ rejoins 1 7 None ∷ Joined (failure MacError) ∷ rejoins 2 7 None ∷ Ask (Scan range) ∷ rejoins 3 7 None ∷ []
  -- a rejoin that ends in success
  rejoins-past :
      steps (run member (succeeds (foreign 1 ∷ own-7 ∷ [])))
      ≡ Ask (Scan range) ∷ rejoins 1 7 None ∷ polls 7 ∷ Joined (record { status = Success; network_address = record { 0 = 0x2345 }; extended_pan_id = record { 0 = 170 }; channel = 15 }) ∷ []
  -- the theorem at three pairs of lists that differ in a foreign beacon; the last are longer than those of 01
  applied : run new (joining (foreign 1 ∷ own-7 ∷ [])) ≡ run new (joining (own-7 ∷ []))
  applied-success : run member (succeeds (foreign 1 ∷ own-7 ∷ [])) ≡ run member (succeeds (own-7 ∷ []))
  applied-twice : run member (twice (foreign 1 ∷ own-7 ∷ [])) ≡ run member (twice (own-7 ∷ []))

-- what the two nodes hear
heard-alike : AlikeScan 170 (scan_of (foreign 1 ∷ own-7 ∷ [])) (scan_of (own-7 ∷ []))
unfolding neighbors_of flat_map present neighbor_by
heard-alike = within (omega arith) (omega arith) (omega arith) (omega arith) refl

-- a response is no leave command
abbrev is_leave : Result (Option ReceivedFrame) radio.MacError → Bool
is_leave (Ok None) = false
is_leave (Err e) = false
is_leave (Ok (Some ReceivedFrame.Undecodable)) = false
is_leave (Ok (Some (ReceivedFrame.Data s))) = false
is_leave (Ok (Some (ReceivedFrame.RejoinResponseCommand s r))) = false
is_leave (Ok (Some (ReceivedFrame.TimeoutResponseCommand s r))) = false
is_leave (Ok (Some (ReceivedFrame.LeaveCommand s d l))) = true
is_leave (Ok (Some (ReceivedFrame.OtherCommand s))) = false
is_leave (Ok (Some ReceivedFrame.OtherFrame)) = false

computed : Computed
unfolding new_state new_nlme answer bad refuse outcome moved potential_cleared deciding_with with_chosen associate join_by with_scan scan_heard scan_decided continuing table_changed after_frame reception_decided transmission_decided parent_in tried_index skipped next_index next_in past_table taking adopted_next found ieee_of parent_of on_entries learnt marked adopted retained eligible depth_at candidates newer newest potential_parent_of entry_from neighbor_by present neighbors_of associating join_started failed_status invalid trying scan_or_end try_remembered rejoin_started try_candidate try_next try_failed rejoined responded answered_by polling poll_on request_sent sender_of taught_by heard_from renewed rejoin_responded neighbor_left accepts_leave announcement leave_requested leave_handled handled negotiation_reset command_header link_cost shown flat_map
computed =
    record {
      joins-past = refl;
      wild-with = refl;
      wild-without = refl;
      other-with = refl;
      other-without = refl;
      elsewhere-with = refl;
      elsewhere-without = refl;
      order-one = refl;
      order_other = refl;
      field-other = refl;
      above-16 = refl;
      above-27 = refl;
      above-none = refl;
      left-with = refl;
      left-without = refl;
      asked-with = refl;
      asked-without = refl;
      awaited-with = refl;
      awaited-without = refl;
      taught-with = refl;
      taught-without = refl;
      addresses-with = refl;
      addresses-without = refl;
      times-with = refl;
      times-without = refl;
      index-with = refl;
      index-without = refl;
      tries-twice = refl;
      rejoins-past = refl;
      applied =
          two-nodes 170 (λ e. omega arith) new refl (joining (foreign 1 ∷ own-7 ∷ [])) (joining (own-7 ∷ []))
          (more (same _) (more (scans heard-alike) (more (same _) (more (same _) (more (same _) none)))))
          (tt, (tt, (tt, (λ _. refl, (λ i. absurd (false≢true (ap is_idle i)), tt)))));
      applied-success =
          two-nodes 170 (λ e. omega arith) member refl (succeeds (foreign 1 ∷ own-7 ∷ [])) (succeeds (own-7 ∷ []))
          (more (same _) (more (scans heard-alike) (more (same _) (more (same _) none))))
          (λ _. refl, (tt, (tt, (λ f d l u e p. false≢true (ap is_leave e), tt))));
      applied-twice =
          two-nodes 170 (λ e. omega arith) member refl (twice (foreign 1 ∷ own-7 ∷ [])) (twice (own-7 ∷ []))
          (more (same _) (more (scans heard-alike) (more (same _) (more (same _) (more (same _) (more (scans heard-alike) none))))))
          (λ _. refl, (tt, (tt, (λ _. refl, (tt, (tt, tt))))));
    }
