-- What a line of a trace says, by its kind and the numbers in its fields (compare/FORMAT.md, "Input: the state" and "Input: calls").
use Rattle.std.specs.Prelude.{Ok, Err, Option, Some, None, ℕ, ◌+◌, ◌*◌, ◌%◌, Bool, true, false, cond, [], ◌∷◌, eqb, get_or}
use Rattle.nib.specs.declared.CapabilityInformation.{CapabilityInformation}
use Rattle.nib.specs.declared.DeviceType.{DeviceType}
use Rattle.nib.specs.declared.DeviceType.TheVariants.{Coordinator, Router, EndDevice, Invalid}
use Rattle.nib.specs.declared.ExtendedPanId.{ExtendedPanId}
use Rattle.nib.specs.declared.IeeeAddress.{IeeeAddress}
use Rattle.nib.specs.declared.Nib.{Nib}
use Rattle.nib.specs.declared.NwkNeighbor.{NwkNeighbor}
use Rattle.nib.specs.declared.PanId.{PanId}
use Rattle.nib.specs.declared.ShortAddress.{ShortAddress}
use Rattle.discovery.specs.declared.mlme.Address.{Address}
use Rattle.discovery.specs.declared.mlme.Address.TheVariants.{Short, Extended}
use Rattle.discovery.specs.declared.mlme.PanDescriptor.{PanDescriptor}
use Rattle.discovery.specs.declared.mlme.StackProfile.{StackProfile}
use Rattle.supervision.specs.declared.TransmitFailure.{TransmitFailure}
use Rattle.management.specs.declared.NlmeJoinRequest.{NlmeJoinRequest}
use Rattle.management.specs.declared.RejoinNetwork.{RejoinNetwork}
use Rattle.management.specs.declared.RejoinNetwork.TheVariants.{Association, Orphan, NwkRejoin, ChannelChange}
use Rattle.management.specs.declared.RejoinResponse.{RejoinResponse}
use Rattle.management.specs.declared.EndDeviceTimeoutResponse.{EndDeviceTimeoutResponse}
use Rattle.management.specs.declared.ScanRange.{ScanRange}
use Rattle.management.specs.declared.frame.LeaveOptions.{LeaveOptions}
use Rattle.management.specs.declared.frame.ReceivedFrame.{ReceivedFrame}
use Rattle.management.specs.declared.frame.ReceivedFrame.TheVariants.{Undecodable, Data, RejoinResponseCommand, TimeoutResponseCommand, LeaveCommand, OtherCommand, OtherFrame}
use Rattle.management.specs.declared.frame.Source.{Source}
use Rattle.join.specs.declared.association.AssociationResponse.{AssociationResponse}
use Rattle.trace_lines.specs.declared.InputKind.{InputKind}
use Rattle.trace_lines.specs.declared.InputKind.TheVariants as kind
use Rattle.trace_lines.specs.declared.InputLine.{InputLine}
use Rattle.trace_input.specs.declared.TraceCall.{TraceCall}
use Rattle.trace_input.specs.declared.TraceCall.TheVariants as call
use Rattle.trace_input.specs.declared.NodeFields.{NodeFields}
use Rattle.discovery.specs.Mlme.{mac_error}

-- the number in field k (field 0 is the line's word), and what its type holds of it: the fields of a line that was read fit their types
abbrev pub number_at : ℕ → InputLine → ℕ
number_at k l = get_or l.numbers k 0

abbrev pub bits4 : ℕ → InputLine → ℕ
bits4 k l = number_at k l % 16

abbrev pub bits8 : ℕ → InputLine → ℕ
bits8 k l = number_at k l % 256

abbrev pub bits16 : ℕ → InputLine → ℕ
bits16 k l = number_at k l % 65536

abbrev pub bits32 : ℕ → InputLine → ℕ
bits32 k l = number_at k l % 4294967296

-- a flag, and the identifiers
abbrev pub flag_at : ℕ → InputLine → Bool
flag_at k l = eqb (number_at k l) 1

abbrev pub short_at : ℕ → InputLine → ShortAddress
short_at k l = record { 0 = bits16 k l }

abbrev pub pan_id_at : ℕ → InputLine → PanId
pan_id_at k l = record { 0 = bits16 k l }

abbrev pub ieee_at : ℕ → InputLine → IeeeAddress
ieee_at k l = record { 0 = number_at k l }

abbrev pub extended_pan_id_at : ℕ → InputLine → ExtendedPanId
extended_pan_id_at k l = record { 0 = number_at k l }

abbrev pub capabilities_at : ℕ → InputLine → CapabilityInformation
capabilities_at k l = record { 0 = bits8 k l }

-- `node`: network address, IEEE address, extended PAN id, PAN id, update id, capability information, stack profile, parent information,
-- end device timeout, end device timeout default, leave request allowed; then sequence number, pending timeout request, timer in ms
abbrev pub nib_of : InputLine → Nib
nib_of l =
    record {
      network_address = short_at 1 l;
      ieee_address = ieee_at 2 l;
      extended_panid = extended_pan_id_at 3 l;
      panid = pan_id_at 4 l;
      update_id = bits8 5 l;
      capability_information = capabilities_at 6 l;
      stack_profile = bits8 7 l;
      parent_information = bits8 8 l;
      end_device_timeout = bits8 9 l;
      end_device_timeout_default = bits8 10 l;
      leave_request_allowed = flag_at 11 l;
    }

abbrev pub node_of : InputLine → NodeFields
node_of l =
    record {
      nib = nib_of l;
      nwk_seq = bits8 12 l;
      pending_timeout_request = bits8 13 l;
      remaining_ms = bits32 14 l;
    }

-- of `e`: device type (0 coordinator, 1 router, 2 end device, other numbers invalid)
unfoldable pub device_type_of : ℕ → DeviceType
device_type_of n = get_or (Coordinator ∷ Router ∷ EndDevice ∷ []) n (Invalid n)

-- `e`: "one neighbour entry, in the source's field order"; when it was last heard stands in a line of its own, `h`, and is 0 where there is none
abbrev pub entry_with : DeviceType → InputLine → NwkNeighbor
entry_with type l =
    record {
      extended_address = ieee_at 1 l;
      network_address = short_at 2 l;
      device_type = type;
      rx_on_when_idle = flag_at 4 l;
      end_device_configuration = bits16 5 l;
      relationship = bits8 6 l;
      lqi = bits8 7 l;
      outgoing_cost = bits8 8 l;
      age = bits8 9 l;
      keepalive_received = flag_at 10 l;
      extended_pan_id = extended_pan_id_at 11 l;
      logical_channel = bits8 12 l;
      depth = bits8 13 l;
      permit_joining = flag_at 14 l;
      potential_parent = bits8 15 l;
      router_capacity = flag_at 16 l;
      end_device_capacity = flag_at 17 l;
      update_id = bits8 18 l;
      pan_id = pan_id_at 19 l;
      last_heard = 0;
    }

abbrev pub entry_of : InputLine → NwkNeighbor
entry_of l = entry_with (device_type_of (bits8 3 l)) l

-- `f`: short address, count
abbrev pub failure_of : InputLine → TransmitFailure
failure_of l = record { address = short_at 1 l; count = bits8 2 l }

-- of `discovery` and `join`: first channel, channel past the last, duration
abbrev pub range_from : ℕ → InputLine → ScanRange
range_from k l = record { first = bits8 k l; past = bits8 (k + 1) l; duration = bits8 (k + 2) l }

-- of `join`: kind (0 association, 1 orphan, 2 NWK rejoin, 3 channel change)
unfoldable pub rejoin_network_of : ℕ → RejoinNetwork
rejoin_network_of n = get_or (Association ∷ Orphan ∷ NwkRejoin ∷ []) n ChannelChange

-- `join`: kind, extended PAN id, capability information, security enabled, first channel, channel past the last, duration
abbrev pub join_request_of : InputLine → NlmeJoinRequest
join_request_of l =
    record {
      extended_pan_id = extended_pan_id_at 2 l;
      rejoin_network = rejoin_network_of (number_at 1 l);
      capability_information = capabilities_at 3 l;
      security_enabled = flag_at 4 l;
      scan = range_from 5 l;
    }

-- the stack profile field of a beacon (Zigbee Annex D): from bit 0 stack profile, 4 protocol version, 10 router capacity, 11 depth, 15 end device capacity.
-- Each part comes back (proofs/StackProfiles.antt)
abbrev pub packed : ℕ → ℕ → ℕ → ℕ → ℕ → ℕ
packed profile version router depth device = profile + version * 16 + router * 1024 + depth * 2048 + device * 32768

abbrev pub stack_profile_of : InputLine → StackProfile
stack_profile_of l = record { 0 = packed (bits4 12 l) (bits4 13 l) (number_at 7 l % 2) (bits4 9 l) (number_at 8 l % 2) }

-- `b`: channel, PAN id, address mode, address, extended PAN id, permit, router capacity, end device capacity, depth, update id, lqi, stack profile,
-- protocol version, beacon order, superframe order; the address as its mode has it
abbrev pub beacon_of : Address → InputLine → PanDescriptor
beacon_of a l =
    record {
      channel = bits8 1 l;
      coord_pan_id = pan_id_at 2 l;
      coord_address = a;
      superframe_spec = record { beacon_order = bits8 14 l; superframe_order = bits8 15 l; association_permit = flag_at 6 l };
      link_quality = bits8 11 l;
      zigbee_beacon = record {
        stack_profile = stack_profile_of l;
        extended_pan_id = extended_pan_id_at 5 l;
        update_id = bits8 10 l;
      };
    }

-- `associate`: status, short address, IEEE address
abbrev pub association_of : InputLine → AssociationResponse
association_of l = record { status = bits8 1 l; association_address = short_at 2 l; device_address = ieee_at 3 l }

-- of a received frame: source, source IEEE address or `-`
abbrev pub source_ieee : InputLine → Option IeeeAddress
source_ieee l = cond l.dash None (Some (ieee_at 2 l))

abbrev pub source_of : InputLine → Source
source_of l = record { address = short_at 1 l; ieee = source_ieee l }

-- what follows the source in `rejoinresponse`: network address, status; in `timeoutresponse`: status, parent information;
-- in `leave`, after its destination: request, rejoin, remove children
abbrev pub rejoin_response_of : InputLine → RejoinResponse
rejoin_response_of l = record { network_address = short_at 3 l; status = bits8 4 l }

abbrev pub timeout_response_of : InputLine → EndDeviceTimeoutResponse
timeout_response_of l = record { status = bits8 3 l; parent_information = bits8 4 l }

abbrev pub leave_options_of : InputLine → LeaveOptions
leave_options_of l = record { request = flag_at 4 l; rejoin = flag_at 5 l; remove_children = flag_at 6 l }

abbrev pub frame_call : ReceivedFrame → TraceCall
frame_call f = call.Reception (Ok (Some f))

-- what a line says, by its kind
abbrev pub call_by : InputKind → InputLine → TraceCall
call_by kind.Entry l = call.Entry (entry_of l)  -- e
call_by kind.ShortBeacon l = call.Beacon (beacon_of (Short (pan_id_at 2 l) (short_at 4 l)) l)  -- b, address mode 2
call_by kind.ExtendedBeacon l = call.Beacon (beacon_of (Extended (pan_id_at 2 l) (ieee_at 4 l)) l)  -- b, address mode 3
call_by kind.NoData l = call.Reception (Ok None)
call_by kind.Sent l = call.Transmission true
call_by kind.Tick l = call.Tick (bits32 1 l)
call_by kind.Node l = call.Node (node_of l)
call_by kind.Scan l = call.Scan (bits32 1 l)
call_by kind.SendFailed l = call.Transmission false
call_by kind.ScanFailed l = call.ScanFailed
call_by kind.PollFailed l = call.Reception (Err mac_error)
call_by kind.Associated l = call.Association (Ok (association_of l))
call_by kind.AssociateFailed l = call.Association (Err mac_error)
call_by kind.Undecodable l = frame_call Undecodable
call_by kind.Data l = frame_call (Data (source_of l))
call_by kind.RejoinResponse l = frame_call (RejoinResponseCommand (source_of l) (rejoin_response_of l))
call_by kind.TimeoutResponse l = frame_call (TimeoutResponseCommand (source_of l) (timeout_response_of l))
call_by kind.Leave l = frame_call (LeaveCommand (source_of l) (short_at 3 l) (leave_options_of l))
call_by kind.Command l = frame_call (OtherCommand (source_of l))
call_by kind.OtherFrame l = frame_call OtherFrame
call_by kind.Discovery l = call.Discovery (range_from 1 l)
call_by kind.Join l = call.Join (join_request_of l)
call_by kind.Send l = call.Send (short_at 1 l) (flag_at 2 l)
call_by kind.Poll l = call.Poll
call_by kind.Receive l = call.Receive
call_by kind.Negotiate l = call.Negotiate
call_by kind.Keepalive l = call.Keepalive
call_by kind.TakeLeave l = call.TakeLeave
call_by kind.TakeStatus l = call.TakeStatus
call_by kind.Candidates l = call.Choose (extended_pan_id_at 1 l) (flag_at 2 l) (flag_at 3 l)
call_by kind.State l = call.PrintState
call_by kind.Pair l = call.Failure (failure_of l)  -- f
call_by kind.Page l = call.Page (bits16 1 l)
call_by kind.Refresh l = call.Refresh
call_by kind.Heard l = call.Heard (bits32 1 l)  -- h
call_by kind.Clock l = call.Clock (bits32 1 l)
call_by kind.LastHeard l = call.PrintLastHeard

abbrev pub call_of : InputLine → TraceCall
call_of l = call_by l.kind l
