-- The neighbour entries and the confirm that a discovery makes from a scan's descriptors (01, "Neighbour entry"; Zigbee 3.2.2.3 and 3.2.2.4).
use Rattle.std.specs.Prelude.{Option, Some, None, ℕ, false, cond, ◌||◌, eqb, length, replicate}
use mathlib.Core.List.{List, [], ◌∷◌, map, flat_map}
use Rattle.lists.specs.Lists.{over}
use Rattle.nib.specs.Bits.{bit, bits}
use Rattle.nib.specs.Neighbors.{NONE, device_type_at}
use Rattle.nib.specs.NeighborTable.{heard_at}
use Rattle.nib.specs.declared.NwkNeighbor.{NwkNeighbor}
use Rattle.nib.specs.declared.ShortAddress.{ShortAddress}
use Rattle.discovery.specs.declared.mlme.Address.{Address}
use Rattle.discovery.specs.declared.mlme.PanDescriptor.{PanDescriptor}
use Rattle.discovery.specs.declared.NetworkDescriptor.{NetworkDescriptor}
use Rattle.discovery.specs.declared.NlmeNetworkDiscoveryConfirm.{NlmeNetworkDiscoveryConfirm}

-- potential parent: 1 if the beacon has router (bit 10) or end device (bit 15) capacity or the address is 0x0000 (01, "Neighbour entry"; Zigbee Table 3-64)
unfoldable pub potential_parent_of : ℕ → ℕ → ℕ
potential_parent_of profile address = cond (bit 10 profile || (bit 15 profile || eqb address 0x0000)) 1 0

-- the entry of a descriptor whose sender has that short address: IEEE address 0, relationship NONE (3), and what the beacon says (Zigbee Tables 3-63 and 3-64);
-- no beacon says when it was heard
unfoldable pub entry_from : PanDescriptor → ShortAddress → NwkNeighbor
entry_from d address =
    record {
      extended_address = record { 0 = 0 };
      network_address = address;
      device_type = device_type_at address.0;
      rx_on_when_idle = false;
      end_device_configuration = 0;
      relationship = NONE;
      lqi = d.link_quality;
      outgoing_cost = 0;
      age = 0;
      keepalive_received = false;
      extended_pan_id = d.zigbee_beacon.extended_pan_id;
      logical_channel = d.channel;
      depth = bits 11 4 d.zigbee_beacon.stack_profile.0;
      permit_joining = d.superframe_spec.association_permit;
      potential_parent = potential_parent_of d.zigbee_beacon.stack_profile.0 address.0;
      router_capacity = bit 10 d.zigbee_beacon.stack_profile.0;
      end_device_capacity = bit 15 d.zigbee_beacon.stack_profile.0;
      update_id = d.zigbee_beacon.update_id;
      pan_id = d.coord_pan_id;
      last_heard = 0;
    }

-- one entry for a short-addressed descriptor, none for another
unfoldable pub neighbor_by : PanDescriptor → Address → Option NwkNeighbor
neighbor_by d (Address.Short pan address) = Some (entry_from d address)
neighbor_by d (Address.Extended pan address) = None

abbrev pub neighbor_of : PanDescriptor → Option NwkNeighbor
neighbor_of d = neighbor_by d d.coord_address

-- an entry as a list of one, none as the empty list
unfoldable pub present : Option NwkNeighbor → List NwkNeighbor
present None = []
present (Some e) = e ∷ []

-- one entry for each short-addressed descriptor, in scan order; others are dropped (01, "Neighbour entry")
unfoldable pub neighbors_of : List PanDescriptor → List NwkNeighbor
neighbors_of ds = flat_map (λ d. present (neighbor_of d)) ds

-- "discovery, a rejoin's scan too, sets it from the caller's clock" (02, L4): each of them was last heard when the scan's outcome came
abbrev pub neighbors_heard : ℕ → List PanDescriptor → List NwkNeighbor
neighbors_heard t ds = map (heard_at t) (neighbors_of ds)

-- how many descriptors are short-addressed (01, "When a call is turned down"): each of them gives one entry
abbrev pub short_addressed : List PanDescriptor → ℕ
short_addressed ds = length (neighbors_of ds)

-- what the confirm tells of a descriptor, short-addressed or not ("others are dropped from the table but stay in the confirm"; Zigbee Table 3-12)
abbrev pub network_descriptor_of : PanDescriptor → NetworkDescriptor
network_descriptor_of d =
    record {
      extended_pan_id = d.zigbee_beacon.extended_pan_id;
      pan_id = d.coord_pan_id;
      update_id = d.zigbee_beacon.update_id;
      logical_channel = d.channel;
      stack_profile = bits 0 4 d.zigbee_beacon.stack_profile.0;
      zigbee_version = bits 4 4 d.zigbee_beacon.stack_profile.0;
      beacon_order = d.superframe_spec.beacon_order;
      superframe_order = d.superframe_spec.superframe_order;
      permit_joining = d.superframe_spec.association_permit;
      router_capacity = bit 10 d.zigbee_beacon.stack_profile.0;
      end_device_capacity = bit 15 d.zigbee_beacon.stack_profile.0;
    }

-- what an unused place of the confirm holds
abbrev pub blank_descriptor : NetworkDescriptor
blank_descriptor =
    record {
      extended_pan_id = record { 0 = 0 };
      pan_id = record { 0 = 0 };
      update_id = 0;
      logical_channel = 0;
      stack_profile = 0;
      zigbee_version = 0;
      beacon_order = 0;
      superframe_order = 0;
      permit_joining = false;
      router_capacity = false;
      end_device_capacity = false;
    }

-- a list of network descriptors as a confirm: unused places hold `blank_descriptor`
abbrev pub confirm_of : List NetworkDescriptor → NlmeNetworkDiscoveryConfirm
confirm_of l = record { network_descriptor = over (replicate 27 blank_descriptor) l; count = length l }
