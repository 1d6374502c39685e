-- A scan's descriptors, the fields of a beacon and the radio's capability information (01, "Neighbour entry" and "Identifiers and link cost").
use Rattle.std.specs.Prelude.{ℕ, false, List, take}
use Rattle.nib.specs.Bits.{bit}
use Rattle.discovery.specs.declared.mlme.PanDescriptor.{PanDescriptor}
use Rattle.discovery.specs.declared.mlme.PanDescriptorList.{PanDescriptorList}
use Rattle.discovery.specs.declared.mlme.MacCapabilityInformation.{MacCapabilityInformation}
use Rattle.discovery.specs.declared.mlme.MacError.{MacError}
use Rattle.discovery.specs.declared.mlme.Address.TheVariants.{Short}

-- the descriptors in use: as many as the count says, all 27 where it says more
abbrev pub descriptors_of : PanDescriptorList → List PanDescriptor
descriptors_of l = take l.count l.descriptors

-- a slot that holds no beacon
abbrev pub blank_beacon : PanDescriptor
blank_beacon =
    record {
      channel = 0;
      coord_pan_id = record { 0 = 0 };
      coord_address = Short (record { 0 = 0 }) (record { 0 = 0 });
      superframe_spec = record { beacon_order = 0; superframe_order = 0; association_permit = false };
      link_quality = 0;
      zigbee_beacon = record { stack_profile = record { 0 = 0 }; extended_pan_id = record { 0 = 0 }; update_id = 0 };
    }

-- a failure of the radio: nothing more is said of it
abbrev pub mac_error : MacError
mac_error = record {}

-- capability bits as an association request carries them (01, "Identifiers and link cost"; IEEE 802.15.4, association).
-- Bit 0, alternate PAN coordinator, is not carried
abbrev pub mac_capabilities : ℕ → MacCapabilityInformation
mac_capabilities x =
    record {
      full_function_device = bit 1 x;
      mains_power = bit 2 x;
      idle_receive = bit 3 x;
      frame_protection = bit 6 x;
      allocate_address = bit 7 x;
    }
