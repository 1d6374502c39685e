-- A blank information base (Zigbee 3.5.2, with the defaults of `nib/mod.rs`).
use Rattle.std.specs.Prelude.{true}
use Rattle.nib.specs.declared.IeeeAddress.{IeeeAddress}
use Rattle.nib.specs.declared.Nib.{Nib}

-- not joined, with the device's own IEEE address; an attribute that has no default there is 0
abbrev pub blank_nib : IeeeAddress → Nib
blank_nib ieee =
    record {
      network_address = record { 0 = 0xffff };
      ieee_address = ieee;
      extended_panid = record { 0 = 0 };
      panid = record { 0 = 0xffff };
      update_id = 0;
      capability_information = record { 0 = 0 };
      stack_profile = 0;
      parent_information = 0;
      end_device_timeout = 0xff;
      end_device_timeout_default = 8;
      leave_request_allowed = true;
    }
