-- The node's own part of the state, and its attributes, with some fields replaced.
use Rattle.std.specs.Prelude.{ℕ}
use Rattle.nib.specs.declared.Nib.{Nib}
use Rattle.nib.specs.declared.NwkNeighbor.{NwkNeighbor}
use Rattle.nib.specs.declared.ShortAddress.{ShortAddress}
use Rattle.nib.specs.declared.IeeeAddress.{IeeeAddress}
use Rattle.nib.specs.declared.ExtendedPanId.{ExtendedPanId}
use Rattle.nib.specs.declared.CapabilityInformation.{CapabilityInformation}
use Rattle.supervision.specs.declared.parent_timer.ParentTimer.{ParentTimer}
use Rattle.supervision.specs.declared.TransmitFailures.{TransmitFailures}
use Rattle.management.specs.declared.Signals.{Signals}
use Rattle.nlme.specs.declared.Nlme.{Nlme}

-- The node's own part

abbrev pub with_nib : Nib → Nlme → Nlme
with_nib x n = record n { nib = x }

abbrev pub with_seq : ℕ → Nlme → Nlme
with_seq x n = record n { nwk_seq = x }

abbrev pub with_pending : ℕ → Nlme → Nlme
with_pending x n = record n { pending_timeout_request = x }

abbrev pub with_timer : ParentTimer → Nlme → Nlme
with_timer x n = record n { parent_timer = x }

abbrev pub with_signals : Signals → Nlme → Nlme
with_signals x n = record n { signals = x }

abbrev pub with_failures : TransmitFailures → Nlme → Nlme
with_failures x n = record n { transmit_failures = x }

-- Its attributes

abbrev pub with_address : ShortAddress → Nib → Nib
with_address a n = record n { network_address = a }

abbrev pub with_extended_pan_id : ExtendedPanId → Nib → Nib
with_extended_pan_id e n = record n { extended_panid = e }

abbrev pub with_capabilities : CapabilityInformation → Nib → Nib
with_capabilities c n = record n { capability_information = c }

-- parent information and timeout index
abbrev pub with_negotiated : ℕ → ℕ → Nib → Nib
with_negotiated information index n = record n { parent_information = information; end_device_timeout = index }

-- the attributes that `clear_nib_on_leave` resets, of those held here; the timeout index stays (01, "Received frame"; Zigbee 3.6.1.10.4)
abbrev pub with_network_left : Nib → Nib
with_network_left n =
    record n {
      network_address = record { 0 = 0xffff };
      extended_panid = record { 0 = 0 };
      panid = record { 0 = 0xffff };
      update_id = 0;
      parent_information = 0;
    }

-- what an association sets: own addresses, and the ids of the entry that is the parent now
-- (01, "Join request and confirm": "sets addresses, ids"; Zigbee 3.6.1.4.1.1)
abbrev pub with_joined : ShortAddress → IeeeAddress → NwkNeighbor → Nib → Nib
with_joined a ieee e n =
    record n { network_address = a; ieee_address = ieee; extended_panid = e.extended_pan_id; panid = e.pan_id; update_id = e.update_id }

-- what a rejoin sets before it tries a candidate: its PAN id and update id (`adopt_parent` of the source; Zigbee 3.6.1.4.2)
abbrev pub with_adopted : NwkNeighbor → Nib → Nib
with_adopted e n = record n { panid = e.pan_id; update_id = e.update_id }
