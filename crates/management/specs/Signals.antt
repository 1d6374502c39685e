-- The four slots, with one of them replaced (01, "Received frame": "Each indication slot keeps the newest value until taken").
-- They hold the responses of Zigbee 3.4.7 and 3.4.12, and the indications of 3.2.2.19 and 3.2.2.32.
use Rattle.std.specs.Prelude.{Option, None}
use Rattle.management.specs.declared.Signals.{Signals}
use Rattle.management.specs.declared.RejoinResponse.{RejoinResponse}
use Rattle.management.specs.declared.EndDeviceTimeoutResponse.{EndDeviceTimeoutResponse}
use Rattle.management.specs.declared.NlmeLeaveIndication.{NlmeLeaveIndication}
use Rattle.management.specs.declared.NlmeNwkStatusIndication.{NlmeNwkStatusIndication}

-- every slot is empty
abbrev pub no_signals : Signals
no_signals = record { rejoin_response = None; timeout_response = None; leave_indication = None; nwk_status_indication = None }

abbrev pub with_rejoin_response : Option RejoinResponse → Signals → Signals
with_rejoin_response slot s = record s { rejoin_response = slot }

abbrev pub with_timeout_response : Option EndDeviceTimeoutResponse → Signals → Signals
with_timeout_response slot s = record s { timeout_response = slot }

abbrev pub with_leave_indication : Option NlmeLeaveIndication → Signals → Signals
with_leave_indication slot s = record s { leave_indication = slot }

abbrev pub with_status_indication : Option NlmeNwkStatusIndication → Signals → Signals
with_status_indication slot s = record s { nwk_status_indication = slot }
