-- What calls do to the node's own part: frames that are sent, the signal of a parent link failure, and supervision of the parent.
use Rattle.std.specs.Prelude.{Option, Some, None, ℕ, Bool, true, cond, []}
use Rattle.nib.specs.declared.Nib.{Nib}
use Rattle.nib.specs.declared.ShortAddress.{ShortAddress}
use Rattle.nib.specs.declared.NwkNeighbor.{NwkNeighbor}
use Rattle.nib.specs.NeighborTable.{known_ieee}
use Rattle.supervision.specs.Timer.{inactive_timer, ticked}
use Rattle.supervision.specs.declared.parent_timer.Ticked.{Ticked}
use Rattle.supervision.specs.declared.FailedSend.{FailedSend}
use Rattle.supervision.specs.Timeouts.{refreshed_timer}
use Rattle.supervision.specs.Failures.{failures_of, pair_removed, transmit_failed}
use Rattle.management.specs.Signals.{no_signals, with_status_indication}
use Rattle.management.specs.declared.SendAnswer.{SendAnswer}
use Rattle.management.specs.Frame.{next_seq}
use Rattle.management.specs.declared.frame.CommandHeader.{CommandHeader}
use Rattle.management.specs.declared.frame.SentCommand.{SentCommand}
use Rattle.management.specs.declared.frame.SentFrame.{SentFrame}
use Rattle.nlme.specs.declared.Nlme.{Nlme}
use Rattle.nlme.specs.declared.NlmeTicked.{NlmeTicked}
use Rattle.nlme.specs.declared.ViaParent.{ViaParent}
use Rattle.nlme.specs.declared.Transmission.{Transmission}
use Rattle.nlme.specs.declared.Transmitting.{Transmitting}
use Rattle.nlme.specs.Fields.{with_nib, with_seq, with_pending, with_timer, with_signals, with_failures, with_negotiated}
use Rattle.nib.specs.declared.IeeeAddress.{IeeeAddress}

-- before the first call, as the source's `Nlme::new` has it: no timeout request is pending, the timer is inactive, every slot is empty, and no send has failed
unfoldable pub new_nlme : Nib → ℕ → Nlme
new_nlme nib seq =
    record {
      nib = nib;
      nwk_seq = seq;
      pending_timeout_request = 0xff;
      parent_timer = inactive_timer;
      signals = no_signals;
      transmit_failures = failures_of [];
    }

-- "the parent's short address" (01, "Supervision record" and "Two nodes"): the one that a signal carries, 0xffff where there is no parent
abbrev pub parent_address : Option NwkNeighbor → ShortAddress
parent_address None = record { 0 = 0xffff }
parent_address (Some e) = e.network_address

-- the signal ParentLinkFailure (01, "Supervision record"; Zigbee 3.2.2.32): the slot has the parent's short address
unfoldable pub link_failure : Option NwkNeighbor → Nlme → Nlme
link_failure parent n = with_signals (with_status_indication (Some (record { network_address = parent_address parent })) n.signals) n

-- the timer restarted at the negotiated timeout; 0 where there is none (Zigbee 3.6.10.6)
unfoldable pub refreshed : Nlme → Nlme
refreshed n = with_timer (refreshed_timer n.nib.end_device_timeout) n

-- before a join or rejoin: parent information 0, timeout index 0xff, timer 0 (01, "Join request and confirm"; Zigbee 3.2.2.13.3)
unfoldable pub negotiation_reset : Nlme → Nlme
negotiation_reset n = with_timer inactive_timer (with_nib (with_negotiated 0 0xff n.nib) n)

-- the header of the next command frame: own addresses, the next sequence number, and the destination's IEEE address where it is known
-- (Zigbee 3.3.2, 3.4.6.2 and 3.4.11.2)
unfoldable pub command_header : Nlme → ShortAddress → Option IeeeAddress → Bool → CommandHeader
command_header n destination ieee secure =
    record {
      destination = destination;
      destination_ieee = ieee;
      source = n.nib.network_address;
      source_ieee = n.nib.ieee_address;
      sequence_number = next_seq n.nwk_seq;
      secure = secure;
    }

-- a sequence number is used up (01, "Supervision record"); the state has the last one used
abbrev pub seq_used : Nlme → Nlme
seq_used n = with_seq (next_seq n.nwk_seq) n

-- a frame to a short address in this network, a neighbour's or the broadcast address
abbrev pub transmission : Nlme → ShortAddress → SentFrame → Transmission
transmission n to frame = record { pan_id = n.nib.panid; address = to; frame = frame }

-- a timeout request to the parent asks for the default index, which is pending once the request is built (01, "Supervision record"; Zigbee 3.6.10.2)
unfoldable pub timeout_requested : NwkNeighbor → Nlme → Transmitting
timeout_requested parent n =
    record {
      nlme = with_pending n.nib.end_device_timeout_default (seq_used n);
      transmission = transmission n parent.network_address
          (SentFrame.CommandFrame (command_header n parent.network_address (known_ieee (Some parent)) true) (SentCommand.TimeoutRequest n.nib.end_device_timeout_default));
    }

-- the tick (01, "Supervision record"; Zigbee 3.6.10.6): expiry signals ParentLinkFailure
unfoldable pub expiry_signalled : Option NwkNeighbor → Nlme → Ticked → NlmeTicked
expiry_signalled parent n t =
    record {
      nlme = cond t.expired (link_failure parent (with_timer t.timer n)) (with_timer t.timer n);
      expired = t.expired;
    }

abbrev pub nlme_ticked : Option NwkNeighbor → ℕ → Nlme → NlmeTicked
nlme_ticked parent elapsed n = expiry_signalled parent n (ticked n.parent_timer elapsed)

-- the outcome of a send by `transmit_via_parent` (01, "Supervision record"; Zigbee 3.6.3.7).
-- A success removes the parent's pair and restarts the timer; a failure counts, and the third signals ParentLinkFailure
unfoldable pub sent_via_parent : Option NwkNeighbor → Nlme → ViaParent
sent_via_parent parent n =
    record { nlme = refreshed (with_failures (pair_removed n.transmit_failures (parent_address parent)) n); answer = SendAnswer.SendOk }

unfoldable pub failure_counted : Option NwkNeighbor → Nlme → FailedSend → ViaParent
failure_counted parent n f =
    record {
      nlme = cond f.link_failed (link_failure parent (with_failures f.failures n)) (with_failures f.failures n);
      answer = cond f.link_failed SendAnswer.SendParentLinkFailure SendAnswer.SendMacError;
    }

abbrev pub failed_via_parent : Option NwkNeighbor → Nlme → ViaParent
failed_via_parent parent n = failure_counted parent n (transmit_failed n.transmit_failures (parent_address parent))
