-- The association (01, "Join request and confirm"; Zigbee 3.2.2.13 and 3.6.1.4.1.1).
-- The candidate being tried and the next one are entries, seen with the IEEE address known of their short address; `None` where there is none.
use Rattle.std.specs.Prelude.{Result, Ok, Err, Option, Some, None, ℕ, Bool, true, false, cond, eqb}
use Rattle.nib.specs.declared.NwkNeighbor.{NwkNeighbor}
use Rattle.nib.specs.declared.CapabilityInformation.{CapabilityInformation}
use Rattle.discovery.specs.Mlme.{mac_capabilities}
use Rattle.management.specs.declared.NlmeJoinStatus.{NlmeJoinStatus}
use Rattle.management.specs.declared.NlmeJoinConfirm.{NlmeJoinConfirm}
use Rattle.nlme.specs.Fields.{with_nib, with_capabilities, with_joined}
use Rattle.nlme.specs.Nlme.{negotiation_reset}
use Rattle.operation.specs.Operation.{with_nlme, in_phase, decided, ending}
use Rattle.operation.specs.declared.Phase.{Phase}
use Rattle.operation.specs.declared.Control.{Control}
use Rattle.operation.specs.declared.AssociateRequest.{AssociateRequest}
use Rattle.operation.specs.declared.RadioRequest.{RadioRequest}
use Rattle.operation.specs.declared.Step.{Step}
use Rattle.operation.specs.declared.Move.{Move}
use Rattle.operation.specs.declared.Decision.{Decision}
use Rattle.join.specs.declared.association.AssociationResponse.{AssociationResponse}
use Rattle.discovery.specs.declared.mlme.MacError.{MacError}

-- "A failed confirm has address 0xffff and zeros" (Zigbee 3.2.2.13.3)
abbrev pub failure : NlmeJoinStatus → NlmeJoinConfirm
failure st = record { status = st; network_address = record { 0 = 0xffff }; extended_pan_id = record { 0 = 0 }; channel = 0 }

-- the join or rejoin ends without success
abbrev pub failing : NlmeJoinStatus → Control → Decision
failing st c = ending (Step.Joined (failure st)) c

-- whether the candidate being tried is no longer a potential parent
abbrev pub clearing : Bool → Decision → Decision
clearing clear d = record d { clear_potential_parent = clear }

-- the request to associate with an entry (IEEE 802.15.4, association request): by its channel, PAN id and short address, with the stored capabilities
abbrev pub associate_request : NwkNeighbor → Control → AssociateRequest
associate_request e c =
    record {
      channel = e.logical_channel;
      pan_id = e.pan_id;
      address = e.network_address;
      capabilities = mac_capabilities c.nlme.nib.capability_information.0;
    }

unfoldable pub associating : NwkNeighbor → Control → Decision
associating e c = decided Move.TakeNext None (Step.Ask (RadioRequest.Associate (associate_request e c))) (in_phase Phase.Association c)

-- the start: parent information, timeout index and timer are reset; "No candidate: NotPermitted. Then capabilities are stored and candidates tried in order"
abbrev pub reset_negotiation : Control → Control
reset_negotiation c = with_nlme (negotiation_reset c.nlme) c

abbrev pub store_capabilities : CapabilityInformation → Control → Control
store_capabilities i c = with_nlme (with_nib (with_capabilities i c.nlme.nib) c.nlme) c

unfoldable pub join_started : CapabilityInformation → Option NwkNeighbor → Control → Decision
join_started i None c = failing NlmeJoinStatus.NotPermitted (reset_negotiation c)
join_started i (Some e) c = associating e (store_capabilities i (reset_negotiation c))

-- the status of an association or rejoin response other than 0, which is success (IEEE 802.15.4, association response):
-- 1 at capacity, 2 access denied; "any other, or a radio error, MacError"
unfoldable pub failed_status : ℕ → NlmeJoinStatus
failed_status s = cond (eqb s 1) NlmeJoinStatus.PanAtCapacity (cond (eqb s 2) NlmeJoinStatus.PanAccessDenied NlmeJoinStatus.MacError)

-- "Association status 0 sets addresses, ids and PARENT"; the confirm names the candidate's network and channel
abbrev pub joined_control : AssociationResponse → NwkNeighbor → Control → Control
joined_control r e c = with_nlme (with_nib (with_joined r.association_address r.device_address e c.nlme.nib) c.nlme) c

abbrev pub joined_confirm : AssociationResponse → NwkNeighbor → NlmeJoinConfirm
joined_confirm r e =
    record {
      status = NlmeJoinStatus.Success;
      network_address = r.association_address;
      extended_pan_id = e.extended_pan_id;
      channel = e.logical_channel;
    }

unfoldable pub joined_by : AssociationResponse → NwkNeighbor → Control → Decision
joined_by r e c = decided Move.JoinTried None (Step.Joined (joined_confirm r e)) (in_phase Phase.Idle (joined_control r e c))

-- "Status 1 and 2 clear potential parent", by what they give
abbrev pub clears : NlmeJoinStatus → Bool
clears NlmeJoinStatus.PanAtCapacity = true
clears NlmeJoinStatus.PanAccessDenied = true
clears NlmeJoinStatus.Success = false
clears NlmeJoinStatus.InvalidRequest = false
clears NlmeJoinStatus.NotPermitted = false
clears NlmeJoinStatus.NoNetworks = false
clears NlmeJoinStatus.MacError = false

-- a candidate has failed: the next one is tried, or "The last candidate's status stands"
unfoldable pub candidate_failed : NlmeJoinStatus → Option NwkNeighbor → Control → Decision
candidate_failed st None c = clearing (clears st) (failing st c)
candidate_failed st (Some e) c = clearing (clears st) (associating e c)

-- a success with no candidate being tried, which no run of calls leads to, counts as a radio error
unfoldable pub succeeded : AssociationResponse → Option NwkNeighbor → Option NwkNeighbor → Control → Decision
succeeded r None next c = candidate_failed NlmeJoinStatus.MacError next c
succeeded r (Some e) next c = joined_by r e c

unfoldable pub associated : Result AssociationResponse MacError → Option NwkNeighbor → Option NwkNeighbor → Control → Decision
associated (Err e) tried next c = candidate_failed NlmeJoinStatus.MacError next c
associated (Ok r) tried next c =
    cond (eqb r.status 0) (succeeded r tried next c) (candidate_failed (failed_status r.status) next c)
