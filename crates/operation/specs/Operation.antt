-- The operation under way with some fields replaced, which outcome it awaits, and the common forms of a decision.
-- 01, "What must change shape": "Awaited radio calls become a request and a later outcome".
use Rattle.std.specs.Prelude.{Option, Some, None, Result, Ok, Err, ℕ, ◌-◌, Bool, true, false, cond, eqb}
use Rattle.nib.specs.declared.NwkNeighbor.{NwkNeighbor}
use Rattle.nlme.specs.declared.Nlme.{Nlme}
use Rattle.nlme.specs.declared.received.LeaveAnnouncement.{LeaveAnnouncement}
use Rattle.operation.specs.declared.ReceptionFor.{ReceptionFor}
use Rattle.operation.specs.declared.ScanFor.{ScanFor}
use Rattle.operation.specs.declared.TransmissionFor.{TransmissionFor}
use Rattle.operation.specs.declared.Phase.{Phase}
use Rattle.operation.specs.declared.Operation.{Operation}
use Rattle.operation.specs.declared.Control.{Control}
use Rattle.operation.specs.declared.RadioRequest.{RadioRequest}
use Rattle.operation.specs.declared.Note.{Note}
use Rattle.operation.specs.declared.Refusal.{Refusal}
use Rattle.operation.specs.declared.Step.{Step}
use Rattle.operation.specs.declared.Move.{Move}
use Rattle.operation.specs.declared.Decision.{Decision}
use Rattle.operation.specs.declared.Polling.{Polling}

-- no operation is under way; what one keeps is blank
abbrev pub idle_control : Nlme → Control
idle_control n =
    record {
      nlme = n;
      operation =
          record {
            phase = Phase.Idle;
            extended_pan_id = record { 0 = 0 };
            security_enabled = false;
            scan = record { first = 0; past = 0; duration = 0 };
            scan_requested = false;
            channel = 0;
            polls_left = 0;
          };
    }

abbrev pub with_nlme : Nlme → Control → Control
with_nlme n c = record c { nlme = n }

abbrev pub with_operation : Operation → Control → Control
with_operation o c = record c { operation = o }

abbrev pub awaiting : Phase → Operation → Operation
awaiting p o = record o { phase = p }

abbrev pub with_polls : ℕ → Operation → Operation
with_polls k o = record o { polls_left = k }

-- where a rejoin stands: the candidate's channel, and that the scan has been asked for
abbrev pub with_channel : ℕ → Operation → Operation
with_channel k o = record o { channel = k }

abbrev pub with_scan_requested : Operation → Operation
with_scan_requested o = record o { scan_requested = true }

-- the control part awaits something else
abbrev pub in_phase : Phase → Control → Control
in_phase p c = with_operation (awaiting p c.operation) c

abbrev pub is_idle : Phase → Bool
is_idle Phase.Idle = true
is_idle (Phase.Scan u) = false
is_idle Phase.Association = false
is_idle (Phase.Transmission u) = false
is_idle (Phase.Reception u) = false

-- the number of a refusal (01, "When a call is turned down")
abbrev pub refusal_number : Refusal → ℕ
refusal_number Refusal.OperationUnderWay = 1
refusal_number Refusal.NotAwaited = 2
refusal_number Refusal.TooManyDescriptors = 3
refusal_number Refusal.TooManyShortAddressed = 4
refusal_number Refusal.BadState = 5
refusal_number Refusal.ShortPage = 6

-- what an outcome of some kind is awaited for, where a request awaits that kind (01, "When a call is turned down")
abbrev pub scan_for : Phase → Option ScanFor
scan_for (Phase.Scan u) = Some u
scan_for Phase.Idle = None
scan_for Phase.Association = None
scan_for (Phase.Transmission u) = None
scan_for (Phase.Reception u) = None

-- an association is a join's
abbrev pub association_for : Phase → Option (Unit {0})
association_for Phase.Association = Some tt
association_for Phase.Idle = None
association_for (Phase.Scan u) = None
association_for (Phase.Transmission u) = None
association_for (Phase.Reception u) = None

abbrev pub transmission_for : Phase → Option TransmissionFor
transmission_for (Phase.Transmission u) = Some u
transmission_for Phase.Idle = None
transmission_for (Phase.Scan u) = None
transmission_for Phase.Association = None
transmission_for (Phase.Reception u) = None

-- a poll or a receive
abbrev pub reception_for : Phase → Option ReceptionFor
reception_for (Phase.Reception u) = Some u
reception_for Phase.Idle = None
reception_for (Phase.Scan u) = None
reception_for Phase.Association = None
reception_for (Phase.Transmission u) = None

-- a decision that uses no poll and leaves the candidate being tried a potential parent
abbrev pub decided : Move → Option Note → Step → Control → Decision
decided m n s c = record { control = c; clear_potential_parent = false; candidate = m; note = n; step = s; polls_used = 0 }

-- an answer that leaves the operation under way as it is
abbrev pub telling : Step → Control → Decision
telling s c = decided Move.Stay None s c

-- a request to the radio, whose outcome is awaited
abbrev pub asking : Phase → RadioRequest → Control → Decision
asking p r c = telling (Step.Ask r) (in_phase p c)

-- the announcement of a leave that a poll has brought: what the poll was for goes on afterwards
abbrev pub announcing_leave : ReceptionFor → LeaveAnnouncement → Control → Decision
announcing_leave u a c =
    asking (Phase.Transmission (TransmissionFor.Leave (record { purpose = u; rejoin = a.rejoin }))) (RadioRequest.Transmit a.transmission) c

-- the operation is over, with its answer
abbrev pub ending : Step → Control → Decision
ending s c = telling s (in_phase Phase.Idle c)

-- a poll of the parent, for a purpose (Zigbee 3.6.6). It is the only step that uses a poll
-- (01, "Code places and language forms": "polls used .. equal the poll requests")
abbrev pub polled : ReceptionFor → NwkNeighbor → Control → Decision
polled u p c = record (asking (Phase.Reception u) (RadioRequest.Poll c.nlme.nib.panid p.network_address) c) { polls_used = 1 }

abbrev pub with_polls_left : ℕ → Control → Control
with_polls_left k c = with_operation (with_polls k c.operation) c

-- the polls of a rejoin's try, a negotiation or a keepalive. The parent is asked while any is left, and nobody once they are over.
-- With no parent they are over at once: "A poll made while no entry is PARENT counts towards the 20 but sends no radio request"
-- (01, "Join request and confirm")
unfoldable pub polling : Option NwkNeighbor → Control → Polling
polling None c = record { parent = None; control = with_polls_left 0 c }
polling (Some p) c =
    cond (eqb c.operation.polls_left 0)
    (record { parent = None; control = c })
    (record { parent = Some p; control = with_polls_left (c.operation.polls_left - 1) c })

-- the next poll, or what follows once they are over
abbrev pub polled_or : ReceptionFor → (Control → Decision) → Option NwkNeighbor → Control → Decision
polled_or u over None c = over c
polled_or u over (Some p) c = polled u p c

unfoldable pub poll_on : ReceptionFor → Option NwkNeighbor → (Control → Decision) → Control → Decision
poll_on u parent over c = polled_or u over (polling parent c).parent (polling parent c).control

-- the next poll, or the control part once they are over
abbrev pub polled_by : ReceptionFor → Option NwkNeighbor → Control → Result Decision Control
polled_by u None c = Err c
polled_by u (Some p) c = Ok (polled u p c)

unfoldable pub next_poll : ReceptionFor → Option NwkNeighbor → Control → Result Decision Control
next_poll u parent c = polled_by u (polling parent c).parent (polling parent c).control

-- a discovery is over, and has heard
abbrev pub is_discovered : Step → Bool
is_discovered Step.Discovered = true
is_discovered (Step.Refused k) = false
is_discovered (Step.Ask r) = false
is_discovered Step.DiscoveryFailed = false
is_discovered (Step.Joined c) = false
is_discovered (Step.Sent a) = false
is_discovered (Step.Polled a) = false
is_discovered (Step.NegotiationOver a) = false
is_discovered (Step.KeepaliveOver a) = false
is_discovered (Step.Expired e) = false
is_discovered (Step.LeaveTaken i) = false
is_discovered (Step.StatusTaken i) = false
is_discovered Step.PageWritten = false
is_discovered Step.Done = false
