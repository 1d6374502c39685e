-- The statement of demand 3 (01, "Two nodes"): "Two nodes in equal states that differ only in what other networks' beacons they hear end up the same:
-- one theorem over whole lists of calls."
use Rattle.std.specs.Prelude.{Err, Option, Some, Result, Ok, ℕ, ◌<◌, ◌≤◌, ◌≡◌, Bool, List, [], ◌∷◌, eqb}
use Rattle.lists.specs.Lists.{select}
use Rattle.nib.specs.declared.ShortAddress.{ShortAddress}
use Rattle.discovery.specs.Mlme.{descriptors_of}
use Rattle.discovery.specs.declared.mlme.PanDescriptor.{PanDescriptor}
use Rattle.discovery.specs.Discovery.{short_addressed}
use Rattle.management.specs.declared.NlmeJoinRequest.{NlmeJoinRequest}
use Rattle.management.specs.declared.RejoinNetwork.{RejoinNetwork}
use Rattle.management.specs.declared.frame.Source.{Source}
use Rattle.management.specs.declared.frame.LeaveOptions.{LeaveOptions}
use Rattle.management.specs.declared.frame.ReceivedFrame.{ReceivedFrame}
use Rattle.nlme.specs.Nlme.{parent_address}
use Rattle.operation.specs.declared.ReceptionFor.{ReceptionFor}
use Rattle.operation.specs.declared.Phase.{Phase}
use Rattle.operation.specs.declared.Control.{Control}
use Rattle.operation.specs.declared.Note.{Note}
use Rattle.operation.specs.declared.Step.{Step}
use Rattle.join.specs.Rejoin.{resolved}
use Rattle.node.specs.Looks.{parent}
use Rattle.node.specs.Calls.{Call, discovery, join, send, poll, receive, timeout, scan, association, transmission, reception, elapsed, take_leave, take_status, answer}
use Rattle.node.specs.declared.State.{State}
use Rattle.node.specs.declared.Answer.{Answer}
use Rattle.lent_tick.specs.OwnRecord.{OwnRecord}
use Rattle.discovery.specs.declared.mlme.MacError.{MacError}
use Rattle.discovery.specs.declared.mlme.PanDescriptorList.{PanDescriptorList}

-- what is compared after each call: the control part, the parent's short address, the notes, the request, confirm, answer or refusal, and the polls used.
-- The control part has own addresses, PAN id, extended PAN id, update id, capabilities and all else but the neighbour table and the candidates.
-- "The parent's short address is the one that a ParentLinkFailure would carry at that moment"; "The discovery's confirm is not compared."
pub record Shown : Type 0 where
  pub control : Control
  pub parent : ShortAddress
  pub reset : Bool
  pub note : Option Note
  pub step : Step
  pub polls : ℕ

unfoldable pub shown : Answer → Shown
shown a =
    record {
      control = a.state.control;
      parent = parent_address (parent a.state);
      reset = a.reset;
      note = a.note;
      step = a.step;
      polls = a.polls_used;
    }

-- "The first call gets the equal state, each later one the state that the last returned or left"
abbrev pub run : State → List Call → List Shown
run s [] = []
run s (c ∷ cs) = shown (answer s c) ∷ run (answer s c).state cs

-- "Its beacons are the scan's descriptors with that id."
abbrev pub is_beacon_of : ℕ → PanDescriptor → Bool
is_beacon_of n d = eqb d.zigbee_beacon.extended_pan_id.0 n

-- "Scan outcomes at the same place are equal failures; or both within 27 and 16, the network's beacons equal in every field and in order; or both above 27;
-- or both within 27 with above 16 short-addressed."
pub data AlikeScan (n : ℕ) : Result PanDescriptorList MacError → Result PanDescriptorList MacError → Type 0 where
  failures : (e f : MacError) → AlikeScan n (Err e) (Err f)
  within : {l m : PanDescriptorList} → l.count ≤ 27 → m.count ≤ 27 → short_addressed (descriptors_of l) ≤ 16 → short_addressed (descriptors_of m) ≤ 16
      → select (is_beacon_of n) (descriptors_of l) ≡ select (is_beacon_of n) (descriptors_of m) → AlikeScan n (Ok l) (Ok m)
  above-27 : {l m : PanDescriptorList} → 27 < l.count → 27 < m.count → AlikeScan n (Ok l) (Ok m)
  above-16 : {l m : PanDescriptorList} → l.count ≤ 27 → m.count ≤ 27
      → 16 < short_addressed (descriptors_of l) → 16 < short_addressed (descriptors_of m) → AlikeScan n (Ok l) (Ok m)

-- two lists of calls that are equal but for what the scans heard. "Two nodes compared as to foreign beacons have equal clocks" (02, L4): the same at the same
-- call. When an entry was last heard is not shown, and not compared: it differs (`times-with`, proofs/Examples.antt)
pub data AlikeCall (n : ℕ) : Call → Call → Type 0 where
  same : (c : Call) → AlikeCall n c c
  scans : {o p : Result PanDescriptorList MacError} {t : ℕ} → AlikeScan n o p → AlikeCall n (scan o t) (scan p t)

pub data AlikeCalls (n : ℕ) : List Call → List Call → Type 0 where
  none : AlikeCalls n [] []
  more : {c d : Call} {cs ds : List Call} → AlikeCall n c d → AlikeCalls n cs ds → AlikeCalls n (c ∷ cs) (d ∷ ds)

abbrev pub NoneUnderWay : State → Type 0
NoneUnderWay s = s.control.operation.phase ≡ Phase.Idle

-- the premise that no leave command is handled. A notification's removal moves later entries up, so that an index still to be tried names another entry
-- (`left-with`, proofs/Examples.antt). A router announces a request with an IEEE address that another network's entry may have
-- (`asked-with`; compare/traces/x2-request-first.in). The premise is wider than these need. A leave is handled where a poll or receive is awaited
abbrev pub NoLeave : State → Result (Option ReceivedFrame) MacError → Type 0
NoLeave s o =
    (f : Source) (d : ShortAddress) (l : LeaveOptions) (u : ReceptionFor) → o ≡ Ok (Some (ReceivedFrame.LeaveCommand f d l))
    → s.control.operation.phase ≡ Phase.Reception u → ⊥

-- "The network is the non-zero extended PAN id named by the join or rejoin that is called with no operation under way,
-- or the remembered one where that rejoin names 0"
abbrev pub Names : ℕ → RejoinNetwork → NlmeJoinRequest → State → Type 0
Names n RejoinNetwork.NwkRejoin r s = (resolved r s.control.nlme).0 ≡ n
Names n RejoinNetwork.Association r s = r.extended_pan_id.0 ≡ n
Names n RejoinNetwork.Orphan r s = r.extended_pan_id.0 ≡ n
Names n RejoinNetwork.ChannelChange r s = r.extended_pan_id.0 ≡ n

-- a call that may be made in a state: an outcome, a tick or a taking; a start "of any kind while an operation is under way";
-- and with none under way the start of a discovery, or of a join or rejoin of the network n.
-- Each may be made any number of times and at any place, so that every list of 01 is one of these:
-- it "begins with the start of a discovery or of a rejoin", and "With none under way the only further start is one join's, after a discovery"
abbrev pub Allowed : ℕ → State → Call → Type 0
Allowed n s (discovery r) = Unit {0}
Allowed n s (join r) = NoneUnderWay s → Names n r.rejoin_network r s
Allowed n s (send destination secure) = NoneUnderWay s → ⊥
Allowed n s poll = NoneUnderWay s → ⊥
Allowed n s receive = NoneUnderWay s → ⊥
Allowed n s (timeout u) = NoneUnderWay s → ⊥
Allowed n s (scan o t) = Unit {0}
Allowed n s (association o) = Unit {0}
Allowed n s (transmission ok) = Unit {0}
Allowed n s (reception o t) = NoLeave s o
Allowed n s (elapsed ms) = Unit {0}
Allowed n s take_leave = Unit {0}
Allowed n s take_status = Unit {0}

-- "The list may stop anywhere."
abbrev pub Listed : ℕ → State → List Call → Type 0
Listed n s [] = Unit {0}
Listed n s (c ∷ cs) = Allowed n s c × Listed n (answer s c).state cs

-- the claim: for a non-zero network n, a state with no operation under way, and two lists as above that differ in other networks' beacons alone
abbrev pub TwoNodes : Type 0
TwoNodes = (n : ℕ) → (n ≡ 0 → ⊥) → (s : State) → NoneUnderWay s → (cs ds : List Call) → AlikeCalls n cs ds → Listed n s cs → run s cs ≡ run s ds

-- with it stands that "ticks lent the state's own record" are the state's ticks, which the lists hold (`elapsed`)
pub record Demand3 : Type 0 where
  pub two-nodes : TwoNodes
  pub own-record : OwnRecord
