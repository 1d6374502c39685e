-- What is claimed of leave indications (02, L2), of every state and call:
-- "The indication becomes one of: this device, for the parent's leave or an accepted request; a neighbour by IEEE address; a neighbour by short address,
-- exactly where a leave without the request bit from another than the parent has no IEEE address."
-- Who the parent is and which requests are accepted stand here as the source has them (`parent_short_address`, `accepts_leave_request`).
-- They rest on no definition of what a received frame does.
use Rattle.std.specs.Prelude.{Result, Ok, Option, Some, None, ℕ, ◌<◌, ◌≡◌, Bool, true, false, List, [], ◌∷◌, ◌⊎◌, ◌↔◌, take}
use Rattle.nib.specs.Bits.{bit}
use Rattle.nib.specs.declared.NwkNeighbor.{NwkNeighbor}
use Rattle.nib.specs.declared.ShortAddress.{ShortAddress}
use Rattle.management.specs.declared.LeavingDevice.{LeavingDevice}
use Rattle.management.specs.declared.frame.Source.{Source}
use Rattle.management.specs.declared.frame.ReceivedFrame.{ReceivedFrame}
use Rattle.supervision.specs.declared.parent_timer.ParentTimer.{ParentTimer}
use Rattle.operation.specs.declared.ReceptionFor.{ReceptionFor}
use Rattle.operation.specs.declared.TransmissionFor.{TransmissionFor}
use Rattle.operation.specs.declared.Phase.{Phase}
use Rattle.operation.specs.declared.Step.{Step}
use Rattle.node.specs.Calls.{Call, scan, transmission, reception, take_leave, answer, scanned, refresh}
use Rattle.node.specs.declared.State.{State}
use Rattle.lent_tick.specs.LentTick.{lent_tick}
use Rattle.refusals.specs.Statement.{phase, Bad}
use Rattle.management.specs.declared.NlmeLeaveIndication.{NlmeLeaveIndication}
use Rattle.discovery.specs.declared.mlme.MacError.{MacError}
use Rattle.discovery.specs.declared.mlme.PanDescriptorList.{PanDescriptorList}

-- what stands in a state's slot, and the indication of a device's leave with its rejoin bit
abbrev pub indication : State → Option NlmeLeaveIndication
indication s = s.control.nlme.signals.leave_indication

abbrev pub indicated : LeavingDevice → Bool → Option NlmeLeaveIndication
indicated device rejoin = Some (record { device = device; rejoin = rejoin })

-- the parent is the first entry with relationship PARENT, 0. A frame is the parent's by its sender's short address; where there is no parent, no frame is
abbrev pub ParentHas : ShortAddress → List NwkNeighbor → Type 0
ParentHas a [] = ⊥
ParentHas a (e ∷ es) = ((e.relationship ≡ 0) × (e.network_address.0 ≡ a.0)) ⊎ ((e.relationship ≡ 0 → ⊥) × ParentHas a es)

abbrev pub FromParent : Source → State → Type 0
FromParent f s = ParentHas f.address (take s.table.count s.table.entries)

-- an outcome is awaited in a phase, by a state that 5 lets pass
abbrev pub Awaits : State → Phase → Type 0
Awaits s p = (Bad s → ⊥) × (phase s ≡ p)

-- a call hands in a leave command that a poll or a receive for u has brought, at any time of the caller's clock: its sender and destination, its request bit
-- and its rejoin bit
pub record Brought (s : State) (c : Call) (u : ReceptionFor) (f : Source) (d : ShortAddress) (request rejoin : Bool) : Type 0 where
  pub awaited : Awaits s (Phase.Reception u)
  pub children : Bool
  pub clock : ℕ
  pub call : c ≡ reception (Ok (Some (ReceivedFrame.LeaveCommand f d (record { request = request; rejoin = rejoin; remove_children = children })))) clock

-- a leave without the request bit
abbrev pub Leaves : State → Call → Source → Bool → Type 0
Leaves s c f rejoin = (u : ReceptionFor) × (d : ShortAddress) × Brought s c u f d false rejoin

-- a request is accepted by `accepts_leave_request`: not by the coordinator, and not to a broadcast address;
-- by a router as nwkLeaveRequestAllowed says, by an end device from its parent
pub record Accepts (s : State) (f : Source) (d : ShortAddress) : Type 0 where
  pub not-coordinator : s.control.nlme.nib.network_address.0 ≡ 0 → ⊥
  pub not-broadcast : d.0 < 0xfff8
  pub router : bit 1 s.control.nlme.nib.capability_information.0 ≡ true → s.control.nlme.nib.leave_request_allowed ≡ true
  pub end-device : bit 1 s.control.nlme.nib.capability_information.0 ≡ false → FromParent f s

abbrev pub Requested : State → Call → ReceptionFor → Bool → Type 0
Requested s c u rejoin = (f : Source) × (d : ShortAddress) × Brought s c u f d true rejoin × Accepts s f d

-- the outcome of an accepted request's announcement, sent or not
abbrev pub announcing : ReceptionFor → Bool → Phase
announcing u rejoin = Phase.Transmission (TransmissionFor.Leave (record { purpose = u; rejoin = rejoin }))

abbrev pub Announced : State → Call → Bool → Type 0
Announced s c rejoin = (u : ReceptionFor) × (sent : Bool) × Awaits s (announcing u rejoin) × (c ≡ transmission sent)

-- what a call indicates
abbrev pub Indicates : State → Call → LeavingDevice → Bool → Type 0
Indicates s c LeavingDevice.ThisDevice rejoin = ((f : Source) × Leaves s c f rejoin × FromParent f s) ⊎ Announced s c rejoin
Indicates s c (LeavingDevice.NeighborByIeee x) rejoin = (f : Source) × Leaves s c f rejoin × (FromParent f s → ⊥) × (f.ieee ≡ Some x)
Indicates s c (LeavingDevice.NeighborByShort a) rejoin =
    (f : Source) × Leaves s c f rejoin × (FromParent f s → ⊥) × (f.ieee ≡ None) × (f.address ≡ a)

pub record LeaveIndications : Type 0 where
  -- an empty slot is filled with an indication exactly if the call indicates it
  pub exactly : (s : State) (c : Call) (device : LeavingDevice) (rejoin : Bool) → indication s ≡ None
      → (indication (answer s c).state ≡ indicated device rejoin) ↔ Indicates s c device rejoin
  -- "Each indication slot keeps the newest value until taken."
  pub newest : (s : State) (c : Call) (device : LeavingDevice) (rejoin : Bool) → Indicates s c device rejoin → indication (answer s c).state ≡ indicated device rejoin
  pub kept : (s : State) (c : Call) → (c ≡ take_leave → Bad s) → ((device : LeavingDevice) (rejoin : Bool) → Indicates s c device rejoin → ⊥)
      → indication (answer s c).state ≡ indication s
  pub taken : (s : State) → (Bad s → ⊥)
      → ((answer s take_leave).step ≡ Step.LeaveTaken (indication s)) × (indication (answer s take_leave).state ≡ None)
  -- nothing else hands one out
  pub only-taken : (s : State) (c : Call) (x : Option NlmeLeaveIndication) → (answer s c).step ≡ Step.LeaveTaken x → c ≡ take_leave
  -- a tick over a lent record leaves the slot, and what is awaited. The call that hands out a scan's confirm answers as the scan's outcome does
  pub lent : (t : ParentTimer) (ms : ℕ) (s : State)
      → (indication (lent_tick t ms s).answer.state ≡ indication s) × (phase (lent_tick t ms s).answer.state ≡ phase s)
  pub confirmed : (s : State) (o : Result PanDescriptorList MacError) (t : ℕ) → (scanned o t s).answer ≡ answer s (scan o t)
  -- the restart of the timer, which is no case of `Call`, leaves both too
  pub refreshed : (s : State) → (indication (refresh s).state ≡ indication s) × (phase (refresh s).state ≡ phase s)
  -- no leave without the request bit from another than the parent is indicated as this device, whatever stood in the slot
  pub never-ours : (s : State) (c : Call) (f : Source) (rejoin other : Bool) → Leaves s c f rejoin → (FromParent f s → ⊥)
      → indication (answer s c).state ≡ indicated LeavingDevice.ThisDevice other → ⊥
  -- a request indicates nothing when it comes
  pub nothing_yet : (s : State) (c : Call) (u : ReceptionFor) (f : Source) (d : ShortAddress) (rejoin : Bool) → Brought s c u f d true rejoin
      → indication (answer s c).state ≡ indication s
  -- the outcome of an announcement is awaited exactly if an accepted request has come, and until that outcome.
  -- So a request that is turned down is never indicated, and an accepted one once
  pub announces : (s : State) (c : Call) (u : ReceptionFor) (rejoin : Bool)
      → (phase (answer s c).state ≡ announcing u rejoin) ↔ (Requested s c u rejoin ⊎ ((phase s ≡ announcing u rejoin) × (Announced s c rejoin → ⊥)))
