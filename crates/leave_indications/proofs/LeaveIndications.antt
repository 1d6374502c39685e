-- The statement on leave indications is proved. Assumes nothing.
use Rattle.std.specs.Prelude.{Result, Ok, Option, Some, None}
use Prim.Native.Nat.{ℕ}
use mathlib.Core.Path.{◌≡◌, refl, sym, ap, subst, subst⁻¹, ◌∙◌}
use mathlib.Core.Bool.{Bool, true, false, cond, false≢true}
use mathlib.Core.Logic.{◌⊎◌, ⊎_elim, ◌↔◌, inl, inr}
use Rattle.std.proofs.lemmas.Bool.{cond-false}
use Rattle.lists.proofs.Conditions.{by_cases}
use Rattle.nib.specs.declared.ShortAddress.{ShortAddress}
use Rattle.management.specs.declared.LeavingDevice.{LeavingDevice}
use Rattle.management.specs.declared.frame.LeaveOptions.{LeaveOptions}
use Rattle.management.specs.declared.frame.ReceivedFrame.{ReceivedFrame}
use Rattle.management.specs.declared.frame.Source.{Source}
use Rattle.nlme.specs.Nlme.{refreshed}
use Rattle.nlme.specs.Received.{neighbor_leaving}
use Rattle.supervision.specs.declared.parent_timer.ParentTimer.{ParentTimer}
use Rattle.exchange.specs.Exchange.{timeout_refreshed}
use Rattle.operation.specs.Operation.{is_idle, scan_for, association_for, transmission_for, reception_for}
use Rattle.operation.specs.declared.Phase.{Phase}
use Rattle.operation.specs.declared.ReceptionFor.{ReceptionFor}
use Rattle.operation.specs.declared.Step.{Step}
use Rattle.operation.specs.declared.TransmissionFor.{TransmissionFor}
use Rattle.node.specs.Looks.{deciding_with, deciding, moved, potential_cleared}
use Rattle.node.specs.Refusals.{refuse, bad, start, outcome}
use Rattle.node.specs.Calls.{reception_decided, transmission_decided, Call, discovery, join, send, poll, receive, timeout, scan, association, transmission, reception, elapsed, take_leave, take_status, made, answer, scanned, refresh}
use Rattle.node.specs.declared.Answer.{Answer}
use Rattle.node.specs.declared.State.{State}
use Rattle.lent_tick.specs.LentTick.{with_parent_timer, lent_turned_down, with_record, lent_tick}
use Rattle.lent_tick.specs.declared.LentTicked.{LentTicked}
use Rattle.refusals.specs.Statement.{phase, Bad}
use Rattle.refusals.proofs.Conditions.{Tells, holds, fails, bad-told}
use Rattle.refusals.proofs.Decisions.{NotLeaving, NotTaken}
use Rattle.leave_indications.specs.Statement.{indication, indicated, FromParent, Brought, Leaves, Requested, announcing, Announced, Indicates, LeaveIndications}
use Rattle.leave_indications.proofs.Parent.{by_parent, from_told, accepts-told}
use Rattle.leave_indications.proofs.Calls.{handling, left-slot, request-slot, accepted-phase, announced-made, announced-slot, tick-slot, Slot, kept, says, takes, Next, stays, elsewhere, announced, HandsOut, not_taken, taking, answer-got}
use Rattle.nib.specs.declared.IeeeAddress.{IeeeAddress}
use Rattle.management.specs.declared.NlmeLeaveIndication.{NlmeLeaveIndication}
use Rattle.discovery.specs.declared.mlme.MacError.{MacError}
use Rattle.discovery.specs.declared.mlme.PanDescriptorList.{PanDescriptorList}
use Rattle.operation.specs.declared.Refusal.{Refusal}
use Rattle.operation.specs.declared.Refusal.TheVariants.{OperationUnderWay, NotAwaited, BadState}

told-true : {C : Type 0} {b : Bool} → Tells C b → C → b ≡ true
told-true (holds h) c = refl
told-true (fails h) c = absurd (h c)

told-false : {C : Type 0} {b : Bool} → Tells C b → (C → ⊥) → b ≡ false
told-false (holds h) n = absurd (n h)
told-false (fails h) n = refl

-- the device and the rejoin bit of an indication; of an empty slot any
abbrev device_of : Option NlmeLeaveIndication → LeavingDevice
device_of None = LeavingDevice.ThisDevice
device_of (Some i) = i.device

abbrev rejoin_of : Option NlmeLeaveIndication → Bool
rejoin_of None = false
rejoin_of (Some i) = i.rejoin

abbrev is_empty : Option NlmeLeaveIndication → Bool
is_empty None = true
is_empty (Some i) = false

abbrev is_this : LeavingDevice → Bool
is_this LeavingDevice.ThisDevice = true
is_this (LeavingDevice.NeighborByIeee x) = false
is_this (LeavingDevice.NeighborByShort a) = false

-- a state that 5 lets pass
answer-good : (s : State) (c : Call) → (Bad s → ⊥) → answer s c ≡ made s c
unfolding answer
answer-good s c good = cond-false (bad s) (refuse BadState s) (made s c) (told-false (bad-told s) good)

-- A LEAVE COMMAND THAT IS BROUGHT

abbrev options : Bool → Bool → Bool → LeaveOptions
options request rejoin children = record { request = request; rejoin = rejoin; remove_children = children }

module _ {s : State} {c : Call} {u : ReceptionFor} {f : Source} {d : ShortAddress} {request rejoin : Bool} (b : Brought s c u f d request rejoin) where
  abbrev o : LeaveOptions
  o = options request rejoin b.children

  brought-answer : answer s c ≡ handling u s f d o b.clock
  unfolding outcome reception_decided
  brought-answer =
      ap (answer s) b.call
      ∙ answer-good s _ b.awaited.0
      ∙ ap (λ (p : Phase). outcome (reception_for p) (reception_decided (Ok (Some (ReceivedFrame.LeaveCommand f d o))) b.clock) s) b.awaited.1

module _ {s : State} {c : Call} {f : Source} {rejoin : Bool} (l : Leaves s c f rejoin) where
  left-answer : indication (answer s c).state ≡ indicated (cond (by_parent s f l.1 (o l.2) l.2.clock) LeavingDevice.ThisDevice (neighbor_leaving f.ieee f.address)) rejoin
  left-answer = ap (λ a. indication a.state) (brought-answer l.2) ∙ left-slot l.0 s f l.1 (o l.2) l.2.clock refl

  parent-answer : FromParent f s → indication (answer s c).state ≡ indicated LeavingDevice.ThisDevice rejoin
  parent-answer p = left-answer ∙ rw (told-true (from_told s f l.1 (o l.2) l.2.clock) p)

  neighbor-answer : (FromParent f s → ⊥) → indication (answer s c).state ≡ indicated (neighbor_leaving f.ieee f.address) rejoin
  neighbor-answer n = left-answer ∙ rw (told-false (from_told s f l.1 (o l.2) l.2.clock) n)

-- THE STATEMENT

announced-answer : (s : State) (c : Call) (rejoin : Bool) → Announced s c rejoin → indication (answer s c).state ≡ indicated LeavingDevice.ThisDevice rejoin
unfolding outcome transmission_decided
announced-answer s c rejoin (u, sent, w, e) =
    ap (λ (a : Answer). indication a.state)
    (ap (answer s) e ∙ answer-good s _ w.0 ∙ ap (λ (p : Phase). outcome (transmission_for p) (transmission_decided sent) s) w.1)
    ∙ announced-slot u rejoin s

newest : (s : State) (c : Call) (device : LeavingDevice) (rejoin : Bool) → Indicates s c device rejoin → indication (answer s c).state ≡ indicated device rejoin
newest s c LeavingDevice.ThisDevice rejoin (inl (f, l, p)) = parent-answer l p
newest s c LeavingDevice.ThisDevice rejoin (inr w) = announced-answer s c rejoin w
newest s c (LeavingDevice.NeighborByIeee x) rejoin (f, l, n, e) =
    neighbor-answer l n ∙ ap (λ y. indicated (neighbor_leaving y f.address) rejoin) e
newest s c (LeavingDevice.NeighborByShort a) rejoin (f, l, n, e, q) =
    neighbor-answer l n ∙ ap (λ y. indicated (neighbor_leaving y f.address) rejoin) e ∙ ap (λ y. indicated (LeavingDevice.NeighborByShort y) rejoin) q

only : (s : State) (c : Call) (device : LeavingDevice) (rejoin : Bool) → indication s ≡ None
    → indication (answer s c).state ≡ indicated device rejoin → Indicates s c device rejoin
only s c device rejoin empty e = go (answer-got s c).0
  where
    go : Slot s c (answer s c) → Indicates s c device rejoin
    go (kept k) = absurd (false≢true (ap is_empty (sym e ∙ k ∙ empty)))
    go (takes t g k) = absurd (false≢true (ap is_empty (sym e ∙ k)))
    go (says x r i k) =
        subst (λ (y : LeavingDevice). Indicates s c y rejoin) (ap device_of (sym k ∙ e)) (subst (λ (y : Bool). Indicates s c x y) (ap rejoin_of (sym k ∙ e)) i)

unchanged : (s : State) (c : Call) → (c ≡ take_leave → Bad s) → ((device : LeavingDevice) (rejoin : Bool) → Indicates s c device rejoin → ⊥)
    → indication (answer s c).state ≡ indication s
unchanged s c n m = go (answer-got s c).0
  where
    go : Slot s c (answer s c) → indication (answer s c).state ≡ indication s
    go (kept k) = k
    go (takes t g k) = absurd (g (n t))
    go (says x r i k) = absurd (m x r i)

taken : (s : State) → (Bad s → ⊥)
    → ((answer s take_leave).step ≡ Step.LeaveTaken (indication s)) × (indication (answer s take_leave).state ≡ None)
unfolding deciding_with
taken s good =
    (ap (λ (a : Answer). a.step) (answer-good s take_leave good), ap (λ (a : Answer). indication a.state) (answer-good s take_leave good))

never-ours : (s : State) (c : Call) (f : Source) (rejoin other : Bool) → Leaves s c f rejoin → (FromParent f s → ⊥)
    → indication (answer s c).state ≡ indicated LeavingDevice.ThisDevice other → ⊥
never-ours s c f rejoin other l n e = false≢true (sym (go f.ieee) ∙ ap (λ x. is_this (device_of x)) (sym (neighbor-answer l n) ∙ e))
  where
    go : (x : Option IeeeAddress) → is_this (neighbor_leaving x f.address) ≡ false
    go None = refl
    go (Some x) = refl

nothing_yet : (s : State) (c : Call) (u : ReceptionFor) (f : Source) (d : ShortAddress) (rejoin : Bool) → Brought s c u f d true rejoin
    → indication (answer s c).state ≡ indication s
nothing_yet s c u f d rejoin b = ap (λ a. indication a.state) (brought-answer b) ∙ request-slot u s f d (o b) b.clock refl

-- the purpose and the rejoin bit of an announcement that is awaited; in another phase any
abbrev purpose_of : Phase → ReceptionFor
purpose_of (Phase.Transmission (TransmissionFor.Leave l)) = l.purpose
purpose_of (Phase.Transmission TransmissionFor.RejoinRequest) = ReceptionFor.SinglePoll
purpose_of (Phase.Transmission TransmissionFor.Data) = ReceptionFor.SinglePoll
purpose_of (Phase.Transmission (TransmissionFor.TimeoutRequest u)) = ReceptionFor.SinglePoll
purpose_of Phase.Idle = ReceptionFor.SinglePoll
purpose_of (Phase.Scan u) = ReceptionFor.SinglePoll
purpose_of Phase.Association = ReceptionFor.SinglePoll
purpose_of (Phase.Reception u) = ReceptionFor.SinglePoll

abbrev bit_of : Phase → Bool
bit_of (Phase.Transmission (TransmissionFor.Leave l)) = l.rejoin
bit_of (Phase.Transmission TransmissionFor.RejoinRequest) = false
bit_of (Phase.Transmission TransmissionFor.Data) = false
bit_of (Phase.Transmission (TransmissionFor.TimeoutRequest u)) = false
bit_of Phase.Idle = false
bit_of (Phase.Scan u) = false
bit_of Phase.Association = false
bit_of (Phase.Reception u) = false

-- the outcome of an announcement ends it
announced-over : (s : State) (c : Call) (rejoin : Bool) → Announced s c rejoin → NotLeaving (phase (answer s c).state)
unfolding deciding_with transmission_decided outcome
announced-over s c rejoin (u, sent, w, e) =
    subst⁻¹ (λ (a : Answer). NotLeaving (phase a.state))
    (ap (answer s) e ∙ answer-good s _ w.0 ∙ ap (λ (p : Phase). outcome (transmission_for p) (transmission_decided sent) s) w.1)
    (announced-made u rejoin s).2

-- any other call leaves it awaited
module _ (s : State) (u : ReceptionFor) (rejoin : Bool) (e : phase s ≡ announcing u rejoin) where
  refused-phase : (k : Refusal) → phase (refuse k s).state ≡ announcing u rejoin
  unfolding refuse
  refused-phase k = e

  started-phase : (a : Answer) → phase (start a s).state ≡ announcing u rejoin
  started-phase a = ap (λ (x : Answer). phase x.state) (cond-false (is_idle (phase s)) a (refuse OperationUnderWay s) (ap is_idle e)) ∙ refused-phase OperationUnderWay

  -- an outcome of another kind is not awaited
  other-phase : {A : Type 0} (kind : Phase → Option A) (g : A → State → Answer) → kind (announcing u rejoin) ≡ None → phase (outcome (kind (phase s)) g s).state ≡ announcing u rejoin
  unfolding outcome
  other-phase kind g q = ap (λ w. phase (outcome w g s).state) (ap kind e ∙ q) ∙ refused-phase NotAwaited

  made-phase : (c : Call) → ((sent : Bool) → c ≡ transmission sent → ⊥) → phase (made s c).state ≡ announcing u rejoin
  unfolding deciding_with
  made-phase (discovery r) n = started-phase _
  made-phase (join r) n = started-phase _
  made-phase (send d secure) n = started-phase _
  made-phase poll n = started-phase _
  made-phase receive n = started-phase _
  made-phase (timeout t) n = started-phase _
  made-phase (scan o t) n = other-phase scan_for _ refl
  made-phase (association o) n = other-phase association_for _ refl
  made-phase (transmission sent) n = absurd (n sent refl)
  made-phase (reception o t) n = other-phase reception_for _ refl
  made-phase (elapsed ms) n = e
  made-phase take_leave n = e
  made-phase take_status n = e

  waiting : (c : Call) → (Announced s c rejoin → ⊥) → phase (answer s c).state ≡ announcing u rejoin
  unfolding answer
  waiting c n = go (bad-told s)
    where
      go : {b : Bool} → Tells (Bad s) b → phase (cond b (refuse BadState s) (made s c)).state ≡ announcing u rejoin
      go (holds h) = refused-phase BadState
      go (fails h) = made-phase c (λ sent q. n (u, sent, (h, e), q))

announces : (s : State) (c : Call) (u : ReceptionFor) (rejoin : Bool)
    → (phase (answer s c).state ≡ announcing u rejoin) ↔ (Requested s c u rejoin ⊎ ((phase s ≡ announcing u rejoin) × (Announced s c rejoin → ⊥)))
announces s c u rejoin = (λ e. to e (answer-got s c).1, ⊎_elim from (λ w. waiting s u rejoin w.0 c w.1))
  where
    to : phase (answer s c).state ≡ announcing u rejoin → Next s c (answer s c)
        → Requested s c u rejoin ⊎ ((phase s ≡ announcing u rejoin) × (Announced s c rejoin → ⊥))
    to e (stays k) = inr (sym k ∙ e, λ w. subst NotLeaving e (announced-over s c rejoin w))
    to e (elsewhere k) = absurd (subst NotLeaving e k)
    to e (announced v r q k) =
        inl (subst (λ (x : ReceptionFor). Requested s c x rejoin) (ap purpose_of (sym k ∙ e)) (subst (λ (x : Bool). Requested s c v x) (ap bit_of (sym k ∙ e)) q))

    from : Requested s c u rejoin → phase (answer s c).state ≡ announcing u rejoin
    from (f, d, b, a) = ap (λ x. phase x.state) (brought-answer b) ∙ accepted-phase u s f d (o b) b.clock refl (told-true (accepts-told s f d (o b) b.clock) a)

only-taken : (s : State) (c : Call) (x : Option NlmeLeaveIndication) → (answer s c).step ≡ Step.LeaveTaken x → c ≡ take_leave
only-taken s c x e = go (answer-got s c).2
  where
    go : HandsOut c (answer s c) → c ≡ take_leave
    go (not_taken k) = absurd (subst NotTaken e k)
    go (taking k) = k

-- the tick over a lent record
module _ (t : ParentTimer) (ms : ℕ) (s : State) where
  lent_by : (P : State → Type 0) → P s → P (with_parent_timer t s) → P (made (with_parent_timer t s) (elapsed ms)).state → P (lent_tick t ms s).answer.state
  unfolding lent_tick answer refuse
  lent_by P h k m =
      by_cases (λ (x : LentTicked). P x.answer.state) (bad s) {x = lent_turned_down t s} {y = with_record (answer (with_parent_timer t s) (elapsed ms))} (λ _. h)
      (by_cases (λ (x : Answer). P x.state) (bad (with_parent_timer t s)) {x = refuse BadState (with_parent_timer t s)} {y = made (with_parent_timer t s) (elapsed ms)} (λ _. k) m)

  lent : (indication (lent_tick t ms s).answer.state ≡ indication s) × (phase (lent_tick t ms s).answer.state ≡ phase s)
  unfolding deciding_with
  lent =
      (lent_by (λ x. indication x ≡ indication s) refl refl (tick-slot (with_parent_timer t s) ms), lent_by (λ x. phase x ≡ phase s) refl refl refl)

confirmed : (s : State) (o : Result PanDescriptorList MacError) (t : ℕ) → (scanned o t s).answer ≡ answer s (scan o t)
unfolding scanned
confirmed s o t = refl

-- the restart of the timer
refresh-kept : (s : State) → (indication (refresh s).state ≡ indication s) × (phase (refresh s).state ≡ phase s)
unfolding refresh refuse deciding_with potential_cleared moved refreshed
refresh-kept s = go (bad s)
  where
    go : (b : Bool) → (indication (cond b (refuse BadState s) (deciding s (timeout_refreshed s.control))).state ≡ indication s)
        × (phase (cond b (refuse BadState s) (deciding s (timeout_refreshed s.control))).state ≡ phase s)
    go true = (refl, refl)
    go false = (refl, refl)

pub leave-indications : LeaveIndications
leave-indications =
    record {
      exactly = λ s c device rejoin e. (only s c device rejoin e, newest s c device rejoin);
      newest = newest;
      kept = unchanged;
      taken = taken;
      only-taken = only-taken;
      lent = lent;
      confirmed = confirmed;
      refreshed = refresh-kept;
      never-ours = never-ours;
      nothing_yet = nothing_yet;
      announces = announces;
    }
