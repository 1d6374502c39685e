-- What every call does to the slot of leave indications, and to the announcement of a leave that is awaited. Assumes nothing.
use Rattle.std.specs.Prelude.{Result, Ok, Err, Option, Some, None}
use Prim.Native.Nat.{ℕ}
use mathlib.Core.Path.{◌≡◌, refl, ap, subst⁻¹, ◌∙◌}
use mathlib.Core.Bool.{Bool, true, false, cond, not, ◌&&◌}
use mathlib.Core.Logic.{inl, inr}
use lib.Dec.{eqb, ltb}
use Rattle.std.proofs.lemmas.Bool.{cond-true, cond-false}
use Rattle.lists.proofs.Conditions.{by_cases}
use Rattle.nib.specs.declared.ShortAddress.{ShortAddress}
use Rattle.discovery.specs.Mlme.{descriptors_of}
use Rattle.discovery.specs.Discovery.{short_addressed}
use Rattle.management.specs.declared.EndDeviceTimeoutResponse.{EndDeviceTimeoutResponse}
use Rattle.management.specs.declared.LeavingDevice.{LeavingDevice}
use Rattle.management.specs.declared.NlmeJoinRequest.{NlmeJoinRequest}
use Rattle.management.specs.declared.PollAnswer.{PollAnswer}
use Rattle.management.specs.declared.RejoinNetwork.{RejoinNetwork}
use Rattle.management.specs.declared.RejoinResponse.{RejoinResponse}
use Rattle.management.specs.declared.frame.LeaveOptions.{LeaveOptions}
use Rattle.management.specs.declared.frame.ReceivedFrame.{ReceivedFrame}
use Rattle.management.specs.declared.frame.Source.{Source}
use Rattle.supervision.specs.Timer.{ticked}
use Rattle.nlme.specs.Fields.{with_nib, with_address}
use Rattle.nlme.specs.Nlme.{seq_used, refreshed, link_failure, expiry_signalled}
use Rattle.nlme.specs.declared.Nlme.{Nlme}
use Rattle.nlme.specs.Received.{rejoin_signalled, rejoin_responded, timeout_signalled, stored, timeout_responded, neighbor_leaving, neighbor_left, accepts_leave, announcement, dealt_with, leave_requested, leave_handled, handled, leave_announced}
use Rattle.nlme.specs.declared.received.Handled.{Handled}
use Rattle.nlme.specs.declared.received.Then.{Then}
use Rattle.operation.specs.Operation.{scan_for, association_for, transmission_for, reception_for, is_idle}
use Rattle.operation.specs.declared.Control.{Control}
use Rattle.operation.specs.declared.Decision.{Decision}
use Rattle.operation.specs.declared.Phase.{Phase}
use Rattle.operation.specs.declared.ReceptionFor.{ReceptionFor}
use Rattle.operation.specs.declared.ScanFor.{ScanFor}
use Rattle.operation.specs.declared.TransmissionFor.{TransmissionFor}
use Rattle.exchange.specs.Exchange.{receive_started}
use Rattle.node.specs.Looks.{parent, broadcast, next, deciding_with}
use Rattle.node.specs.Refusals.{refuse, start, outcome}
use Rattle.node.specs.Calls.{with_chosen, associate, join_by, scan_failed, with_scan, scan_heard, scan_decided, continuing, go_on, with_node, table_changed, after_frame, handled_on, heard_on, processed, reception_decided, after_leave, transmission_decided, Call, discovery, join, send, poll, receive, timeout, scan, association, transmission, reception, elapsed, take_leave, take_status, made, answer}
use Rattle.node.specs.declared.Answer.{Answer}
use Rattle.node.specs.declared.State.{State}
use Rattle.refusals.specs.Statement.{phase, Bad}
use Rattle.refusals.proofs.Conditions.{Tells, holds, fails, bad-told}
use Rattle.refusals.proofs.Decisions.{NotLeaving, NotTaken, Made, join-made, associated-made, rejoin-made, next-made, request-made, send-made, sent-made, poll_started-made, timeout-made, timeout_sent-made, continuing-made}
use Rattle.leave_indications.specs.Statement.{indication, indicated, FromParent, Awaits, Brought, Leaves, Accepts, Requested, announcing, Indicates}
use Rattle.leave_indications.proofs.Parent.{learned, by_parent, from_told, accepts-told}
use Rattle.nib.specs.declared.IeeeAddress.{IeeeAddress}
use Rattle.management.specs.declared.NlmeLeaveIndication.{NlmeLeaveIndication}
use Rattle.discovery.specs.declared.mlme.MacError.{MacError}
use Rattle.discovery.specs.declared.mlme.PanDescriptorList.{PanDescriptorList}
use Rattle.operation.specs.declared.Refusal.{Refusal}
use Rattle.operation.specs.declared.Refusal.TheVariants.{OperationUnderWay, NotAwaited, TooManyDescriptors, TooManyShortAddressed, BadState}

-- A RECEIVED FRAME

abbrev slot : Nlme → Option NlmeLeaveIndication
slot n = n.signals.leave_indication

after-slot : (u : ReceptionFor) (t : Then) (s : State) → indication (after_frame u t s).state ≡ indication s
unfolding after_frame deciding_with
after-slot u (Then.Over a) s = (continuing-made u a (parent s) (next s) s.control).1
after-slot u (Then.Announce a) s = refl

-- once it is over, no announcement is awaited
over-phase : (u : ReceptionFor) (a : PollAnswer) (s : State) → NotLeaving (phase (after_frame u (Then.Over a) s).state)
unfolding after_frame deciding_with
over-phase u a s = (continuing-made u a (parent s) (next s) s.control).2

-- no indication is handed out
handled-told : (u : ReceptionFor) (h : Handled) (s : State) → NotTaken (handled_on u h s).step
unfolding after_frame deciding_with
handled-told u h s = go h.then
  where
    go : (t : Then) → NotTaken (after_frame u t (table_changed h.removed (with_node h.nlme s))).step
    go (Then.Over a) = (continuing-made u a _ _ _).3
    go (Then.Announce a) = tt

changed-control : (c : Option ShortAddress) (s : State) → (table_changed c s).control ≡ s.control
unfolding table_changed
changed-control None s = refl
changed-control (Some a) s = refl

-- the slot is what the frame's handling leaves in it
handled-slot : (u : ReceptionFor) (h : Handled) (s : State) → indication (handled_on u h s).state ≡ slot h.nlme
handled-slot u h s =
    after-slot u h.then (table_changed h.removed (with_node h.nlme s)) ∙ ap (λ (c : Control). slot c.nlme) (changed-control h.removed (with_node h.nlme s))

-- responses
rejoin-slot : (r : RejoinResponse) (n : Nlme) → slot (rejoin_responded r n) ≡ slot n
unfolding rejoin_responded
rejoin-slot r n =
    by_cases (λ (m : Nlme). slot (rejoin_signalled r m) ≡ slot n) (eqb r.status 0) {x = with_nib (with_address r.network_address n.nib) n} {y = n} (λ _. refl) refl

timeout-slot : (r : EndDeviceTimeoutResponse) (n : Nlme) → slot (timeout_responded r n) ≡ slot n
unfolding timeout_responded stored refreshed
timeout-slot r n =
    by_cases (λ (m : Nlme). slot (timeout_signalled r m) ≡ slot n) (eqb r.status 0 && not (eqb n.pending_timeout_request 0xff)) {x = stored r.parent_information n} {y = n}
    (λ _. refl) refl

-- a leave command
module _ (u : ReceptionFor) (s : State) (f : Source) (d : ShortAddress) (o : LeaveOptions) (t : ℕ) where
  abbrev here : State
  here = learned s f d o t

  abbrev n : Nlme
  n = s.control.nlme

  abbrev accepted : Bool
  accepted = accepts_leave n.nib d (by_parent s f d o t)

  abbrev whole : Handled
  whole = leave_handled (parent here) (broadcast here) f d o n

  abbrev asked : Handled
  asked = leave_requested (parent here) (broadcast here) f.address d o n

  abbrev pub handling : Answer
  handling = processed u (ReceivedFrame.LeaveCommand f d o) here

  handling-told : NotTaken handling.step
  unfolding handled
  handling-told = handled-told u whole here

  -- without the request bit
  abbrev left : Handled
  left = record { nlme = neighbor_left (parent here) f o.rejoin n; removed = Some f.address; then = Then.Over PollAnswer.PollNothing }

  left_is : o.request ≡ false → whole ≡ left
  unfolding leave_handled
  left_is e = cond-false o.request asked left e

  device-slot : (b : Bool) (x y : Nlme) {device : LeavingDevice} → slot x ≡ indicated LeavingDevice.ThisDevice o.rejoin → slot y ≡ indicated device o.rejoin
      → slot (cond b x y) ≡ indicated (cond b LeavingDevice.ThisDevice device) o.rejoin
  device-slot true x y p q = p
  device-slot false x y p q = q

  pub left-slot : o.request ≡ false
      → indication handling.state ≡ indicated (cond (by_parent s f d o t) LeavingDevice.ThisDevice (neighbor_leaving f.ieee f.address)) o.rejoin
  unfolding handled neighbor_left
  left-slot e = handled-slot u whole here ∙ ap (λ (h : Handled). slot h.nlme) (left_is e) ∙ device-slot (by_parent s f d o t) _ _ refl refl

  left-phase : o.request ≡ false → NotLeaving (phase handling.state)
  unfolding handled
  left-phase e = subst⁻¹ (λ (h : Handled). NotLeaving (phase (handled_on u h here).state)) (left_is e) (over-phase u _ _)

  -- a request: the slot stays, and an accepted one is announced
  abbrev announced_then : Handled
  announced_then = record { nlme = seq_used n; removed = None; then = Then.Announce (record { transmission = announcement n (parent here) (broadcast here) o; rejoin = o.rejoin }) }

  abbrev declined : Handled
  declined = dealt_with n PollAnswer.PollNothing

  asked_is : o.request ≡ true → whole ≡ asked
  unfolding leave_handled
  asked_is e = cond-true o.request asked left e

  pub request-slot : o.request ≡ true → indication handling.state ≡ indication s
  unfolding handled leave_requested
  request-slot e =
      handled-slot u whole here ∙ ap (λ (h : Handled). slot h.nlme) (asked_is e) ∙ by_cases (λ (h : Handled). slot h.nlme ≡ slot n) accepted {x = announced_then} {y = declined} (λ _. refl) refl

  pub accepted-phase : o.request ≡ true → accepted ≡ true → phase handling.state ≡ announcing u o.rejoin
  unfolding handled leave_requested after_frame deciding_with
  accepted-phase e q = ap (λ (h : Handled). phase (handled_on u h here).state) (asked_is e ∙ cond-true accepted announced_then declined q)

  declined-phase : o.request ≡ true → accepted ≡ false → NotLeaving (phase handling.state)
  unfolding handled leave_requested
  declined-phase e q =
      subst⁻¹ (λ (h : Handled). NotLeaving (phase (handled_on u h here).state)) (asked_is e ∙ cond-false accepted announced_then declined q) (over-phase u _ _)

-- EVERY CALL

-- what an answer does to the slot, which announcement is awaited after it, and whether it hands an indication out
pub data Slot (s : State) (c : Call) (a : Answer) : Type 0 where
  kept : indication a.state ≡ indication s → Slot s c a
  says : (device : LeavingDevice) (rejoin : Bool) → Indicates s c device rejoin → indication a.state ≡ indicated device rejoin → Slot s c a
  takes : c ≡ take_leave → (Bad s → ⊥) → indication a.state ≡ None → Slot s c a

pub data Next (s : State) (c : Call) (a : Answer) : Type 0 where
  stays : phase a.state ≡ phase s → Next s c a
  elsewhere : NotLeaving (phase a.state) → Next s c a
  announced : (u : ReceptionFor) (rejoin : Bool) → Requested s c u rejoin → phase a.state ≡ announcing u rejoin → Next s c a

pub data HandsOut (c : Call) (a : Answer) : Type 0 where
  not_taken : NotTaken a.step → HandsOut c a
  taking : c ≡ take_leave → HandsOut c a

abbrev pub Got : State → Call → Answer → Type 0
Got s c a = Slot s c a × Next s c a × HandsOut c a

module _ (s : State) (c : Call) where
  refused-got : (k : Refusal) → Got s c (refuse k s)
  unfolding refuse
  refused-got k = (kept refl, stays refl, not_taken tt)

  -- a decision on the state's control part, whatever it writes to the table and the candidates of x
  made_got : (reset : Bool) (x : State) (d : Decision) → Made s.control d → Got s c (deciding_with reset x d)
  unfolding deciding_with
  made_got reset x d h = (kept h.1, elsewhere h.2, not_taken h.3)

  start-got : (a : Answer) → Got s c a → Got s c (start a s)
  start-got a g = by_cases (Got s c) (is_idle (phase s)) (λ _. g) (refused-got OperationUnderWay)

  outcome-got : {A : Type 0} (w : Option A) (g : A → State → Answer) → ((u : A) → Got s c (g u s)) → Got s c (outcome w g s)
  unfolding outcome
  outcome-got (Some u) g h = h u
  outcome-got None g h = refused-got NotAwaited

-- starts
associate-got : (s : State) (r : NlmeJoinRequest) → Got s (join r) (associate r s)
unfolding associate with_chosen
associate-got s r =
    by_cases (Got s (join r)) (eqb s.control.nlme.nib.network_address.0 0xffff)
    (λ _. made_got s (join r) false _ _ (join-made _ _ s.control)) (made_got s (join r) false _ _ (refl, refl, tt, tt))

join-got : (s : State) (r : NlmeJoinRequest) (k : RejoinNetwork) → Got s (join r) (join_by k r s)
unfolding join_by
join-got s r RejoinNetwork.Association = associate-got s r
join-got s r RejoinNetwork.Orphan = made_got s (join r) false _ _ (refl, refl, tt, tt)
join-got s r RejoinNetwork.NwkRejoin = made_got s (join r) false _ _ (rejoin-made r _ s.control)
join-got s r RejoinNetwork.ChannelChange = made_got s (join r) false _ _ (refl, refl, tt, tt)

-- a scan
scan-got : (s : State) (o : Result PanDescriptorList MacError) (t : ℕ) (u : ScanFor) → Got s (scan o t) (scan_decided o t u s)
unfolding scan_decided scan_failed scan_heard with_scan with_chosen
scan-got s (Err e) t u = failed u
  where
    failed : (v : ScanFor) → Got s (scan (Err e) t) (scan_failed v s)
    failed ScanFor.Discovery = made_got s (scan (Err e) t) false _ _ (refl, refl, tt, tt)
    failed ScanFor.Rejoin = made_got s (scan (Err e) t) false _ _ (refl, refl, tt, tt)
scan-got s (Ok l) t u =
    by_cases (Got s (scan (Ok l) t)) (ltb 27 l.count) (λ _. refused-got s (scan (Ok l) t) TooManyDescriptors)
    (by_cases (Got s (scan (Ok l) t)) (ltb 16 (short_addressed (descriptors_of l))) (λ _. refused-got s (scan (Ok l) t) TooManyShortAddressed) (found u))
  where
    found : (v : ScanFor) → Got s (scan (Ok l) t) (scan_heard v (with_scan t (descriptors_of l) s))
    found ScanFor.Discovery = made_got s (scan (Ok l) t) false _ _ (refl, refl, tt, tt)
    found ScanFor.Rejoin = made_got s (scan (Ok l) t) false _ _ (next-made _ _ s.control)

-- a transmission
left-slot-after : (rejoin : Bool) (s : State) → indication (after_leave rejoin s) ≡ indicated LeavingDevice.ThisDevice rejoin
unfolding after_leave leave_announced
left-slot-after true s = refl
left-slot-after false s = refl

-- the outcome of an announcement
pub announced-made : (u : ReceptionFor) (rejoin : Bool) (s : State) → Made (after_leave rejoin s).control (continuing u PollAnswer.PollNothing (parent (after_leave rejoin s)) (next (after_leave rejoin s)) (after_leave rejoin s).control)
announced-made u rejoin s = continuing-made u _ _ _ _

pub announced-slot : (u : ReceptionFor) (rejoin : Bool) (s : State) → indication (go_on (not rejoin) u PollAnswer.PollNothing (after_leave rejoin s)).state ≡ indicated LeavingDevice.ThisDevice rejoin
unfolding deciding_with
announced-slot u rejoin s = (announced-made u rejoin s).1 ∙ left-slot-after rejoin s

transmission-got : (s : State) (ok : Bool) (u : TransmissionFor) → Awaits s (Phase.Transmission u) → Got s (transmission ok) (transmission_decided ok u s)
unfolding transmission_decided deciding_with
transmission-got s ok TransmissionFor.RejoinRequest w = made_got s (transmission ok) false _ _ (request-made ok _ _ s.control)
transmission-got s ok TransmissionFor.Data w = made_got s (transmission ok) false _ _ (sent-made ok _ s.control)
transmission-got s ok (TransmissionFor.TimeoutRequest u) w = made_got s (transmission ok) false _ _ (timeout_sent-made u ok _ s.control)
transmission-got s ok (TransmissionFor.Leave l) w =
    (says LeavingDevice.ThisDevice l.rejoin (inr (l.purpose, ok, w, refl)) (announced-slot l.purpose l.rejoin s), elsewhere (announced-made l.purpose l.rejoin s).2, not_taken (announced-made l.purpose l.rejoin s).3)

-- a poll or a receive
indicates : {s : State} {c : Call} {f : Source} {rejoin : Bool} {b : Bool} → Leaves s c f rejoin → Tells (FromParent f s) b → (x : Option IeeeAddress) → f.ieee ≡ x
    → Indicates s c (cond b LeavingDevice.ThisDevice (neighbor_leaving x f.address)) rejoin
indicates {f = f} l (holds p) x e = inl (f, l, p)
indicates {f = f} l (fails p) None e = (f, l, p, e, refl)
indicates {f = f} l (fails p) (Some x) e = (f, l, p, e)

module _ (s : State) (u : ReceptionFor) (w : Awaits s (Phase.Reception u)) (t : ℕ) where
  abbrev call : ReceivedFrame → Call
  call f = reception (Ok (Some f)) t

  leave-got : (f : Source) (d : ShortAddress) (o : LeaveOptions) → Got s (call (ReceivedFrame.LeaveCommand f d o)) (handling u s f d o t)
  leave-got f d o = go o.request refl
    where
      brought : (b : Bool) → o.request ≡ b → Brought s (call (ReceivedFrame.LeaveCommand f d o)) u f d b o.rejoin
      brought b e =
          record {
            awaited = w;
            children = o.remove_children;
            clock = t;
            call = λ i. call (ReceivedFrame.LeaveCommand f d (record { request = e i; rejoin = o.rejoin; remove_children = o.remove_children }));
          }

      go : (b : Bool) → o.request ≡ b → Got s (call (ReceivedFrame.LeaveCommand f d o)) (handling u s f d o t)
      go false e =
          (says _ o.rejoin (indicates (u, d, brought false e) (from_told s f d o t) f.ieee refl) (left-slot u s f d o t e), elsewhere (left-phase u s f d o t e), not_taken (handling-told u s f d o t))
      go true e = (kept (request-slot u s f d o t e), answered (accepts-told s f d o t) refl, not_taken (handling-told u s f d o t))
        where
          answered : {b : Bool} → Tells (Accepts s f d) b → accepts_leave s.control.nlme.nib d (by_parent s f d o t) ≡ b
              → Next s (call (ReceivedFrame.LeaveCommand f d o)) (handling u s f d o t)
          answered (holds a) q = announced u o.rejoin (f, d, brought true e, a) (accepted-phase u s f d o t e q)
          answered (fails a) q = elsewhere (declined-phase u s f d o t e q)

  -- any other frame
  plain-got : (f : ReceivedFrame) (m : Nlme) (a : PollAnswer) → slot m ≡ indication s → Got s (call f) (handled_on u (dealt_with m a) (heard_on f t s))
  plain-got f m a e = (kept (handled-slot u (dealt_with m a) (heard_on f t s) ∙ e), elsewhere (over-phase u a _), not_taken (handled-told u (dealt_with m a) (heard_on f t s)))

  frame-got : (f : ReceivedFrame) → Got s (call f) (processed u f (heard_on f t s))
  unfolding handled
  frame-got ReceivedFrame.Undecodable = plain-got _ s.control.nlme _ refl
  frame-got (ReceivedFrame.Data f) = plain-got _ s.control.nlme _ refl
  frame-got (ReceivedFrame.RejoinResponseCommand f r) = plain-got _ (rejoin_responded r s.control.nlme) _ (rejoin-slot r s.control.nlme)
  frame-got (ReceivedFrame.TimeoutResponseCommand f r) = plain-got _ (timeout_responded r s.control.nlme) _ (timeout-slot r s.control.nlme)
  frame-got (ReceivedFrame.LeaveCommand f d o) = leave-got f d o
  frame-got (ReceivedFrame.OtherCommand f) = plain-got _ s.control.nlme _ refl
  frame-got ReceivedFrame.OtherFrame = plain-got _ s.control.nlme _ refl

  reception-got : (o : Result (Option ReceivedFrame) MacError) → Got s (reception o t) (reception_decided o t u s)
  unfolding reception_decided
  reception-got (Ok None) = made_got s _ false _ _ (continuing-made u _ _ _ s.control)
  reception-got (Err e) = made_got s _ false _ _ (continuing-made u _ _ _ s.control)
  reception-got (Ok (Some f)) = frame-got f

-- a tick
pub tick-slot : (s : State) (ms : ℕ) → indication (made s (elapsed ms)).state ≡ indication s
unfolding expiry_signalled link_failure deciding_with
tick-slot s ms = by_cases (λ (n : Nlme). slot n ≡ indication s) (ticked s.control.nlme.parent_timer ms).expired (λ _. refl) refl

module _ (s : State) (good : Bad s → ⊥) where
  reception-answered : (o : Result (Option ReceivedFrame) MacError) (t : ℕ) (p : Phase) → phase s ≡ p
      → Got s (reception o t) (outcome (reception_for p) (reception_decided o t) s)
  unfolding outcome
  reception-answered o t (Phase.Reception u) e = reception-got s u (good, e) t o
  reception-answered o t Phase.Idle e = refused-got s _ NotAwaited
  reception-answered o t (Phase.Scan u) e = refused-got s _ NotAwaited
  reception-answered o t Phase.Association e = refused-got s _ NotAwaited
  reception-answered o t (Phase.Transmission u) e = refused-got s _ NotAwaited

  transmission-answered : (ok : Bool) (p : Phase) → phase s ≡ p → Got s (transmission ok) (outcome (transmission_for p) (transmission_decided ok) s)
  unfolding outcome
  transmission-answered ok (Phase.Transmission u) e = transmission-got s ok u (good, e)
  transmission-answered ok Phase.Idle e = refused-got s _ NotAwaited
  transmission-answered ok (Phase.Scan u) e = refused-got s _ NotAwaited
  transmission-answered ok Phase.Association e = refused-got s _ NotAwaited
  transmission-answered ok (Phase.Reception u) e = refused-got s _ NotAwaited

  call-got : (c : Call) → Got s c (made s c)
  unfolding receive_started deciding_with
  call-got (discovery r) = start-got s _ _ (made_got s _ false _ _ (refl, refl, tt, tt))
  call-got (join r) = start-got s _ _ (join-got s r r.rejoin_network)
  call-got (send d secure) = start-got s _ _ (made_got s _ false _ _ (send-made d secure _ s.control))
  call-got poll = start-got s _ _ (made_got s _ false _ _ (poll_started-made _ s.control))
  call-got receive = start-got s _ _ (made_got s _ false _ _ (refl, refl, tt, tt))
  call-got (timeout u) = start-got s _ _ (made_got s _ false _ _ (timeout-made u _ s.control))
  call-got (scan o t) = outcome-got s _ (scan_for (phase s)) _ (scan-got s o t)
  call-got (association o) = outcome-got s _ (association_for (phase s)) _ (λ _. made_got s _ false _ _ (associated-made o _ _ s.control))
  call-got (transmission ok) = transmission-answered ok (phase s) refl
  call-got (reception o t) = reception-answered o t (phase s) refl
  call-got (elapsed ms) = (kept (tick-slot s ms), stays refl, not_taken tt)
  call-got take_leave = (takes refl good refl, stays refl, taking refl)
  call-got take_status = (kept refl, stays refl, not_taken tt)

pub answer-got : (s : State) (c : Call) → Got s c (answer s c)
unfolding answer
answer-got s c = go (bad-told s)
  where
    go : {b : Bool} → Tells (Bad s) b → Got s c (cond b (refuse BadState s) (made s c))
    go (holds h) = refused-got s c BadState
    go (fails h) = call-got s h c
