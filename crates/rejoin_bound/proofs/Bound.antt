-- A rejoin uses at most 698 outcomes: every accepted outcome lowers the measure of what is left, and no other call raises it. Assumes nothing.
use Rattle.std.specs.Prelude.{Result, Ok, Err, Option, Some, None}
use Prim.Native.Nat.{ℕ, suc, ◌+◌, ◌≤◌, zero-le}
use mathlib.Core.Path.{◌≡◌, refl, sym, ap, subst, ◌∙◌}
use mathlib.Core.Bool.{Bool, true, false, cond, not, ◌&&◌, false≢true}
use mathlib.Core.List.{List, [], ◌∷◌}
use native.Mathlib.Omega.{arith}
use lib.Dec.{eqb, ltb}
use Rattle.discovery.specs.Mlme.{descriptors_of}
use Rattle.nib.specs.Neighbors.{table_of}
use Rattle.nib.specs.NeighborTable.{retained}
use Rattle.nib.specs.declared.CapabilityInformation.{CapabilityInformation}
use Rattle.discovery.specs.Discovery.{short_addressed}
use Rattle.management.specs.declared.RejoinNetwork.{RejoinNetwork}
use Rattle.management.specs.declared.NlmeJoinRequest.{NlmeJoinRequest}
use Rattle.management.specs.declared.NlmeJoinStatus.{NlmeJoinStatus}
use Rattle.management.specs.declared.PollAnswer.{PollAnswer}
use Rattle.nlme.specs.declared.Nlme.{Nlme}
use Rattle.nlme.specs.Received.{handled}
use Rattle.nlme.specs.declared.received.Then.{Then}
use Rattle.operation.specs.declared.ReceptionFor.{ReceptionFor}
use Rattle.operation.specs.declared.ScanFor.{ScanFor}
use Rattle.operation.specs.declared.TransmissionFor.{TransmissionFor}
use Rattle.operation.specs.declared.Leaving.{Leaving}
use Rattle.operation.specs.declared.Phase.{Phase}
use Rattle.operation.specs.declared.Control.{Control}
use Rattle.operation.specs.declared.RadioRequest.{RadioRequest}
use Rattle.operation.specs.declared.Step.{Step}
use Rattle.operation.specs.declared.Move.{Move}
use Rattle.operation.specs.declared.Decision.{Decision}
use Rattle.operation.specs.Operation.{with_nlme, is_idle, scan_for, association_for, transmission_for, reception_for, telling, asking}
use Rattle.join.specs.Join.{failing, associating, reset_negotiation, store_capabilities, join_started}
use Rattle.join.specs.Rejoin.{invalid, trying, try_remembered, begun, rejoin_started}
use Rattle.node.specs.Looks.{with_table, entries, parent, next, broadcast, moved, potential_cleared, deciding_with, deciding}
use Rattle.node.specs.Refusals.{refuse, bad, outcome}
use Rattle.node.specs.Calls.{with_chosen, associate, join_by, scan_failed, with_scan, scan_heard, scan_decided, association_decided, continuing, go_on, with_node, table_changed, after_frame, heard_on, reception_decided, after_leave, transmission_decided, Call, discovery, join, send, poll, receive, timeout, scan, association, transmission, reception, elapsed, take_leave, take_status, made, answer}
use Rattle.node.specs.declared.State.{State}
use Rattle.node.specs.declared.Answer.{Answer}
use Rattle.rejoin_bound.specs.Bound.{for_rejoin, in_rejoin, is_outcome, is_refused, is_accepted, outcomes, RejoinBound}
use Rattle.rejoin_bound.proofs.Measure.{still, weight, measure, potential, potential-le, rest-false, either, Drops, drops, failing-drops, scan_or_end-drops, try_next-drops, answered_by-drops, request_sent-drops}
use Rattle.nib.specs.declared.NwkNeighbor.{NwkNeighbor}
use Rattle.discovery.specs.declared.mlme.MacError.{MacError}
use Rattle.join.specs.declared.association.AssociationResponse.{AssociationResponse}
use Rattle.management.specs.declared.frame.ReceivedFrame.{ReceivedFrame}
use Rattle.discovery.specs.declared.mlme.PanDescriptorList.{PanDescriptorList}
use Rattle.nib.specs.declared.ShortAddress.{ShortAddress}
use Rattle.operation.specs.declared.Refusal.{Refusal}
use Rattle.operation.specs.declared.Refusal.TheVariants.{OperationUnderWay, NotAwaited, TooManyDescriptors, TooManyShortAddressed, BadState}

and-false : (b : Bool) → (b && false) ≡ false
and-false true = refl
and-false false = refl

-- CALLS

-- the phases of a rejoin
data Rejoining : Phase → Type 0 where
  scanning : Rejoining (Phase.Scan ScanFor.Rejoin)
  sending : Rejoining (Phase.Transmission TransmissionFor.RejoinRequest)
  leaving : (rejoin : Bool) → Rejoining (Phase.Transmission (TransmissionFor.Leave (record { purpose = ReceptionFor.RejoinResponse; rejoin = rejoin })))
  polling : Rejoining (Phase.Reception ReceptionFor.RejoinResponse)

leave-rejoining : (u : ReceptionFor) (rejoin : Bool) → for_rejoin u ≡ true → Rejoining (Phase.Transmission (TransmissionFor.Leave (record { purpose = u; rejoin = rejoin })))
leave-rejoining ReceptionFor.RejoinResponse rejoin h = leaving rejoin
leave-rejoining ReceptionFor.SinglePoll rejoin h = absurd (false≢true h)
leave-rejoining ReceptionFor.SingleReceive rejoin h = absurd (false≢true h)
leave-rejoining (ReceptionFor.TimeoutResponse u) rejoin h = absurd (false≢true h)

rejoining : (p : Phase) → in_rejoin p ≡ true → Rejoining p
rejoining Phase.Idle h = absurd (false≢true h)
rejoining (Phase.Scan ScanFor.Discovery) h = absurd (false≢true h)
rejoining (Phase.Scan ScanFor.Rejoin) h = scanning
rejoining Phase.Association h = absurd (false≢true h)
rejoining (Phase.Transmission TransmissionFor.RejoinRequest) h = sending
rejoining (Phase.Transmission TransmissionFor.Data) h = absurd (false≢true h)
rejoining (Phase.Transmission (TransmissionFor.TimeoutRequest u)) h = absurd (false≢true h)
rejoining (Phase.Transmission (TransmissionFor.Leave l)) h = leave-rejoining l.purpose l.rejoin h
rejoining (Phase.Reception ReceptionFor.RejoinResponse) h = polling
rejoining (Phase.Reception ReceptionFor.SinglePoll) h = absurd (false≢true h)
rejoining (Phase.Reception ReceptionFor.SingleReceive) h = absurd (false≢true h)
rejoining (Phase.Reception (ReceptionFor.TimeoutResponse u)) h = absurd (false≢true h)

-- a call, counted if it is an accepted outcome, and what its answer leaves are within m
record Within (m : ℕ) (c : Call) (a : Answer) : Type 0 where
  fits : cond (is_accepted c a) 1 0 + potential a.state ≤ m

spent : {m : ℕ} (c : Call) (a : Answer) → suc (potential a.state) ≤ m → Within m c a
spent {m} c a h = record { fits = either (λ (k : ℕ). k + potential a.state ≤ m) (is_accepted c a) (λ _. omega arith) (λ _. omega arith) }

carried : {m : ℕ} (c : Call) (reset : Bool) (s : State) (d : Decision) → Drops m s d → Within m c (deciding_with reset s d)
unfolding deciding_with
carried c reset s d h = spent c (deciding_with reset s d) h.fits

-- what is no accepted outcome is not counted
uncounted : {m : ℕ} (c : Call) (a : Answer) → is_accepted c a ≡ false → potential a.state ≤ m → Within m c a
uncounted {m} c a q h = record { fits = subst (λ (b : Bool). cond b 1 0 + potential a.state ≤ m) (sym q) (omega arith) }

refused : {m : ℕ} (c : Call) (k : Refusal) (s : State) → potential s ≤ m → Within m c (refuse k s)
unfolding refuse
refused c k s h = uncounted c (refuse k s) refl h

-- refusal 5
guarded : (c : Call) (s : State) (a : Answer) → Within (measure s) c a → Within (potential s) c (cond (bad s) (refuse BadState s) a)
unfolding potential
guarded c s a h = go (bad s) refl
  where
    go : (b : Bool) → bad s ≡ b → Within (cond b 0 (measure s)) c (cond b (refuse BadState s) a)
    go true q = refused c BadState s (rw q zero-le)
    go false q = h

module _ (s : State) where
  -- a refusal in phase p, which is the state's
  turned_down : (c : Call) (k : Refusal) (p : Phase) → p ≡ s.control.operation.phase → Within (weight p s) c (refuse k s)
  turned_down c k p q = subst (λ (x : Phase). Within (weight x s) c (refuse k s)) (sym q) (refused c k s (potential-le s))

  -- the polls go on
  go_on-within : {m : ℕ} (c : Call) (reset : Bool) (a : PollAnswer) → suc (still s s.control.operation) ≤ m → Within m c (go_on reset ReceptionFor.RejoinResponse a s)
  unfolding continuing
  go_on-within c reset a h = carried c reset s _ (answered_by-drops s _ (parent s) s.control h)

  after-within : {m : ℕ} (c : Call) (t : Then) → suc (suc (still s s.control.operation)) ≤ m → Within m c (after_frame ReceptionFor.RejoinResponse t s)
  unfolding after_frame deciding_with moved potential_cleared
  after-within c (Then.Over a) h = go_on-within c false a (omega arith)
  after-within c (Then.Announce a) h =
      let l : Leaving = record { purpose = ReceptionFor.RejoinResponse; rejoin = a.rejoin } in
      carried c false s _ (drops s (asking (Phase.Transmission (TransmissionFor.Leave l)) (RadioRequest.Transmit a.transmission) s.control) (omega arith))

changed-within : {m : ℕ} (c : Call) (s : State) (t : Option ShortAddress) (u : Then) → suc (suc (still s s.control.operation)) ≤ m
    → Within m c (after_frame ReceptionFor.RejoinResponse u (table_changed t s))
unfolding table_changed
changed-within c s None u h = after-within s c u h
changed-within c s (Some a) u h = after-within (with_table (table_of (retained a.0 (entries s))) s) c u h

left-within : {m : ℕ} (c : Call) (s : State) (rejoin : Bool) → suc (still s s.control.operation) ≤ m
    → Within m c (go_on (not rejoin) ReceptionFor.RejoinResponse PollAnswer.PollNothing (after_leave rejoin s))
unfolding after_leave
left-within c s true h = go_on-within (after_leave true s) c false _ h
left-within c s false h = go_on-within (after_leave false s) c true _ h

module _ (s : State) where
  received-within : (o : Result (Option ReceivedFrame) MacError) (t : ℕ)
      → Within (weight (Phase.Reception ReceptionFor.RejoinResponse) s) (reception o t) (reception_decided o t ReceptionFor.RejoinResponse s)
  unfolding reception_decided
  received-within (Ok None) t = go_on-within s _ false _ (omega arith)
  received-within (Err e) t = go_on-within s _ false _ (omega arith)
  received-within (Ok (Some f)) t =
      let h = handled (parent (heard_on f t s)) (broadcast (heard_on f t s)) f s.control.nlme in
      changed-within (reception (Ok (Some f)) t) (with_node h.nlme (heard_on f t s)) h.removed h.then (omega arith)

  scanned-within : (o : Result PanDescriptorList MacError) (t : ℕ) → Phase.Scan ScanFor.Rejoin ≡ s.control.operation.phase
      → Within (weight (Phase.Scan ScanFor.Rejoin) s) (scan o t) (scan_decided o t ScanFor.Rejoin s)
  unfolding scan_decided scan_failed scan_heard with_scan with_chosen
  scanned-within (Err e) t q = carried (scan (Err e) t) false s _ (failing-drops s _ s.control (omega arith))
  scanned-within (Ok l) t q =
      let c = scan (Ok l) t in
      let ds = descriptors_of l in
      let z = with_chosen false s.control.operation.extended_pan_id.0 s.control.nlme.nib.capability_information (with_scan t ds s) in
      either (Within _ c) (ltb 27 l.count) (λ _. turned_down s c TooManyDescriptors (Phase.Scan ScanFor.Rejoin) q)
      (λ _. either (Within _ c) (ltb 16 (short_addressed ds)) (λ _. turned_down s c TooManyShortAddressed (Phase.Scan ScanFor.Rejoin) q)
      (λ _. carried c false z _ (try_next-drops z _ (next z) s.control refl (omega arith) (λ _. omega arith))))

  -- each call in a phase of a rejoin, which is the state's: a start and the outcome of an association are refused
  start-within : (c : Call) (a : Answer) {p : Phase} → Rejoining p → p ≡ s.control.operation.phase → Within (weight p s) c (cond (is_idle p) a (refuse OperationUnderWay s))
  start-within c a scanning q = turned_down s c OperationUnderWay _ q
  start-within c a sending q = turned_down s c OperationUnderWay _ q
  start-within c a (leaving rejoin) q = turned_down s c OperationUnderWay _ q
  start-within c a polling q = turned_down s c OperationUnderWay _ q

  scan-within : (o : Result PanDescriptorList MacError) (t : ℕ) {p : Phase} → Rejoining p → p ≡ s.control.operation.phase
      → Within (weight p s) (scan o t) (outcome (scan_for p) (scan_decided o t) s)
  unfolding outcome
  scan-within o t scanning q = scanned-within o t q
  scan-within o t sending q = turned_down s (scan o t) NotAwaited _ q
  scan-within o t (leaving rejoin) q = turned_down s (scan o t) NotAwaited _ q
  scan-within o t polling q = turned_down s (scan o t) NotAwaited _ q

  association-within : (o : Result AssociationResponse MacError) {p : Phase} → Rejoining p → p ≡ s.control.operation.phase
      → Within (weight p s) (association o) (outcome (association_for p) (association_decided o) s)
  unfolding outcome
  association-within o scanning q = turned_down s (association o) NotAwaited _ q
  association-within o sending q = turned_down s (association o) NotAwaited _ q
  association-within o (leaving rejoin) q = turned_down s (association o) NotAwaited _ q
  association-within o polling q = turned_down s (association o) NotAwaited _ q

  transmission-within : (ok : Bool) {p : Phase} → Rejoining p → p ≡ s.control.operation.phase
      → Within (weight p s) (transmission ok) (outcome (transmission_for p) (transmission_decided ok) s)
  unfolding outcome transmission_decided
  transmission-within ok scanning q = turned_down s (transmission ok) NotAwaited _ q
  transmission-within ok sending q = carried (transmission ok) false s _ (request_sent-drops s ok (parent s) s.control (omega arith))
  transmission-within ok (leaving rejoin) q = left-within (transmission ok) s rejoin (omega arith)
  transmission-within ok polling q = turned_down s (transmission ok) NotAwaited _ q

  reception-within : (o : Result (Option ReceivedFrame) MacError) (t : ℕ) {p : Phase} → Rejoining p → p ≡ s.control.operation.phase
      → Within (weight p s) (reception o t) (outcome (reception_for p) (reception_decided o t) s)
  unfolding outcome
  reception-within o t scanning q = turned_down s (reception o t) NotAwaited _ q
  reception-within o t sending q = turned_down s (reception o t) NotAwaited _ q
  reception-within o t (leaving rejoin) q = turned_down s (reception o t) NotAwaited _ q
  reception-within o t polling q = received-within o t

  -- a tick or a taking changes the node's own part only
  told : (c : Call) (x : Step) (n : Nlme) → is_outcome c ≡ false → Within (measure s) c (deciding s (telling x (with_nlme n s.control)))
  unfolding deciding_with moved potential_cleared
  told c x n q = uncounted c _ (ap (λ (b : Bool). not (is_refused x) && b) q ∙ and-false (not (is_refused x))) (potential-le (with_node n s))

  module _ (r : Rejoining s.control.operation.phase) where
    made-within : (c : Call) → Within (measure s) c (made s c)
    made-within (discovery x) = start-within _ _ r refl
    made-within (join x) = start-within _ _ r refl
    made-within (send x y) = start-within _ _ r refl
    made-within poll = start-within _ _ r refl
    made-within receive = start-within _ _ r refl
    made-within (timeout x) = start-within _ _ r refl
    made-within (scan o t) = scan-within o t r refl
    made-within (association o) = association-within o r refl
    made-within (transmission ok) = transmission-within ok r refl
    made-within (reception o t) = reception-within o t r refl
    made-within (elapsed ms) = told _ _ _ refl
    made-within take_leave = told _ _ _ refl
    made-within take_status = told _ _ _ refl

    within : (c : Call) → Within (potential s) c (answer s c)
    unfolding answer
    within c = guarded c s (made s c) (made-within c)

-- THE LIST

at_most : (s : State) (cs : List Call) → outcomes s cs ≤ potential s
at_most s [] = zero-le
at_most s (c ∷ cs) = go (in_rejoin s.control.operation.phase) refl (at_most (answer s c).state cs)
  where
    go : (b : Bool) → in_rejoin s.control.operation.phase ≡ b → outcomes (answer s c).state cs ≤ potential (answer s c).state
        → cond b (cond (is_accepted c (answer s c)) 1 0 + outcomes (answer s c).state cs) 0 ≤ potential s
    go true q h = omega (arith, (within s (rejoining _ q) c).fits)
    go false q h = zero-le

-- THE START

record Starts (a : Answer) : Type 0 where
  fits : potential a.state ≤ 698

starts : (s : State) (d : Decision) → Drops 699 s d → Starts (deciding_with false s d)
starts s d h = record { fits = omega (arith, h.fits) }

try_remembered-drops : (s : State) (parent : Option NwkNeighbor) (c : Control) → c.operation.scan_requested ≡ false → Drops 699 s (try_remembered parent c)
unfolding try_remembered trying deciding_with moved potential_cleared
try_remembered-drops s None c q = scan_or_end-drops s NlmeJoinStatus.InvalidRequest c (omega arith)
try_remembered-drops s (Some p) c q = drops s (trying Move.Stay None p c) (omega (arith, rest-false c.operation.scan_requested s.candidates.taken q))

rejoin_started-drops : (s : State) (r : NlmeJoinRequest) (parent : Option NwkNeighbor) (c : Control) → Drops 699 s (rejoin_started r parent c)
unfolding rejoin_started
rejoin_started-drops s r parent c =
    either (Drops 699 s) (invalid r c.nlme) (λ _. failing-drops s NlmeJoinStatus.InvalidRequest c (omega arith)) (λ _. try_remembered-drops s parent (begun r c) refl)

join_started-drops : (s : State) (i : CapabilityInformation) (next : Option NwkNeighbor) (c : Control) → Drops 699 s (join_started i next c)
unfolding join_started associating deciding_with moved potential_cleared
join_started-drops s i None c = failing-drops s NlmeJoinStatus.NotPermitted (reset_negotiation c) (omega arith)
join_started-drops s i (Some e) c = drops s (associating e (store_capabilities i (reset_negotiation c))) (omega arith)

invalid-starts : (s : State) → Starts (deciding s (failing NlmeJoinStatus.InvalidRequest s.control))
invalid-starts s = starts s _ (failing-drops s NlmeJoinStatus.InvalidRequest s.control (omega arith))

join_by-starts : (k : RejoinNetwork) (r : NlmeJoinRequest) (s : State) → Starts (join_by k r s)
unfolding join_by associate with_chosen
join_by-starts RejoinNetwork.Association r s =
    either Starts (eqb s.control.nlme.nib.network_address.0 0xffff)
    (λ _. let t = with_chosen true r.extended_pan_id.0 r.capability_information s in
    starts t _ (join_started-drops t r.capability_information (next t) s.control))
    (λ _. invalid-starts s)
join_by-starts RejoinNetwork.Orphan r s = invalid-starts s
join_by-starts RejoinNetwork.NwkRejoin r s = starts s _ (rejoin_started-drops s r (parent s) s.control)
join_by-starts RejoinNetwork.ChannelChange r s = invalid-starts s

started : (s : State) → s.control.operation.phase ≡ Phase.Idle → (r : NlmeJoinRequest) → Starts (answer s (join r))
unfolding answer refuse potential
started s idle r =
    either Starts (bad s) (λ q. record { fits = rw q zero-le })
    (λ _. either Starts (is_idle s.control.operation.phase) (λ _. join_by-starts r.rejoin_network r s) (λ q. absurd (false≢true (sym q ∙ ap is_idle idle))))

pub rejoin-bound : RejoinBound
rejoin-bound s idle r cs = omega (arith, at_most (answer s (join r)).state cs, (started s idle r).fits)
