-- A call gets its step, or the refusal that 01 gives it. Assumes nothing.
use Rattle.std.specs.Prelude.{Option, Some, None, Result, Ok, Err, is_ok}
use Prim.Native.Nat.{ℕ, ◌<◌}
use mathlib.Core.Path.{◌≡◌, refl, sym, ap, subst, subst⁻¹, ◌∙◌}
use mathlib.Core.Bool.{Bool, true, false, cond, false≢true}
use mathlib.Core.List.{List, [], ◌∷◌}
use mathlib.Core.Logic.{◌⊎◌, inl, inr, ⊎_elim, ◌↔◌}
use lib.Dec.{eqb}
use lib.ListN.{length}
use Rattle.lists.proofs.Conditions.{by_cases}
use Rattle.discovery.specs.Mlme.{descriptors_of}
use Rattle.discovery.specs.Discovery.{short_addressed}
use Rattle.management.specs.declared.RejoinNetwork.{RejoinNetwork}
use Rattle.management.specs.declared.NlmeJoinRequest.{NlmeJoinRequest}
use Rattle.management.specs.declared.PollAnswer.{PollAnswer}
use Rattle.nlme.specs.declared.received.Then.{Then}
use Rattle.supervision.specs.declared.parent_timer.ParentTimer.{ParentTimer}
use Rattle.operation.specs.Operation.{refusal_number, telling, scan_for, association_for, transmission_for, reception_for}
use Rattle.operation.specs.declared.ReceptionFor.{ReceptionFor}
use Rattle.operation.specs.declared.ScanFor.{ScanFor}
use Rattle.operation.specs.declared.TransmissionFor.{TransmissionFor}
use Rattle.operation.specs.declared.Phase.{Phase}
use Rattle.operation.specs.declared.Step.{Step}
use Rattle.operation.specs.declared.Decision.{Decision}
use Rattle.exchange.specs.Exchange.{receive_started}
use Rattle.neighbor_page.specs.Page.{too_short, written}
use Rattle.node.specs.Looks.{potential_cleared, moved, deciding_with, deciding}
use Rattle.node.specs.Refusals.{refuse, bad, start, outcome}
use Rattle.node.specs.Calls.{associate, join_by, scan_failed, scan_heard, scan_decided, go_on, after_frame, reception_decided, after_leave, transmission_decided, Call, discovery, join, send, poll, receive, timeout, scan, association, transmission, reception, elapsed, take_leave, take_status, made, answer, confirm_by, scanned, choose, refresh, page_answer, page_left}
use Rattle.node.specs.declared.State.{State}
use Rattle.node.specs.declared.Answer.{Answer}
use Rattle.lent_tick.specs.LentTick.{with_parent_timer, lent_turned_down, with_record, lent_tick}
use Rattle.lent_tick.specs.declared.LentTicked.{LentTicked}
use Rattle.refusals.specs.Statement.{phase, Bad, UnderWay, Above27, Above16, numbers, First, TurnedDown, RefusedBy, Unchosen, Demand1}
use Rattle.refusals.proofs.Conditions.{Tells, holds, fails, Told, awaits, awaits-none, same-told, above-told, bad-told, idle-told, scan-told, association-told, transmission-told, reception-told, shorts-are}
use Rattle.refusals.proofs.Moves.{forth-refused, back-refused}
use Rattle.refusals.proofs.Decisions.{Uses, join-made, associated-made, rejoin-made, next-made, request-made, send-made, sent-made, poll_started-made, timeout-made, timeout_sent-made, continuing-made}
use Rattle.discovery.specs.declared.mlme.MacError.{MacError}
use Rattle.management.specs.declared.frame.ReceivedFrame.{ReceivedFrame}
use Rattle.discovery.specs.declared.mlme.PanDescriptorList.{PanDescriptorList}
use Rattle.operation.specs.declared.Refusal.{Refusal}
use Rattle.candidates.specs.declared.CandidateList.{CandidateList}
use Rattle.operation.specs.declared.Refusal.TheVariants.{OperationUnderWay, NotAwaited, TooManyDescriptors, TooManyShortAddressed, BadState, ShortPage}

-- an answer whose step is made, and uses the polls that it requests
abbrev Done : Answer → Type 0
Done a = Uses a.step a.polls_used

-- an answer with numbered conditions: the refusal of the first that holds; where none does, its step is made
pub data Gets (s : State) (a : Answer) : List (ℕ × Type 0) → Type 1 where
  done : Done a → Gets s a []
  turned : {k : ℕ} {C : Type 0} {cs : List (ℕ × Type 0)} (r : Refusal) → refusal_number r ≡ k → C → a ≡ refuse r s → Gets s a ((k, C) ∷ cs)
  passed : {k : ℕ} {C : Type 0} {cs : List (ℕ × Type 0)} → (C → ⊥) → Gets s a cs → Gets s a ((k, C) ∷ cs)

-- one condition more, by its test or by what is awaited
tested : {s : State} {b : Bool} {k : ℕ} {C : Type 0} {cs : List (ℕ × Type 0)} {a : Answer} (r : Refusal) → refusal_number r ≡ k → Tells C b → Gets s a cs → Gets s (cond b (refuse r s) a) ((k, C) ∷ cs)
tested r q (holds h) g = turned r q h refl
tested r q (fails h) g = passed h g

outcome-made : {A : Type 0} (s : State) (w : Option A) (f : A → State → Answer) {C : Type 0} {cs : List (ℕ × Type 0)} → Told C w → ((u : A) → Gets s (f u s) cs)
    → Gets s (outcome w f s) ((2, C) ∷ cs)
unfolding outcome
outcome-made s (Some u) f (awaits h) g = passed h (g u)
outcome-made s None f (awaits-none h) g = turned NotAwaited refl h refl

start-made : (s : State) (a : Answer) → Done a → Gets s (start a s) ((1, UnderWay s) ∷ [])
start-made s a h = go (idle-told (phase s))
  where
    go : {b : Bool} → Tells (phase s ≡ Phase.Idle) b → Gets s (cond b a (refuse OperationUnderWay s)) ((1, UnderWay s) ∷ [])
    go (holds i) = passed (λ (n : UnderWay s). n i) (done h)
    go (fails i) = turned OperationUnderWay refl i refl

carried : (reset : Bool) (s : State) (d : Decision) → Uses d.step d.polls_used → Done (deciding_with reset s d)
unfolding deciding_with
carried reset s d h = h

-- STARTS

associate-made : (r : NlmeJoinRequest) (s : State) → Done (associate r s)
unfolding associate
associate-made r s = by_cases Done (eqb s.control.nlme.nib.network_address.0 0xffff) (λ _. carried false _ _ (join-made _ _ _).0) (carried false s _ refl)

join_by-made : (k : RejoinNetwork) (r : NlmeJoinRequest) (s : State) → Done (join_by k r s)
unfolding join_by
join_by-made RejoinNetwork.Association r s = associate-made r s
join_by-made RejoinNetwork.Orphan r s = carried false s _ refl
join_by-made RejoinNetwork.NwkRejoin r s = carried false s _ (rejoin-made r _ _).0
join_by-made RejoinNetwork.ChannelChange r s = carried false s _ refl

-- OUTCOMES

-- a scan
scan_failed-made : (u : ScanFor) (s : State) → Done (scan_failed u s)
unfolding scan_failed
scan_failed-made ScanFor.Discovery s = carried false s _ refl
scan_failed-made ScanFor.Rejoin s = carried false s _ refl

scan_heard-made : (u : ScanFor) (s : State) → Done (scan_heard u s)
unfolding scan_heard
scan_heard-made ScanFor.Discovery s = carried false s _ refl
scan_heard-made ScanFor.Rejoin s = carried false _ _ (next-made _ _ _).0

scan-made : (o : Result PanDescriptorList MacError) (t : ℕ) (s : State) (u : ScanFor) → Gets s (scan_decided o t u s) ((3, Above27 o) ∷ (4, Above16 o) ∷ [])
unfolding scan_decided
scan-made (Err e) t s u = passed (λ (h : ⊥). h) (passed (λ (h : ⊥). h) (done (scan_failed-made u s)))
scan-made (Ok l) t s u =
    tested TooManyDescriptors refl (above-told 27 l.count)
    (tested TooManyShortAddressed refl
    (same-told (λ h. subst⁻¹ (λ (n : ℕ). 16 < n) (shorts-are (descriptors_of l)) h) (λ h. subst (λ (n : ℕ). 16 < n) (shorts-are (descriptors_of l)) h) (above-told 16 (short_addressed (descriptors_of l))))
    (done (scan_heard-made u _)))

-- a poll or a receive
go_on-made : (reset : Bool) (u : ReceptionFor) (a : PollAnswer) (s : State) → Done (go_on reset u a s)
go_on-made reset u a s = carried reset s _ (continuing-made u a _ _ _).0

after-made : (u : ReceptionFor) (t : Then) (s : State) → Done (after_frame u t s)
unfolding after_frame
after-made u (Then.Over a) s = go_on-made false u a s
after-made u (Then.Announce a) s = carried false s _ refl

reception-made : (o : Result (Option ReceivedFrame) MacError) (t : ℕ) (s : State) (u : ReceptionFor) → Done (reception_decided o t u s)
unfolding reception_decided
reception-made (Ok None) t s u = go_on-made false u _ s
reception-made (Err e) t s u = go_on-made false u _ s
reception-made (Ok (Some f)) t s u = after-made u _ _

-- a transmission
transmission-made : (ok : Bool) (s : State) (u : TransmissionFor) → Done (transmission_decided ok u s)
unfolding transmission_decided
transmission-made ok s TransmissionFor.RejoinRequest = carried false s _ (request-made ok _ _ _).0
transmission-made ok s TransmissionFor.Data = carried false s _ (sent-made ok _ _).0
transmission-made ok s (TransmissionFor.TimeoutRequest u) = carried false s _ (timeout_sent-made u ok _ _).0
transmission-made ok s (TransmissionFor.Leave l) = go_on-made _ l.purpose _ (after_leave l.rejoin s)

-- EVERY CALL

pub answer-made : (s : State) (c : Call) → Gets s (answer s c) (numbers s c)
unfolding answer receive_started
answer-made s (discovery r) = tested BadState refl (bad-told s) (start-made s _ (carried false s _ refl))
answer-made s (join r) = tested BadState refl (bad-told s) (start-made s _ (join_by-made _ r s))
answer-made s (send d secure) = tested BadState refl (bad-told s) (start-made s _ (carried false s _ (send-made d secure _ _).0))
answer-made s poll = tested BadState refl (bad-told s) (start-made s _ (carried false s _ (poll_started-made _ _).0))
answer-made s receive = tested BadState refl (bad-told s) (start-made s _ (carried false s _ refl))
answer-made s (timeout u) = tested BadState refl (bad-told s) (start-made s _ (carried false s _ (timeout-made u _ _).0))
answer-made s (scan o t) = tested BadState refl (bad-told s) (outcome-made s (scan_for (phase s)) _ (scan-told (phase s)) (scan-made o t s))
answer-made s (association o) = tested BadState refl (bad-told s) (outcome-made s (association_for (phase s)) _ (association-told (phase s)) (λ _. done (carried false s _ (associated-made o _ _ _).0)))
answer-made s (transmission ok) = tested BadState refl (bad-told s) (outcome-made s (transmission_for (phase s)) _ (transmission-told (phase s)) (λ u. done (transmission-made ok s u)))
answer-made s (reception o t) = tested BadState refl (bad-told s) (outcome-made s (reception_for (phase s)) _ (reception-told (phase s)) (λ u. done (reception-made o t s u)))
answer-made s (elapsed ms) = tested BadState refl (bad-told s) (done (carried false s _ refl))
answer-made s take_leave = tested BadState refl (bad-told s) (done (carried false s _ refl))
answer-made s take_status = tested BadState refl (bad-told s) (done (carried false s _ refl))

lent-made : (t : ParentTimer) (ms : ℕ) (s : State) → Gets s (lent_tick t ms s).answer ((5, Bad s) ∷ [])
unfolding lent_tick answer bad
lent-made t ms s = go (bad-told s)
  where
    go : {b : Bool} → Tells (Bad s) b
        → Gets s (cond b (lent_turned_down t s) (with_record (cond b (refuse BadState (with_parent_timer t s)) (made (with_parent_timer t s) (elapsed ms))))).answer ((5, Bad s) ∷ [])
    go (holds h) = turned BadState refl h refl
    go (fails h) = passed h (done (carried false (with_parent_timer t s) _ refl))

pub refresh-made : (s : State) → Gets s (refresh s) ((5, Bad s) ∷ [])
unfolding refresh
refresh-made s = tested BadState refl (bad-told s) (done (carried false s _ refl))

-- the neighbour page
page-made : (n : ℕ) (s : State) → Gets s (page_answer n s) ((5, Bad s) ∷ (6, n < 816) ∷ [])
unfolding page_answer
page-made n s = tested BadState refl (bad-told s) (tested ShortPage refl (above-told n 816) (done (carried false s _ refl)))

page-kept : (b : List ℕ) (s : State) → Bad s ⊎ (length b < 816) → page_left b s ≡ b
unfolding page_left written
page-kept b s h = go (bad-told s) (above-told (length b) 816) _
  where
    go : {t u : Bool} → Tells (Bad s) t → Tells (length b < 816) u → (x : List ℕ) → cond t b (cond u b x) ≡ b
    go (holds p) q x = refl
    go (fails p) (holds q) x = refl
    go (fails p) (fails q) x = absurd (⊎_elim p q h)

page-reads : (n : ℕ) (s : State) → (page_answer n s).state ≡ s
unfolding page_answer deciding_with refuse potential_cleared moved
page-reads n s = go (bad s) (too_short n)
  where
    go : (b t : Bool) → (cond b (refuse BadState s) (cond t (refuse ShortPage s) (deciding s (telling Step.PageWritten s.control)))).state ≡ s
    go true t = refl
    go false true = refl
    go false false = refl

-- THE STATEMENT

-- the number of the refusal that a step says
abbrev number_of : Step → ℕ
number_of (Step.Refused r) = refusal_number r
number_of (Step.Ask r) = 0
number_of Step.Discovered = 0
number_of Step.DiscoveryFailed = 0
number_of (Step.Joined x) = 0
number_of (Step.Sent x) = 0
number_of (Step.Polled x) = 0
number_of (Step.NegotiationOver x) = 0
number_of (Step.KeepaliveOver x) = 0
number_of (Step.Expired x) = 0
number_of (Step.LeaveTaken x) = 0
number_of (Step.StatusTaken x) = 0
number_of Step.PageWritten = 0
number_of Step.Done = 0

turned_down : (s : State) (a : Answer) (k : ℕ) (r : Refusal) → refusal_number r ≡ k → a ≡ refuse r s → TurnedDown k s a
unfolding refuse
turned_down s a k r q e =
    subst⁻¹ (λ (x : Answer). TurnedDown k s x) e (record { refusal = r; number = q; state = refl; step = refl; note = refl; reset = refl; polls = refl })

given : {s : State} {a : Answer} {cs : List (ℕ × Type 0)} → Gets s a cs → (k : ℕ) → First k cs → TurnedDown k s a
given (done h) k f = absurd f
given (turned r q h e) k (inl f) = turned_down _ _ k r (q ∙ f.0) e
given (turned r q h e) k (inr f) = absurd (f.0 h)
given (passed n g) k (inl f) = absurd (n f.1)
given (passed n g) k (inr f) = given g k f.1

only : {s : State} {a : Answer} {cs : List (ℕ × Type 0)} → Gets s a cs → (k : Refusal) → a.step ≡ Step.Refused k → First (refusal_number k) cs
unfolding refuse
only {a = a} (done h) k e = subst (λ (x : Step). Uses x a.polls_used) e h
only (turned r n h q) k e = inl (sym n ∙ sym (ap (λ (x : Answer). number_of x.step) q) ∙ ap number_of e, h)
only (passed n g) k e = inr (n, only g k e)

by-numbers : {s : State} {a : Answer} {cs : List (ℕ × Type 0)} → Gets s a cs → RefusedBy s cs a
by-numbers g = record { given = given g; only = only g }

kept : (t : ParentTimer) (ms : ℕ) (s : State) → Bad s → (lent_tick t ms s).timer ≡ t
unfolding lent_tick
kept t ms s h = go (bad-told s) _
  where
    go : {b : Bool} → Tells (Bad s) b → (l : LentTicked) → (cond b (lent_turned_down t s) l).timer ≡ t
    go (holds b) l = refl
    go (fails b) l = absurd (b h)

choice : (n : ℕ) (router permit : Bool) (s : State) → (Unchosen 5 (choose n router permit s) ↔ Bad s) × ((is_ok (choose n router permit s) ≡ true) ↔ (Bad s → ⊥))
unfolding choose
choice n router permit s = go (bad-told s) _
  where
    go : {b : Bool} → Tells (Bad s) b → (l : CandidateList)
        → (Unchosen 5 (cond b (Err BadState) (Ok l)) ↔ Bad s) × ((is_ok (cond b (Err BadState) (Ok l)) ≡ true) ↔ (Bad s → ⊥))
    go (holds h) l = ((λ _. h, λ _. refl), (λ e. absurd (false≢true e), λ n. absurd (n h)))
    go (fails h) l = ((λ e. absurd e, λ b. absurd (h b)), (λ _. h, λ _. refl))

-- a refusal hands out no confirm
unconfirmed : (r : Refusal) (o : Result PanDescriptorList MacError) → confirm_by (Step.Refused r) o ≡ None
unconfirmed r (Err e) = refl
unconfirmed r (Ok l) = refl

pub demand-1 : Demand1
unfolding scanned
demand-1 =
    record {
      numbered = refl;
      answered = λ s c. by-numbers (answer-made s c);
      confirmed = λ s o t. by-numbers (answer-made s (scan o t));
      unconfirmed = λ s o t r e. ap (λ (x : Step). confirm_by x o) e ∙ unconfirmed r o;
      lent = λ t ms s. by-numbers (lent-made t ms s);
      refreshed = λ s. by-numbers (refresh-made s);
      record-kept = kept;
      choice = choice;
      page = λ b s. by-numbers (page-made (length b) s);
      page-kept = page-kept;
      page-reads = page-reads;
      moves-numbered = refl;
      forth = forth-refused;
      back = back-refused;
    }
