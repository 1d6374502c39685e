-- The relation between two nodes, and that every call keeps it and shows the same. Assumes nothing.
-- Two tables are never compared: each law of Sight.antt and States.antt is of one state.
-- It says that what a call looks at or writes is a function of what network n sees.
use Rattle.std.specs.Prelude.{Some, None, Result, Ok, Err, Option}
use Prim.Native.Nat.{ℕ, ◌≤◌}
use mathlib.Core.Path.{◌≡◌, refl, sym, ap, ap₂, ◌∙◌, subst, subst⁻¹, subst₂}
use mathlib.Core.Bool.{Bool, true, false}
use mathlib.Core.List.{List}
use borrow.Author.Tests.{lt-ltb, le-ltb, ltb-true, ltb-false}
use lib.Dec.{eqb, ltb}
use Rattle.lists.specs.Lists.{select}
use Rattle.lists.proofs.Conditions.{split, both-cases}
use Rattle.nib.specs.declared.CapabilityInformation.{CapabilityInformation}
use Rattle.nib.specs.declared.NwkNeighbor.{NwkNeighbor}
use Rattle.nib.specs.NeighborTable.{parent_of}
use Rattle.nib.specs.Bits.{bit}
use Rattle.discovery.specs.Mlme.{descriptors_of}
use Rattle.discovery.specs.declared.mlme.PanDescriptor.{PanDescriptor}
use Rattle.discovery.specs.Discovery.{neighbors_of, short_addressed}
use Rattle.management.specs.declared.NlmeJoinStatus.{NlmeJoinStatus}
use Rattle.management.specs.declared.NlmeJoinRequest.{NlmeJoinRequest}
use Rattle.management.specs.declared.RejoinNetwork.{RejoinNetwork}
use Rattle.management.specs.declared.PollAnswer.{PollAnswer}
use Rattle.management.specs.Frame.{sender_of}
use Rattle.management.specs.declared.frame.ReceivedFrame.{ReceivedFrame}
use Rattle.nlme.specs.Nlme.{parent_address, nlme_ticked}
use Rattle.operation.specs.Operation.{with_nlme, is_idle, asking, ending, scan_for, association_for, transmission_for, reception_for}
use Rattle.operation.specs.declared.ReceptionFor.{ReceptionFor}
use Rattle.operation.specs.declared.ScanFor.{ScanFor}
use Rattle.operation.specs.declared.TransmissionFor.{TransmissionFor}
use Rattle.operation.specs.declared.Phase.{Phase}
use Rattle.operation.specs.declared.Control.{Control}
use Rattle.operation.specs.declared.RadioRequest.{RadioRequest}
use Rattle.operation.specs.declared.Step.{Step}
use Rattle.operation.specs.declared.Move.{Move}
use Rattle.operation.specs.declared.Decision.{Decision}
use Rattle.exchange.specs.Exchange.{tick_told, leave_taken, status_taken}
use Rattle.join.specs.Join.{join_started, associated}
use Rattle.join.specs.Rejoin.{rejoin_started, try_next, try_goes_on, request_sent}
use Rattle.node.specs.Looks.{with_control, entries, parent, tried, next, moved, potential_cleared, deciding_with, deciding}
use Rattle.node.specs.Refusals.{refuse, bad, start, outcome}
use Rattle.node.specs.Calls.{with_chosen, associate, join_by, scan_failed, with_scan, rejoin_among, scan_heard, scan_decided, association_decided, continuing, go_on, heard_on, reception_decided, transmission_decided, Call, discovery, join, send, poll, receive, timeout, scan, association, transmission, reception, elapsed, take_leave, take_status, made, answer}
use Rattle.node.specs.declared.State.{State}
use Rattle.node.specs.declared.Answer.{Answer}
use Rattle.two_nodes.specs.Statement.{shown, is_beacon_of, AlikeScan, failures, within, above-27, above-16, AlikeCall, same, scans, NoneUnderWay, Names, Allowed}
use Rattle.two_nodes.proofs.Sight.{shows, choice_in}
use Rattle.two_nodes.proofs.States.{Sight, sight, live_in, live, Tidy, Ours, tried_seen, next_seen, parent_in, tried-in, next-in, joins, written_in, written-sight, written-tidy, written_ours, chosen-sight, chosen-tidy, chosen-ours, heard-tidy, heard-list, heard_in, frame-sight, frame-tidy, frame-ours, bad_in, bad-is}
use Rattle.two_nodes.proofs.Decisions.{never, OnPurpose, OnSend, OnScan, OnPhase, On, OnD, ending-on, try_next-on, answered_by-on, request_sent-on, rejoin_started-on, join_started-on, associated-on, answered-unseen, request-unseen}
use Rattle.two_nodes.proofs.Frames.{Plain, plain_of, nlme_after, says, processed-is}
use Rattle.discovery.specs.declared.mlme.MacError.{MacError}
use Rattle.join.specs.declared.association.AssociationResponse.{AssociationResponse}
use Rattle.discovery.specs.declared.mlme.PanDescriptorList.{PanDescriptorList}
use Rattle.operation.specs.declared.Refusal.{Refusal}
use Rattle.operation.specs.declared.Refusal.TheVariants.{OperationUnderWay, NotAwaited, TooManyDescriptors, TooManyShortAddressed, BadState}

-- THE RELATION

-- all is equal but the table and the candidates. The tables are equal as far as network n sees them, as many candidates were taken, and the counts are in range
pub record Alike (n : ℕ) (s t : State) : Type 0 where
  pub control-same : s.control ≡ t.control
  pub list_same : shows n (entries s) ≡ shows n (entries t)
  pub taken-same : s.candidates.taken ≡ t.candidates.taken
  pub tidy-1 : Tidy s
  pub tidy-2 : Tidy t

-- the candidates are entries of the network, at the same places among its own
pub record Tries (n : ℕ) (s t : State) : Type 0 where
  pub places_same : (sight n s).places ≡ (sight n t).places
  pub ours-1 : Ours n s
  pub ours-2 : Ours n t

-- the states are alike, and so are the candidates while they are tried (any other operation leaves the indexes of an older one).
-- What is under way is of the network
pub record Near (n : ℕ) (s t : State) : Type 0 where
  pub alike : Alike n s t
  pub tries : live s.control ≡ true → Tries n s t
  pub on : On n s.control

pub record Good (n : ℕ) (a b : Answer) : Type 0 where
  pub states : Near n a.state b.state
  pub shown-same : shown a ≡ shown b

module _ (n : ℕ) {s t : State} (a : Alike n s t) where
  -- LOOKS

  alike-sight : Tries n s t → sight n s ≡ sight n t
  alike-sight c = λ i. record { list = a.list_same i; places = c.places_same i; taken = a.taken-same i }

  alike-parent : parent s ≡ parent t
  alike-parent = parent_in n s ∙ ap parent_of a.list_same ∙ sym (parent_in n t)

  alike-tried : Tries n s t → tried s ≡ tried t
  alike-tried c = tried-in n s c.ours-1 ∙ ap (tried_seen n) (alike-sight c) ∙ sym (tried-in n t c.ours-2)

  alike_next : Tries n s t → next s ≡ next t
  alike_next c = next-in n s c.ours-1 ∙ ap (next_seen n) (alike-sight c) ∙ sym (next-in n t c.ours-2)

  -- the control part is replaced
  alike-control : {c d : Control} → c ≡ d → Alike n (with_control c s) (with_control d t)
  alike-control e =
      record {
        control-same = e;
        list_same = a.list_same;
        taken-same = a.taken-same;
        tidy-1 = record { small = a.tidy-1.small; few = a.tidy-1.few };
        tidy-2 = record { small = a.tidy-2.small; few = a.tidy-2.few };
      }

tries-control : {n : ℕ} {s t : State} (c d : Control) → Tries n s t → Tries n (with_control c s) (with_control d t)
tries-control c d k = record { places_same = k.places_same; ours-1 = record { all = k.ours-1.all }; ours-2 = record { all = k.ours-2.all } }

module _ (n : ℕ) {s t : State} (r : Near n s t) where
  near-bad : bad s ≡ bad t
  near-bad =
      let a = r.alike in
      bad-is n s a.tidy-1 (λ h. (r.tries h).ours-1)
      ∙ ap₂ bad_in a.control-same a.taken-same
      ∙ sym (bad-is n t a.tidy-2 (λ h. (r.tries (ap live a.control-same ∙ h)).ours-2))

-- ANSWERS

module _ (n : ℕ) where
  good : {a b : Answer} → Near n a.state b.state → a.reset ≡ b.reset → a.note ≡ b.note → a.step ≡ b.step → a.polls_used ≡ b.polls_used → Good n a b
  unfolding shown
  good r p q u v =
      record {
        states = r;
        shown-same = λ i. record { control = r.alike.control-same i; parent = parent_address (alike-parent n r.alike i); reset = p i; note = q i; step = u i; polls = v i };
      }

  pub refuse-good : (k : Refusal) {s t : State} → Near n s t → Good n (refuse k s) (refuse k t)
  unfolding refuse
  refuse-good k r = good r refl refl refl refl

-- a decision that leaves the candidates
module _ (n : ℕ) {s t : State} (a : Alike n s t) where
  stays-near : {m : Move} {b : Bool} {c : Control} → m ≡ Move.Stay → b ≡ false → Near n (with_control c s) (with_control c t)
      → Near n (with_control c (moved m (potential_cleared b s))) (with_control c (moved m (potential_cleared b t)))
  unfolding moved potential_cleared
  stays-near {c = c} p q h = subst₂ (λ (m : Move) (b : Bool). Near n (with_control c (moved m (potential_cleared b s))) (with_control c (moved m (potential_cleared b t)))) (sym p) (sym q) h

  kept-good : {d e : Decision} → d.candidate ≡ Move.Stay → d.clear_potential_parent ≡ false → On n d.control → (live d.control ≡ true → Tries n s t) → d ≡ e
      → Good n (deciding s d) (deciding t e)
  unfolding deciding_with
  kept-good {d} {e} p q on k z =
      subst (λ (x : Decision). Good n (deciding s d) (deciding t x)) z
      (good n (stays-near p q (record { alike = alike-control n a refl; tries = λ h. tries-control _ _ (k h); on = on })) refl refl refl refl)

  calm-good : {b : Bool} {d e : Decision} → OnD n b d → b ≡ false → d ≡ e → Good n (deciding s d) (deciding t e)
  calm-good {d = d} o f z = let k = o.calm f in kept-good k.stays k.uncleared o.kept (never (live d.control) k.dead) z

  -- the operation is over, and no candidate matters any more
  ending-good : (st : Step) → Good n (deciding s (ending st s.control)) (deciding t (ending st t.control))
  ending-good st = calm-good (ending-on n {b = false} st s.control) refl (ap (ending st) a.control-same)

-- a decision on candidates is carried out
module _ (n : ℕ) (some : n ≡ 0 → ⊥) {s t : State} (a : Alike n s t) (c : Tries n s t) where
  module _ (b : Bool) (m : Move) where
    written_same : sight n (moved m (potential_cleared b s)) ≡ sight n (moved m (potential_cleared b t))
    written_same = written-sight n some b m s c.ours-1 ∙ ap (written_in n b m) (alike-sight n a c) ∙ sym (written-sight n some b m t c.ours-2)

    written-near : (d : Control) → On n d → (joins m ≡ true → live d ≡ false) → Near n (with_control d (moved m (potential_cleared b s))) (with_control d (moved m (potential_cleared b t)))
    written-near d on ends =
        record {
          alike = record {
            control-same = refl;
            list_same = ap (λ (v : Sight). v.list) written_same;
            taken-same = ap (λ (v : Sight). v.taken) written_same;
            tidy-1 = tidied (written-tidy n some b m s a.tidy-1);
            tidy-2 = tidied (written-tidy n some b m t a.tidy-2);
          };
          tries =
              λ h. split (joins m) (λ j. never (live d) (ends j) h)
              (λ j. record { places_same = ap (λ (v : Sight). v.places) written_same; ours-1 = owned (written_ours n some b m s j c.ours-1); ours-2 = owned (written_ours n some b m t j c.ours-2) });
          on = on;
        }
      where
        tidied : {x : State} → Tidy x → Tidy (with_control d x)
        tidied y = record { small = y.small; few = y.few }

        owned : {x : State} → Ours n x → Ours n (with_control d x)
        owned y = record { all = y.all }

  finish-good : {b : Bool} {d e : Decision} → OnD n b d → d ≡ e → Good n (deciding s d) (deciding t e)
  unfolding deciding_with
  finish-good {d = d} o q =
      subst (λ (x : Decision). Good n (deciding s d) (deciding t x)) q
      (good n (written-near d.clear_potential_parent d.candidate d.control o.kept o.ends) refl refl refl refl)

-- candidates are chosen afresh, and the first of them is tried
module _ (n : ℕ) (some : n ≡ 0 → ⊥) (permit : Bool) (i : CapabilityInformation) {s t : State} (a : Alike n s t) where
  chosen-alike : Alike n (with_chosen permit n i s) (with_chosen permit n i t)
  unfolding with_chosen
  chosen-alike =
      record {
        control-same = a.control-same;
        list_same = a.list_same;
        taken-same = refl;
        tidy-1 = chosen-tidy permit n some i s a.tidy-1;
        tidy-2 = chosen-tidy permit n some i t a.tidy-2;
      }

  chosen-tries : Tries n (with_chosen permit n i s) (with_chosen permit n i t)
  chosen-tries =
      record {
        places_same =
            ap (λ (v : Sight). v.places) (chosen-sight permit n some i s)
            ∙ ap₂ (λ (c : Control) (l : List NwkNeighbor). choice_in c.nlme.nib.stack_profile (bit 1 i.0) permit n l) a.control-same a.list_same
            ∙ sym (ap (λ (v : Sight). v.places) (chosen-sight permit n some i t));
        ours-1 = chosen-ours permit n some i s;
        ours-2 = chosen-ours permit n some i t;
      }

  abbrev first_tried : ℕ → ((Option NwkNeighbor) → Control → Decision) → State → Answer
  first_tried k decide x = let y = with_chosen permit k i x in deciding y (decide (next y) x.control)

  chosen-good : (k : ℕ) → k ≡ n → (decide : Option NwkNeighbor → Control → Decision) → ((x : Option NwkNeighbor) → OnD n true (decide x s.control)) → Good n (first_tried k decide s) (first_tried k decide t)
  chosen-good k e decide on =
      subst⁻¹ (λ (k : ℕ). Good n (first_tried k decide s) (first_tried k decide t)) e
      (finish-good n some chosen-alike chosen-tries (on (next (with_chosen permit n i s))) (ap₂ decide (alike_next n chosen-alike chosen-tries) a.control-same))

-- CALLS ON STATES THAT ARE ALIKE

-- a join
module _ (n : ℕ) (some : n ≡ 0 → ⊥) {s t : State} (a : Alike n s t) where
  join_by-good : (k : RejoinNetwork) (r : NlmeJoinRequest) → Names n k r s → Good n (join_by k r s) (join_by k r t)
  unfolding join_by associate with_chosen
  join_by-good RejoinNetwork.Association r w =
      both-cases (Good n) (eqb s.control.nlme.nib.network_address.0 0xffff) (eqb t.control.nlme.nib.network_address.0 0xffff)
      (ap (λ (c : Control). eqb c.nlme.nib.network_address.0 0xffff) a.control-same)
      (λ _. chosen-good n some true r.capability_information a r.extended_pan_id.0 w (join_started r.capability_information) (λ x. join_started-on n _ x s.control))
      (λ _. ending-good n a _)
  join_by-good RejoinNetwork.Orphan r w = ending-good n a _
  join_by-good RejoinNetwork.NwkRejoin r w =
      calm-good n a (rejoin_started-on n r (parent s) s.control w) refl (λ i. rejoin_started r (alike-parent n a i) (a.control-same i))
  join_by-good RejoinNetwork.ChannelChange r w = ending-good n a _

-- a rejoin's send or poll is over: before the scan the candidates do not matter
module _ (n : ℕ) (some : n ≡ 0 → ⊥) {s t : State} (a : Alike n s t) (c : s.control.operation.scan_requested ≡ true → Tries n s t) where
  try-good : (decide : Option NwkNeighbor → Option NwkNeighbor → Control → Decision) → ((x : Option NwkNeighbor) → OnD n s.control.operation.scan_requested (decide (parent s) x s.control))
      → (s.control.operation.scan_requested ≡ false → (x y : Option NwkNeighbor) → decide (parent s) x s.control ≡ decide (parent s) y s.control)
      → Good n (deciding s (decide (parent s) (next s) s.control)) (deciding t (decide (parent t) (next t) t.control))
  try-good decide on unseen =
      split s.control.operation.scan_requested
      (λ h. finish-good n some a (c h) (on (next s)) (λ i. decide (alike-parent n a i) (alike_next n a (c h) i) (a.control-same i)))
      (λ h. calm-good n a (on (next s)) h (unseen h (next s) (next t) ∙ (λ i. decide (alike-parent n a i) (next t) (a.control-same i))))

  -- the outcome of a rejoin request's send
  transmission-good : (ok : Bool) (u : TransmissionFor) → OnSend n u s.control.operation.extended_pan_id.0 → Good n (transmission_decided ok u s) (transmission_decided ok u t)
  unfolding transmission_decided
  transmission-good ok TransmissionFor.RejoinRequest e =
      try-good (request_sent ok) (request_sent-on n s.control e ok (parent s)) (λ f x y. request-unseen x y s.control f ok (parent s))
  transmission-good ok TransmissionFor.Data e = absurd e
  transmission-good ok (TransmissionFor.TimeoutRequest u) e = absurd e
  transmission-good ok (TransmissionFor.Leave l) e = absurd e

  -- what a poll was for goes on
  go_on-good : (u : ReceptionFor) (x : PollAnswer) → OnPurpose n u s.control.operation.extended_pan_id.0 → Good n (go_on false u x s) (go_on false u x t)
  unfolding continuing
  go_on-good ReceptionFor.RejoinResponse x e = try-good try_goes_on (answered_by-on n s.control e _ (parent s)) (λ f x y. answered-unseen x y s.control f _ (parent s))
  go_on-good ReceptionFor.SinglePoll x e = absurd e
  go_on-good ReceptionFor.SingleReceive x e = absurd e
  go_on-good (ReceptionFor.TimeoutResponse u) x e = absurd e

-- a frame's sender is heard
module _ (n k : ℕ) (f : ReceivedFrame) {s t : State} (a : Alike n s t) where
  frame-alike : Alike n (heard_on f k s) (heard_on f k t)
  frame-alike =
      record {
        control-same = a.control-same;
        list_same = ap (λ (v : Sight). v.list) (frame-sight n k f s) ∙ ap (heard_in (sender_of f)) a.list_same ∙ sym (ap (λ (v : Sight). v.list) (frame-sight n k f t));
        taken-same = a.taken-same;
        tidy-1 = frame-tidy n k f s a.tidy-1;
        tidy-2 = frame-tidy n k f t a.tidy-2;
      }

  frame-tries : Tries n s t → Tries n (heard_on f k s) (heard_on f k t)
  frame-tries c =
      record {
        places_same = ap (λ (v : Sight). v.places) (frame-sight n k f s) ∙ c.places_same ∙ sym (ap (λ (v : Sight). v.places) (frame-sight n k f t));
        ours-1 = frame-ours n k f s c.ours-1;
        ours-2 = frame-ours n k f t c.ours-2;
      }

-- the outcome of a poll
module _ (n : ℕ) (some : n ≡ 0 → ⊥) {s t : State} (a : Alike n s t) (c : s.control.operation.scan_requested ≡ true → Tries n s t) where
  reception-good : (o : Result (Option ReceivedFrame) MacError) (k : ℕ) (u : ReceptionFor) → OnPurpose n u s.control.operation.extended_pan_id.0 → Plain o → Good n (reception_decided o k u s) (reception_decided o k u t)
  unfolding reception_decided
  reception-good (Ok None) k u e w = go_on-good n some a c u _ e
  reception-good (Err x) k u e w = go_on-good n some a c u _ e
  reception-good (Ok (Some f)) k u e w =
      let q : with_nlme (nlme_after f s.control.nlme) s.control ≡ with_nlme (nlme_after f t.control.nlme) t.control =
      ap (λ (x : Control). with_nlme (nlme_after f x.nlme) x) a.control-same in
      let g = go_on-good n some (alike-control n (frame-alike n k f a) q) (λ h. tries-control _ _ (frame-tries n k f a (c h))) u (says f) e in
      subst₂ (Good n) (sym (processed-is u f (heard_on f k s) w)) (sym (processed-is u f (heard_on f k t) w)) g

-- the outcome of a scan
module _ (n : ℕ) {s t : State} (a : Alike n s t) where
  scan_failed-good : (u : ScanFor) → Good n (scan_failed u s) (scan_failed u t)
  unfolding scan_failed
  scan_failed-good ScanFor.Discovery = ending-good n a _
  scan_failed-good ScanFor.Rejoin = ending-good n a _

  heard-alike : (k : ℕ) (ds es : List PanDescriptor) → short_addressed ds ≤ 16 → short_addressed es ≤ 16 → select (is_beacon_of n) ds ≡ select (is_beacon_of n) es → Alike n (with_scan k ds s) (with_scan k es t)
  unfolding with_scan
  heard-alike k ds es w v e =
      record {
        control-same = a.control-same;
        list_same = heard-list k ds s w n ∙ ap neighbors_of e ∙ sym (heard-list k es t v n);
        taken-same = a.taken-same;
        tidy-1 = heard-tidy k ds s w a.tidy-1.few;
        tidy-2 = heard-tidy k es t v a.tidy-2.few;
      }

  scan_heard-good : (n ≡ 0 → ⊥) → (u : ScanFor) → OnScan n u s.control.operation.extended_pan_id.0 → Good n (scan_heard u s) (scan_heard u t)
  unfolding scan_heard with_chosen
  scan_heard-good some ScanFor.Discovery e = ending-good n a _
  scan_heard-good some ScanFor.Rejoin e =
      subst
      (λ (c : Control). Good n (scan_heard ScanFor.Rejoin s) (rejoin_among (with_chosen false c.operation.extended_pan_id.0 c.nlme.nib.capability_information t)))
      a.control-same
      (chosen-good n some false s.control.nlme.nib.capability_information a s.control.operation.extended_pan_id.0 e (try_next NlmeJoinStatus.NotPermitted) (try_next-on n s.control e _))

module _ (n : ℕ) (some : n ≡ 0 → ⊥) {s t : State} (r : Near n s t) (u : ScanFor) (e : OnScan n u s.control.operation.extended_pan_id.0) where
  scan_decided-good : (x y : Result PanDescriptorList MacError) (k : ℕ) → AlikeScan n x y → Good n (scan_decided x k u s) (scan_decided y k u t)
  unfolding scan_decided with_scan
  scan_decided-good x y k (failures e f) = scan_failed-good n r.alike u
  scan_decided-good x y k (above-27 {l} {m} a b) = rw (lt-ltb 27 l.count a, lt-ltb 27 m.count b) (refuse-good n TooManyDescriptors r)
  scan_decided-good x y k (above-16 {l} {m} a b c d) =
      rw (le-ltb 27 l.count a, le-ltb 27 m.count b, lt-ltb 16 (short_addressed (descriptors_of l)) c, lt-ltb 16 (short_addressed (descriptors_of m)) d)
      (refuse-good n TooManyShortAddressed r)
  scan_decided-good x y k (within {l} {m} a b c d h) =
      rw (le-ltb 27 l.count a, le-ltb 27 m.count b, le-ltb 16 (short_addressed (descriptors_of l)) c, le-ltb 16 (short_addressed (descriptors_of m)) d)
      (scan_heard-good n (heard-alike n r.alike k (descriptors_of l) (descriptors_of m) c d h) some u e)

-- EVERY CALL

scan-self : (n : ℕ) (o : Result PanDescriptorList MacError) → AlikeScan n o o
scan-self n (Err e) = failures e e
scan-self n (Ok l) =
    split (ltb 27 l.count) (λ h. above-27 (ltb-true 27 _ h) (ltb-true 27 _ h))
    (λ h. split (ltb 16 (short_addressed (descriptors_of l)))
    (λ i. above-16 (ltb-false 27 _ h) (ltb-false 27 _ h) (ltb-true 16 _ i) (ltb-true 16 _ i))
    (λ i. within (ltb-false 27 _ h) (ltb-false 27 _ h) (ltb-false 16 _ i) (ltb-false 16 _ i) refl))

idle-is : (p : Phase) → is_idle p ≡ true → p ≡ Phase.Idle
idle-is Phase.Idle h = refl
idle-is (Phase.Scan u) h = never false refl h
idle-is Phase.Association h = never false refl h
idle-is (Phase.Transmission u) h = never false refl h
idle-is (Phase.Reception u) h = never false refl h

module _ (n : ℕ) (some : n ≡ 0 → ⊥) {s t : State} (r : Near n s t) where
  start-good : {a b : Answer} → (NoneUnderWay s → Good n a b) → Good n (start a s) (start b t)
  start-good f =
      both-cases (Good n) (is_idle s.control.operation.phase) (is_idle t.control.operation.phase) (ap (λ (c : Control). is_idle c.operation.phase) r.alike.control-same)
      (λ h. f (idle-is s.control.operation.phase h)) (λ _. refuse-good n OperationUnderWay r)

  -- outcomes, in the phase that both are in
  outcome-same : {A : Type 0} (kind : Phase → Option A) (f g : A → State → Answer)
      → Good n (outcome (kind s.control.operation.phase) f s) (outcome (kind s.control.operation.phase) g t)
      → Good n (outcome (kind s.control.operation.phase) f s) (outcome (kind t.control.operation.phase) g t)
  outcome-same kind f g h =
      subst (λ (c : Control). Good n (outcome (kind s.control.operation.phase) f s) (outcome (kind c.operation.phase) g t)) r.alike.control-same h

  abbrev id : ℕ
  id = s.control.operation.extended_pan_id.0

  abbrev after_scan : Bool
  after_scan = s.control.operation.scan_requested

  scan_good : (x y : Result PanDescriptorList MacError) (k : ℕ) → AlikeScan n x y → (p : Phase) → OnPhase n p id → Good n (outcome (scan_for p) (scan_decided x k) s) (outcome (scan_for p) (scan_decided y k) t)
  unfolding outcome
  scan_good x y k l (Phase.Scan u) e = scan_decided-good n some r u e x y k l
  scan_good x y k l Phase.Idle e = refuse-good n NotAwaited r
  scan_good x y k l Phase.Association e = refuse-good n NotAwaited r
  scan_good x y k l (Phase.Transmission u) e = refuse-good n NotAwaited r
  scan_good x y k l (Phase.Reception u) e = refuse-good n NotAwaited r

  association-good : (o : Result AssociationResponse MacError) (p : Phase) → (live_in p after_scan ≡ true → Tries n s t)
      → Good n (outcome (association_for p) (association_decided o) s) (outcome (association_for p) (association_decided o) t)
  unfolding outcome
  association-good o Phase.Association k =
      let a = r.alike in
      finish-good n some a (k refl) (associated-on n o (tried s) (next s) s.control) (λ i. associated o (alike-tried n a (k refl) i) (alike_next n a (k refl) i) (a.control-same i))
  association-good o Phase.Idle k = refuse-good n NotAwaited r
  association-good o (Phase.Scan u) k = refuse-good n NotAwaited r
  association-good o (Phase.Transmission u) k = refuse-good n NotAwaited r
  association-good o (Phase.Reception u) k = refuse-good n NotAwaited r

  sent-good : (ok : Bool) (p : Phase) → (live_in p after_scan ≡ true → Tries n s t) → OnPhase n p id
      → Good n (outcome (transmission_for p) (transmission_decided ok) s) (outcome (transmission_for p) (transmission_decided ok) t)
  unfolding outcome
  sent-good ok (Phase.Transmission u) k e = transmission-good n some r.alike k ok u e
  sent-good ok Phase.Idle k e = refuse-good n NotAwaited r
  sent-good ok (Phase.Scan u) k e = refuse-good n NotAwaited r
  sent-good ok Phase.Association k e = refuse-good n NotAwaited r
  sent-good ok (Phase.Reception u) k e = refuse-good n NotAwaited r

  received-good : (o : Result (Option ReceivedFrame) MacError) (m : ℕ) (p : Phase) → (live_in p after_scan ≡ true → Tries n s t) → OnPhase n p id → ((u : ReceptionFor) → p ≡ Phase.Reception u → Plain o)
      → Good n (outcome (reception_for p) (reception_decided o m) s) (outcome (reception_for p) (reception_decided o m) t)
  unfolding outcome
  received-good o m (Phase.Reception u) k e w = reception-good n some r.alike k o m u e (w u refl)
  received-good o m Phase.Idle k e w = refuse-good n NotAwaited r
  received-good o m (Phase.Scan u) k e w = refuse-good n NotAwaited r
  received-good o m Phase.Association k e w = refuse-good n NotAwaited r
  received-good o m (Phase.Transmission u) k e w = refuse-good n NotAwaited r

  same_good : (c : Call) → Allowed n s c → Good n (made s c) (made t c)
  same_good (discovery x) w = start-good (λ _. kept-good n r.alike refl refl tt (never false refl) (λ i. asking (Phase.Scan ScanFor.Discovery) (RadioRequest.Scan x) (r.alike.control-same i)))
  same_good (join x) w = start-good (λ i. join_by-good n some r.alike x.rejoin_network x (w i))
  same_good (send x y) w = start-good (λ i. absurd (w i))
  same_good poll w = start-good (λ i. absurd (w i))
  same_good receive w = start-good (λ i. absurd (w i))
  same_good (timeout u) w = start-good (λ i. absurd (w i))
  same_good (scan o k) w = outcome-same scan_for _ _ (scan_good o o k (scan-self n o) s.control.operation.phase r.on)
  same_good (association o) w = outcome-same association_for _ _ (association-good o s.control.operation.phase r.tries)
  same_good (transmission ok) w = outcome-same transmission_for _ _ (sent-good ok s.control.operation.phase r.tries r.on)
  same_good (reception o k) w = outcome-same reception_for _ _ (received-good o k s.control.operation.phase r.tries r.on (plain_of s o w))
  same_good (elapsed ms) w =
      let a = r.alike in
      kept-good n a refl refl r.on r.tries (λ i. tick_told (nlme_ticked (alike-parent n a i) ms (a.control-same i).nlme) (a.control-same i))
  same_good take_leave w = kept-good n r.alike refl refl r.on r.tries (ap leave_taken r.alike.control-same)
  same_good take_status w = kept-good n r.alike refl refl r.on r.tries (ap status_taken r.alike.control-same)

  call-good : {c d : Call} → AlikeCall n c d → Allowed n s c → Good n (made s c) (made t d)
  call-good (same c) w = same_good c w
  call-good (scans {o = o} {p = p} {t = k} l) w = outcome-same scan_for _ _ (scan_good o p k l s.control.operation.phase r.on)

  pub step-good : {c d : Call} → AlikeCall n c d → Allowed n s c → Good n (answer s c) (answer t d)
  unfolding answer
  step-good l w = both-cases (Good n) (bad s) (bad t) (near-bad n r) (λ _. refuse-good n BadState r) (λ _. call-good l w)
