-- What the theorem has to know of decisions. Assumes nothing.
-- A rejoin under way stays one of network n. No operation but a discovery, a join or a rejoin comes to be under way.
-- A decision that clears the ids of all entries leaves no candidate to be tried. Before a rejoin's scan no candidate is looked at or changed.
use Rattle.std.specs.Prelude.{Result, Ok, Err, Option, Some, None}
use Prim.Native.Nat.{ℕ}
use mathlib.Core.Path.{◌≡◌, refl, sym, ◌∙◌}
use mathlib.Core.Bool.{Bool, true, false, cond, false≢true}
use lib.Dec.{eqb, leb}
use Rattle.std.proofs.lemmas.Bool.{cond-false}
use Rattle.lists.proofs.Conditions.{by_cases, both-cases}
use Rattle.nib.specs.declared.CapabilityInformation.{CapabilityInformation}
use Rattle.nib.specs.declared.NwkNeighbor.{NwkNeighbor}
use Rattle.management.specs.declared.NlmeJoinStatus.{NlmeJoinStatus}
use Rattle.management.specs.declared.NlmeJoinRequest.{NlmeJoinRequest}
use Rattle.management.specs.declared.RejoinResponse.{RejoinResponse}
use Rattle.operation.specs.Operation.{ending, with_polls_left, polled_or, polling, poll_on}
use Rattle.operation.specs.declared.ReceptionFor.{ReceptionFor}
use Rattle.operation.specs.declared.ScanFor.{ScanFor}
use Rattle.operation.specs.declared.TransmissionFor.{TransmissionFor}
use Rattle.operation.specs.declared.Phase.{Phase}
use Rattle.operation.specs.declared.Control.{Control}
use Rattle.operation.specs.declared.Note.{Note}
use Rattle.operation.specs.declared.Step.{Step}
use Rattle.operation.specs.declared.Move.{Move}
use Rattle.operation.specs.declared.Decision.{Decision}
use Rattle.operation.specs.declared.Polling.{Polling}
use Rattle.join.specs.Join.{failing, reset_negotiation, associating, join_started, failed_status, joined_by, candidate_failed, succeeded, associated}
use Rattle.join.specs.declared.association.AssociationResponse.{AssociationResponse}
use Rattle.join.specs.Rejoin.{invalid, resolved, trying, scan_or_end, try_remembered, begun, rejoin_started, adopting, try_candidate, try_next, try_failed, rejoined, responded, answered_by, request_sent}
use Rattle.two_nodes.proofs.States.{live, joins}
use Rattle.discovery.specs.declared.mlme.MacError.{MacError}

pub never : {A : Type 0} (b : Bool) → b ≡ false → b ≡ true → A
never true p q = absurd (false≢true (sym p))
never false p q = absurd (false≢true q)

-- a rejoin under way is of the network n, where k is the id that it keeps; sends, polls, negotiation, keepalive and leaves are not under way
abbrev pub OnPurpose : ℕ → ReceptionFor → ℕ → Type 0
OnPurpose n ReceptionFor.RejoinResponse k = k ≡ n
OnPurpose n ReceptionFor.SinglePoll k = ⊥
OnPurpose n ReceptionFor.SingleReceive k = ⊥
OnPurpose n (ReceptionFor.TimeoutResponse u) k = ⊥

abbrev pub OnSend : ℕ → TransmissionFor → ℕ → Type 0
OnSend n TransmissionFor.RejoinRequest k = k ≡ n
OnSend n TransmissionFor.Data k = ⊥
OnSend n (TransmissionFor.TimeoutRequest u) k = ⊥
OnSend n (TransmissionFor.Leave l) k = ⊥

abbrev pub OnScan : ℕ → ScanFor → ℕ → Type 0
OnScan n ScanFor.Discovery k = Unit {0}
OnScan n ScanFor.Rejoin k = k ≡ n

abbrev pub OnPhase : ℕ → Phase → ℕ → Type 0
OnPhase n Phase.Idle k = Unit {0}
OnPhase n (Phase.Scan u) k = OnScan n u k
OnPhase n Phase.Association k = Unit {0}
OnPhase n (Phase.Transmission u) k = OnSend n u k
OnPhase n (Phase.Reception u) k = OnPurpose n u k

abbrev pub On : ℕ → Control → Type 0
On n c = OnPhase n c.operation.phase c.operation.extended_pan_id.0

-- a decision that leaves the candidates, and under which none is being tried
pub record Calm (d : Decision) : Type 0 where
  pub stays : d.candidate ≡ Move.Stay
  pub uncleared : d.clear_potential_parent ≡ false
  pub dead : live d.control ≡ false

-- a decision that is made after the scan or before it, by b
pub record OnD (n : ℕ) (b : Bool) (d : Decision) : Type 0 where
  pub kept : On n d.control
  pub ends : joins d.candidate ≡ true → live d.control ≡ false
  pub calm : b ≡ false → Calm d

module _ (n : ℕ) where
  either : {b : Bool} (x : Bool) {d e : Decision} → OnD n b d → OnD n b e → OnD n b (cond x d e)
  either {b} x p q = by_cases (OnD n b) x (λ _. p) q

  -- what holds before the scan and after it
  pub anyhow : {b : Bool} {d : Decision} → OnD n false d → OnD n b d
  anyhow h = record { kept = h.kept; ends = h.ends; calm = λ _. h.calm refl }

  after-scan : (b : Bool) {d : Decision} → OnD n true d → b ≡ true → OnD n b d
  after-scan b h t = record { kept = h.kept; ends = h.ends; calm = λ f. never b f t }

  pub ending-on : {b : Bool} (st : Step) (c : Control) → OnD n b (ending st c)
  ending-on st c = record { kept = tt; ends = λ h. refl; calm = λ _. record { stays = refl; uncleared = refl; dead = refl } }

  pub failing-on : {b : Bool} (st : NlmeJoinStatus) (c : Control) → OnD n b (failing st c)
  failing-on st c = ending-on _ c

  -- the rejoin
  module _ (c : Control) (e : c.operation.extended_pan_id.0 ≡ n) where
    trying-on : {b : Bool} (m : Move) → joins m ≡ false → (b ≡ false → m ≡ Move.Stay) → (b ≡ false → c.operation.scan_requested ≡ false) → (note : Option Note) (p : NwkNeighbor)
        → OnD n b (trying m note p c)
    unfolding trying
    trying-on m h stay q note p =
        record { kept = e; ends = λ t. absurd (false≢true (sym h ∙ t)); calm = λ f. record { stays = stay f; uncleared = refl; dead = q f } }

    scan_or_end-on : {b : Bool} (st : NlmeJoinStatus) → OnD n b (scan_or_end st c)
    unfolding scan_or_end
    scan_or_end-on st =
        either (leb c.operation.scan.past c.operation.scan.first) (failing-on st c)
        (record { kept = e; ends = λ h. refl; calm = λ _. record { stays = refl; uncleared = refl; dead = refl } })

    try_remembered-on : c.operation.scan_requested ≡ false → (p : Option NwkNeighbor) → OnD n false (try_remembered p c)
    unfolding try_remembered
    try_remembered-on q None = scan_or_end-on _
    try_remembered-on q (Some p) = trying-on Move.Stay refl (λ _. refl) (λ _. q) _ p

    rejoined-on : {b : Bool} (r : RejoinResponse) → OnD n b (rejoined r c)
    unfolding rejoined
    rejoined-on r = record { kept = tt; ends = λ h. refl; calm = λ _. record { stays = refl; uncleared = refl; dead = refl } }

  try_candidate-on : (c : Control) → c.operation.extended_pan_id.0 ≡ n → (x : NwkNeighbor) → OnD n true (try_candidate x c)
  unfolding try_candidate
  try_candidate-on c e x = trying-on (adopting x c) e Move.AdoptNext refl (λ f. never true f refl) (λ f. never true f refl) _ x

  module _ (c : Control) (e : c.operation.extended_pan_id.0 ≡ n) where
    pub try_next-on : (st : NlmeJoinStatus) (x : Option NwkNeighbor) → OnD n true (try_next st x c)
    unfolding try_next
    try_next-on st None = failing-on st c
    try_next-on st (Some x) = try_candidate-on c e x

    try_failed-on : (st : NlmeJoinStatus) (x : Option NwkNeighbor) → OnD n c.operation.scan_requested (try_failed st x c)
    unfolding try_failed
    try_failed-on st x = by_cases (OnD n c.operation.scan_requested) c.operation.scan_requested (after-scan c.operation.scan_requested (try_next-on st x)) (scan_or_end-on c e st)

  module _ (c : Control) (e : c.operation.extended_pan_id.0 ≡ n) where
    polls-on : (p x : Option NwkNeighbor) → OnD n c.operation.scan_requested (poll_on ReceptionFor.RejoinResponse p (try_failed NlmeJoinStatus.MacError x) c)
    unfolding polling poll_on
    polls-on None x = try_failed-on (with_polls_left 0 c) e _ x
    polls-on (Some p) x =
        by_cases (λ (y : Polling). OnD n c.operation.scan_requested (polled_or ReceptionFor.RejoinResponse (try_failed NlmeJoinStatus.MacError x) y.parent y.control))
        (eqb c.operation.polls_left 0) (λ _. try_failed-on c e _ x)
        (record { kept = e; ends = λ h. absurd (false≢true h); calm = λ f. record { stays = refl; uncleared = refl; dead = f } })

    pub answered_by-on : (a : Option RejoinResponse) (p x : Option NwkNeighbor) → OnD n c.operation.scan_requested (answered_by a p x c)
    unfolding answered_by responded
    answered_by-on (Some r) p x = either (eqb r.status 0) (rejoined-on _ e r) (try_failed-on _ e _ x)
    answered_by-on None p x = polls-on p x

    pub request_sent-on : (ok : Bool) (p x : Option NwkNeighbor) → OnD n c.operation.scan_requested (request_sent ok p x c)
    unfolding request_sent
    request_sent-on true p x = answered_by-on c.nlme.signals.rejoin_response p x
    request_sent-on false p x = try_failed-on c e _ x

  pub rejoin_started-on : (r : NlmeJoinRequest) (p : Option NwkNeighbor) (c : Control) → (resolved r c.nlme).0 ≡ n → OnD n false (rejoin_started r p c)
  unfolding rejoin_started
  rejoin_started-on r p c e = either (invalid r c.nlme) (failing-on _ c) (try_remembered-on (begun r c) e refl p)

  -- the association
  associating-on : (x : NwkNeighbor) (c : Control) → OnD n true (associating x c)
  unfolding associating
  associating-on x c = record { kept = tt; ends = λ h. absurd (false≢true h); calm = λ f. never true f refl }

  pub join_started-on : (i : CapabilityInformation) (x : Option NwkNeighbor) (c : Control) → OnD n true (join_started i x c)
  unfolding join_started
  join_started-on i None c = failing-on _ (reset_negotiation c)
  join_started-on i (Some x) c = associating-on x _

  candidate_failed-on : (st : NlmeJoinStatus) (x : Option NwkNeighbor) (c : Control) → OnD n true (candidate_failed st x c)
  unfolding candidate_failed associating
  candidate_failed-on st None c = record { kept = tt; ends = λ h. refl; calm = λ f. never true f refl }
  candidate_failed-on st (Some x) c = record { kept = tt; ends = λ h. absurd (false≢true h); calm = λ f. never true f refl }

  succeeded-on : (r : AssociationResponse) (t x : Option NwkNeighbor) (c : Control) → OnD n true (succeeded r t x c)
  unfolding succeeded joined_by
  succeeded-on r None x c = candidate_failed-on _ x c
  succeeded-on r (Some t) x c = record { kept = tt; ends = λ h. refl; calm = λ f. never true f refl }

  pub associated-on : (o : Result AssociationResponse MacError) (t x : Option NwkNeighbor) (c : Control) → OnD n true (associated o t x c)
  unfolding associated
  associated-on (Err e) t x c = candidate_failed-on _ x c
  associated-on (Ok r) t x c = either (eqb r.status 0) (succeeded-on r t x c) (candidate_failed-on (failed_status r.status) x c)

-- before the scan the next candidate is not looked at
module _ (x y : Option NwkNeighbor) where
  failed-unseen : (st : NlmeJoinStatus) (c : Control) → c.operation.scan_requested ≡ false → try_failed st x c ≡ try_failed st y c
  unfolding try_failed
  failed-unseen st c f = cond-false c.operation.scan_requested _ _ f ∙ sym (cond-false c.operation.scan_requested _ _ f)

  module _ (c : Control) (f : c.operation.scan_requested ≡ false) where
    polls-unseen : (p : Option NwkNeighbor) → poll_on ReceptionFor.RejoinResponse p (try_failed NlmeJoinStatus.MacError x) c ≡ poll_on ReceptionFor.RejoinResponse p (try_failed NlmeJoinStatus.MacError y) c
    unfolding polling poll_on
    polls-unseen None = failed-unseen _ (with_polls_left 0 c) f
    polls-unseen (Some p) =
        by_cases (λ (z : Polling). polled_or ReceptionFor.RejoinResponse (try_failed NlmeJoinStatus.MacError x) z.parent z.control ≡ polled_or ReceptionFor.RejoinResponse (try_failed NlmeJoinStatus.MacError y) z.parent z.control)
        (eqb c.operation.polls_left 0) (λ _. failed-unseen _ c f) refl

    pub answered-unseen : (a : Option RejoinResponse) (p : Option NwkNeighbor) → answered_by a p x c ≡ answered_by a p y c
    unfolding answered_by responded
    answered-unseen (Some r) p = both-cases ◌≡◌ (eqb r.status 0) _ refl (λ _. refl) (λ _. failed-unseen _ _ f)
    answered-unseen None p = polls-unseen p

    pub request-unseen : (ok : Bool) (p : Option NwkNeighbor) → request_sent ok p x c ≡ request_sent ok p y c
    unfolding request_sent
    request-unseen true p = answered-unseen c.nlme.signals.rejoin_response p
    request-unseen false p = failed-unseen _ c f
