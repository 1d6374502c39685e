-- A measure of what is left of a rejoin, and that every decision of a rejoin lowers it. Assumes nothing.
use Rattle.std.specs.Prelude.{Option, Some, None}
use Prim.Native.Nat.{ℕ, suc, ◌+◌, ◌-◌, ◌*◌, ◌<◌, ◌≤◌, zero-le}
use mathlib.Core.Path.{◌≡◌, refl, sym, ap, subst, subst⁻¹, ◌∙◌}
use mathlib.Core.Bool.{Bool, true, false, cond, false≢true}
use mathlib.Core.List.{List}
use native.Mathlib.Omega.{arith}
use lib.Dec.{eqb, ltb, leb}
use lib.ListN.{length, get_or, length-drop, get_or-eq_default}
use borrow.Author.Tests.{ltb-true, ltb-false, eqb-false}
use Rattle.std.proofs.lemmas.Bool.{or_parts}
use Rattle.lists.proofs.Conditions.{split}
use Rattle.nib.specs.Neighbors.{entry_at, blank}
use Rattle.nib.specs.declared.NwkNeighbor.{NwkNeighbor}
use Rattle.nib.specs.NeighborTable.{seen_in}
use Rattle.nib.proofs.Entries.{entries-on, adopted-long}
use Rattle.candidates.specs.Candidates.{items_of}
use Rattle.management.specs.declared.NlmeJoinStatus.{NlmeJoinStatus}
use Rattle.operation.specs.declared.ReceptionFor.{ReceptionFor}
use Rattle.operation.specs.declared.ScanFor.{ScanFor}
use Rattle.operation.specs.declared.TransmissionFor.{TransmissionFor}
use Rattle.operation.specs.declared.Phase.{Phase}
use Rattle.operation.specs.declared.Operation.{Operation}
use Rattle.operation.specs.declared.Control.{Control}
use Rattle.operation.specs.declared.RadioRequest.{RadioRequest}
use Rattle.operation.specs.declared.Move.{Move}
use Rattle.operation.specs.declared.Decision.{Decision}
use Rattle.operation.specs.declared.Polling.{Polling}
use Rattle.operation.specs.Operation.{with_nlme, with_operation, with_scan_requested, with_polls_left, asking, polled, polled_or, polling, poll_on}
use Rattle.join.specs.Join.{failing, failed_status}
use Rattle.join.specs.Rejoin.{no_response, trying, scan_or_end, try_candidate, try_next, try_failed, rejoined, responded, answered_by, request_sent}
use Rattle.candidates.specs.Tries.{to_try, skipped, next_index, next_in, taking, adopted_next}
use Rattle.candidates.specs.declared.tries.Candidates.{Candidates}
use Rattle.node.specs.Looks.{entries, next, moved, potential_cleared, deciding_with}
use Rattle.node.specs.Refusals.{bad}
use Rattle.node.specs.declared.State.{State}
use Rattle.management.specs.declared.RejoinResponse.{RejoinResponse}

-- THE MEASURE

-- the outcomes of later tries, where t candidates are taken: before the scan its own and those of 16 candidates, 1 + 16 × 41; then 41 for each that is left
abbrev pub rest : Bool → ℕ → ℕ
rest false t = 657
rest true t = 41 * (16 - t)

abbrev pub later : State → Operation → ℕ
later s o = rest o.scan_requested s.candidates.taken

-- with those of the polls left and of an announcement in each
abbrev pub still : State → Operation → ℕ
still s o = 2 * o.polls_left + later s o

-- what is left in a phase: k is the above, j what is left before the scan's outcome
abbrev pub if_rejoin : ReceptionFor → ℕ → ℕ
if_rejoin ReceptionFor.RejoinResponse k = k
if_rejoin ReceptionFor.SinglePoll k = 0
if_rejoin ReceptionFor.SingleReceive k = 0
if_rejoin (ReceptionFor.TimeoutResponse u) k = 0

abbrev pub to_come : Phase → ℕ → ℕ → ℕ
to_come Phase.Idle k j = 0
to_come (Phase.Scan ScanFor.Discovery) k j = 0
to_come (Phase.Scan ScanFor.Rejoin) k j = j
to_come Phase.Association k j = 0
to_come (Phase.Transmission TransmissionFor.RejoinRequest) k j = 1 + k
to_come (Phase.Transmission TransmissionFor.Data) k j = 0
to_come (Phase.Transmission (TransmissionFor.TimeoutRequest u)) k j = 0
to_come (Phase.Transmission (TransmissionFor.Leave l)) k j = if_rejoin l.purpose (1 + k)
to_come (Phase.Reception u) k j = if_rejoin u (2 + k)

abbrev pub weight : Phase → State → ℕ
weight p s = to_come p (still s s.control.operation) (42 + rest s.control.operation.scan_requested 1)

abbrev pub measure : State → ℕ
measure s = weight s.control.operation.phase s

-- a state in which every call is refused has nothing left
unfoldable pub potential : State → ℕ
potential s = cond (bad s) 0 (measure s)

pub potential-le : (s : State) → potential s ≤ measure s
unfolding potential
potential-le s = go (bad s)
  where
    go : (b : Bool) → cond b 0 (measure s) ≤ measure s
    go true = zero-le
    go false = omega arith

pub rest-false : (b : Bool) (t : ℕ) → b ≡ false → rest b t ≡ 657
rest-false true t q = absurd (false≢true (sym q))
rest-false false t q = refl

rest-true : (b : Bool) (t : ℕ) → b ≡ true → t < 16 → 41 + rest b (suc t) ≤ rest b t
rest-true true t q h = omega arith
rest-true false t q h = absurd (false≢true q)

rest-on : (b : Bool) (t u : ℕ) → suc t ≤ u → rest b u ≤ rest b (suc t)
rest-on true t u h = omega arith
rest-on false t u h = omega arith

-- refusal 5 looks at the number of candidates taken
few-taken : (s : State) → bad s ≡ false → s.candidates.taken ≤ 16
unfolding bad
few-taken s h =
    ltb-false 16 s.candidates.taken
    (or_parts (ltb 16 s.candidates.taken) _
    (or_parts (ltb 16 s.candidates.list.count) _
    (or_parts (ltb 16 s.control.nlme.transmit_failures.count) _ (or_parts (ltb 16 s.table.count) _ h).1).1).1).0

-- what holds of both sides of a condition
pub either : {A : Type 0} (P : A → Type 0) (b : Bool) {x y : A} → (b ≡ true → P x) → (b ≡ false → P y) → P (cond b x y)
either P true f g = f refl
either P false f g = g refl

-- where there is a next candidate, one more is taken

abbrev IsEntry : Option NwkNeighbor → Type 0
IsEntry None = ⊥
IsEntry (Some e) = Unit {0}

entry-below : (es : List NwkNeighbor) (i : ℕ) → IsEntry (seen_in es (entry_at es i)) → i < length es
entry-below es i h = go (ltb i (length es)) refl h
  where
    go : (b : Bool) → ltb i (length es) ≡ b → IsEntry (seen_in es (cond b (Some (get_or es i blank)) None)) → i < length es
    go true q h = ltb-true i (length es) q
    go false q h = absurd h

taken_more : (es : List NwkNeighbor) (c : Candidates) → IsEntry (next_in es c) → suc c.taken ≤ (taking (length es) c).taken
unfolding next_in next_index taking
taken_more es c h =
    let k = skipped (length es) c in
    let below : get_or (to_try c) k (length es) < length es = entry-below es (next_index (length es) c) h in
    let some : k < length (to_try c) =
    split (ltb k (length (to_try c))) (ltb-true k (length (to_try c)))
    (λ t. absurd (omega (arith, get_or-eq_default (to_try c) (length es) (ltb-false k (length (to_try c)) t)))) in
    omega (arith, length-drop c.taken (items_of c.list))

adopted-more : (s : State) → IsEntry (next s) → suc s.candidates.taken ≤ (moved Move.AdoptNext s).candidates.taken
unfolding moved adopted_next
adopted-more s h =
    let c = s.candidates in
    let long : length (adopted_next c (entries s)) ≡ length (entries s) = adopted-long (next_index (length (entries s)) c) (entries s) in
    subst⁻¹ (λ (n : ℕ). suc c.taken ≤ (taking n c).taken) (ap length (entries-on (adopted_next c) s.table long) ∙ long) (taken_more (entries s) c h)

-- DECISIONS

-- a decision that is carried out leaves less than m
pub record Drops (m : ℕ) (s : State) (d : Decision) : Type 0 where
  pub fits : suc (potential (deciding_with false s d).state) ≤ m

pub drops : {m : ℕ} (s : State) (d : Decision) → suc (measure (deciding_with false s d).state) ≤ m → Drops m s d
drops s d h = record { fits = omega (arith, potential-le (deciding_with false s d).state) }

-- the state that it leaves may be taken to be one in which not every call is refused
drops-if : {m : ℕ} (s : State) (d : Decision) → 1 ≤ m → (bad (deciding_with false s d).state ≡ false → suc (measure (deciding_with false s d).state) ≤ m) → Drops m s d
unfolding potential
drops-if {m} s d l h = record { fits = either (λ (k : ℕ). suc k ≤ m) (bad (deciding_with false s d).state) (λ _. l) h }

module _ {m : ℕ} (s : State) where
  pub failing-drops : (st : NlmeJoinStatus) (c : Control) → 1 ≤ m → Drops m s (failing st c)
  unfolding deciding_with
  failing-drops st c h = drops s (failing st c) h

  pub scan_or_end-drops : (st : NlmeJoinStatus) (c : Control) → 658 ≤ m → Drops m s (scan_or_end st c)
  unfolding scan_or_end deciding_with moved potential_cleared
  scan_or_end-drops st c h =
      either (Drops m s) (leb c.operation.scan.past c.operation.scan.first) (λ _. failing-drops st c (omega arith))
      (λ _. drops s (asking (Phase.Scan ScanFor.Rejoin) (RadioRequest.Scan c.operation.scan) (with_operation (with_scan_requested c.operation) c)) h)

  -- the next candidate is tried, of those that the state has
  pub try_next-drops : (st : NlmeJoinStatus) (x : Option NwkNeighbor) (c : Control) → x ≡ next s → 1 ≤ m
      → (s.candidates.taken < 16 → 42 + rest c.operation.scan_requested (suc s.candidates.taken) ≤ m) → Drops m s (try_next st x c)
  unfolding try_next try_candidate trying deciding_with moved potential_cleared
  try_next-drops st None c q l h = failing-drops st c l
  try_next-drops st (Some e) c q l h =
      drops-if s (try_candidate e c) l
      (λ b. let after = (deciding_with false s (try_candidate e c)).state in
      let more : suc s.candidates.taken ≤ after.candidates.taken = adopted-more s (subst IsEntry q tt) in
      omega (arith, h (omega (arith, few-taken after b)), rest-on c.operation.scan_requested s.candidates.taken after.candidates.taken more))

  try_failed-drops : (st : NlmeJoinStatus) (c : Control) → suc (later s c.operation) ≤ m → Drops m s (try_failed st (next s) c)
  unfolding try_failed
  try_failed-drops st c h =
      either (Drops m s) c.operation.scan_requested
      (λ q. try_next-drops st (next s) c refl (omega arith) (λ l. omega (arith, rest-true c.operation.scan_requested s.candidates.taken q l)))
      (λ q. scan_or_end-drops st c (omega (arith, rest-false c.operation.scan_requested s.candidates.taken q)))

  polls-drop : (p : Option NwkNeighbor) (c : Control) → suc (still s c.operation) ≤ m → Drops m s (poll_on ReceptionFor.RejoinResponse p (try_failed NlmeJoinStatus.MacError (next s)) c)
  unfolding polling poll_on deciding_with moved potential_cleared
  polls-drop None c h = try_failed-drops _ (with_polls_left 0 c) (omega arith)
  polls-drop (Some p) c h =
      either (λ (x : Polling). Drops m s (polled_or ReceptionFor.RejoinResponse (try_failed NlmeJoinStatus.MacError (next s)) x.parent x.control)) (eqb c.operation.polls_left 0)
      (λ _. try_failed-drops _ c (omega arith))
      (λ q. drops s (polled ReceptionFor.RejoinResponse p (with_polls_left (c.operation.polls_left - 1) c)) (omega (arith, eqb-false c.operation.polls_left 0 q)))

  pub answered_by-drops : (a : Option RejoinResponse) (p : Option NwkNeighbor) (c : Control) → suc (still s c.operation) ≤ m → Drops m s (answered_by a p (next s) c)
  unfolding answered_by responded rejoined deciding_with moved potential_cleared
  answered_by-drops (Some r) p c h =
      either (Drops m s) (eqb r.status 0) (λ _. drops s (rejoined r (with_nlme (no_response c.nlme) c)) (omega arith))
      (λ _. try_failed-drops (failed_status r.status) (with_nlme (no_response c.nlme) c) (omega arith))
  answered_by-drops None p c h = polls-drop p c h

  pub request_sent-drops : (ok : Bool) (p : Option NwkNeighbor) (c : Control) → suc (still s c.operation) ≤ m → Drops m s (request_sent ok p (next s) c)
  unfolding request_sent
  request_sent-drops true p c h = answered_by-drops c.nlme.signals.rejoin_response p c h
  request_sent-drops false p c h = try_failed-drops _ c (omega arith)
