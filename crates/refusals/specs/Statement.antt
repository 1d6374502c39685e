-- The statement of demand 1: "Any state, request, beacon list or outcome handed to a public entry gets the step made or one of the numbered refusals; after a
-- refusal the state, and every lent buffer, is as handed in. No prior check is expected of the caller."
-- The numbers, their order and their conditions stand here as 01 has them ("When a call is turned down").
-- They rest on no definition of a refusal's tests, but for a line's move, whose form and result are those of `neighbor_line`.
-- Which refusal has which number stands here too (`numbered`, `moves-numbered`).
use Rattle.std.specs.Prelude.{None, Result, Ok, Err, is_ok, true, ℕ, suc, ◌-◌, ◌<◌, ◌≤◌, ◌≡◌, Bool, false, List, [], ◌∷◌, map, ◌⊎◌, ◌↔◌, length, take, drop}
use Rattle.discovery.specs.declared.mlme.Address.{Address}
use Rattle.supervision.specs.declared.parent_timer.ParentTimer.{ParentTimer}
use Rattle.operation.specs.declared.ReceptionFor.{ReceptionFor}
use Rattle.operation.specs.declared.ScanFor.{ScanFor}
use Rattle.operation.specs.declared.TransmissionFor.{TransmissionFor}
use Rattle.operation.specs.declared.Phase.{Phase}
use Rattle.operation.specs.declared.Refusal.{Refusal}
use Rattle.operation.specs.declared.Refusal.TheVariants.{OperationUnderWay, NotAwaited, TooManyDescriptors, TooManyShortAddressed, BadState, ShortPage}
use Rattle.operation.specs.Operation.{refusal_number}
use Rattle.candidates.specs.declared.CandidateList.{CandidateList}
use Rattle.operation.specs.declared.Step.{Step}
use Rattle.node.specs.Calls.{Call, discovery, join, send, poll, receive, timeout, scan, association, transmission, reception, elapsed, take_leave, take_status, answer, scanned, choose, refresh, page_answer, page_left}
use Rattle.node.specs.declared.State.{State}
use Rattle.node.specs.declared.Answer.{Answer}
use Rattle.lent_tick.specs.LentTick.{lent_tick}
use Rattle.neighbor_line.specs.NeighborLine.{old_forms, entry_forms, last_heard_in}
use Rattle.neighbor_line.specs.Moves.{move_refusal_number, is_line_of, fields_of_line, forth_text, back_text, forth_answer, forth_left, back_answer, back_left}
use Rattle.neighbor_line.specs.declared.MoveRefusal.{MoveRefusal}
use Rattle.neighbor_line.specs.declared.MoveRefusal.TheVariants.{NotOfForm, ShortBuffer, LastHeardKnown}
use Rattle.discovery.specs.declared.mlme.MacError.{MacError}
use Rattle.discovery.specs.declared.mlme.PanDescriptorList.{PanDescriptorList}

abbrev pub phase : State → Phase
phase s = s.control.operation.phase

-- an index of a list is not below n
abbrev pub Past : ℕ → List ℕ → Type 0
Past n [] = ⊥
Past n (i ∷ is) = (n ≤ i) ⊎ Past n is

-- 5 "if a count in the state is above 16, polls left above 20, or an index being tried or still to be tried in an association
-- is not below the neighbour count". How many candidates have been taken is such a count too; the last of them is being tried
pub data Bad (s : State) : Type 0 where
  neighbours : 16 < s.table.count → Bad s
  failures : 16 < s.control.nlme.transmit_failures.count → Bad s
  candidates : 16 < s.candidates.list.count → Bad s
  taken : 16 < s.candidates.taken → Bad s
  polls : 20 < s.control.operation.polls_left → Bad s
  index : phase s ≡ Phase.Association
      → Past s.table.count (drop (s.candidates.taken - 1) (take s.candidates.list.count s.candidates.list.indexes)) → Bad s

-- 1 "if an operation is under way"
abbrev pub UnderWay : State → Type 0
UnderWay s = phase s ≡ Phase.Idle → ⊥

-- how many addresses are short
abbrev pub shorts : List Address → ℕ
shorts [] = 0
shorts (Address.Short pan address ∷ rest) = suc (shorts rest)
shorts (Address.Extended pan address ∷ rest) = shorts rest

-- "for a scan, 3 above 27 descriptors, then 4 above 16 short-addressed ones". A failed scan is neither 3 nor 4
abbrev pub Above27 : Result PanDescriptorList MacError → Type 0
Above27 (Err e) = ⊥
Above27 (Ok l) = 27 < l.count

abbrev pub Above16 : Result PanDescriptorList MacError → Type 0
Above16 (Err e) = ⊥
Above16 (Ok l) = 16 < shorts (map (λ d. d.coord_address) (take l.count l.descriptors))

-- the numbers that a call can give, each with its condition, in the order in which these are looked at.
-- 2 "if no request awaits that kind"
abbrev pub numbers : State → Call → List (ℕ × Type 0)
numbers s (discovery r) = (5, Bad s) ∷ (1, UnderWay s) ∷ []
numbers s (join r) = (5, Bad s) ∷ (1, UnderWay s) ∷ []
numbers s (send destination secure) = (5, Bad s) ∷ (1, UnderWay s) ∷ []
numbers s poll = (5, Bad s) ∷ (1, UnderWay s) ∷ []
numbers s receive = (5, Bad s) ∷ (1, UnderWay s) ∷ []
numbers s (timeout u) = (5, Bad s) ∷ (1, UnderWay s) ∷ []
numbers s (scan o t) = (5, Bad s) ∷ (2, (u : ScanFor) → phase s ≡ Phase.Scan u → ⊥) ∷ (3, Above27 o) ∷ (4, Above16 o) ∷ []
numbers s (association o) = (5, Bad s) ∷ (2, phase s ≡ Phase.Association → ⊥) ∷ []
numbers s (transmission ok) = (5, Bad s) ∷ (2, (u : TransmissionFor) → phase s ≡ Phase.Transmission u → ⊥) ∷ []
numbers s (reception o t) = (5, Bad s) ∷ (2, (u : ReceptionFor) → phase s ≡ Phase.Reception u → ⊥) ∷ []
numbers s (elapsed ms) = (5, Bad s) ∷ []
numbers s take_leave = (5, Bad s) ∷ []
numbers s take_status = (5, Bad s) ∷ []

-- k is the number of the first condition that holds
abbrev pub First : ℕ → List (ℕ × Type 0) → Type 0
First k [] = ⊥
First k (c ∷ cs) = ((c.0 ≡ k) × c.1) ⊎ ((c.1 → ⊥) × First k cs)

-- turned down by k: the state is the one handed in, and nothing but the refusal with this number is said
pub record TurnedDown (k : ℕ) (s : State) (a : Answer) : Type 0 where
  pub refusal : Refusal
  pub number : refusal_number refusal ≡ k
  pub state : a.state ≡ s
  pub step : a.step ≡ Step.Refused refusal
  pub note : a.note ≡ None
  pub reset : a.reset ≡ false
  pub polls : a.polls_used ≡ 0

-- k is given if its condition is the first that holds, and only then; where none holds the step is made
pub record RefusedBy (s : State) (cs : List (ℕ × Type 0)) (a : Answer) : Type 0 where
  pub given : (k : ℕ) → First k cs → TurnedDown k s a
  pub only : (r : Refusal) → a.step ≡ Step.Refused r → First (refusal_number r) cs

-- a choice of candidates is turned down by k
abbrev pub Unchosen : ℕ → Result CandidateList Refusal → Type 0
Unchosen k (Err r) = refusal_number r ≡ k
Unchosen k (Ok l) = ⊥

-- a line's move (02, L4), which has no state: "A line not of the form it starts from gives 5, then a lent buffer shorter than the result 6";
-- back "7, a line moved back whose last-heard is not 0, as the last check of that move". The room is that of the lent buffer
abbrev pub forth_numbers : List ℕ → ℕ → List (ℕ × Type 0)
forth_numbers t room = (5, is_line_of old_forms t ≡ false) ∷ (6, room < length (forth_text t)) ∷ []

abbrev pub back_numbers : List ℕ → ℕ → List (ℕ × Type 0)
back_numbers t room = (5, is_line_of entry_forms t ≡ false) ∷ (6, room < length (back_text t)) ∷ (7, last_heard_in (fields_of_line t) ≡ 0 → ⊥) ∷ []

-- a move is turned down by k
abbrev pub Unmoved : ℕ → Result ℕ MoveRefusal → Type 0
Unmoved k (Err r) = move_refusal_number r ≡ k
Unmoved k (Ok n) = ⊥

-- k is given if its condition is the first that holds, and only then; where none holds the line is moved. After a refusal the lent buffer b is as handed in
pub record MoveRefusedBy (cs : List (ℕ × Type 0)) (r : Result ℕ MoveRefusal) (b left : List ℕ) : Type 0 where
  pub given : (k : ℕ) → First k cs → Unmoved k r
  pub only : (e : MoveRefusal) → r ≡ Err e → First (move_refusal_number e) cs
  pub stays : (e : MoveRefusal) → r ≡ Err e → left ≡ b

-- the claim, of any call on any state, at any time t of the caller's clock; of the call that hands out a scan's confirm too, which then hands out none;
-- of the tick over a lent record ("State and lent buffers then stay as handed in");
-- and of the choice of candidates, which has no state to hand back, and has no list where it is turned down
pub record Demand1 : Type 0 where
  pub numbered : map refusal_number (OperationUnderWay ∷ NotAwaited ∷ TooManyDescriptors ∷ TooManyShortAddressed ∷ BadState ∷ ShortPage ∷ []) ≡ 1 ∷ 2 ∷ 3 ∷ 4 ∷ 5 ∷ 6 ∷ []
  pub answered : (s : State) (c : Call) → RefusedBy s (numbers s c) (answer s c)
  pub confirmed : (s : State) (o : Result PanDescriptorList MacError) (t : ℕ) → RefusedBy s (numbers s (scan o t)) (scanned o t s).answer
  pub unconfirmed : (s : State) (o : Result PanDescriptorList MacError) (t : ℕ) (r : Refusal)
      → (scanned o t s).answer.step ≡ Step.Refused r → (scanned o t s).confirm ≡ None
  pub lent : (t : ParentTimer) (ms : ℕ) (s : State) → RefusedBy s ((5, Bad s) ∷ []) (lent_tick t ms s).answer
  pub record-kept : (t : ParentTimer) (ms : ℕ) (s : State) → Bad s → (lent_tick t ms s).timer ≡ t
  pub choice : (n : ℕ) (router permit : Bool) (s : State)
      → (Unchosen 5 (choose n router permit s) ↔ Bad s) × ((is_ok (choose n router permit s) ≡ true) ↔ (Bad s → ⊥))
  -- the restart of the timer by the node's owner
  pub refreshed : (s : State) → RefusedBy s ((5, Bad s) ∷ []) (refresh s)
  -- the neighbour page in a lent buffer b (02, L1): "6, a lent buffer shorter than 816 bytes, after 5".
  -- After a refusal every byte of b stays, and the state always does
  pub page : (b : List ℕ) (s : State) → RefusedBy s ((5, Bad s) ∷ (6, length b < 816) ∷ []) (page_answer (length b) s)
  pub page-kept : (b : List ℕ) (s : State) → Bad s ⊎ (length b < 816) → page_left b s ≡ b
  pub page-reads : (n : ℕ) (s : State) → (page_answer n s).state ≡ s
  -- a line's move forth and back, for any bytes and any lent buffer
  pub moves-numbered : map move_refusal_number (NotOfForm ∷ ShortBuffer ∷ LastHeardKnown ∷ []) ≡ 5 ∷ 6 ∷ 7 ∷ []
  pub forth : (t b : List ℕ) → MoveRefusedBy (forth_numbers t (length b)) (forth_answer t (length b)) b (forth_left t b)
  pub back : (t b : List ℕ) → MoveRefusedBy (back_numbers t (length b)) (back_answer t (length b)) b (back_left t b)
