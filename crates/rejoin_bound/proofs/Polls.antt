-- The polls that answers report are those that they request. Assumes nothing.
use Prim.Native.Nat.{ℕ, ◌+◌}
use mathlib.Core.Path.{◌≡◌, refl, ap₂, subst⁻¹}
use mathlib.Core.List.{List, [], ◌∷◌}
use Rattle.operation.specs.declared.RadioRequest.{RadioRequest}
use Rattle.operation.specs.declared.Step.{Step}
use Rattle.node.specs.Refusals.{refuse}
use Rattle.node.specs.Calls.{Call, answer}
use Rattle.node.specs.declared.State.{State}
use Rattle.node.specs.declared.Answer.{Answer}
use Rattle.refusals.proofs.Decisions.{Uses}
use Rattle.refusals.proofs.Refusals.{Gets, done, turned, passed, answer-made, refresh-made}
use Rattle.rejoin_bound.specs.Polls.{polls_asked, total, PollsEqual}

uses-asked : (x : Step) (n : ℕ) → Uses x n → n ≡ polls_asked x
uses-asked (Step.Ask (RadioRequest.Poll network address)) n h = h
uses-asked (Step.Ask (RadioRequest.Scan r)) n h = h
uses-asked (Step.Ask (RadioRequest.Associate r)) n h = h
uses-asked (Step.Ask (RadioRequest.Transmit t)) n h = h
uses-asked (Step.Ask RadioRequest.Receive) n h = h
uses-asked (Step.Refused k) n h = absurd h
uses-asked Step.Discovered n h = h
uses-asked Step.DiscoveryFailed n h = h
uses-asked (Step.Joined x) n h = h
uses-asked (Step.Sent x) n h = h
uses-asked (Step.Polled x) n h = h
uses-asked (Step.NegotiationOver x) n h = h
uses-asked (Step.KeepaliveOver x) n h = h
uses-asked (Step.Expired x) n h = h
uses-asked (Step.LeaveTaken x) n h = h
uses-asked (Step.StatusTaken x) n h = h
uses-asked Step.PageWritten n h = h
uses-asked Step.Done n h = h

answer-asked : {s : State} {a : Answer} {cs : List (ℕ × Type 0)} → Gets s a cs → a.polls_used ≡ polls_asked a.step
unfolding refuse
answer-asked {a = a} (done h) = uses-asked a.step a.polls_used h
answer-asked (turned r n h e) = subst⁻¹ (λ (x : Answer). x.polls_used ≡ polls_asked x.step) e refl
answer-asked (passed n g) = answer-asked g

by_call : (s : State) (c : Call) → (answer s c).polls_used ≡ polls_asked (answer s c).step
by_call s c = answer-asked (answer-made s c)

by-list : (s : State) (cs : List Call) → total (λ a. a.polls_used) s cs ≡ total (λ a. polls_asked a.step) s cs
by-list s [] = refl
by-list s (c ∷ cs) = ap₂ ◌+◌ (by_call s c) (by-list (answer s c).state cs)

pub polls-equal : PollsEqual
polls-equal = record { by_call = by_call; by-refresh = λ s. answer-asked (refresh-made s); by-list = by-list }
