-- The polls that answers report, beside those that they request
-- (01, "Code places and language forms": "polls used stand in the step's record and equal the poll requests in the definition").
use Rattle.std.specs.Prelude.{ℕ, ◌+◌, ◌≡◌, List, [], ◌∷◌}
use Rattle.operation.specs.declared.RadioRequest.{RadioRequest}
use Rattle.operation.specs.declared.Step.{Step}
use Rattle.node.specs.Calls.{Call, answer, refresh}
use Rattle.node.specs.declared.State.{State}
use Rattle.node.specs.declared.Answer.{Answer}

-- the poll requests of a step
abbrev pub polls_asked : Step → ℕ
polls_asked (Step.Ask (RadioRequest.Poll network address)) = 1
polls_asked (Step.Ask (RadioRequest.Scan r)) = 0
polls_asked (Step.Ask (RadioRequest.Associate r)) = 0
polls_asked (Step.Ask (RadioRequest.Transmit t)) = 0
polls_asked (Step.Ask RadioRequest.Receive) = 0
polls_asked (Step.Refused k) = 0
polls_asked Step.Discovered = 0
polls_asked Step.DiscoveryFailed = 0
polls_asked (Step.Joined x) = 0
polls_asked (Step.Sent x) = 0
polls_asked (Step.Polled x) = 0
polls_asked (Step.NegotiationOver x) = 0
polls_asked (Step.KeepaliveOver x) = 0
polls_asked (Step.Expired x) = 0
polls_asked (Step.LeaveTaken x) = 0
polls_asked (Step.StatusTaken x) = 0
polls_asked Step.PageWritten = 0
polls_asked Step.Done = 0

-- the sum of a number over the answers to a list of calls
abbrev pub total : (Answer → ℕ) → State → List Call → ℕ
total f s [] = 0
total f s (c ∷ cs) = f (answer s c) + total f (answer s c).state cs

-- the claim, of any call and of any list of calls on any state
pub record PollsEqual : Type 0 where
  pub by_call : (s : State) (c : Call) → (answer s c).polls_used ≡ polls_asked (answer s c).step
  -- the restart of the timer, which is no case of `Call`
  pub by-refresh : (s : State) → (refresh s).polls_used ≡ polls_asked (refresh s).step
  pub by-list : (s : State) (cs : List Call) → total (λ a. a.polls_used) s cs ≡ total (λ a. polls_asked a.step) s cs
