-- When a call is turned down (01, "When a call is turned down"). "State and lent buffers then stay as handed in."
use Rattle.std.specs.Prelude.{Option, Some, None, ℕ, Bool, false, cond, ◌||◌, ltb}
use Rattle.candidates.specs.Tries.{past_table}
use Rattle.candidates.specs.declared.tries.Candidates.{Candidates}
use Rattle.operation.specs.Operation.{is_idle, association_for}
use Rattle.operation.specs.declared.Operation.{Operation}
use Rattle.operation.specs.declared.Step.TheVariants.{Refused}
use Rattle.node.specs.declared.State.{State}
use Rattle.node.specs.declared.Answer.{Answer}
use Rattle.operation.specs.declared.Refusal.{Refusal}
use Rattle.operation.specs.declared.Refusal.TheVariants.{OperationUnderWay, NotAwaited}

-- a refusal: the state is the one handed in, and nothing else is said
unfoldable pub refuse : Refusal → State → Answer
refuse k s = record { state = s; reset = false; note = None; step = Refused k; polls_used = 0 }

-- "an index being tried or still to be tried in an association is not below the neighbour count"
abbrev pub past_in : Option (Unit {0}) → ℕ → Candidates → Bool
past_in (Some u) n c = past_table n c
past_in None n c = false

-- 5: "a count in the state is above 16, polls left above 20, or an index .."
abbrev pub bad_by : ℕ → ℕ → Candidates → Operation → Bool
bad_by neighbors failures c o =
    ltb 16 neighbors
    || (ltb 16 failures
    || (ltb 16 c.list.count
    || (ltb 16 c.taken
    || (ltb 20 o.polls_left
    || past_in (association_for o.phase) neighbors c))))

unfoldable pub bad : State → Bool
bad s = bad_by s.table.count s.control.nlme.transmit_failures.count s.candidates s.control.operation

-- a start: "1 if an operation is under way"
abbrev pub start : Answer → State → Answer
start a s = cond (is_idle s.control.operation.phase) a (refuse OperationUnderWay s)

-- an outcome: "2 if no request awaits that kind"
unfoldable pub outcome : {A : Type 0} → Option A → (A → State → Answer) → State → Answer
outcome (Some u) f s = f u s
outcome None f s = refuse NotAwaited s
