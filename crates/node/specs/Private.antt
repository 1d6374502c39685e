-- What the private functions say of a call that is turned down. No public promise uses it.
use Rattle.std.specs.Prelude.{Option, Some, None, cond}
use Rattle.operation.specs.Operation.{is_idle}
use Rattle.operation.specs.declared.Refusal.{Refusal}
use Rattle.operation.specs.declared.Refusal.TheVariants.{OperationUnderWay, BadState}
use Rattle.node.specs.declared.State.{State}
use Rattle.node.specs.Refusals.{bad}

-- the refusal of a call that may come at any time: 5, or none
abbrev pub refusal : State → Option Refusal
refusal s = cond (bad s) (Some BadState) None

-- the refusal of a start: 5, then "1 if an operation is under way"
abbrev pub start_refusal : State → Option Refusal
start_refusal s = cond (bad s) (Some BadState) (cond (is_idle s.control.operation.phase) None (Some OperationUnderWay))
