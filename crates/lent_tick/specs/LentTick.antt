-- A tick over a lent timer record (01, "Supervision record": "The timer interrupt lends its record and finds it updated there"; Zigbee 3.6.10.6).
use Rattle.std.specs.Prelude.{ℕ, cond}
use Rattle.supervision.specs.declared.parent_timer.ParentTimer.{ParentTimer}
use Rattle.nlme.specs.Fields.{with_timer}
use Rattle.node.specs.Refusals.{bad, refuse}
use Rattle.node.specs.Calls.{with_node, elapsed, answer}
use Rattle.node.specs.declared.State.{State}
use Rattle.node.specs.declared.Answer.{Answer}
use Rattle.lent_tick.specs.declared.LentTicked.{LentTicked}
use Rattle.operation.specs.declared.Refusal.TheVariants.{BadState}

-- the state's own record, and the state with another in its place
abbrev pub timer_of : State → ParentTimer
timer_of s = s.control.nlme.parent_timer

abbrev pub with_parent_timer : ParentTimer → State → State
with_parent_timer t s = with_node (with_timer t s.control.nlme) s

-- turned down by 5: state and record stay as handed in
abbrev pub lent_turned_down : ParentTimer → State → LentTicked
lent_turned_down t s = record { timer = t; answer = refuse BadState s }

-- an answer, and its state's record in the lent one
abbrev pub with_record : Answer → LentTicked
with_record a = record { timer = timer_of a.state; answer = a }

-- a tick of the state with the lent record in place of its own
unfoldable pub lent_tick : ParentTimer → ℕ → State → LentTicked
lent_tick t ms s = cond (bad s) (lent_turned_down t s) (with_record (answer (with_parent_timer t s) (elapsed ms)))
