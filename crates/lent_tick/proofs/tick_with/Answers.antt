-- `tick_with` meets its contract. Assumes nothing.
use mathlib.Core.Path.{ap, ◌∙◌}
use Rattle.node.specs.Calls.{elapsed, answer}
use Rattle.node.specs.declared.State.{State}
use Rattle.lent_tick.proofs.LentTick.{if-refused, if-not-refused}
use Rattle.lent_tick.proofs.tick_with.Goals as goal

pub returns-in-Refused : goal.returns-in-Refused
returns-in-Refused c = c.turned_down.ensures ∙ if-refused c.args.timer c.args.elapsed_ms c.args.state c.tick_parent_timeout-answer.result (c.tick_parent_timeout-answer.ensures ∙ ap (λ (x : State). answer x (elapsed c.args.elapsed_ms)) c.with_parent_timer-lent.ensures) _ c.in-Refused.is

pub returns-in_default : goal.returns-in_default
returns-in_default c = c.with_record.ensures ∙ if-not-refused c.args.timer c.args.elapsed_ms c.args.state c.tick_parent_timeout-answer.result (c.tick_parent_timeout-answer.ensures ∙ ap (λ (x : State). answer x (elapsed c.args.elapsed_ms)) c.with_parent_timer-lent.ensures) c.in_default.not-Refused
