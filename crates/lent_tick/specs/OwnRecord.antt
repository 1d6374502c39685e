-- The tick over the state's own record (01, "Two nodes": "ticks lent the state's own record").
use Rattle.std.specs.Prelude.{ℕ, ◌≡◌}
use Rattle.node.specs.Calls.{elapsed, answer}
use Rattle.node.specs.declared.State.{State}
use Rattle.lent_tick.specs.LentTick.{lent_tick}

-- it answers as the state's tick does, and leaves in the lent record what the state that is left has there
pub record OwnRecord : Type 0 where
  pub answer-same : (ms : ℕ) (s : State) → (lent_tick s.control.nlme.parent_timer ms s).answer ≡ answer s (elapsed ms)
  pub record_same : (ms : ℕ) (s : State) → (lent_tick s.control.nlme.parent_timer ms s).timer ≡ (answer s (elapsed ms)).state.control.nlme.parent_timer
