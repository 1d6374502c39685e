-- `print_turn` meets its contract. Assumes nothing.
use Rattle.trace.proofs.print_turn.Goals as goal

pub returns-in-Shown-clause-value : goal.returns-in-Shown-clause-value
returns-in-Shown-clause-value c = rw c.in-Shown.is c.print_state.ensures.value
