-- `State::join` meets its contract. Assumes nothing.
use mathlib.Core.Path.{◌≡◌, sym, ◌∙◌}
use Rattle.node.specs.Calls.{answer}
use Rattle.node.proofs.TurnedDown.{start-refused}
use Rattle.node.proofs.State.join.Goals as goal

pub returns-in-Some : goal.returns-in-Some
unfolding answer
returns-in-Some c = c.refuse.ensures ∙ start-refused c.args.self _ _ (sym c.start_refusal.ensures ∙ c.in-Some.is)
