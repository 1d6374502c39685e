-- What a private function says of a tick that is turned down. No public promise uses it.
use Rattle.node.specs.declared.State.{State}
use Rattle.node.specs.declared.Answer.{Answer}

-- an answer with another state in place of its own
abbrev pub with_state : State → Answer → Answer
with_state s a = record a { state = s }
