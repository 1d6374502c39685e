-- What a call looks at in a state, what a decision writes to it, and the answer that is made of both.
use Rattle.std.specs.Prelude.{Option, Bool, false, cond, List, length}
use Rattle.nib.specs.Neighbors.{entries_of}
use Rattle.nib.specs.declared.NwkNeighbor.{NwkNeighbor}
use Rattle.nib.specs.declared.NeighborTable.{NeighborTable}
use Rattle.nib.specs.NeighborTable.{ieee_of, on_entries}
use Rattle.candidates.specs.Tries.{parent_in, tried_in, next_in, taking, adopted_next, joined_tried, potential_cleared_tried}
use Rattle.candidates.specs.declared.tries.Candidates.{Candidates}
use Rattle.operation.specs.declared.Control.{Control}
use Rattle.operation.specs.declared.Move.{Move}
use Rattle.operation.specs.declared.Move.TheVariants.{Stay, TakeNext, AdoptNext, JoinTried}
use Rattle.operation.specs.declared.Decision.{Decision}
use Rattle.node.specs.declared.State.{State}
use Rattle.node.specs.declared.Answer.{Answer}
use Rattle.nib.specs.declared.IeeeAddress.{IeeeAddress}

abbrev pub with_control : Control → State → State
with_control c s = record s { control = c }

abbrev pub with_table : NeighborTable → State → State
with_table t s = record s { table = t }

abbrev pub with_candidates : Candidates → State → State
with_candidates c s = record s { candidates = c }

abbrev pub entries : State → List NwkNeighbor
entries s = entries_of s.table

-- the parent, the candidate being tried, the next one, and the IEEE address known of the broadcast address
abbrev pub parent : State → Option NwkNeighbor
parent s = parent_in (entries s)

abbrev pub tried : State → Option NwkNeighbor
tried s = tried_in (entries s) s.candidates

abbrev pub next : State → Option NwkNeighbor
next s = next_in (entries s) s.candidates

abbrev pub broadcast : State → Option IeeeAddress
broadcast s = ieee_of 0xffff (entries s)

-- what a decision does with the candidates (01, "Join request and confirm")
abbrev pub taken_next : State → State
taken_next s = with_candidates (taking (length (entries s)) s.candidates) s

unfoldable pub moved : Move → State → State
moved Stay s = s
moved TakeNext s = taken_next s
moved AdoptNext s = taken_next (with_table (on_entries (adopted_next s.candidates) s.table) s)
moved JoinTried s = with_table (on_entries (joined_tried s.candidates) s.table) s

-- the candidate being tried is no longer a potential parent
unfoldable pub potential_cleared : Bool → State → State
potential_cleared b s = cond b (with_table (on_entries (potential_cleared_tried s.candidates) s.table) s) s

-- a decision carried out; `reset` is the reset note (01, "Received frame")
abbrev pub answered : Bool → State → Decision → Answer
answered reset s d =
    record { state = with_control d.control s; reset = reset; note = d.note; step = d.step; polls_used = d.polls_used }

unfoldable pub deciding_with : Bool → State → Decision → Answer
deciding_with reset s d = answered reset (moved d.candidate (potential_cleared d.clear_potential_parent s)) d

-- a decision with no reset note
abbrev pub deciding : State → Decision → Answer
deciding s d = deciding_with false s d
