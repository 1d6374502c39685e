-- What is kept lies within the buffer, and the lines of what has come are answered.
use Rattle.std.proofs.Common.{length, List, [], ℕ}
use Rattle.filter.specs.Edges.{Counts}
use Rattle.line_filter.specs.Private.{Going}
use Rattle.line_filter.proofs.answer_input.Given as goal

abbrev pub invariant-loop : goal.invariant-loop
invariant-loop g l =
    Counts l.kept l.line
    × ((came : List ℕ)
    × (lines : List (List ℕ))
    × Going g.F.LineFilter.answers (length l.fn.line) l.fn.filter [] came (record { lines = lines; line = l.line; kept = l.kept }) l.filter)
