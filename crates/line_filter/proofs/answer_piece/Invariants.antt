-- What is kept lies within the buffer, a run that goes on goes on, and each turn goes on by a byte or more.
use Rattle.std.proofs.Common.{length, ◌-◌, ℕ, List}
use lib.ListN.{drop}
use Rattle.filter.specs.Edges.{Counts}
use Rattle.line_filter.specs.Private.{Going}
use Rattle.line_filter.proofs.answer_piece.Given as goal

abbrev pub invariant-loop-at : goal.invariant-loop-at
invariant-loop-at g l =
    Counts l.kept l.line
    × ((s : _) (lines : List (List ℕ)) (came : List ℕ)
    → Going g.F.LineFilter.answers (length l.fn.line) s l.fn.piece came (record { lines = lines; line = l.fn.line; kept = l.fn.kept }) l.fn.filter
    → (now : List (List ℕ)) × Going g.F.LineFilter.answers (length l.fn.line) s (drop l.at l.piece) came (record { lines = now; line = l.line; kept = l.kept }) l.filter)

abbrev pub decreases-loop-at : goal.decreases-loop-at
decreases-loop-at g l = length l.piece - l.at
