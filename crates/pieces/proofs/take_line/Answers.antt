-- What is answered, and the buffer then, by the laws of what is taken of a piece.
use Rattle.pieces.proofs.Taking.{past_end, feed-taken, all-taken}
use Rattle.pieces.proofs.take_line.Goals as goal

pub returns-then-piece-at-clause-value : goal.returns-then-piece-at-clause-value
returns-then-piece-at-clause-value c =
    let a = c.args in
    (past_end a.line.now a.piece.now a.kept a.at c.if-piece-at.true c.kept_with.ensures).0

pub returns-then-piece-at-clause-line_after : goal.returns-then-piece-at-clause-line_after
returns-then-piece-at-clause-line_after c =
    let a = c.args in
    (past_end a.line.now a.piece.now a.kept a.at c.if-piece-at.true c.kept_with.ensures).1.0

pub returns-then-more-left-clause-value : goal.returns-then-more-left-clause-value
returns-then-more-left-clause-value c =
    let a = c.args in
    (feed-taken a.line.now a.piece.now a.kept a.at c.part.ensures c.write-more.ensures.0 c.write-more.ensures.1 c.kept_with-now_kept.ensures c.if-more-left.true).0

pub returns-then-more-left-clause-line_after : goal.returns-then-more-left-clause-line_after
returns-then-more-left-clause-line_after c =
    let a = c.args in
    (feed-taken a.line.now a.piece.now a.kept a.at c.part.ensures c.write-more.ensures.0 c.write-more.ensures.1 c.kept_with-now_kept.ensures c.if-more-left.true).1.0

pub returns-clause-value : goal.returns-clause-value
returns-clause-value c =
    let a = c.args in
    (all-taken a.line.now a.piece.now a.kept a.at c.part.ensures c.write-more.ensures.0 c.write-more.ensures.1 c.kept_with-now_kept.ensures c.if-more-left.false).0

pub returns-clause-line_after : goal.returns-clause-line_after
returns-clause-line_after c =
    let a = c.args in
    (all-taken a.line.now a.piece.now a.kept a.at c.part.ensures c.write-more.ensures.0 c.write-more.ensures.1 c.kept_with-now_kept.ensures c.if-more-left.false).1.0
