-- The run goes on, or is over, by the laws of what goes on.
use Rattle.std.proofs.Common.{rules, sym}
use Rattle.line_filter.proofs.Going.{none_left, not_yet, got, over, fails}
use Rattle.line_filter.proofs.answer_piece.Goals as goal

pub returns-in_err-answer-clause-goes : goal.returns-in_err-answer-clause-goes
returns-in_err-answer-clause-goes g c s lines came h =
    let t = c.take_line-taken in
    let i = (c.loop-at.invariant.1 s lines came h).1 in
    fails g.F.LineFilter.finishes came c.args.piece.now c.loop-at.line t.new.line c.loop-at.at c.loop-at.kept _ c.loop-at.filter t.result i t.ensures.value t.ensures.line_after c.from_residual.result t.new.line c.if-taken.true c.answer.ensures c.in_err-answer.was c.from_residual.ensures.0

pub returns-then-not-branch-clause-goes : goal.returns-then-not-branch-clause-goes
returns-then-not-branch-clause-goes g c s lines came h =
    let t = c.take_line-taken in
    let i = (c.loop-at.invariant.1 s lines came h).1 in
    over g.F.LineFilter.finishes came c.args.piece.now c.loop-at.line t.new.line c.loop-at.at c.loop-at.kept _ c.loop-at.filter t.result i t.ensures.value t.ensures.line_after c.if-taken.true c.answer.ensures (rw (sym c.if-not-branch.true) c.in_ok-answer.was)

pub loop-at-preserved-then-taken : goal.loop-at-preserved-then-taken
loop-at-preserved-then-taken g c =
    let t = c.take_line-taken in (
      search rules,
      λ s lines came h.
          let i = (c.loop-at.invariant.1 s lines came h).1 in
          (_, got g.F.LineFilter.finishes came c.args.piece.now c.loop-at.line t.new.line c.loop-at.at c.loop-at.kept _ c.loop-at.filter t.result i t.ensures.value t.ensures.line_after c.if-taken.true c.answer.ensures (rw (sym c.if-not-branch.false) c.in_ok-answer.was)),
    )

pub loop-at-preserved : goal.loop-at-preserved
loop-at-preserved g c =
    let t = c.take_line-taken in (
      search rules,
      λ s lines came h.
          let i = (c.loop-at.invariant.1 s lines came h).1 in
          (_, not_yet g.F.LineFilter.finishes came c.args.piece.now c.loop-at.line t.new.line c.loop-at.at c.loop-at.kept _ c.loop-at.filter t.result i t.ensures.value t.ensures.line_after c.if-taken.false),
    )

pub returns-clause-goes : goal.returns-clause-goes
returns-clause-goes g c s lines came h =
    let i = c.loop-at.invariant.1 s lines came h in
    (i.0, none_left c.args.piece.now c.loop-at.at c.loop-at-test.false i.1)
