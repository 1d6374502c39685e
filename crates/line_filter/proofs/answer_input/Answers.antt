-- The lines of what has come are answered, by the laws of a run that goes on.
use Rattle.std.proofs.Common.{rules, [], refl, ap, ◌∙◌, ◌++◌, Ok, Err}
use lib.ListN.{take}
use Rattle.line_filter.proofs.Going.{at_start, at_end, where_cut, with_piece, any_failed}
use Rattle.line_filter.proofs.answer_input.Goals as goal

pub loop-init : goal.loop-init
loop-init g c = (search rules, ([], [], at_start c.args.line.now refl))

pub returns-in_err-n : goal.returns-in_err-n
returns-in_err-n g c =
    let i = c.loop.invariant.1 in
    (i.0, where_cut g.F.LineFilter.finishes c.from_residual.result c.from_residual.ensures.0 i.2)

pub returns-then-n-eq0 : goal.returns-then-n-eq0
returns-then-n-eq0 g c =
    let i = c.loop.invariant.1 in
    (i.0, at_end i.2 c.finish.ensures)

pub returns-in_err-now_kept : goal.returns-in_err-now_kept
returns-in_err-now_kept g c =
    let e = c.from_residual-in_err-now_kept in
    let i = c.loop.invariant.1 in
    let p = c.answer_piece in
    (i.0 ++ take c.in_ok-n.n c.read.new.buf, any_failed e.result e.ensures.0 (with_piece g.F.LineFilter.finishes p.new.line p.new.filter c.loop.auto.line p.ensures.goes c.in_err-now_kept.was i.2))

pub returns-in-None : goal.returns-in-None
returns-in-None g c =
    let i = c.loop.invariant.1 in
    let p = c.answer_piece in (
      i.0 ++ take c.in_ok-n.n c.read.new.buf,
      with_piece g.F.LineFilter.finishes p.new.line p.new.filter c.loop.auto.line p.ensures.goes (c.in_ok-now_kept.was ∙ ap Ok c.in-None.is) i.2,
    )

pub loop-preserved : goal.loop-preserved
loop-preserved g c =
    let p = c.answer_piece in
    let w = with_piece g.F.LineFilter.finishes p.new.line p.new.filter c.loop.auto.line p.ensures.goes (c.in_ok-now_kept.was ∙ ap Ok c.in-Some.is) c.loop.invariant.1.2 in
    (search rules, (_, w.0, w.1))

pub returns : goal.returns
returns g c =
    let i = c.loop.invariant.1 in
    (i.0, where_cut g.F.LineFilter.finishes (Err (record {})) refl i.2)
