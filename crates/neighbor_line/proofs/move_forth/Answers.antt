-- `move_forth` meets its contract. Assumes nothing.
use mathlib.Core.Path.{sym, ap, ◌∙◌}
use Rattle.std.specs.Prelude.{Ok}
use Rattle.neighbor_line.proofs.Buffers.{forth_refused, forth_moved}
use Rattle.neighbor_line.proofs.move_forth.Goals as goal

pub returns-in-Some : goal.returns-in-Some
returns-in-Some c = forth_refused c.args.line.now c.args.out.now c.in-Some.refusal (sym c.forth_refusal.ensures ∙ c.in-Some.is)

pub returns-in-None : goal.returns-in-None
returns-in-None c =
    let m = forth_moved c.args.line.now c.args.out.now (sym c.forth_refusal.ensures ∙ c.in-None.is) in
    (ap Ok c.write_both.ensures.0 ∙ m.0, c.write_both.ensures.1 ∙ m.1)
