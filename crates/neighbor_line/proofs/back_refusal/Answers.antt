-- `back_refusal` meets its contract: the length of the front and a line feed is that of the result. Assumes nothing.
use mathlib.Core.Path.{sym, ap, ◌∙◌}
use native.Mathlib.Omega.{arith}
use lib.ListN.{length}
use Rattle.neighbor_line.proofs.Buffers.{back_short, back_known, back_given}
use Rattle.neighbor_line.proofs.back_refusal.Goals as goal

pub returns-then-room-back_front : goal.returns-then-room-back_front
returns-then-room-back_front c =
    sym (back_short c.args.line.now c.args.room (sym c.is_line_of.ensures ∙ c.if-not-is_line_of.false) (omega (arith, ap length c.back_front.ensures, c.if-room-back_front.true)))

pub returns-then-last_heard-ne0 : goal.returns-then-last_heard-ne0
returns-then-last_heard-ne0 c =
    sym (back_known c.args.line.now c.args.room (sym c.is_line_of.ensures ∙ c.if-not-is_line_of.false) (omega (arith, ap length c.back_front.ensures, c.if-room-back_front.false))
    (λ z. c.if-last_heard-ne0.true (c.last_heard.ensures ∙ z)))

pub returns : goal.returns
returns c =
    sym (back_given c.args.line.now c.args.room (sym c.is_line_of.ensures ∙ c.if-not-is_line_of.false) (omega (arith, ap length c.back_front.ensures, c.if-room-back_front.false))
    (sym c.last_heard.ensures ∙ c.if-last_heard-ne0.false))
