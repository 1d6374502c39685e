-- `print_page` meets its contract. Assumes nothing.
use Rattle.std.proofs.Common.{rules}
use mathlib.Core.Path.{ap, ◌∙◌}
use Rattle.nib.specs.Neighbors.{entries_of}
use Rattle.text.specs.Writer.{with_text}
use Rattle.text.proofs.Written.{text_behind}
use Rattle.trace.specs.Lines.{step_line}
use Rattle.trace.specs.Trace.{some_text, page_bytes}
use Rattle.trace.proofs.Pages.{page_behind, page_alone, page-taken}
use Rattle.trace.proofs.print_page.Goals as goal

-- the line of the step, none, and the page behind it
pub returns-in-PageWritten : goal.returns-in-PageWritten
returns-in-PageWritten c =
    let st = c.lend_page-step.result in
    let es = entries_of c.args.state.table in
    let e = c.lend_page-step.ensures in
    let o = c.args.out.now in
    let t = c.in_use.ensures ∙ page-taken _ c.lend_page-step.new.page st es c.in-PageWritten.is e.page in
    c.write.ensures ∙ (λ i. with_text (c.print_step.ensures i) (t i)) ∙ text_behind o (some_text (step_line st 0)) (page_bytes st es)
    ∙ ap (with_text o) (page_behind c.args.bytes c.args.state st e.step)

pub returns-in_default : goal.returns-in_default
returns-in_default c =
    let e = c.lend_page-step.ensures in
    c.print_step.ensures ∙ ap (with_text c.args.out.now) (page_alone c.args.bytes c.args.state c.lend_page-step.result e.step (search rules))
