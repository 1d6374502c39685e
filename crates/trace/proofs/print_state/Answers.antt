-- `print_state` meets its contract. Assumes nothing.
use mathlib.Core.Path.{sym, ap, ◌∙◌}
use mathlib.Core.List.{◌++◌, append_assoc, flat_map}
use Rattle.lists.proofs.Collect.{flat_map-append}
use Rattle.nib.specs.Neighbors.{entries_of}
use Rattle.text.specs.Writer.{with_text}
use Rattle.text.proofs.Written.{text_behind}
use Rattle.trace_lines.specs.TraceLines.{line_text}
use Rattle.trace.specs.Lines.{node_line, entry_line}
use Rattle.trace.specs.Trace.{some_text, lines_text, each_line, nlme_lines}
use Rattle.trace.proofs.print_state.Goals as goal

-- the node's line, the entries and what follows them are written one behind the other (`text_behind`)
pub returns-clause-value : goal.returns-clause-value
unfolding flat_map
returns-clause-value c =
    let o = c.args.out.now in
    let n = line_text (node_line c.args.state.control.nlme) in
    let es = each_line entry_line (entries_of c.args.state.table) in
    let ns = nlme_lines c.args.state.control.nlme in
    let t = c.print_table.ensures.value ∙ ap (λ w. with_text w (lines_text es)) c.print_node.ensures ∙ text_behind o n (lines_text es) in
    c.print_nlme.ensures.value ∙ ap (λ w. with_text w (lines_text ns)) t ∙ text_behind o (n ++ lines_text es) (lines_text ns)
    ∙ ap (with_text o) (append_assoc n (lines_text es) (lines_text ns) ∙ ap (λ t. n ++ t) (sym (flat_map-append some_text es ns)))
