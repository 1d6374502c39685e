-- `write_list` meets its contract: the header and the candidates' lines, written one behind the other, are the text of the definition. Assumes nothing.
use mathlib.Core.Path.{ap, ◌∙◌}
use Rattle.nib.specs.Neighbors.{entries_of}
use Rattle.candidates.specs.Candidates.{items_of}
use Rattle.text.specs.Text.{parts}
use Rattle.text.specs.declared.writer.Writer.{Writer}
use Rattle.text.specs.Writer.{with_text}
use Rattle.text.proofs.Written.{text_behind}
use Rattle.yard_list.specs.YardList.{header, rows_from}
use Rattle.yard_list.proofs.Rows.{list-is}
use Rattle.yard_list.proofs.write_list.Goals as goal

pub returns : goal.returns
returns c =
    let t = c.read_table-table.result in
    let l = c.request_candidates-list.result in
    let rows = rows_from (entries_of t) 1 (items_of l) in
    c.write_rows.ensures ∙ ap (λ (w : Writer). with_text w rows) c.write.ensures ∙ text_behind c.args.out.now header rows
    ∙ ap (with_text c.args.out.now) (list-is c.args.ended (parts 10 c.args.input.now) c.part.result.now t l c.requires.0 c.requires.2 c.part.ensures c.read_table-table.ensures c.request_candidates-list.ensures)
