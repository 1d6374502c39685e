-- `rows_of` meets its contract. Assumes nothing.
use Rattle.std.proofs.Common.{◌≡◌, replicate, ap, ◌∙◌, arith}
use Rattle.nib.specs.Neighbors.{entries_of, entry_at}
use Rattle.neighbor_page.specs.Page.{slot_row}
use Rattle.neighbor_page.proofs.Gathered.{rows_next}
use Rattle.neighbor_page.proofs.rows_of.Goals as goal

pub loop-i-preserved : goal.loop-i-preserved
loop-i-preserved c =
    let es = entries_of c.args.table in
    let i = c.loop-i.i in
    let x : c.slot_row.result ≡ slot_row i (entry_at es i) = c.slot_row.ensures ∙ ap (slot_row i) c.get.ensures in
    (c.loop-i.invariant.0, rows_next es (replicate 17 c.first_row-rows.result) c.loop-i.rows i c.slot_row.result c.loop-i.invariant.0 (omega arith) c.loop-i.invariant.1 x)
