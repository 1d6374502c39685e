-- `write_page` meets its contract. Assumes nothing.
use Rattle.std.proofs.Common.{◌≡◌, ◌+◌, ◌*◌, ◌<◌, ◌≤◌, not, cond, [], length, take, get_or, length-append, refl, sym, ap, ◌∙◌, arith}
use Rattle.std.proofs.lemmas.List.Edits.{sets}
use mathlib.Core.List.{flat_map}
use borrow.Author.Tests.{lt-ltb, le-ltb}
use lib.Seq.{take_all, length-sets}
use Rattle.lists.specs.Lists.{over}
use Rattle.lists.proofs.Bytes.{sets-append, sets_over}
use Rattle.lists.proofs.Collect.{flat_map-next}
use Rattle.nib.specs.Neighbors.{entries_of}
use Rattle.neighbor_page.specs.Page.{page, written}
use Rattle.neighbor_page.proofs.Form.{rows-size, taken-size, page_size, part_stored}
use Rattle.neighbor_page.proofs.write_page.Goals as goal

-- the buffer is too short: all of it stays
pub returns-then-page-lt-PAGE_BYTES : goal.returns-then-page-lt-PAGE_BYTES
unfolding written
returns-then-page-lt-PAGE_BYTES c =
    let b = c.args.page.now in
    let e = sym (lt-ltb (length b) 816 c.if-page-lt-PAGE_BYTES.true) in
    (ap not e, ap (λ t. cond t b (over b (page (entries_of c.args.table)))) e)

pub loop-k-init : goal.loop-k-init
unfolding flat_map
loop-k-init c = refl

-- one row more. The k rows so far have 48 k bytes (`taken-size`), so the next row, of 48 bytes (`d`), is written right behind them (`sets-append`), in its own
-- part of the buffer (`part_stored`); they and it are the first k + 1 (`m`)
pub loop-k-preserved : goal.loop-k-preserved
loop-k-preserved c =
    let b = c.args.page.now in
    let es = entries_of c.args.table in
    let rs = c.rows_of-rows.result in
    let q = c.rows_of-rows.ensures in
    let k = c.loop-k.k in
    let h : k < length rs = omega (arith, c.loop-k-test.true, rows-size es rs q) in
    let f = flat_map (λ r. r) (take k rs) in
    let r = get_or rs k [] in
    let l : length f ≡ 48 * k = taken-size es rs q k (omega (arith, rows-size es rs q)) in
    let n : k * 48 ≡ 0 + length f = omega (arith, l) in
    let m = flat_map-next (λ x. x) rs k [] h in
    let d : length r ≡ 48 = omega (arith, l, taken-size es rs q (k + 1) (omega (arith, rows-size es rs q)), ap length m, length-append f r) in
    let o : length c.loop-k.page ≡ length b = ap length c.loop-k.invariant ∙ length-sets b 0 f in
    part_stored c.loop-k.page c.write_row.new.part r (k * 48) (omega (arith, c.if-page-lt-PAGE_BYTES.false, d, o, rows-size es rs q, h)) c.write_row.ensures
    ∙ (λ i. sets (c.loop-k.invariant i) (n i) r)
    ∙ sym (ap (sets b 0) m ∙ sets-append b 0 f r)

-- the buffer is long enough, and there are 17 rows
pub returns : goal.returns
unfolding written page
returns c =
    let b = c.args.page.now in
    let es = entries_of c.args.table in
    let rs = c.rows_of-rows.result in
    let q = c.rows_of-rows.ensures in
    let p = ap (flat_map (λ r. r)) (take_all c.loop-k.k rs (omega (arith, rows-size es rs q)) ∙ q) in
    let o : 816 ≤ length b = omega (arith, c.if-page-lt-PAGE_BYTES.false) in
    let w : c.loop-k.page ≡ over b (page es) = c.loop-k.invariant ∙ ap (sets b 0) p ∙ sets_over b (page es) (omega (arith, page_size es)) in
    let e = sym (le-ltb (length b) 816 o) in
    (ap not e, w ∙ ap (λ t. cond t b (over b (page es))) e)
