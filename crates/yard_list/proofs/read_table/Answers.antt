-- `read_table` meets its contract. Assumes nothing.
use native.Mathlib.Omega.{arith}
use mathlib.Core.Path.{ap, ◌∙◌}
use lib.ListN.{take, drop, length-take}
use Rattle.std.proofs.Common.{[], eqb, rules}
use borrow.Author.Tests.{tests}
use Rattle.std.proofs.lemmas.Iterator.{YieldsList-from_take}
use Rattle.std.proofs.lemmas.Iterator.Adapters.{YieldsList-from_skip}
use Rattle.std.proofs.lemmas.Iterator.Consumers.{YieldsList-at, fold_from_yields_List}
use Rattle.std.proofs.lemmas.Iterator.Splits.{YieldsList-from_slice_split}
use Rattle.std.specs.List.{fold}
use Rattle.nib.specs.Neighbors.{pushed}
use Rattle.nib.specs.declared.NeighborTable.{NeighborTable}
use Rattle.neighbor_line.specs.NeighborLine.{entry_read}
use Rattle.text.specs.Text.{parts, fields}
use Rattle.yard_list.proofs.Lines.{table-of}
use Rattle.yard_list.proofs.read_table.Goals as goal

pub returns : goal.returns
returns c =
    let ls = take c.args.count (drop 1 (parts 10 c.args.input.now)) in
    fold_from_yields_List _ (λ t l. pushed t (entry_read (fields l))) _ _ c.fold.ensures.ran (
    YieldsList-from_take c.args.count
    (YieldsList-at c.take.ensures.source (YieldsList-from_skip 1
    (YieldsList-at c.skip.ensures.source (YieldsList-from_slice_split _ (λ b. eqb b 10) c.args.input.now c.split.ensures.rest c.split.ensures.done c.split.ensures.closure (λ x b q k. search (rules, tests))))
    c.skip.ensures.count))
    c.take.ensures.count
    ) (λ a x b q k. search (rules, tests))
    ∙ ap (λ (t : NeighborTable). fold (λ t l. pushed t (entry_read (fields l))) t ls) c.new.ensures
    ∙ table-of [] ls (omega (arith, c.requires, length-take c.args.count (drop 1 (parts 10 c.args.input.now))))
