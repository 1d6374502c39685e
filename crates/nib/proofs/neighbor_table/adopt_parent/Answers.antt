-- `adopt_parent` meets its contract. Assumes nothing.
use Prim.Native.Nat.{◌≤◌, ◌<◌}
use mathlib.Core.Path.{sym, ap, ◌∙◌}
use mathlib.Core.List.{map}
use native.Mathlib.Omega.{arith}
use borrow.Author.Rules.{rules}
use lib.ListN.{length, length-map}
use Rattle.nib.specs.Neighbors.{NONE, entries_of}
use Rattle.nib.specs.declared.NeighborTable.{NeighborTable}
use Rattle.nib.specs.NeighborTable.{on_entries, with_relationship, marked, adopted}
use Rattle.nib.proofs.Entries.{on_same, on-kept, on-on, adopted-past, adopted-is}
use Rattle.nib.proofs.neighbor_table.adopt_parent.Goals as goal

pub returns-then-len-index : goal.returns-then-len-index
returns-then-len-index c =
    let h : length (entries_of c.args.table) ≤ c.args.index = omega (arith, c.len.ensures) in
    sym (on-kept (adopted c.args.index) c.args.table (adopted-past c.args.index (entries_of c.args.table) h))

pub returns : goal.returns
returns c =
    let t = c.args.table in
    let i = c.args.index in
    let f = with_relationship NONE in
    let h : i < length (entries_of t) = omega (arith, c.len.ensures) in
    c.mark_parent.ensures
    ∙ ap (λ (r : NeighborTable). on_entries (marked i) r) (c.change_all-none.ensures f (λ e r p. search rules))
    ∙ on-on (map f) t (length-map (entries_of t) f) (marked i)
    ∙ sym (on_same (adopted i) (λ es. marked i (map f es)) t (adopted-is i (entries_of t) h))
