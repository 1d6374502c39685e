-- `change_first` meets its contract. Assumes nothing.
use Rattle.std.specs.Prelude.{Option, position, unwrap_or}
use Prim.Native.Nat.{ℕ}
use mathlib.Core.Path.{◌≡◌, sym, ap, ◌∙◌}
use native.Mathlib.Omega.{arith}
use lib.ListN.{length}
use Rattle.lists.specs.Lists.{first_index, change_at, change_first}
use Rattle.lists.proofs.First.{change-first, first-found}
use Rattle.lists.proofs.Maps.{change-past}
use Rattle.nib.specs.Neighbors.{entries_of}
use Rattle.nib.specs.NeighborTable.{has_address}
use Rattle.nib.proofs.Entries.{on_same, on-kept}
use Rattle.nib.proofs.neighbor_table.change_first.Goals as goal

pub returns-in-Some : goal.returns-in-Some
returns-in-Some g c = λ f d.
    let es = entries_of c.args.table in
    let p = has_address c.args.address.0 in
    let i : c.in-Some.index ≡ first_index p es =
    ap (λ (o : Option ℕ). unwrap_or o (length es)) (c.in-Some.ensures ∙ ap (position p) c.used.ensures) ∙ first-found p es in
    c.change_at.ensures f d
    ∙ on_same (change_at c.in-Some.index f) (change_first p f) c.args.table
    (ap (λ (j : ℕ). change_at j f es) i ∙ sym (change-first p f es))

-- no entry has the address, so the first index is past them all
pub returns-in-None : goal.returns-in-None
returns-in-None g c = λ f d.
    let es = entries_of c.args.table in
    let p = has_address c.args.address.0 in
    let i : length es ≡ first_index p es =
    ap (λ (o : Option ℕ). unwrap_or o (length es)) (c.in-None.ensures ∙ ap (position p) c.used.ensures) ∙ first-found p es in
    sym (on-kept (change_first p f) c.args.table (change-first p f es ∙ change-past f (first_index p es) es (omega (arith, i))))
