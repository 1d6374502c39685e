-- `retain` meets its contract. Assumes nothing.
use Prim.Native.Nat.{ℕ, ◌<◌, ◌+◌}
use mathlib.Core.Path.{◌≡◌, sym, ap, ◌∙◌}
use mathlib.Core.Bool.{Bool, true, false, cond, not}
use mathlib.Core.List.{List, [], ◌∷◌, ◌++◌, append-nil}
use native.Mathlib.Omega.{arith}
use borrow.Author.Rules.{rules}
use lib.ListN.{length, take, get_or, length-take}
use Rattle.std.proofs.lemmas.List.{take_more}
use Rattle.lists.proofs.Lists.{length-mapped, select-snoc}
use Rattle.nib.specs.Neighbors.{table_of, pushed, blank}
use Rattle.nib.specs.declared.NwkNeighbor.{NwkNeighbor}
use Rattle.nib.specs.declared.NeighborTable.{NeighborTable}
use Rattle.nib.proofs.Tables.{entries-few, push-of}
use Rattle.nib.specs.NeighborTable.{has_address, retained}
use Rattle.nib.proofs.Entries.{retained-long}
use Rattle.nib.proofs.neighbor_table.retain.Goals as goal
use Rattle.nib.proofs.neighbor_table.retain.Goals.{else-kept, then-kept}

pub loop-e-init : goal.loop-e-init
unfolding retained
loop-e-init c = c.new-out.ensures

-- one entry more: it is kept, or it is not
next : (a i : ℕ) (es : List NwkNeighbor) (b : Bool) → i < length es → not (has_address a (get_or es i blank)) ≡ b → retained a (take (i + 1) es) ≡ retained a (take i es) ++ cond b (get_or es i blank ∷ []) []
unfolding retained
next a i es b h t = rw (take_more es i blank h, select-snoc (λ e. not (has_address a e)) (take i es) (get_or es i blank), t)

-- `few`: of i entries at most i are kept, so there is room.
-- Where the address is another, the entry is pushed behind those kept (`push-of`). Where it is the same, nothing is added (`append-nil`)
pub loop-e-preserved : goal.loop-e-preserved
loop-e-preserved c =
    let es = c.used-e-items.result.now in
    let a = c.args.address.0 in
    let i = c.loop-e.e-index in
    let h : i < length es = omega arith in
    let e = get_or es i blank in
    let l = retained a (take i es) in
    let m : length es < 17 = omega (arith, ap length c.used-e-items.ensures, entries-few c.args.table (search (rules, length-mapped))) in
    let few : length l < 16 = omega (arith, retained-long a (take i es), length-take i es) in
    elim c.if-kept.branch [
      | then-kept w ↦ w.out-is
          ∙ w.add.ensures
          ∙ ap (λ (t : NeighborTable). pushed t e) c.loop-e.invariant
          ∙ push-of l e few
          ∙ ap table_of (sym (next a i es true h (sym w.if-kept.ensures)))
      | else-kept w ↦ w.out-is ∙ c.loop-e.invariant ∙ ap table_of (sym (next a i es false h (sym w.if-kept.ensures) ∙ append-nil l))
    ]
