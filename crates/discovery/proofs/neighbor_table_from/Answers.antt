-- `neighbor_table_from` meets its contract. Assumes nothing.
use Rattle.std.proofs.Common.{take, sym, ap, ◌∙◌, append-nil}
use mathlib.Core.List.{List, flat_map}
use Rattle.nib.specs.Neighbors.{table_of, pushed}
use Rattle.nib.specs.NeighborTable.{heard_at}
use Rattle.nib.specs.declared.NeighborTable.{NeighborTable}
use Rattle.nib.specs.declared.NwkNeighbor.{NwkNeighbor}
use Rattle.discovery.specs.Mlme.{blank_beacon}
use Rattle.discovery.specs.Discovery.{present, neighbors_of, neighbors_heard}
use Rattle.discovery.proofs.Scans.{heard-next, pushed-next}
use Rattle.discovery.proofs.neighbor_table_from.Goals as goal
use Rattle.discovery.proofs.neighbor_table_from.Goals.{in-Some, in_default}

pub loop-pd-init : goal.loop-pd-init
unfolding neighbors_of flat_map
loop-pd-init c = c.new-table.ensures

-- the entries of i + 1 descriptors are those of i and of the one at i (`heard-next`): one that is pushed (`pushed-next`), or none
pub loop-pd-preserved : goal.loop-pd-preserved
unfolding present
loop-pd-preserved c =
    let l = c.descriptors_in_use-pd-items.result.now in
    let i = c.loop-pd.pd-index in
    let e = heard-next c.args.clock l i blank_beacon c.loop-pd-test.true in
    elim c.match-neighbor_from.branch [
      | in-Some w ↦ w.table-is ∙ w.add.ensures ∙ ap (λ (t : NeighborTable). pushed t (heard_at c.args.clock w.in-Some.e)) c.loop-pd.invariant ∙ pushed-next (neighbors_heard c.args.clock (take i l)) (heard_at c.args.clock w.in-Some.e)
          ∙ ap (λ (z : List NwkNeighbor). table_of (take 16 z)) (sym (e ∙ rw (sym c.neighbor_from.ensures ∙ w.in-Some.is)))
      | in_default w ↦ w.table-is ∙ c.loop-pd.invariant
          ∙ ap (λ (z : List NwkNeighbor). table_of (take 16 z)) (sym (e ∙ rw (sym c.neighbor_from.ensures ∙ w.in_default.is, append-nil)))
    ]
