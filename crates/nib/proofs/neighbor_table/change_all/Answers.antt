-- `change_all` meets its contract. Assumes nothing.
use Prim.Native.Nat.{ℕ, suc, ◌<◌}
use mathlib.Core.Path.{◌≡◌, ◌∙◌}
use mathlib.Core.List.{List, [], ◌++◌, map, append-nil}
use native.Mathlib.Omega.{arith}
use lib.ListN.{length, take, drop, get_or, length-map}
use lib.Seq.{drop-cons, get_or_at, length-take-le, take_all}
use Rattle.std.proofs.lemmas.List.{drop_all}
use Rattle.lists.specs.Lists.{on_front}
use Rattle.lists.proofs.Maps.{map_next, take-used, drop-used}
use Rattle.nib.specs.Neighbors.{blank}
use Rattle.nib.specs.NeighborTable.{on_entries}
use Rattle.nib.specs.declared.NwkNeighbor.{NwkNeighbor}
use Rattle.nib.proofs.neighbor_table.change_all.Goals as goal

-- the entry at i is not changed yet
unchanged : (f : NwkNeighbor → NwkNeighbor) (i : ℕ) (es : List NwkNeighbor) → i < length es → get_or (on_front i (map f) es) i blank ≡ get_or es i blank
unchanged f i es h =
    rw (drop-cons es i blank h)
    (get_or_at (map f (take i es)) (get_or es i blank) (drop (suc i) es) blank i (length-map (take i es) f ∙ length-take-le i es (omega arith)))

-- one entry more: the code reads the entry at i, which is not changed yet, changes it and stores it there: now the first i + 1 are changed (`map_next`)
pub loop-e-preserved : goal.loop-e-preserved
loop-e-preserved g c = λ f d.
    let es = c.split_at_mut-front.result.0.now in
    let i = c.loop-e.e-index in
    let h : i < length es = c.loop-e-test.true in
    rw (d _ _ c.change.ensures, c.loop-e.invariant f d, unchanged f i es h) (map_next f i es blank h)

-- the loop has changed all of the front, which is what the count takes, and the rest is what it drops (`take-used`, `drop-used`)
pub returns : goal.returns
unfolding on_entries
returns g c = λ f d.
    let t = c.args.table in
    let front = c.split_at_mut-front.result.0.now in
    let all : take c.loop-e.e-index front ≡ front = take_all c.loop-e.e-index front c.loop-e-test.false in
    let none : drop c.loop-e.e-index front ≡ [] = drop_all c.loop-e.e-index front c.loop-e-test.false in
    let p : c.loop-e.front ≡ map f front = c.loop-e.invariant f d ∙ rw (all, none, append-nil) in
    let used = take-used t.count t.entries in
    let unused = drop-used t.count t.entries in
    let q : c.loop-e.front ++ c.split_at_mut-front.result.1.now ≡ on_front t.count (map f) t.entries =
    rw (p, c.split_at_mut-front.ensures.front, c.split_at_mut-front.ensures.back, c.len-used.ensures, used, unused) in
    λ j. record { entries = q j; count = t.count }
