-- Laws of the entries made from a scan's descriptors. Assumes nothing.
use Rattle.std.specs.Prelude.{Option, Some, None, is_some, count_by}
use Rattle.std.proofs.lemmas.List.Recursion.{is_count_by}
use Prim.Native.Nat.{ℕ, ◌+◌, ◌<◌, ◌≤◌}
use mathlib.Core.Path.{◌≡◌, refl, ap, ◌∙◌}
use mathlib.Core.Bool.{Bool, true, false, cond}
use mathlib.Core.List.{List, [], ◌∷◌, ◌++◌, map, map-append, flat_map}
use native.Mathlib.Omega.{arith}
use borrow.Author.Tests.{ltb-true, ltb-false, le-ltb}
use lib.Dec.{ltb, eqb}
use lib.ListN.{length, take, get_or, length-append, length-map}
use lib.Seq.{take_all, take-append-le, length-take-le}
use Rattle.lists.specs.Lists.{select}
use Rattle.lists.proofs.Collect.{flat_map-next, select-flat_map}
use Rattle.nib.specs.Neighbors.{table_of, pushed}
use Rattle.nib.specs.NeighborTable.{heard_at}
use Rattle.nib.specs.declared.NwkNeighbor.{NwkNeighbor}
use Rattle.nib.proofs.Tables.{push-of}
use Rattle.discovery.specs.declared.mlme.Address.{Address}
use Rattle.discovery.specs.declared.mlme.Address.TheVariants.{Short, Extended}
use Rattle.discovery.specs.declared.mlme.PanDescriptor.{PanDescriptor}
use Rattle.discovery.specs.Discovery.{entry_from, neighbor_by, neighbor_of, present, neighbors_of, neighbors_heard, short_addressed}

abbrev entries_from : PanDescriptor → List NwkNeighbor
entries_from d = present (neighbor_of d)

-- one descriptor more
neighbors-next : (ds : List PanDescriptor) (i : ℕ) (d : PanDescriptor) → i < length ds → neighbors_of (take (i + 1) ds) ≡ neighbors_of (take i ds) ++ present (neighbor_of (get_or ds i d))
unfolding neighbors_of
neighbors-next = flat_map-next entries_from

pub heard-next : (t : ℕ) (ds : List PanDescriptor) (i : ℕ) (d : PanDescriptor) → i < length ds
    → neighbors_heard t (take (i + 1) ds) ≡ neighbors_heard t (take i ds) ++ map (heard_at t) (present (neighbor_of (get_or ds i d)))
heard-next t ds i d h =
    ap (map (heard_at t)) (neighbors-next ds i d h) ∙ map-append (heard_at t) (neighbors_of (take i ds)) (present (neighbor_of (get_or ds i d)))

-- a beacon gives one entry at most
pub present-one : (x : Option NwkNeighbor) → length (present x) ≤ 1
unfolding present
present-one None = omega arith
present-one (Some e) = omega arith

-- the short-addressed descriptors are those that give an entry
pub short_count : (ds : List PanDescriptor) → length (neighbors_of ds) ≡ count_by (λ d. is_some (neighbor_of d)) ds
unfolding neighbors_of present flat_map
short_count = is_count_by (λ ds. length (neighbors_of ds)) (λ d. is_some (neighbor_of d)) refl (λ d ds. step (neighbor_of d) (neighbors_of ds))
  where
    step : (x : Option NwkNeighbor) (l : List NwkNeighbor) → length (present x ++ l) ≡ cond (is_some x) (1 + length l) (length l)
    step None l = refl
    step (Some e) l = omega arith

-- with at most 16 short-addressed descriptors no entry is left out of the table
pub heard-all : (t : ℕ) (ds : List PanDescriptor) → short_addressed ds ≤ 16 → take 16 (neighbors_heard t ds) ≡ neighbors_heard t ds
heard-all t ds h = take_all 16 (neighbors_heard t ds) (omega (arith, length-map (neighbors_of ds) (heard_at t)))

-- the entries of a network are those made from its beacons, in order
pub network-neighbors : (n : ℕ) (ds : List PanDescriptor)
    → select (λ e. eqb e.extended_pan_id.0 n) (neighbors_of ds) ≡ neighbors_of (select (λ d. eqb d.zigbee_beacon.extended_pan_id.0 n) ds)
unfolding neighbors_of present neighbor_by entry_from
network-neighbors n ds = select-flat_map entries_from (λ d. eqb d.zigbee_beacon.extended_pan_id.0 n) (λ e. eqb e.extended_pan_id.0 n) (λ d. own d d.coord_address) ds
  where
    none : (b : Bool) → ◌≡◌ {A = List NwkNeighbor} [] (cond b [] [])
    none true = refl
    none false = refl

    own : (d : PanDescriptor) (a : Address)
        → select (λ e. eqb e.extended_pan_id.0 n) (present (neighbor_by d a)) ≡ cond (eqb d.zigbee_beacon.extended_pan_id.0 n) (present (neighbor_by d a)) []
    own d (Short p a) = refl
    own d (Extended p a) = none (eqb d.zigbee_beacon.extended_pan_id.0 n)

-- a push onto a table of at most the first 16 entries
pub pushed-next : (l : List NwkNeighbor) (e : NwkNeighbor) → pushed (table_of (take 16 l)) e ≡ table_of (take 16 (l ++ (e ∷ [])))
unfolding pushed
pushed-next l e = go (ltb (length l) 16) refl
  where
    go : (b : Bool) → ltb (length l) 16 ≡ b → pushed (table_of (take 16 l)) e ≡ table_of (take 16 (l ++ (e ∷ [])))
    go true q =
        let h : length l < 16 = ltb-true (length l) 16 q in
        rw (take_all 16 l (omega arith), take_all 16 (l ++ (e ∷ [])) (omega (arith, length-append l (e ∷ [])))) (push-of l e h)
    go false q =
        let h : 16 ≤ length l = ltb-false (length l) 16 q in
        rw (le-ltb (length (take 16 l)) 16 (omega (arith, length-take-le 16 l h)), take-append-le 16 l (e ∷ []) h)
