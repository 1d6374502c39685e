-- Laws of what is looked up, one entry at a time, and of what is looked up after a change. Assumes nothing.
use Rattle.std.specs.Prelude.{Some, find}
use Prim.Native.Nat.compare
use Prim.Native.Nat.{ℕ, suc, ◌<◌, zero-le, suc-le-suc}
use mathlib.Core.Path.{◌≡◌, refl}
use mathlib.Core.Bool.{Bool, true, false, cond}
use mathlib.Core.List.{List, ◌∷◌}
use borrow.Author.Tests.{lt-ltb}
use lib.ListN.{length, get_or}
use Rattle.lists.specs.Lists.{first_index}
use Rattle.lists.proofs.First.{first-at}
use Rattle.nib.specs.Neighbors.{entry_at, blank}
use Rattle.nib.specs.declared.IeeeAddress.{IeeeAddress}
use Rattle.nib.specs.declared.NwkNeighbor.{NwkNeighbor}
use Rattle.nib.specs.NeighborTable.{has_address, is_parent, with_ieee, heard_at, found, parent_of, seen_in, learnt}

-- a look goes to the first entry that fits
first_entry : (p : NwkNeighbor → Bool) (e : NwkNeighbor) (es : List NwkNeighbor) → entry_at (e ∷ es) (first_index p (e ∷ es)) ≡ cond (p e) (Some e) (entry_at es (first_index p es))
first_entry p e es = go (p e)
  where
    go : (b : Bool) → entry_at (e ∷ es) (cond b 0 (suc (first_index p es))) ≡ cond b (Some e) (entry_at es (first_index p es))
    go true = rw (lt-ltb 0 (suc (length es)) (suc-le-suc zero-le))
    go false = rw compare.suc-suc

-- the entry at i as it is seen, without when it was last heard, where k is the index of the first entry with its short address
pub seen_first : (es : List NwkNeighbor) (i k : ℕ) → i < length es → k < length es → first_index (has_address (get_or es i blank).network_address.0) es ≡ k → seen_in es (entry_at es i) ≡ Some (with_ieee (get_or es k blank).extended_address (heard_at 0 (get_or es i blank)))
unfolding found
seen_first es i k hi hk f = rw (lt-ltb i (length es) hi, f, lt-ltb k (length es) hk)

-- the first entry with a short address, and the parent, as the library finds them
pub found-find : (a : ℕ) (es : List NwkNeighbor) → found a es ≡ find (has_address a) es
unfolding found
found-find a es = first-at (has_address a) es blank

pub parent-find : (es : List NwkNeighbor) → parent_of es ≡ find is_parent es
unfolding parent_of
parent-find es = first-at is_parent es blank

pub found-cons : (a : ℕ) (e : NwkNeighbor) (es : List NwkNeighbor) → found a (e ∷ es) ≡ cond (has_address a e) (Some e) (found a es)
found-cons a e es = rw (found-find a (e ∷ es), found-find a es)

pub parent-cons : (e : NwkNeighbor) (es : List NwkNeighbor) → parent_of (e ∷ es) ≡ cond (is_parent e) (Some e) (parent_of es)
parent-cons e es = rw (parent-find (e ∷ es), parent-find es)

pub learnt-cons : (a : ℕ) (x : IeeeAddress) (e : NwkNeighbor) (es : List NwkNeighbor) → learnt a x (e ∷ es) ≡ cond (has_address a e) (with_ieee x e ∷ es) (e ∷ learnt a x es)
unfolding learnt
learnt-cons a x e es = refl
