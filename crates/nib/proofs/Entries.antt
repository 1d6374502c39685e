-- Laws of a change of the entries in use. Assumes nothing.
use Prim.Native.Nat.{ℕ, ◌≤◌, ◌<◌}
use mathlib.Core.Path.{◌≡◌, refl, ap, ◌∙◌}
use mathlib.Core.Bool.{Bool, true, false, cond}
use mathlib.Core.List.{List, ◌++◌, map}
use borrow.Author.Tests.{lt-ltb, le-ltb}
use lib.Dec.{ltb}
use lib.ListN.{length, drop, length-map, take-append-drop}
use Rattle.lists.specs.Lists.{first_index}
use Rattle.lists.proofs.First.{change-first}
use Rattle.lists.proofs.Lists.{select-long}
use Rattle.lists.proofs.Maps.{change-long, front-is}
use Rattle.nib.specs.Neighbors.{PARENT, NONE, entries_of}
use Rattle.nib.specs.declared.IeeeAddress.{IeeeAddress}
use Rattle.nib.specs.declared.NwkNeighbor.{NwkNeighbor}
use Rattle.nib.specs.declared.NeighborTable.{NeighborTable}
use Rattle.nib.specs.NeighborTable.{on_entries, has_address, with_ieee, with_relationship, heard_at, without_potential, cleared, learnt, renewed, marked, adopted, all_cleared, potential_cleared_at, retained}

-- two changes that agree on the entries give one table
pub on_same : (f g : List NwkNeighbor → List NwkNeighbor) (t : NeighborTable) → f (entries_of t) ≡ g (entries_of t) → on_entries f t ≡ on_entries g t
unfolding on_entries
on_same f g t e = λ j. record { entries = e j ++ drop t.count t.entries; count = t.count }

-- a change that leaves the entries leaves the table
pub on-kept : (f : List NwkNeighbor → List NwkNeighbor) (t : NeighborTable) → f (entries_of t) ≡ entries_of t → on_entries f t ≡ t
unfolding on_entries
on-kept f t e = let p = ap (λ (l : List NwkNeighbor). l ++ drop t.count t.entries) e ∙ take-append-drop t.count t.entries in λ j. record { entries = p j; count = t.count }

-- where a change keeps the number of entries: what the entries become, and two changes in a row
module _ (f : List NwkNeighbor → List NwkNeighbor) (t : NeighborTable) (h : length (f (entries_of t)) ≡ length (entries_of t)) where
  pub entries-on : entries_of (on_entries f t) ≡ f (entries_of t)
  unfolding on_entries
  entries-on = (front-is t.count t.entries (f (entries_of t)) h).0

  pub on-on : (g : List NwkNeighbor → List NwkNeighbor) → on_entries g (on_entries f t) ≡ on_entries (λ es. g (f es)) t
  unfolding on_entries
  on-on g =
      let r = front-is t.count t.entries (f (entries_of t)) h in
      λ j. record { entries = g (r.0 j) ++ r.1 j; count = t.count }

-- an adopted parent: all others are NONE; past the entries nothing changes
pub adopted-is : (i : ℕ) (es : List NwkNeighbor) → i < length es → adopted i es ≡ marked i (map (with_relationship NONE) es)
unfolding adopted
adopted-is i es h = rw (lt-ltb i (length es) h)

pub adopted-past : (i : ℕ) (es : List NwkNeighbor) → length es ≤ i → adopted i es ≡ es
unfolding adopted
adopted-past i es h = rw (le-ltb i (length es) h)

-- each change keeps the number of entries; a removal leaves as many or fewer
pub learnt-long : (a : ℕ) (x : IeeeAddress) (es : List NwkNeighbor) → length (learnt a x es) ≡ length es
unfolding learnt
learnt-long a x es = ap length (change-first (has_address a) (with_ieee x) es) ∙ change-long (with_ieee x) (first_index (has_address a) es) es

pub renewed-long : (a t : ℕ) (es : List NwkNeighbor) → length (renewed a t es) ≡ length es
unfolding renewed
renewed-long a t es = ap length (change-first (has_address a) (heard_at t) es) ∙ change-long (heard_at t) (first_index (has_address a) es) es

pub marked-long : (i : ℕ) (es : List NwkNeighbor) → length (marked i es) ≡ length es
unfolding marked
marked-long i es = change-long (with_relationship PARENT) i es

pub adopted-long : (i : ℕ) (es : List NwkNeighbor) → length (adopted i es) ≡ length es
unfolding adopted
adopted-long i es = go (ltb i (length es))
  where
    go : (b : Bool) → length (cond b (marked i (map (with_relationship NONE) es)) es) ≡ length es
    go true = marked-long i (map (with_relationship NONE) es) ∙ length-map es (with_relationship NONE)
    go false = refl

pub cleared-long : (es : List NwkNeighbor) → length (all_cleared es) ≡ length es
unfolding all_cleared
cleared-long es = length-map es cleared

pub potential-long : (i : ℕ) (es : List NwkNeighbor) → length (potential_cleared_at i es) ≡ length es
unfolding potential_cleared_at
potential-long i es = change-long without_potential i es

pub retained-long : (a : ℕ) (es : List NwkNeighbor) → length (retained a es) ≤ length es
unfolding retained
retained-long a es = select-long _ es
