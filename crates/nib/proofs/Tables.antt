-- Laws of a table as a list of entries. Assumes nothing.
use Rattle.std.specs.Prelude.{Some}
use Prim.Native.Nat.{ℕ, ◌<◌, ◌≤◌}
use mathlib.Core.Path.{◌≡◌, sym, ap}
use mathlib.Core.List.{List, [], ◌∷◌, ◌++◌}
use native.Mathlib.Omega.{arith}
use borrow.Author.Tests.{lt-ltb}
use lib.ListN.{length, length-append, length-take, get_or, replicate}
use Rattle.lists.proofs.Lists.{over-snoc, over-take}
use Rattle.nib.specs.Neighbors.{entries_of, entry_at, table_of, pushed, blank}
use Rattle.nib.specs.declared.NwkNeighbor.{NwkNeighbor}
use Rattle.nib.specs.declared.NeighborTable.{NeighborTable}

-- a table made of a list has that list's entries
pub entries-of : (l : List NwkNeighbor) → entries_of (table_of l) ≡ l
entries-of l = over-take (replicate 16 blank) l

-- a table, whose array has 16 slots, has at most 16 entries
pub entries-few : (t : NeighborTable) → length t.entries ≡ 16 → length (entries_of t) ≤ 16
entries-few t n = omega (arith, length-take t.count t.entries)

-- one entry more in a table made of a list
pub push-of : (l : List NwkNeighbor) (x : NwkNeighbor) → length l < 16 → pushed (table_of l) x ≡ table_of (l ++ (x ∷ []))
unfolding pushed
push-of l x h = rw (lt-ltb (length l) 16 h) (λ i. record { entries = over-snoc (replicate 16 blank) l x h i; count = sym (length-append l (x ∷ [])) i })

-- an entry is the same wherever it stands: nothing that is read of it tells its index
pub entry-anywhere : (l k : List NwkNeighbor) (i j : ℕ) → i < length l → j < length k → get_or l i blank ≡ get_or k j blank → entry_at l i ≡ entry_at k j
entry-anywhere l k i j h g e = rw (lt-ltb i (length l) h, lt-ltb j (length k) g) (ap (λ (x : NwkNeighbor). Some x) e)
