-- What the private functions say of a change of an entry. No public promise uses it.
use Rattle.std.specs.Prelude.{◌≡◌, ⊤}
use Rattle.std.specs.Borrow.{MutBor}
use Rattle.nib.specs.declared.NwkNeighbor.{NwkNeighbor}

-- what a call at an entry leaves there is a function of the entry
abbrev pub Changes : (MutBor NwkNeighbor → ⊤ → MutBor NwkNeighbor → Type 0) → (NwkNeighbor → NwkNeighbor) → Type 0
Changes called f = (e after : MutBor NwkNeighbor) → called e tt after → after.now ≡ f e.now
