-- The candidates of an operation: chosen, being tried, and next (01, "Join request and confirm"; Zigbee 3.6.1.4.1.1 for a join, 3.6.1.4.2 for a rejoin).
-- `es` is the list of the table's entries.
use Rattle.std.specs.Prelude.{Option, ℕ, ◌+◌, ◌-◌, min, Bool, cond, not, ltb, List, length, drop, ◌==◌, nat_lt, slice_index_or}
use Rattle.lists.specs.Lists.{first_index, some}
use Rattle.nib.specs.Bits.{bit}
use Rattle.nib.specs.Neighbors.{entry_at}
use Rattle.nib.specs.declared.CapabilityInformation.{CapabilityInformation}
use Rattle.nib.specs.declared.NwkNeighbor.{NwkNeighbor}
use Rattle.nib.specs.NeighborTable.{parent_of, seen_in, marked, adopted, all_cleared, potential_cleared_at}
use Rattle.candidates.specs.Candidates.{candidates, items_of, list_of}
use Rattle.candidates.specs.declared.tries.Candidates.{Candidates}

-- the candidates chosen from a table by stack profile, role, permission and network (01, "Candidate list"), none of them taken
abbrev pub chosen_from : List NwkNeighbor → ℕ → Bool → ℕ → CapabilityInformation → Candidates
chosen_from es profile permit n i = record { list = list_of (candidates profile (bit 1 i.0) permit n es); taken = 0 }

-- Looking. Each entry is seen as commands are addressed to it

-- the parent
unfoldable pub parent_in : List NwkNeighbor → Option NwkNeighbor
parent_in es = seen_in es (parent_of es)

-- the index being tried; n, the number of entries, where there is none
unfoldable pub tried_index : ℕ → Candidates → ℕ
tried_index n c = cond (c.taken == 0) n (slice_index_or (items_of c.list) (c.taken - 1) n)

unfoldable pub tried_in : List NwkNeighbor → Candidates → Option NwkNeighbor
tried_in es c = seen_in es (entry_at es (tried_index (length es) c))

-- the indexes still to be tried
abbrev pub to_try : Candidates → List ℕ
to_try c = drop c.taken (items_of c.list)

-- how many of them come before the next: "an index past the table is skipped"
unfoldable pub skipped : ℕ → Candidates → ℕ
skipped n c = first_index (λ i. ltb i n) (to_try c)

-- the next index to be tried; n where there is none
unfoldable pub next_index : ℕ → Candidates → ℕ
next_index n c = slice_index_or (to_try c) (skipped n c) n

unfoldable pub next_in : List NwkNeighbor → Candidates → Option NwkNeighbor
next_in es c = seen_in es (entry_at es (next_index (length es) c))

-- "an index being tried or still to be tried .. is not below the neighbour count" n (01, "When a call is turned down")
unfoldable pub past_table : ℕ → Candidates → Bool
past_table n c = some (λ i. not (nat_lt i n)) (drop (c.taken - 1) (items_of c.list))

-- Writing

-- the next candidate is taken, those before it skipped; all are taken where none is left
unfoldable pub taking : ℕ → Candidates → Candidates
taking n c = record { list = c.list; taken = min (c.taken + skipped n c + 1) (length (items_of c.list)) }

-- a rejoin makes the next candidate the parent
unfoldable pub adopted_next : Candidates → List NwkNeighbor → List NwkNeighbor
adopted_next c es = adopted (next_index (length es) c) es

-- an association makes the one being tried the parent, and clears every entry's beacon fields:
-- "Association status 0 sets .. PARENT (0), and clears the beacon fields of every entry"
unfoldable pub joined_tried : Candidates → List NwkNeighbor → List NwkNeighbor
joined_tried c es = all_cleared (marked (tried_index (length es) c) es)

-- the one being tried is no longer a potential parent
unfoldable pub potential_cleared_tried : Candidates → List NwkNeighbor → List NwkNeighbor
potential_cleared_tried c es = potential_cleared_at (tried_index (length es) c) es
