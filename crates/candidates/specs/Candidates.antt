-- The candidate list (01, "Candidate list"; Zigbee 3.6.1.4.1.1 for a join, 3.6.1.4.2 for a rejoin).
-- A request has a stack profile, the wanted role (`router`, else end device), whether it asks that joining is permitted (`permit`), and an extended PAN id n.
-- `es` is the list of a table's entries.
use Rattle.std.specs.Prelude.{Option, Some, None, ◌≡◌, ℕ, ◌≤◌, Bool, true, false, cond, ◌&&◌, ◌||◌, ◌⊎◌, List, length, take, replicate, ◌==◌, nat_le, slice_index_or}
use Rattle.lists.specs.Lists.{indexes_from, sort_by, over}
use Rattle.nib.specs.LinkCost.{link_cost}
use Rattle.nib.specs.Neighbors.{blank}
use Rattle.nib.specs.declared.NwkNeighbor.{NwkNeighbor}
use Rattle.candidates.specs.UpdateIds.{of_network, permits, potential, newest}
use Rattle.candidates.specs.declared.CandidateList.{CandidateList}

-- The six conditions on an entry of 01, "Candidate list", one by one; `permits` and `potential` stand in UpdateIds.antt.

-- the request's extended PAN id is 0, which names every network, or equals the entry's
abbrev pub matches : ℕ → NwkNeighbor → Bool
matches n e = n == 0 || of_network n e

-- capacity for the wanted role
abbrev pub capacity : Bool → NwkNeighbor → Bool
capacity router e = cond router e.router_capacity e.end_device_capacity

-- cost at most 3
abbrev pub low_cost : NwkNeighbor → Bool
low_cost e = nat_le (link_cost e.lqi) 3

-- an id is the newest one
abbrev pub is_id : ℕ → Option ℕ → Bool
is_id id None = false
is_id id (Some best) = id == best

-- update id equal to the newest of its network
abbrev pub current : Bool → List NwkNeighbor → NwkNeighbor → Bool
current permit es e = is_id e.update_id (newest permit e.extended_pan_id.0 es)

-- an entry is a candidate among the entries es (01, "Candidate list"; Zigbee 3.6.1.4.1.1): all six conditions, in the order of 01
unfoldable pub eligible : Bool → Bool → ℕ → List NwkNeighbor → NwkNeighbor → Bool
eligible router permit n es e =
    matches n e && permits permit e && capacity router e && low_cost e && potential e && current permit es e

-- the depth of the entry at an index
unfoldable pub depth_at : List NwkNeighbor → ℕ → ℕ
depth_at es i = (slice_index_or es i blank).depth

-- stack profile 1 orders by a key, equal keys in their order; any other leaves the order
abbrev pub ordered : {A : Type 0} → ℕ → (A → ℕ) → List A → List A
ordered profile k l = cond (profile == 1) (sort_by k l) l

-- the candidates' indexes in order (01, "Candidate list"): by depth under stack profile 1, lower index first among equals; else by index
unfoldable pub candidates : ℕ → Bool → Bool → ℕ → List NwkNeighbor → List ℕ
candidates profile router permit n es = ordered profile (depth_at es) (indexes_from (eligible router permit n es) 0 es)

-- a list of indexes as a CandidateList: unused places hold 0
abbrev pub list_of : List ℕ → CandidateList
list_of l = record { indexes = over (replicate 16 0) l; count = length l }

-- the indexes of a CandidateList
abbrev pub items_of : CandidateList → List ℕ
items_of c = take c.count c.indexes

-- what makes an entry a candidate, as facts: one for each condition of 01, "Candidate list".
-- The law `eligible-is` (proofs/Laws.antt) says that `eligible` is true exactly where they hold
pub record Candidate (router permit : Bool) (n : ℕ) (es : List NwkNeighbor) (e : NwkNeighbor) : Type 0 where
  pub network : (n ≡ 0) ⊎ (e.extended_pan_id.0 ≡ n)
  pub permitted : permit ≡ true → e.permit_joining ≡ true
  pub room : capacity router e ≡ true
  pub cost : link_cost e.lqi ≤ 3
  pub parent : e.potential_parent ≡ 1
  pub newest_id : newest permit e.extended_pan_id.0 es ≡ Some e.update_id
