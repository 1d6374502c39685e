-- The newest update id of a network (01, "Candidate list"; Zigbee 3.6.1.4.1.1, where the id is a counter that wraps back to 0).
use Rattle.std.specs.Prelude.{Option, Some, None, ℕ, ◌+◌, ◌-◌, ◌%◌, Bool, true, cond, ◌&&◌, List, ℤ, pos, negsuc, ◌==◌, int_lt, nat_lt}
use mathlib.Core.List.{foldl}
use Rattle.lists.specs.Lists.{select}
use Rattle.nib.specs.declared.NwkNeighbor.{NwkNeighbor}

-- the 8-bit wrapping difference of two update ids
abbrev pub difference : ℕ → ℕ → ℕ
difference a b = (a + (256 - b)) % 256

-- an 8-bit number read as signed: from 128 on it is the number less 256 (`negsuc n` is -(n + 1))
abbrev pub signed8 : ℕ → ℤ
signed8 d = cond (nat_lt d 128) (pos d) (negsuc (255 - d))

-- an id is newer than the best so far: their difference, read as signed, is above 0 (01, "Candidate list"; Zigbee 3.6.1.4.1.1)
unfoldable pub newer : ℕ → ℕ → Bool
newer id best = int_lt (pos 0) (signed8 (difference id best))

-- the entry is of network n
abbrev pub of_network : ℕ → NwkNeighbor → Bool
of_network n e = e.extended_pan_id.0 == n

-- joining is permitted; a join asks it, a rejoin doesn't (Zigbee 3.6.1.4.2)
abbrev pub permits : Bool → NwkNeighbor → Bool
permits permit e = cond permit e.permit_joining true

-- potential parent 1
abbrev pub potential : NwkNeighbor → Bool
potential e = e.potential_parent == 1

-- a later id replaces the best so far if it is newer
abbrev pub replaced : Option ℕ → ℕ → Option ℕ
replaced None id = Some id
replaced (Some best) id = cond (newer id best) (Some id) (Some best)

-- an entry has a part in the newest id of network n: it is of that network, with potential parent 1 (and permitted, for a join).
-- Capacity and LQI play no part in it
abbrev pub has_part : Bool → ℕ → NwkNeighbor → Bool
has_part permit n e = of_network n e && (permits permit e && potential e)

-- "newest" (01, "Candidate list"): the update ids of the entries that have a part, taken left to right
unfoldable pub newest : Bool → ℕ → List NwkNeighbor → Option ℕ
newest permit n es = foldl (λ best e. replaced best e.update_id) None (select (has_part permit n) es)
