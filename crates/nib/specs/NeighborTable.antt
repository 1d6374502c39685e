-- What calls read in the neighbour table and what they write to it, over the list of its entries.
use Rattle.std.specs.Prelude.{Option, Some, None, ℕ, Bool, false, cond, not, List, map, eqb, ltb, length}
use Rattle.lists.specs.Lists.{first_index, change_at, change_first, on_front, select}
use Rattle.nib.specs.Neighbors.{PARENT, NONE, entry_at}
use Rattle.nib.specs.declared.IeeeAddress.{IeeeAddress}
use Rattle.nib.specs.declared.NwkNeighbor.{NwkNeighbor}
use Rattle.nib.specs.declared.NeighborTable.{NeighborTable}

-- Reading

abbrev pub has_address : ℕ → NwkNeighbor → Bool
has_address a e = eqb e.network_address.0 a

abbrev pub is_parent : NwkNeighbor → Bool
is_parent e = eqb e.relationship PARENT

-- the first entry with a short address (`neighbor_ieee_address` and `learn_neighbor_ieee_address` of the source)
unfoldable pub found : ℕ → List NwkNeighbor → Option NwkNeighbor
found a es = entry_at es (first_index (has_address a) es)

-- the parent is the first entry with relationship PARENT, whatever its network (`parent_short_address` of the source)
unfoldable pub parent_of : List NwkNeighbor → Option NwkNeighbor
parent_of es = entry_at es (first_index is_parent es)

-- an IEEE address of 0, which an entry has from its scan, is not known (01, "Neighbour entry"; `neighbor_ieee_address` of the source)
abbrev pub known_ieee : Option NwkNeighbor → Option IeeeAddress
known_ieee None = None
known_ieee (Some e) = cond (eqb e.extended_address.0 0) None (Some e.extended_address)

-- the IEEE address that is known of a short address (Zigbee 3.4.6.2): that of the first entry with it, even where only a later one has an IEEE address
unfoldable pub ieee_of : ℕ → List NwkNeighbor → Option IeeeAddress
ieee_of a es = known_ieee (found a es)

-- An entry with a change

abbrev pub with_ieee : IeeeAddress → NwkNeighbor → NwkNeighbor
with_ieee a e = record e { extended_address = a }

abbrev pub with_relationship : ℕ → NwkNeighbor → NwkNeighbor
with_relationship r e = record e { relationship = r }

-- last heard at a time: seconds of the caller's clock, 0 where it is not known (02, L4)
abbrev pub heard_at : ℕ → NwkNeighbor → NwkNeighbor
heard_at t e = record e { last_heard = t }

-- no longer a potential parent
abbrev pub without_potential : NwkNeighbor → NwkNeighbor
without_potential e = record e { potential_parent = 0 }

-- without its "beacon fields" (01, "Join request and confirm"), which are those of Zigbee Table 3-64; the PAN id becomes 0xffff.
-- "no added field is a beacon field" (02, L4): when it was last heard stays
abbrev pub cleared : NwkNeighbor → NwkNeighbor
cleared e =
    record e {
      extended_pan_id = record { 0 = 0 };
      logical_channel = 0;
      depth = 0;
      permit_joining = false;
      potential_parent = 0;
      router_capacity = false;
      end_device_capacity = false;
      update_id = 0;
      pan_id = record { 0 = 0xffff };
    }

-- Reading, as commands are addressed

-- the IEEE address of a neighbour as a number: 0 where there is none
abbrev pub ieee_number : Option NwkNeighbor → IeeeAddress
ieee_number None = record { 0 = 0 }
ieee_number (Some e) = e.extended_address

-- a neighbour as commands are addressed to it: with the IEEE address of the first entry with its short address, and not its own
-- (`build_nwk_command_frame` of the source; Zigbee 3.4.6.2 and 3.4.11.2). No decision sees when it was last heard
abbrev pub seen_in : List NwkNeighbor → Option NwkNeighbor → Option NwkNeighbor
seen_in es None = None
seen_in es (Some e) = Some (with_ieee (ieee_number (found e.network_address.0 es)) (heard_at 0 e))

-- Writing

-- a table with the entries in use changed as a list; the count and the slots past them stay
unfoldable pub on_entries : (List NwkNeighbor → List NwkNeighbor) → NeighborTable → NeighborTable
on_entries f t = record { entries = on_front t.count f t.entries; count = t.count }

-- the sender's IEEE address is taught to the first entry with its short address (01, "Received frame"; Zigbee 3.4.6.2)
unfoldable pub learnt : ℕ → IeeeAddress → List NwkNeighbor → List NwkNeighbor
learnt a ieee es = change_first (has_address a) (with_ieee ieee) es

-- "a received data or command frame renews the first entry with its sender's short address" (02, L4)
unfoldable pub renewed : ℕ → ℕ → List NwkNeighbor → List NwkNeighbor
renewed a t es = change_first (has_address a) (heard_at t) es

-- association status 0 makes the candidate PARENT; an older PARENT stays so (01, "Join request and confirm"; Zigbee 3.6.1.4.1.1)
unfoldable pub marked : ℕ → List NwkNeighbor → List NwkNeighbor
marked i es = change_at i (with_relationship PARENT) es

-- a rejoin marks the candidate PARENT and all others NONE; an index past the table is skipped (01, "Join request and confirm"; Zigbee 3.6.1.4.2)
unfoldable pub adopted : ℕ → List NwkNeighbor → List NwkNeighbor
adopted i es = cond (ltb i (length es)) (marked i (map (with_relationship NONE) es)) es

-- a join clears the beacon fields of every entry (01, "Join request and confirm"; Zigbee 3.6.1.4.1.1)
unfoldable pub all_cleared : List NwkNeighbor → List NwkNeighbor
all_cleared es = map cleared es

-- association status 1 or 2 clears potential parent (01, "Join request and confirm"; Zigbee 3.6.1.4.1.1)
unfoldable pub potential_cleared_at : ℕ → List NwkNeighbor → List NwkNeighbor
potential_cleared_at i es = change_at i without_potential es

-- a leave removes every entry of an address (01, "Received frame"; Zigbee 3.6.1.10.3)
unfoldable pub retained : ℕ → List NwkNeighbor → List NwkNeighbor
retained a es = select (λ e. not (has_address a e)) es
