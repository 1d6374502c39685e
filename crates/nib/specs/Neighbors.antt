-- The neighbour table as a list of entries (01, "Neighbour entry"; Zigbee Tables 3-63 and 3-64).
use Rattle.std.specs.Prelude.{Option, Some, None, ℕ, ◌+◌, false, cond, List, eqb, ltb, length, take, get_or, set, replicate}
use Rattle.lists.specs.Lists.{over}
use Rattle.nib.specs.declared.NwkNeighbor.{NwkNeighbor}
use Rattle.nib.specs.declared.NeighborTable.{NeighborTable}
use Rattle.nib.specs.declared.DeviceType.{DeviceType}

-- the relationships PARENT and NONE (01, "Join request and confirm", "Neighbour entry"; Zigbee Table 3-63)
abbrev pub PARENT : ℕ
PARENT = 0

abbrev pub NONE : ℕ
NONE = 3

-- the sender at 0x0000 is the coordinator; any other that sends a beacon is a router (Zigbee Table 3-63)
unfoldable pub device_type_at : ℕ → DeviceType
device_type_at address = cond (eqb address 0x0000) DeviceType.Coordinator DeviceType.Router

-- the entries in use: as many as the count says, all 16 where it says more
abbrev pub entries_of : NeighborTable → List NwkNeighbor
entries_of t = take t.count t.entries

-- what an unused slot holds: zeros, `false` and the first variant, which is also what a read past the end of a list of entries gives
abbrev pub blank : NwkNeighbor
blank =
    record {
      extended_address = record { 0 = 0 };
      network_address = record { 0 = 0 };
      device_type = DeviceType.Coordinator;
      rx_on_when_idle = false;
      end_device_configuration = 0;
      relationship = 0;
      lqi = 0;
      outgoing_cost = 0;
      age = 0;
      keepalive_received = false;
      extended_pan_id = record { 0 = 0 };
      logical_channel = 0;
      depth = 0;
      permit_joining = false;
      potential_parent = 0;
      router_capacity = false;
      end_device_capacity = false;
      update_id = 0;
      pan_id = record { 0 = 0 };
      last_heard = 0;
    }

-- a list of entries as a table: unused slots hold `blank`
abbrev pub table_of : List NwkNeighbor → NeighborTable
table_of l = record { entries = over (replicate 16 blank) l; count = length l }

-- the entry at an index, or none past the end
abbrev pub entry_at : List NwkNeighbor → ℕ → Option NwkNeighbor
entry_at es i = cond (ltb i (length es)) (Some (get_or es i blank)) None

-- one entry more behind those in use; a full table stays
unfoldable pub pushed : NeighborTable → NwkNeighbor → NeighborTable
pushed t e = cond (ltb t.count 16) (record { entries = set t.entries t.count e; count = t.count + 1 }) t
