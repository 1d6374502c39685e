-- The `n` line, and the neighbour entry that it is read as (01, "The yard list"; 02, L4).
use Rattle.std.specs.Prelude.{ℕ, false, List, [], ◌∷◌, ◌++◌}
use Rattle.nib.specs.Neighbors.{NONE, device_type_at}
use Rattle.nib.specs.declared.NwkNeighbor.{NwkNeighbor}
use Rattle.text.specs.Text.{bytes}
use Rattle.text.specs.declared.form.Form.{Form}
use Rattle.text.specs.declared.form.Form.TheVariants.{Word, Hex, Decimal}
use Rattle.text.specs.Form.{hex_at, decimal_at, flag_at}

-- twelve fields: `n`, address, extended PAN id, channel, depth, permit, router capacity, end device capacity, LQI, potential parent, update id, PAN id
abbrev pub old_forms : List (Form 1)
old_forms =
    Word (bytes "n") ∷ Hex 4 ∷ Hex 16 ∷ Decimal 255 ∷ Decimal 255 ∷ Decimal 1 ∷ Decimal 1 ∷ Decimal 1 ∷ Decimal 255 ∷ Decimal 255 ∷ Decimal 255 ∷ Hex 4 ∷ []

-- "`n` lines gain it as a thirteenth field, decimal, 0 to 4,294,967,295, no leading zero."
abbrev pub entry_forms : List (Form 1)
entry_forms = old_forms ++ (Decimal 4294967295 ∷ [])

-- the last-heard time in a line's fields
abbrev pub last_heard_in : List (List ℕ) → ℕ
last_heard_in fs = decimal_at 4294967295 fs 12

-- the neighbour entry of a line's fields: IEEE address 0 and relationship NONE (3), as a scan makes it (01, "Neighbour entry")
unfoldable pub entry_read : List (List ℕ) → NwkNeighbor
entry_read fs =
    record {
      extended_address = record { 0 = 0 };
      network_address = record { 0 = hex_at 4 fs 1 };
      device_type = device_type_at (hex_at 4 fs 1);
      rx_on_when_idle = false;
      end_device_configuration = 0;
      relationship = NONE;
      lqi = decimal_at 255 fs 8;
      outgoing_cost = 0;
      age = 0;
      keepalive_received = false;
      extended_pan_id = record { 0 = hex_at 16 fs 2 };
      logical_channel = decimal_at 255 fs 3;
      depth = decimal_at 255 fs 4;
      permit_joining = flag_at fs 5;
      potential_parent = decimal_at 255 fs 9;
      router_capacity = flag_at fs 6;
      end_device_capacity = flag_at fs 7;
      update_id = decimal_at 255 fs 10;
      pan_id = record { 0 = hex_at 4 fs 11 };
      last_heard = last_heard_in fs;
    }
