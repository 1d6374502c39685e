-- The bits of a number (01, "Identifiers and link cost").
use Rattle.std.specs.Prelude.{ℕ, ◌/◌, ◌%◌, ◌^◌, Bool, eqb}

-- bit k of a number. Capability information (Zigbee Table 3-62): 1 router, 2 mains, 3 receiver on when idle, 6 security, 7 allocate address
abbrev pub bit : ℕ → ℕ → Bool
bit k x = eqb (x / 2 ^ k % 2) 1

-- the field of `width` bits that begins at bit `from`.
-- Stack profile field of a beacon (Zigbee Annex D): 0 to 3 stack profile, 4 to 7 protocol version, 10 router capacity,
-- 11 to 14 device depth, 15 end device capacity
abbrev pub bits : ℕ → ℕ → ℕ → ℕ
bits from width x = x / 2 ^ from % 2 ^ width
