-- Link cost (01, "Identifiers and link cost").
use Rattle.std.specs.Prelude.{ℕ, cond, leb}

-- LQI to link cost (Zigbee 3.6.3.1 leaves the mapping open): 128..255 1; 77..127 2; 26..76 3; 11..25 5; 1..10 6; 0 7
unfoldable pub link_cost : ℕ → ℕ
link_cost lqi =
    cond (leb 128 lqi) 1
    (cond (leb 77 lqi) 2
    (cond (leb 26 lqi) 3
    (cond (leb 11 lqi) 5
    (cond (leb 1 lqi) 6 7))))
