-- A tick of the parent timer (01, "Supervision record"; Zigbee 3.6.10.6).
use Rattle.std.specs.Prelude.{ℕ, ◌-◌, max, not, ◌&&◌, eqb}
use Rattle.supervision.specs.declared.parent_timer.ParentTimer.{ParentTimer}
use Rattle.supervision.specs.declared.parent_timer.Ticked.{Ticked}

-- "A timer at 0 is inactive": as it is before the first call, and once a join or rejoin has begun
abbrev pub inactive_timer : ParentTimer
inactive_timer = record { remaining_ms = 0 }

-- the milliseconds that a tick leaves: the elapsed ones are taken off, at least 1; `-` stops at 0
abbrev pub remaining : ℕ → ℕ → ℕ
remaining ms elapsed = ms - max elapsed 1

-- "A timer at 0 is inactive, and a tick leaves it so." For any other, reaching 0 is expiry (01, "Supervision record")
unfoldable pub ticked : ParentTimer → ℕ → Ticked
ticked t elapsed =
    record {
      timer = record { remaining_ms = remaining t.remaining_ms elapsed };
      expired = not (eqb t.remaining_ms 0) && eqb (remaining t.remaining_ms elapsed) 0;
    }
