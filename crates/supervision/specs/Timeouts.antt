-- The negotiated end-device timeout (01, "Supervision record" and P8; Zigbee 3.6.10).
use Rattle.std.specs.Prelude.{Option, Some, None, option_map, unwrap_or, ℕ, ◌-◌, ◌*◌, ◌^◌, cond, leb, eqb}
use Rattle.supervision.specs.declared.parent_timer.ParentTimer.{ParentTimer}

-- the timeout of an index in seconds (Zigbee Table 3.52): 10, then 2 minutes that double with each index up to 14; none above
unfoldable pub timeout_seconds : ℕ → Option ℕ
timeout_seconds i = cond (leb i 14) (Some (cond (eqb i 0) 10 (120 * 2 ^ (i - 1)))) None

-- the negotiated timeout in milliseconds
unfoldable pub negotiated_timeout_ms : ℕ → Option ℕ
negotiated_timeout_ms i = option_map (λ s. s * 1000) (timeout_seconds i)

-- the timer after a restart (Zigbee 3.6.10.6): 0, which is inactive, where there is no timeout, even if it ran
unfoldable pub refreshed_timer : ℕ → ParentTimer
refreshed_timer i = record { remaining_ms = unwrap_or (negotiated_timeout_ms i) 0 }
