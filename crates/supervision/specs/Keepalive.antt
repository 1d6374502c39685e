-- Keepalives: `keepalive_method`, `keepalive_interval_ms` and `negotiated_poll_interval_ms` of the source (Zigbee 3.6.10.3).
-- 01 neither names them nor leaves them out.
use Rattle.std.specs.Prelude.{Option, None, option_map, ℕ, ◌/◌, cond}
use Rattle.std.specs.Option.{option_map_or}
use Rattle.nib.specs.Bits.{bit}
use Rattle.supervision.specs.Timeouts.{timeout_seconds, negotiated_timeout_ms}
use Rattle.supervision.specs.declared.KeepaliveMethod.{KeepaliveMethod}

-- the interval between keepalives in milliseconds: a third of the timeout, rounded down
unfoldable pub keepalive_interval_ms : ℕ → Option ℕ
keepalive_interval_ms timeout = option_map (λ ms. ms / 3) (negotiated_timeout_ms timeout)

-- the method that the parent information names: bit 0 comes before bit 1
unfoldable pub offered : ℕ → KeepaliveMethod
offered information = cond (bit 0 information) KeepaliveMethod.MacDataPoll (cond (bit 1 information) KeepaliveMethod.TimeoutRequest KeepaliveMethod.NoKeepalive)

-- the keepalive method: none without a negotiated timeout
unfoldable pub keepalive_method : ℕ → ℕ → KeepaliveMethod
keepalive_method timeout information = option_map_or (λ _. offered information) (timeout_seconds timeout) KeepaliveMethod.NoKeepalive

-- a period where the method is the MAC data poll
abbrev pub period_for : KeepaliveMethod → Option ℕ → Option ℕ
period_for KeepaliveMethod.MacDataPoll p = p
period_for KeepaliveMethod.TimeoutRequest p = None
period_for KeepaliveMethod.NoKeepalive p = None

-- the interval between polls in milliseconds, none where polls are not the keepalive
unfoldable pub negotiated_poll_interval_ms : ℕ → ℕ → Option ℕ
negotiated_poll_interval_ms timeout information = period_for (keepalive_method timeout information) (keepalive_interval_ms timeout)
