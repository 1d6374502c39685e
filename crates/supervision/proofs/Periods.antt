-- Laws of the timeouts. Assumes nothing.
use Rattle.std.specs.Prelude.{Some, None}
use Prim.Native.Nat.{ℕ, ◌-◌, ◌*◌, ◌^◌, ◌≤◌}
use mathlib.Core.Path.{◌≡◌, refl}
use mathlib.Core.Bool.{Bool, true, false, cond}
use native.Mathlib.Omega.{arith}
use borrow.Author.Tests.{leb-true}
use lib.Dec.{leb, eqb}
use lib.Pow.{pow_mono}
use Rattle.supervision.specs.Timeouts.{timeout_seconds}

-- the longest timeout is that of index 14
pub seconds_most : (i s : ℕ) → timeout_seconds i ≡ Some s → s ≤ 983040
unfolding timeout_seconds
seconds_most i s = go (leb i 14) refl (eqb i 0)
  where
    go : (b : Bool) → leb i 14 ≡ b → (z : Bool) → cond b (Some (cond z 10 (120 * 2 ^ (i - 1)))) None ≡ Some s → s ≤ 983040
    go true e true q = grind arith
    go true e false q =
        let h : i - 1 ≤ 13 = omega (arith, leb-true i 14 e) in
        let p : 2 ^ (i - 1) ≤ 8192 = pow_mono h in
        grind arith
    go false e z q = grind arith
