-- `fill_hex` meets its contract. Assumes nothing.
use native.Mathlib.Omega.{arith}
use Prim.Native.Nat.{ℕ, ◌-◌, ◌/◌, ◌≤◌}
use mathlib.Core.Path.{sym, ap, ◌∙◌}
use mathlib.Core.List.{◌++◌}
use lib.ListN.{length, drop, set, length-set}
use Rattle.text.specs.Text.{hex_text}
use Rattle.text.proofs.Numbers.{hex-next}
use Rattle.text.proofs.fill_hex.Goals as goal

pub loop-at-preserved : goal.loop-at-preserved
loop-at-preserved c =
    let at = c.loop-at.at in
    let left = c.loop-at.left in
    let bytes = c.loop-at.bytes in
    let h : at ≤ length bytes = omega (arith, c.loop-at.invariant.2) in (
      omega arith,
      omega arith,
      simp length-set c.loop-at.invariant.2,
      c.loop-at.invariant.3 ∙ hex-next c.args.from at left bytes c.loop-at-test.true h ∙ ap (λ (d : ℕ). hex_text (at - 1 - c.args.from) (left / 16) ++ drop (at - 1) (set bytes (at - 1) d)) (sym c.digit_byte.ensures),
    )
