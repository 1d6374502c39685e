-- `number` meets its contract. Assumes nothing.
use native.Mathlib.Omega.{arith}
use Prim.Native.Nat.{ℕ, ◌+◌, ◌*◌, ◌<◌}
use mathlib.Core.Path.{◌≡◌, sym, ap, ◌∙◌}
use borrow.Author.Tests.{le-leb}
use lib.ListN.{drop, get_or, drop_of_length-le}
use Rattle.text.specs.Text.{digit_of, number_from}
use Rattle.text.proofs.Numbers.{number-on, number-stops, number-large}
use Rattle.text.proofs.number.Goals as goal

pub returns-then-base-d : goal.returns-then-base-d
returns-then-base-d c = sym (c.loop-b.invariant.1 ∙ number-stops c.args.base c.args.limit c.loop-b.v c.args.f.now c.loop-b.b-index c.loop-b-test.true (omega (arith, c.digit-d.ensures)))

-- the value with this digit is too large, and more digits only make it grow
pub returns-in_err-checked_mul : goal.returns-in_err-checked_mul
returns-in_err-checked_mul c =
    let n : (c.loop-b.v * c.args.base < 18446744073709551616 → ⊥) = c.in_err-checked_mul.ensures in
    let l : c.args.limit < c.loop-b.v * c.args.base = omega (arith, c.ranges.limit.fits) in
    c.from_residual.ensures ∙ sym (c.loop-b.invariant.1 ∙ number-large c.args.base c.args.limit c.loop-b.v c.args.f.now c.loop-b.b-index c.loop-b-test.true c.requires (omega arith))

pub returns-in_err-v : goal.returns-in_err-v
returns-in_err-v c =
    let m : c.in_ok-checked_mul.field-0 ≡ c.loop-b.v * c.args.base = c.in_ok-checked_mul.ensures.1 in
    let n : (c.in_ok-checked_mul.field-0 + c.digit-d.result < 18446744073709551616 → ⊥) = c.in_err-v.ensures in
    let l : c.args.limit < c.in_ok-checked_mul.field-0 + c.digit-d.result = omega (arith, c.ranges.limit.fits) in
    c.from_residual-in_err-v.ensures ∙ sym (c.loop-b.invariant.1 ∙ number-large c.args.base c.args.limit c.loop-b.v c.args.f.now c.loop-b.b-index c.loop-b-test.true c.requires (omega (arith, c.digit-d.ensures)))

pub returns-then-limit-v : goal.returns-then-limit-v
returns-then-limit-v c =
    let m : c.in_ok-checked_mul.field-0 ≡ c.loop-b.v * c.args.base = c.in_ok-checked_mul.ensures.1 in
    let s : c.in_ok-v.v ≡ c.in_ok-checked_mul.field-0 + c.digit-d.result = c.in_ok-v.ensures.1 in
    sym (c.loop-b.invariant.1 ∙ number-large c.args.base c.args.limit c.loop-b.v c.args.f.now c.loop-b.b-index c.loop-b-test.true c.requires (omega (arith, c.digit-d.ensures)))

-- no byte is left, and v is at most the limit, so v is the number
pub returns : goal.returns
unfolding number_from
returns c = sym (c.loop-b.invariant.1 ∙ rw (drop_of_length-le c.args.f.now c.loop-b-test.false, le-leb c.loop-b.v c.args.limit c.loop-b.invariant.0))

-- one digit more
pub loop-b-preserved : goal.loop-b-preserved
loop-b-preserved c =
    let k : digit_of (get_or c.args.f.now c.loop-b.b-index 0) < c.args.base = omega (arith, c.digit-d.ensures, c.if-base-d.false) in
    let m : c.in_ok-checked_mul.field-0 ≡ c.loop-b.v * c.args.base = c.in_ok-checked_mul.ensures.1 in
    let s : c.in_ok-v.v ≡ c.in_ok-checked_mul.field-0 + c.digit-d.result = c.in_ok-v.ensures.1 in
    let e : c.loop-b.v * c.args.base + digit_of (get_or c.args.f.now c.loop-b.b-index 0) ≡ c.in_ok-v.v = omega (arith, c.digit-d.ensures) in (
      c.if-limit-v.false,
      c.loop-b.invariant.1 ∙ number-on c.args.base c.args.limit c.loop-b.v c.args.f.now c.loop-b.b-index c.loop-b-test.true k
          ∙ ap (λ (n : ℕ). number_from c.args.base c.args.limit n (drop (c.loop-b.b-index + 1) c.args.f.now)) e,
    )
