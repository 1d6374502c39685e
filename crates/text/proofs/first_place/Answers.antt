-- `first_place` meets its contract. Assumes nothing.
use native.Mathlib.Omega.{arith}
use Prim.Native.Nat.{ℕ, zero, suc, ◌-◌, ◌^◌, ◌<◌, ◌≤◌}
use mathlib.Core.Path.{◌≡◌, refl, sym, subst}
use borrow.Author.Tests.{tests}
use Rattle.std.proofs.Common.{rules}
use Rattle.std.specs.Prelude.{Option, Some, None, MatchOption, unwrap_or}
use Rattle.std.specs.List.{AllWithin, HoldsAt}
use Rattle.std.proofs.lemmas.Iterator.{IsFirst-from_position, YieldsList-from_slice}
use Rattle.text.proofs.Powers.{powers_from, power-of-place}
use Rattle.text.proofs.first_place.Goals as goal

-- the index of the first power that n reaches, and 9 where there is none
abbrev Reaches : ℕ → Option ℕ → Type 0
Reaches n r = MatchOption r (AllWithin (λ x. n < x) (powers_from 9) 0 10) (λ i. (i < 10) × HoldsAt (λ x. x ≤ n) (powers_from 9) i × AllWithin (λ x. n < x) (powers_from 9) 0 i)

above : (n i : ℕ) → i ≤ 9 → n < 4294967296 → AllWithin (λ x. n < x) (powers_from 9) 0 i → n < 10 ^ (10 - i)
above n zero h s a = let e : 10 ^ 10 ≡ 10000000000 = refl in omega (arith, e)
above n (suc i) h s a =
    let e : 9 - i ≡ 10 - suc i = omega arith in
    subst (λ (k : ℕ). n < 10 ^ k) e (subst (λ (p : ℕ). n < p) (power-of-place 9 i (omega arith)) (a i 0 (omega arith) (omega arith)))

reached : (n : ℕ) (r : Option ℕ) → n < 4294967296 → Reaches n r → (unwrap_or r 9 ≤ 9) × (n < 10 ^ (10 - unwrap_or r 9)) × (unwrap_or r 9 < 9 → 10 ^ (9 - unwrap_or r 9) ≤ n)
reached n None s a = (omega arith, above n 9 (omega arith) s (λ k d l h. a k d l (omega arith)), λ h. absurd (omega arith))
reached n (Some i) s a = (omega arith, above n i (omega arith) s a.2, λ h. subst (λ (p : ℕ). p ≤ n) (power-of-place 9 i (omega arith)) (a.1 0))

pub returns : goal.returns
returns c =
    let n = c.args.n in
    let f : Reaches n c.position.result = IsFirst-from_position _ _ c.position.result (λ x. x ≤ n) (λ x. n < x) c.position.ensures.ran (YieldsList-from_slice _ c.iter.ensures.rest) (λ x q k. search (rules, tests)) (λ x q k. search (rules, tests)) in
    subst (λ (u : ℕ). (u ≤ 9) × (n < 10 ^ (10 - u)) × (u < 9 → 10 ^ (9 - u) ≤ n)) (sym c.unwrap_or.ensures) (reached n c.position.result c.ranges.n.fits f)
