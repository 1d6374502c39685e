-- `fill_decimal` meets its contract. Assumes nothing.
use native.Mathlib.Omega.{arith}
use Prim.Native.Nat.{ℕ, suc, ◌+◌, ◌-◌, ◌/◌, ◌%◌, ◌^◌, ◌<◌, ◌≤◌}
use mathlib.Core.Path.{◌≡◌, sym, ap, subst, ◌∙◌}
use mathlib.Core.List.{List, [], ◌∷◌, ◌++◌, append_assoc}
use native.Mathlib.Nat.{le_trans, pow-le-pow_right, mod-eq_of_lt, div-one}
use native.Mathlib.Numerals.{add-one}
use lib.ListN.{length, take, drop, set, length-set}
use lib.Seq.{take_all, length-take-le, take-append_seam, drop-append_seam}
use Rattle.std.proofs.lemmas.List.{take_more_set}
use Rattle.text.specs.Text.{digit_byte, decimal_digits, decimal_text}
use Rattle.text.proofs.Powers.{Taking, taking-first, taking-next, taken, first-digit, next-digit}
use Rattle.text.proofs.fill_decimal.Goals as goal
use Rattle.text.proofs.fill_decimal.Goals.{Then-power-left}

pub loop-power-init : goal.loop-power-init
loop-power-init c =
    let j = 9 - c.first_place-first.result in
    let e : 10 - c.first_place-first.result ≡ suc j = omega (arith, c.first_place-first.ensures.0) in
    let h : c.args.n < 10 ^ suc j = subst (λ (k : ℕ). c.args.n < 10 ^ k) e c.first_place-first.ensures.1 in (
      omega arith,
      c.first_place-first.ensures.0,
      c.requires,
      c.power_at-power.ensures,
      taking-first j c.args.n c.args.n (sym (mod-eq_of_lt h)),
      ap (λ (z : List ℕ). take c.first_place-first.result c.args.bytes.now ++ z) (sym (first-digit j c.args.n c.first_place-first.result h)),
    )

-- the power of the place is taken once
reached : (c : Then-power-left) → 10 ^ (9 - c.loop-power.at) ≤ c.loop-power.left
reached c = omega (arith, c.loop-power.invariant.3, c.if-power-left.true)

pub loop-power-preserved-then-power-left : goal.loop-power-preserved-then-power-left
loop-power-preserved-then-power-left c =
    let n = c.args.n in
    let i = c.loop-power.invariant in
    let t = taking-next (9 - c.loop-power.at) n c.loop-power.byte c.loop-power.left (reached c) i.4 in
    (i.0, i.1, i.2, i.3, subst (λ (p : ℕ). Taking (9 - c.loop-power.at) n (c.loop-power.byte + 1) (c.loop-power.left - p)) (sym i.3) t, i.5)

-- the place ends: its digit stands
stands : (n at byte left : ℕ) (bytes front : List ℕ) → at < length bytes → left < 10 ^ (9 - at) → Taking (9 - at) n byte left
    → take at bytes ++ (digit_byte (n % 10 ^ suc (9 - at) / 10 ^ (9 - at)) ∷ []) ≡ front ++ decimal_digits (suc at) (n / 10 ^ (9 - at))
    → take (at + 1) (set bytes at byte) ≡ front ++ decimal_digits (suc at) (n / 10 ^ (9 - at))
stands n at byte left bytes front h s t e = take_more_set bytes at byte h ∙ ap (λ (x : ℕ). take at bytes ++ (x ∷ [])) (taken (9 - at) n byte left s t).0 ∙ e

-- the last place ends: the number stands behind what stood before
pub returns-then-at-eq9 : goal.returns-then-at-eq9
unfolding decimal_text
returns-then-at-eq9 c =
    let n = c.args.n in
    let at = c.loop-power.at in
    let i = c.loop-power.invariant in
    let first = c.first_place-first.result in
    let bytes = set c.loop-power.bytes at c.loop-power.byte in
    let front = take first c.args.bytes.now in
    let h : at < length c.loop-power.bytes = omega arith in
    let s : c.loop-power.left < 10 ^ (9 - at) = omega (arith, i.3, c.if-power-left.false) in
    let t : take (at + 1) bytes ≡ front ++ decimal_digits (suc at) (n / 10 ^ (9 - at)) = stands n at c.loop-power.byte c.loop-power.left c.loop-power.bytes front h s i.4 i.5 in
    let e : at ≡ 9 = c.if-at-eq9.true in
    let l : length bytes ≤ at + 1 = omega (arith, length-set c.loop-power.bytes at c.loop-power.byte, i.2) in
    let w : bytes ≡ front ++ decimal_text n =
    sym (take_all (at + 1) bytes l) ∙ t ∙ ap (λ (k : ℕ). front ++ decimal_digits (suc k) (n / 10 ^ (9 - k))) e ∙ ap (λ (m : ℕ). front ++ decimal_digits 10 m) (div-one n) in
    let m : length front ≡ first = length-take-le first c.args.bytes.now (omega (arith, c.requires, c.first_place-first.ensures.0)) in (
      omega (arith, c.first_place-first.ensures.0),
      (λ i. drop (sym m i) (w i)) ∙ drop-append_seam front (decimal_text n),
      (λ i. take (sym m i) (w i)) ∙ take-append_seam front (decimal_text n),
    )

-- another place ends, and what is left is for the places behind it
pub loop-power-preserved : goal.loop-power-preserved
loop-power-preserved c =
    let n = c.args.n in
    let at = c.loop-power.at in
    let i = c.loop-power.invariant in
    let first = c.first_place-first.result in
    let front = take first c.args.bytes.now in
    let h : at < length c.loop-power.bytes = omega arith in
    let s : c.loop-power.left < 10 ^ (9 - at) = omega (arith, i.3, c.if-power-left.false) in
    let t : take (at + 1) (set c.loop-power.bytes at c.loop-power.byte) ≡ front ++ decimal_digits (suc at) (n / 10 ^ (9 - at)) = stands n at c.loop-power.byte c.loop-power.left c.loop-power.bytes front h s i.4 i.5 in
    let j = 9 - (at + 1) in
    let x = digit_byte (n % 10 ^ suc j / 10 ^ j) in
    let p : 9 - at ≡ suc j = omega arith in
    let g : suc j ≤ 9 - first = omega arith in
    let m : 10 ^ suc j ≤ n = le_trans (pow-le-pow_right {n = 10} (omega arith) g) (c.first_place-first.ensures.2 (omega arith)) in (
      omega arith,
      omega arith,
      simp length-set i.2,
      c.power_at-power-else-power-left.ensures,
      taking-first j n c.loop-power.left ((taken (9 - at) n c.loop-power.byte c.loop-power.left s i.4).1 ∙ ap (λ (k : ℕ). n % 10 ^ k) p),
      ap (λ (u : List ℕ). u ++ (x ∷ [])) t ∙ append_assoc front (decimal_digits (suc at) (n / 10 ^ (9 - at))) (x ∷ [])
          ∙ ap (λ (k : ℕ). front ++ (decimal_digits (suc at) (n / 10 ^ k) ++ (x ∷ []))) p
          ∙ ap (λ (u : List ℕ). front ++ u) (sym (next-digit j n (suc at) m)) ∙ ap (λ (k : ℕ). front ++ decimal_digits (suc k) (n / 10 ^ j)) (sym (add-one at)),
    )
