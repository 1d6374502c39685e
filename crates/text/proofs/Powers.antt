-- Laws of the powers of ten: the digits by subtraction are the digits by division. Assumes nothing.
use Prim.Native.Nat.{ℕ, zero, suc, ◌+◌, ◌-◌, ◌*◌, ◌/◌, ◌%◌, ◌^◌, ◌<◌, ◌≤◌}
use mathlib.Core.Path.{◌≡◌, refl, sym, ap, ◌∙◌, subst}
use mathlib.Core.List.{List, [], ◌∷◌, ◌++◌}
use native.Mathlib.Nat.{sub-zero, suc-sub-suc, not-suc-le-zero, le_of_suc-le-suc, one-le-pow, pow-suc, pow-succ', mod-lt, mod-eq_of_lt, mod-eq-sub-mod, div-eq_of_lt, div-eq-sub-div, le-div_iff_mul-le, div-div-eq-div-mul}
use native.Mathlib.Omega.{arith}
use borrow.Author.Tests.{lt-ltb, le-ltb}
use lib.Arith.{digits_div, digits_mod, mod-mul}
use lib.ListN.{get_or}
use Rattle.text.specs.Text.{digit_byte, decimal_digits}
use Rattle.text.proofs.Numbers.{decimal-byte}

-- the powers of ten from the k-th down to 1
abbrev pub powers_from : ℕ → List ℕ
powers_from zero = 10 ^ zero ∷ []
powers_from (suc k) = 10 ^ suc k ∷ powers_from k

-- the rule of the table
pub power-of-place : (k i : ℕ) → i ≤ k → get_or (powers_from k) i 0 ≡ 10 ^ (k - i)
power-of-place k zero h = first k ∙ ap (λ (e : ℕ). 10 ^ e) (sym (sub-zero k))
  where
    first : (k : ℕ) → get_or (powers_from k) 0 0 ≡ 10 ^ k
    first zero = refl
    first (suc k) = refl
power-of-place zero (suc i) h = absurd (not-suc-le-zero h)
power-of-place (suc k) (suc i) h = power-of-place k i (le_of_suc-le-suc h) ∙ ap (λ (e : ℕ). 10 ^ e) (sym (suc-sub-suc k i))

-- at the place of a power a digit is counted from the byte 48: what is counted and what is still to be taken make the digit by division
abbrev pub Taking : ℕ → ℕ → ℕ → ℕ → Type 0
Taking j n byte left = (byte + left / 10 ^ j ≡ 48 + n % 10 ^ suc j / 10 ^ j) × (left % 10 ^ j ≡ n % 10 ^ j)

module _ (j n : ℕ) where
  some : 0 < 10 ^ j
  some = one-le-pow j 10 (omega arith)

  -- what a number leaves of a power is a digit of the power below, and what it leaves of that
  split : n % 10 ^ suc j ≡ (n / 10 ^ j % 10) * 10 ^ j + n % 10 ^ j
  split = ap (λ (p : ℕ). n % p) (pow-succ' 10 j) ∙ mod-mul n {m = 10} {c = 10 ^ j} (omega arith) some

  digit-left : n % 10 ^ suc j / 10 ^ j ≡ n / 10 ^ j % 10
  digit-left = ap (λ (m : ℕ). m / 10 ^ j) split ∙ digits_div (n / 10 ^ j % 10) (mod-lt n some)

  one-digit : n % 10 ^ suc j / 10 ^ j < 10
  one-digit = subst (λ (d : ℕ). d < 10) (sym digit-left) (mod-lt (n / 10 ^ j) (omega arith))

  pub taking-first : (left : ℕ) → left ≡ n % 10 ^ suc j → Taking j n 48 left
  taking-first left e =
      (ap (λ (m : ℕ). 48 + m / 10 ^ j) e, ap (λ (m : ℕ). m % 10 ^ j) (e ∙ split) ∙ digits_mod (n / 10 ^ j % 10) (mod-lt n some))

  pub taking-next : (byte left : ℕ) → 10 ^ j ≤ left → Taking j n byte left → Taking j n (byte + 1) (left - 10 ^ j)
  taking-next byte left h t = (omega (arith, t.0, div-eq-sub-div some h), sym (mod-eq-sub-mod h) ∙ t.1)

  pub taken : (byte left : ℕ) → left < 10 ^ j → Taking j n byte left → (byte ≡ digit_byte (n % 10 ^ suc j / 10 ^ j)) × (left ≡ n % 10 ^ j)
  taken byte left h t =
      let b : byte ≡ 48 + n % 10 ^ suc j / 10 ^ j = omega (arith, t.0, div-eq_of_lt h) in
      (b ∙ sym (decimal-byte (n % 10 ^ suc j / 10 ^ j) one-digit), sym (mod-eq_of_lt h) ∙ t.1)

  -- the first digit by division, where the number is below the next power
  pub first-digit : (k : ℕ) → n < 10 ^ suc j → decimal_digits (suc k) (n / 10 ^ j) ≡ digit_byte (n % 10 ^ suc j / 10 ^ j) ∷ []
  first-digit k h =
      let e : n % 10 ^ suc j / 10 ^ j ≡ n / 10 ^ j = ap (λ (m : ℕ). m / 10 ^ j) (mod-eq_of_lt h) in
      rw (lt-ltb (n / 10 ^ j) 10 (subst (λ (d : ℕ). d < 10) e one-digit)) (ap (λ (d : ℕ). digit_byte d ∷ []) (sym e))

  -- a digit more by division by ten is the digit that the next power gives of what the greater ones left
  pub next-digit : (k : ℕ) → 10 ^ suc j ≤ n → decimal_digits (suc k) (n / 10 ^ j) ≡ decimal_digits k (n / 10 ^ suc j) ++ (digit_byte (n % 10 ^ suc j / 10 ^ j) ∷ [])
  next-digit k h =
      let many : 10 ≤ n / 10 ^ j = (le-div_iff_mul-le {k = 10 ^ j} {x = 10} {y = n} some).1 (subst (λ (p : ℕ). p ≤ n) (pow-succ' 10 j) h) in
      let front : n / 10 ^ j / 10 ≡ n / 10 ^ suc j = div-div-eq-div-mul n (10 ^ j) 10 ∙ ap (λ (p : ℕ). n / p) (sym (pow-suc 10 j)) in
      rw (le-ltb (n / 10 ^ j) 10 many, front, sym digit-left)
