-- What is claimed of decimals is proved. Assumes nothing.
use Prim.Native.Nat.{ℕ, zero, suc, ◌+◌, ◌-◌, ◌*◌, ◌/◌, ◌%◌, ◌^◌, ◌<◌, ◌≤◌}
use mathlib.Core.Path.{◌≡◌, refl, sym, ap, ◌∙◌, subst}
use mathlib.Core.Bool.{Bool, true, false, cond, not, ◌&&◌, ◌||◌, or-true}
use mathlib.Core.List.{List, [], ◌∷◌, ◌++◌}
use native.Mathlib.Nat.{zero-add, one-mul, mod-lt, le-div_iff_mul-le, div-add-mod'}
use native.Mathlib.Omega.{arith}
use borrow.Author.Tests.{ltb-true, ltb-false, lt-ltb, le-leb, ne_eqb}
use lib.Dec.{ltb, leb, eqb}
use lib.ListN.{length, get_or, length-append, get_or-append}
use Rattle.lists.specs.Lists.{every}
use Rattle.lists.proofs.Lists.{foldl-snoc}
use Rattle.std.specs.Prelude.{Some}
use Rattle.text.specs.Text.{digit_of, value_from, number_from, decimal_of, digit_byte, decimal_digits, decimal_text}
use Rattle.text.specs.Statement.{Decimals}
use Rattle.text.proofs.Numbers.{decimal-byte, tenth-below, value-below}

abbrev is_decimal : ℕ → Bool
is_decimal b = ltb (digit_of b) 10

digit-read : (d : ℕ) → d < 10 → digit_of (digit_byte d) ≡ d
unfolding digit_of
digit-read d h =
    let a : 48 ≤ 48 + d = omega arith in
    let b : 48 + d ≤ 57 = omega arith in
    let e : 48 + d - 48 ≡ d = omega arith in
    ap digit_of (decimal-byte d h) ∙ rw (le-leb 48 (48 + d) a, le-leb (48 + d) 57 b) e

digit-decimal : (d : ℕ) → d < 10 → is_decimal (digit_byte d) ≡ true
digit-decimal d h = lt-ltb (digit_of (digit_byte d)) 10 (subst (λ (m : ℕ). m < 10) (sym (digit-read d h)) h)

-- a digit more behind others
every-behind : (f : List ℕ) (b : ℕ) → every is_decimal f ≡ true → is_decimal b ≡ true → every is_decimal (f ++ (b ∷ [])) ≡ true
every-behind [] b e h = rw h
every-behind (x ∷ f) b e h = go (is_decimal x) e (λ r. every-behind f b r h)
  where
    go : (t : Bool) → (t && every is_decimal f) ≡ true → (every is_decimal f ≡ true → every is_decimal (f ++ (b ∷ [])) ≡ true) → (t && every is_decimal (f ++ (b ∷ []))) ≡ true
    go true r n = n r
    go false r n = r

-- no zero stands in front of other digits
abbrev fronted : List ℕ → Bool
fronted f = leb (length f) 1 || not (eqb (get_or f 0 0) 48)

some-fronted : (f : List ℕ) → (get_or f 0 0 ≡ 48 → ⊥) → fronted f ≡ true
some-fronted f h = ap (λ t. leb (length f) 1 || not t) (ne_eqb (get_or f 0 0) 48 h) ∙ or-true (leb (length f) 1)

-- digits that make a number
record Makes (n : ℕ) (f : List ℕ) : Type 0 where
  digits : every is_decimal f ≡ true
  value : value_from 10 0 f ≡ n
  some : 0 < length f
  front : 0 < n → get_or f 0 0 ≡ 48 → ⊥
  no_zero : fronted f ≡ true

one : (n : ℕ) → n < 10 → Makes n (digit_byte n ∷ [])
one n h =
    record {
      digits = rw (digit-decimal n h);
      value = zero-add (digit_of (digit_byte n)) ∙ digit-read n h;
      some = omega arith;
      no_zero = refl;
      front = λ p e. let f : ⊥ = omega (arith, sym (decimal-byte n h) ∙ e) in f;
    }

more : (n : ℕ) (f : List ℕ) → 10 ≤ n → Makes (n / 10) f → Makes n (f ++ (digit_byte (n % 10) ∷ []))
more n f h m =
    let d : n % 10 < 10 = mod-lt n (omega arith) in
    let q : 1 ≤ n / 10 = (le-div_iff_mul-le {k = 10} {x = 1} {y = n} (omega arith)).1 h in
    let first : get_or (f ++ (digit_byte (n % 10) ∷ [])) 0 0 ≡ 48 → ⊥ = λ e. m.front q (sym (get_or-append f (digit_byte (n % 10) ∷ []) 0 0 m.some) ∙ e) in
    record {
      digits = every-behind f (digit_byte (n % 10)) m.digits (digit-decimal (n % 10) d);
      value = foldl-snoc (λ w b. w * 10 + digit_of b) 0 f (digit_byte (n % 10)) ∙ (λ i. m.value i * 10 + digit-read (n % 10) d i) ∙ div-add-mod' n 10;
      some = omega (arith, length-append f (digit_byte (n % 10) ∷ []), m.some);
      front = λ p. first;
      no_zero = some-fronted (f ++ (digit_byte (n % 10) ∷ [])) first;
    }

makes : (k n : ℕ) → n < 10 ^ suc k → Makes n (decimal_digits (suc k) n)
makes zero n h = rw (lt-ltb n 10 h) (one n h)
makes (suc k) n h = go (ltb n 10) refl (makes k (n / 10) (tenth-below (suc k) n h))
  where
    go : (b : Bool) → ltb n 10 ≡ b → Makes (n / 10) (decimal_digits (suc k) (n / 10)) → Makes n (cond b (digit_byte n ∷ []) (decimal_digits (suc k) (n / 10) ++ (digit_byte (n % 10) ∷ [])))
    go true e m = one n (ltb-true n 10 e)
    go false e m = more n (decimal_digits (suc k) (n / 10)) (ltb-false n 10 e) m

reads : (n limit : ℕ) (f : List ℕ) → Makes n f → n ≤ limit → decimal_of limit f ≡ Some n
unfolding decimal_of number_from
reads n limit f m l =
    let t : leb (value_from 10 0 f) limit ≡ true = ap (λ (v : ℕ). leb v limit) m.value ∙ le-leb n limit l in
    rw (lt-ltb 0 (length f) m.some, m.no_zero, m.digits, t) (ap Some m.value)

-- a number is below the power of ten with as many zeros as it has digits, and has one at least
pub digits-of : (n : ℕ) → n < 10 ^ 10 → (0 < length (decimal_text n)) × (n < 10 ^ length (decimal_text n))
unfolding decimal_text
digits-of n h =
    let m = makes 9 n h in
    let f = decimal_digits 10 n in
    let p : suc 0 * 10 ^ length f ≡ 10 ^ length f = one-mul (10 ^ length f) in
    (m.some, omega (arith, value-below 10 0 f m.digits, m.value, p))

pub decimals : Decimals
unfolding decimal_text digit_byte
decimals =
    let p : 10 ^ 10 ≡ 10000000000 = refl in
    record {
      read_back = λ n limit h l. reads n limit (decimal_digits 10 n) (makes 9 n (omega (arith, p))) l;
      none = refl;
      ten = refl;
      each = refl;
      most = refl;
      fits = refl;
      long = refl;
    }
