-- Laws of numbers that are read and written. Assumes nothing.
use Prim.Native.Nat.{ℕ, zero, suc, ◌+◌, ◌-◌, ◌*◌, ◌/◌, ◌%◌, ◌^◌, ◌<◌, ◌≤◌, zero-le}
use mathlib.Core.Path.{◌≡◌, refl, sym, ap, ◌∙◌, subst}
use mathlib.Core.Bool.{Bool, true, false, cond, not, ◌&&◌, ◌||◌}
use mathlib.Core.List.{List, [], ◌∷◌, ◌++◌, append_assoc}
use native.Mathlib.Nat.{not-suc-le-zero, le_of_suc-le-suc, zero-add, suc-add, le_refl, le_trans, lt_of_lt_of_le, one-le-pow, pow-suc, pow-succ', pow-zero, div-lt_iff_lt-mul, mul_assoc, mul-one, one-mul, suc-mul, mul-le-mul_left, mul-le-mul_right}
use native.Mathlib.Numerals.{add-one}
use native.Mathlib.Omega.{arith}
use borrow.Author.Tests.{lt-ltb, le-ltb, lt-leb, ltb-true, leb-true, eqb-true}
use Rattle.std.specs.Prelude.{Option, Some, None, unwrap_or}
use Rattle.std.proofs.lemmas.Bool.{and_parts}
use Rattle.std.proofs.lemmas.List.{drop-set}
use lib.Dec.{ltb, leb, eqb}
use lib.ListN.{length, take, drop, get_or, set, length-append, length-drop, length-replicate}
use lib.Seq.{drop-cons, drop-drop}
use Rattle.lists.specs.Lists.{every}
use Rattle.text.specs.Text.{digit_of, value_from, number_from, decimal_of, hex_of, digit_byte, decimal_digits, decimal_text, hex_text, spaces, right_text}

-- a number in a base is at least its front
grows : (base v d : ℕ) → 0 < base → v ≤ v * base + d
grows base v d h = let m : v * 1 ≤ v * base = mul-le-mul_left v h in omega (arith, m, mul-one v)

value_grows : (base : ℕ) → 0 < base → (v : ℕ) (f : List ℕ) → v ≤ value_from base v f
value_grows base h v [] = le_refl v
value_grows base h v (b ∷ bs) = le_trans (grows base v (digit_of b) h) (value_grows base h (v * base + digit_of b) bs)

none-past : (e : Bool) (x y : Option ℕ) → cond (e && false) x y ≡ y
none-past true x y = refl
none-past false x y = refl

-- a loop that reads digits: what the next one at i does
module _ (base limit v : ℕ) (f : List ℕ) (i : ℕ) (h : i < length f) where
  pub number-on : digit_of (get_or f i 0) < base → number_from base limit v (drop i f) ≡ number_from base limit (v * base + digit_of (get_or f i 0)) (drop (i + 1) f)
  unfolding number_from
  number-on l = rw (add-one, drop-cons f i 0 h, lt-ltb (digit_of (get_or f i 0)) base l)

  pub number-stops : base ≤ digit_of (get_or f i 0) → number_from base limit v (drop i f) ≡ None
  unfolding number_from
  number-stops l = rw (drop-cons f i 0 h, le-ltb (digit_of (get_or f i 0)) base l)

  pub number-large : 0 < base → limit < v * base + digit_of (get_or f i 0) → number_from base limit v (drop i f) ≡ None
  unfolding number_from
  number-large p l =
      let x = get_or f i 0 in
      let r = drop (suc i) f in
      let g : limit < value_from base v (x ∷ r) = lt_of_lt_of_le l (value_grows base p (v * base + digit_of x) r) in
      rw (drop-cons f i 0 h, lt-leb (value_from base v (x ∷ r)) limit g) (none-past (every (λ b. ltb (digit_of b) base) (x ∷ r)) _ _)

-- the byte of a decimal digit
pub decimal-byte : (d : ℕ) → d < 10 → digit_byte d ≡ 48 + d
unfolding digit_byte
decimal-byte d h = rw (lt-ltb d 10 h)

-- the last characters of spaces and a text behind them
drop-spaces : (m a : ℕ) (t : List ℕ) → drop m (spaces (m + a) ++ t) ≡ spaces a ++ t
drop-spaces zero a t = ap (λ (n : ℕ). spaces n ++ t) (zero-add a)
drop-spaces (suc m) a t = ap (λ (n : ℕ). drop (suc m) (spaces n ++ t)) (suc-add m a) ∙ drop-spaces m a t

pub spaces-taken : (a n : ℕ) → a ≤ n → take a (spaces n) ≡ spaces a
spaces-taken zero n h = refl
spaces-taken (suc a) zero h = absurd (not-suc-le-zero h)
spaces-taken (suc a) (suc n) h = ap (λ (l : List ℕ). 32 ∷ l) (spaces-taken a n (le_of_suc-le-suc h))

pub right-filled : (k a w : ℕ) (t : List ℕ) → length t + a ≡ k → w ≤ k → drop (k - w) (spaces a ++ t) ≡ right_text w t
right-filled k a w t p h =
    let n = length t in
    let e : (k - w) + w ≡ n + a = omega arith in
    let s : n + (k - w) ≡ (k - w) + n = omega arith in
    ap (drop (k - w)) (sym (drop-spaces n a t)) ∙ drop-drop (k - w) n (spaces (n + a) ++ t) ∙ ap (λ (i : ℕ). drop i (spaces (n + a) ++ t)) s
    ∙ sym (drop-drop n (k - w) (spaces (n + a) ++ t)) ∙ ap (λ (i : ℕ). drop n (drop (k - w) (spaces i ++ t))) (sym e)
    ∙ ap (drop n) (drop-spaces (k - w) w t)

pub right-long : (w : ℕ) (t : List ℕ) → length (right_text w t) ≡ w
right-long w t = simp (length-drop, length-append, length-replicate) (omega arith)

-- a loop that writes hexadecimal digits from the last, down to a place: one digit more before those that stand from at on
pub hex-next : (from at left : ℕ) (bytes : List ℕ) → from < at → at ≤ length bytes → hex_text (at - from) left ++ drop at bytes ≡ hex_text (at - 1 - from) (left / 16) ++ drop (at - 1) (set bytes (at - 1) (digit_byte (left % 16)))
hex-next from zero left bytes t h = let f : ⊥ = omega arith in absurd f
hex-next from (suc a) left bytes t h =
    let e : a ≡ suc a - 1 = omega arith in
    let d : suc a - from ≡ suc (a - from) = omega arith in
    let n : suc a ≡ a + 1 = omega arith in
    (λ i. hex_text (d i) left ++ drop (n i) bytes)
    ∙ append_assoc (hex_text (a - from) (left / 16)) (digit_byte (left % 16) ∷ []) (drop (a + 1) bytes)
    ∙ ap (λ (z : List ℕ). hex_text (a - from) (left / 16) ++ z) (sym (drop-set bytes a (digit_byte (left % 16)) h))
    ∙ ap (λ (k : ℕ). hex_text (k - from) (left / 16) ++ drop k (set bytes k (digit_byte (left % 16)))) e

-- how many digits a number has
pub hex-long : (k n : ℕ) → length (hex_text k n) ≡ k
hex-long zero n = refl
hex-long (suc k) n = length-append (hex_text k (n / 16)) (digit_byte (n % 16) ∷ []) ∙ omega (arith, hex-long k (n / 16))

-- a tenth has a digit fewer
pub tenth-below : (k n : ℕ) → n < 10 ^ suc k → n / 10 < 10 ^ k
tenth-below k n h = (div-lt_iff_lt-mul {k = 10} {x = n} {y = 10 ^ k} (omega arith)).1 (subst (λ (m : ℕ). n < m) (pow-suc 10 k) h)

pub decimal-long : (n : ℕ) → length (decimal_text n) ≤ 10
unfolding decimal_text
decimal-long n = long 10 n
  where
    long : (k m : ℕ) → length (decimal_digits k m) ≤ k
    long zero m = zero-le
    long (suc k) m = go (ltb m 10) (long k (m / 10))
      where
        go : (b : Bool) → length (decimal_digits k (m / 10)) ≤ k → length (cond b (digit_byte m ∷ []) (decimal_digits k (m / 10) ++ (digit_byte (m % 10) ∷ []))) ≤ suc k
        go true h = omega arith
        go false h = simp length-append (omega arith)

pub decimal-short : (j n : ℕ) → n < 10 ^ suc j → length (decimal_text n) ≤ suc j
unfolding decimal_text
decimal-short j n h = short 10 j n h
  where
    short : (k i m : ℕ) → m < 10 ^ suc i → length (decimal_digits k m) ≤ suc i
    short zero i m l = zero-le
    short (suc k) zero m l = let e : 10 ^ 1 ≡ 10 = refl in rw (lt-ltb m 10 (omega (arith, e))) (le_refl 1)
    short (suc k) (suc i) m l = go (ltb m 10) (short k i (m / 10) (tenth-below (suc i) m l))
      where
        go : (b : Bool) → length (decimal_digits k (m / 10)) ≤ suc i → length (cond b (digit_byte m ∷ []) (decimal_digits k (m / 10) ++ (digit_byte (m % 10) ∷ []))) ≤ suc (suc i)
        go true r = omega arith
        go false r = simp length-append (omega arith)

-- how large a number is that is read
pub value-below : (base v : ℕ) (f : List ℕ) → every (λ b. ltb (digit_of b) base) f ≡ true → value_from base v f < suc v * base ^ length f
value-below base v [] h = rw (pow-zero base, mul-one (suc v)) (le_refl (suc v))
value-below base v (b ∷ bs) h =
    let t = and_parts (ltb (digit_of b) base) (every (λ x. ltb (digit_of x) base) bs) h in
    let d : digit_of b < base = ltb-true (digit_of b) base t.0 in
    let m : suc (v * base + digit_of b) ≤ suc v * base = omega (arith, suc-mul v base) in
    let e : suc v * base * base ^ length bs ≡ suc v * base ^ suc (length bs) = mul_assoc (suc v) base (base ^ length bs) ∙ ap (λ (n : ℕ). suc v * n) (sym (pow-succ' base (length bs))) in
    lt_of_lt_of_le (value-below base (v * base + digit_of b) bs t.1) (subst (λ (n : ℕ). suc (v * base + digit_of b) * base ^ length bs ≤ n) e (mul-le-mul_right (base ^ length bs) m))

pub hex-below : (k : ℕ) (f : List ℕ) → unwrap_or (hex_of k f) 0 < 16 ^ k
unfolding hex_of number_from
hex-below k f = go (eqb (length f) k) refl (every (λ b. ltb (digit_of b) 16) f) refl (leb (value_from 16 0 f) 18446744073709551615)
  where
    some : 0 < 16 ^ k
    some = one-le-pow k 16 (omega arith)

    go : (b : Bool) → eqb (length f) k ≡ b → (e : Bool) → every (λ x. ltb (digit_of x) 16) f ≡ e → (l : Bool) → unwrap_or (cond b (cond (e && l) (Some (value_from 16 0 f)) None) None) 0 < 16 ^ k
    go false p e q l = some
    go true p false q l = some
    go true p true q false = some
    go true p true q true = subst (λ (n : ℕ). value_from 16 0 f < 16 ^ n) (eqb-true (length f) k p) (subst (λ (n : ℕ). value_from 16 0 f < n) (one-mul (16 ^ length f)) (value-below 16 0 f q))

pub decimal-most : (limit : ℕ) (f : List ℕ) → unwrap_or (decimal_of limit f) 0 ≤ limit
unfolding decimal_of number_from
decimal-most limit f = go (ltb 0 (length f) && (leb (length f) 1 || not (eqb (get_or f 0 0) 48))) (every (λ b. ltb (digit_of b) 10) f) (leb (value_from 10 0 f) limit) refl
  where
    go : (b e l : Bool) → leb (value_from 10 0 f) limit ≡ l → unwrap_or (cond b (cond (e && l) (Some (value_from 10 0 f)) None) None) 0 ≤ limit
    go false e l p = zero-le
    go true false l p = zero-le
    go true true false p = zero-le
    go true true true p = leb-true (value_from 10 0 f) limit p
