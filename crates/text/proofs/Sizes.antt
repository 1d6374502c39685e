-- Laws of how long a text is that is read. Assumes nothing.
use Prim.Native.Nat.{ℕ, suc, ◌+◌, ◌-◌, ◌*◌, ◌^◌, ◌<◌, ◌≤◌, zero-le}
use mathlib.Core.Path.{◌≡◌, refl, sym, ap, subst, ◌∙◌}
use mathlib.Core.Bool.{Bool, true, false, cond, not, false≢true, ◌&&◌, ◌||◌}
use mathlib.Core.List.{List, [], ◌∷◌}
use native.Mathlib.Nat.{le_refl, le_trans, not-suc-le-zero, pow-zero, pow-succ', one-le-pow, pow-le-pow_right, mul_assoc, mul-one, one-mul, mul-le-mul_right}
use native.Mathlib.Omega.{arith}
use borrow.Author.Tests.{leb-true, leb-false, eqb-true, eqb-false}
use Rattle.std.specs.Prelude.{Option, Some, None, is_some, unwrap_or}
use Rattle.std.specs.List.{onto_first}
use lib.Dec.{ltb, leb, eqb}
use lib.ListN.{length}
use Rattle.lists.specs.Lists.{every}
use Rattle.text.specs.Text.{parts, same_text, digit_of, value_from, number_from, decimal_of, hex_of}
use Rattle.std.proofs.lemmas.Bool.{and_parts}
use Rattle.text.proofs.Parts.{parts-some}

pub same_size : (a b : List ℕ) → same_text a b ≡ true → length a ≡ length b
same_size [] [] h = refl
same_size [] (y ∷ ys) h = absurd (false≢true h)
same_size (x ∷ xs) [] h = absurd (false≢true h)
same_size (x ∷ xs) (y ∷ ys) h = ap suc (same_size xs ys (and_parts (eqb x y) (same_text xs ys) h).1)

pub hex-size : (k : ℕ) (f : List ℕ) → is_some (hex_of k f) ≡ true → length f ≡ k
unfolding hex_of
hex-size k f h = go (eqb (length f) k) refl (number_from 16 18446744073709551615 0 f) h
  where
    go : (b : Bool) → eqb (length f) k ≡ b → (n : Option ℕ) → is_some (cond b n None) ≡ true → length f ≡ k
    go true e n t = eqb-true (length f) k e
    go false e n t = absurd (false≢true t)

value-least : (base v : ℕ) (f : List ℕ) → v * base ^ length f ≤ value_from base v f
value-least base v [] = rw (pow-zero base, mul-one v) (le_refl v)
value-least base v (b ∷ bs) =
    let e : v * base * base ^ length bs ≡ v * base ^ suc (length bs) = mul_assoc v base (base ^ length bs) ∙ ap (λ (n : ℕ). v * n) (sym (pow-succ' base (length bs))) in
    let l : v * base ≤ v * base + digit_of b = omega arith in
    le_trans (subst (λ (n : ℕ). n ≤ (v * base + digit_of b) * base ^ length bs) e (mul-le-mul_right (base ^ length bs) l)) (value-least base (v * base + digit_of b) bs)

digit-some : (b : ℕ) → (b ≡ 48 → ⊥) → 1 ≤ digit_of b
unfolding digit_of
digit-some b n = go (leb 48 b) refl (leb b 57) (leb 97 b) refl (leb b 102)
  where
    go : (p : Bool) → leb 48 b ≡ p → (q r : Bool) → leb 97 b ≡ r → (s : Bool) → 1 ≤ cond (p && q) (b - 48) (cond (r && s) (b - 87) 16)
    go true e true r g s = let h = leb-true 48 b e in omega arith
    go true e false true g true = let h = leb-true 97 b g in omega arith
    go true e false true g false = omega arith
    go true e false false g s = omega arith
    go false e q true g true = let h = leb-true 97 b g in omega arith
    go false e q true g false = omega arith
    go false e q false g s = omega arith

-- a decimal number's first of several digits is not 0: with n more digits it is at least 10 ^ n, so it has no more than the limit allows
pub decimal-size : (j limit : ℕ) (f : List ℕ) → limit < 10 ^ suc j → is_some (decimal_of limit f) ≡ true → length f ≤ suc j
unfolding decimal_of number_from
decimal-size j limit [] h t = zero-le
decimal-size j limit (b ∷ []) h t = omega arith
decimal-size j limit (b ∷ c ∷ bs) h t =
    go (ltb 0 (length (b ∷ c ∷ bs))) (leb (length (b ∷ c ∷ bs)) 1) refl (eqb b 48) refl (every (λ x. ltb (digit_of x) 10) (b ∷ c ∷ bs)) (leb (value_from 10 0 (b ∷ c ∷ bs)) limit) refl t
  where
    n : ℕ
    n = suc (length bs)

    least : (eqb b 48 ≡ false) → 10 ^ n ≤ value_from 10 0 (b ∷ c ∷ bs)
    least e =
        let d : 1 ≤ 0 * 10 + digit_of b = omega (arith, digit-some b (eqb-false b 48 e)) in
        le_trans (subst (λ (x : ℕ). x ≤ (0 * 10 + digit_of b) * 10 ^ n) (one-mul (10 ^ n)) (mul-le-mul_right (10 ^ n) d)) (value-least 10 (0 * 10 + digit_of b) (c ∷ bs))

    fits : value_from 10 0 (b ∷ c ∷ bs) ≤ limit → eqb b 48 ≡ false → (q : Bool) → leb (suc j) n ≡ q → suc n ≤ suc j
    fits m e true q = let p : 10 ^ suc j ≤ 10 ^ n = pow-le-pow_right (omega arith) (leb-true (suc j) n q) in let x : ⊥ = omega (arith, least e) in absurd x
    fits m e false q = leb-false (suc j) n q

    go : (z l : Bool) → leb (suc n) 1 ≡ l → (q : Bool) → eqb b 48 ≡ q → (e w : Bool) → leb (value_from 10 0 (b ∷ c ∷ bs)) limit ≡ w
        → is_some (cond (z && (l || not q)) (cond (e && w) (Some (value_from 10 0 (b ∷ c ∷ bs))) None) None) ≡ true → suc n ≤ suc j
    go z true p q r e w k u = let x = leb-true (suc n) 1 p in let y : ⊥ = omega arith in absurd y
    go true false p true r e w k u = absurd (false≢true u)
    go false false p q r e w k u = absurd (false≢true u)
    go true false p false r false w k u = absurd (false≢true u)
    go true false p false r true false k u = absurd (false≢true u)
    go true false p false r true true k u = fits (leb-true (value_from 10 0 (b ∷ c ∷ bs)) limit k) r (leb (suc j) n) refl

-- the number 0 is written in one way
pub zero-text : (limit : ℕ) (f : List ℕ) → is_some (decimal_of limit f) ≡ true → unwrap_or (decimal_of limit f) 0 ≡ 0 → f ≡ 48 ∷ []
unfolding decimal_of number_from
zero-text limit [] h z = absurd (false≢true h)
zero-text limit (b ∷ []) h z = go (eqb b 48) refl (every (λ x. ltb (digit_of x) 10) (b ∷ [])) (leb (value_from 10 0 (b ∷ [])) limit) h z
  where
    v : ℕ
    v = value_from 10 0 (b ∷ [])

    go : (t : Bool) → eqb b 48 ≡ t → (d w : Bool) → is_some (cond (d && w) (Some v) None) ≡ true → unwrap_or (cond (d && w) (Some v) None) 0 ≡ 0 → b ∷ [] ≡ 48 ∷ []
    go true e d w s u = ap (λ (c : ℕ). c ∷ []) (eqb-true b 48 e)
    go false e true true s u = let x : ⊥ = omega (arith, u, digit-some b (eqb-false b 48 e)) in absurd x
    go false e true false s u = absurd (false≢true s)
    go false e false w s u = absurd (false≢true s)
zero-text limit (b ∷ c ∷ bs) h z =
    go (ltb 0 (length (b ∷ c ∷ bs))) (leb (length (b ∷ c ∷ bs)) 1) refl (eqb b 48) refl (every (λ x. ltb (digit_of x) 10) (b ∷ c ∷ bs)) (leb (value_from 10 0 (b ∷ c ∷ bs)) limit) h z
  where
    v : ℕ
    v = value_from 10 0 (b ∷ c ∷ bs)

    none : eqb b 48 ≡ false → v ≡ 0 → ⊥
    none e w =
        let d : 1 ≤ 0 * 10 + digit_of b = omega (arith, digit-some b (eqb-false b 48 e)) in
        omega (arith, w, d, value-least 10 (0 * 10 + digit_of b) (c ∷ bs), one-le-pow (length (c ∷ bs)) 10 (omega arith), mul-le-mul_right (10 ^ length (c ∷ bs)) d)

    go : (y l : Bool) → leb (suc (suc (length bs))) 1 ≡ l → (q : Bool) → eqb b 48 ≡ q → (e w : Bool)
        → is_some (cond (y && (l || not q)) (cond (e && w) (Some v) None) None) ≡ true → unwrap_or (cond (y && (l || not q)) (cond (e && w) (Some v) None) None) 0 ≡ 0 → b ∷ c ∷ bs ≡ 48 ∷ []
    go y true p q r e w s u = let o = leb-true (suc (suc (length bs))) 1 p in let x : ⊥ = omega arith in absurd x
    go true false p true r e w s u = absurd (false≢true s)
    go false false p q r e w s u = absurd (false≢true s)
    go true false p false r false w s u = absurd (false≢true s)
    go true false p false r true false s u = absurd (false≢true s)
    go true false p false r true true s u = absurd (none r u)

-- the parts of a text, with a byte after each
abbrev pub total : List (List ℕ) → ℕ
total [] = 0
total (p ∷ ps) = suc (length p) + total ps

onto-total : (b : ℕ) (ps : List (List ℕ)) → 1 ≤ length ps → total (onto_first b ps) ≡ suc (total ps)
onto-total b [] h = absurd (not-suc-le-zero h)
onto-total b (p ∷ ps) h = omega arith

pub total-parts : (sep : ℕ) (l : List ℕ) → total (parts sep l) ≡ suc (length l)
total-parts sep [] = omega arith
total-parts sep (b ∷ bs) = go (eqb b sep) (total-parts sep bs)
  where
    go : (t : Bool) → total (parts sep bs) ≡ suc (length bs) → total (cond t ([] ∷ parts sep bs) (onto_first b (parts sep bs))) ≡ suc (suc (length bs))
    go true h = omega arith
    go false h = onto-total b (parts sep bs) (parts-some sep bs) ∙ ap suc h
