-- Laws of lines that are not of the format: the empty line, and each of 512 bytes or more. Assumes nothing.
use Prim.Native.Nat.{ℕ, ◌*◌, ◌^◌, ◌<◌, ◌≤◌, zero-le}
use mathlib.Core.Path.{◌≡◌, refl}
use mathlib.Core.Bool.{Bool, true, false, cond, false≢true, ◌&&◌}
use mathlib.Core.List.{List, [], ◌∷◌, zip_with}
use native.Mathlib.Omega.{arith}
use borrow.Author.Tests.{eqb-true, leb-true, ltb-true}
use lib.Dec.{eqb, leb, ltb}
use Rattle.std.specs.Bool.{then_some}
use lib.ListN.{length}
use Rattle.lists.specs.Lists.{every}
use Rattle.lists.proofs.Conditions.{split}
use Rattle.text.specs.Text.{bytes, fields, same_text, hex_of, decimal_of}
use Rattle.std.specs.Prelude.{Some, None, is_some}
use Rattle.std.proofs.lemmas.Bool.{and_parts}
use Rattle.text.proofs.Parts.{parts-some}
use Rattle.text.proofs.Sizes.{same_size, hex-size, decimal-size, total, total-parts}
use Rattle.trace_lines.specs.TraceLines.{four_digits, sixteen_digits, or_dash, digit_two, digit_three, greatest, number_of, kinds, word_of, letters_of, all_fit, fits_kind, read_by, line_of}
use Rattle.trace_lines.specs.declared.InputKind.{InputKind}

-- the program has this line stand for one that is missing
pub empty-line : line_of [] ≡ None
unfolding line_of read_by fits_kind
empty-line = refl

-- a decimal number has at most ten digits
greatest-short : (letter : ℕ) → greatest letter < 10 ^ 10
greatest-short letter =
    one (eqb letter _) 1 _ refl
    (one (eqb letter _) 3 _ refl
    (one (eqb letter _) 15 _ refl
    (one (eqb letter _) 255 _ refl
    (one (eqb letter _) 1024 _ refl (one (eqb letter _) 65535 4294967295 refl (ltb-true 4294967295 (10 ^ 10) refl))))))
  where
    one : (b : Bool) (m n : ℕ) → ltb m (10 ^ 10) ≡ true → n < 10 ^ 10 → cond b m n < 10 ^ 10
    one true m n h less = ltb-true m (10 ^ 10) h
    one false m n h less = less

-- a field in which a letter's number stands has at most 16 bytes
number_size : (letter : ℕ) (f : List ℕ) → is_some (number_of letter f) ≡ true → length f ≤ 16
unfolding number_of
number_size letter f = go (eqb letter four_digits) (eqb letter sixteen_digits) (eqb letter or_dash) (eqb letter digit_two) (eqb letter digit_three) (same_text f (bytes "-")) refl (same_text f (bytes "2")) refl (same_text f (bytes "3")) refl
  where
    go : (a b c d e x : Bool) → same_text f (bytes "-") ≡ x → (y : Bool) → same_text f (bytes "2") ≡ y → (z : Bool) → same_text f (bytes "3") ≡ z → is_some (cond a (hex_of 4 f) (cond b (hex_of 16 f) (cond c (cond x (Some 0) (hex_of 16 f)) (cond d (then_some y 2) (cond e (then_some z 3) (decimal_of (greatest letter) f)))))) ≡ true → length f ≤ 16
    go true b c d e x p y q z r h = omega (arith, hex-size 4 f h)
    go false true c d e x p y q z r h = omega (arith, hex-size 16 f h)
    go false false true d e true p y q z r h = omega (arith, same_size f (bytes "-") p)
    go false false true d e false p y q z r h = omega (arith, hex-size 16 f h)
    go false false false true e x p true q z r h = omega (arith, same_size f (bytes "2") q)
    go false false false true e x p false q z r h = absurd (false≢true h)
    go false false false false true x p y q true r h = omega (arith, same_size f (bytes "3") r)
    go false false false false true x p y q false r h = absurd (false≢true h)
    go false false false false false x p y q z r h = omega (arith, decimal-size 9 (greatest letter) f (greatest-short letter) h)

-- and the fields of some letters have at most 17 each with the byte before them
fields-size : (letters : List ℕ) (fs : List (List ℕ)) → length fs ≡ length letters → every is_some (zip_with number_of letters fs) ≡ true → total fs ≤ 17 * length letters
unfolding zip_with
fields-size [] [] e h = zero-le
fields-size [] (f ∷ fs) e h = let x : ⊥ = omega arith in absurd x
fields-size (l ∷ ls) [] e h = zero-le
fields-size (l ∷ ls) (f ∷ fs) e h =
    let b = and_parts (is_some (number_of l f)) (every is_some (zip_with number_of ls fs)) h in
    let n : length fs ≡ length ls = omega arith in
    omega (arith, number_size l f b.0, fields-size ls fs n b.1)

-- a word of at most 20 bytes and at most 19 letters
abbrev small : InputKind → Bool
small kind = leb (length (word_of kind)) 20 && leb (length (letters_of kind)) 19

-- a line that fits such a kind
line-size : (kind : InputKind) (fs : List (List ℕ)) → small kind ≡ true → 1 ≤ length fs → fits_kind fs kind ≡ true → total fs ≤ 344
unfolding fits_kind all_fit
line-size kind [] s o h = zero-le
line-size kind (f ∷ fs) s o h =
    let k = and_parts (leb (length (word_of kind)) 20) (leb (length (letters_of kind)) 19) s in
    let w = and_parts (same_text f (word_of kind)) (eqb (length fs) (length (letters_of kind)) && every is_some (zip_with number_of (letters_of kind) fs)) h in
    let a = and_parts (eqb (length fs) (length (letters_of kind))) (every is_some (zip_with number_of (letters_of kind) fs)) w.1 in
    let n = eqb-true (length fs) (length (letters_of kind)) a.0 in
    omega (arith, same_size f (word_of kind) w.0, leb-true (length (word_of kind)) 20 k.0, leb-true (length (letters_of kind)) 19 k.1, fields-size (letters_of kind) fs n a.1)

-- a line of 512 bytes or more
module _ (line : List ℕ) (h : 512 ≤ length line) where
  other : (kind : InputKind) → small kind ≡ true → fits_kind (fields line) kind ≡ false
  other kind s =
      split (fits_kind (fields line) kind)
      (λ t. let x : ⊥ = omega (arith, h, total-parts 9 line, line-size kind (fields line) s (parts-some 9 line) t) in absurd x)
      (λ f. f)

  none : (ks : List InputKind) → every small ks ≡ true → read_by ks (fields line) ≡ None
  unfolding read_by
  none [] s = refl
  none (k ∷ ks) s = let b = and_parts (small k) (every small ks) s in rw (other k b.0) (none ks b.1)

  pub long-line : line_of line ≡ None
  unfolding line_of
  long-line = none kinds refl
