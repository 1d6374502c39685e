-- Laws of the forms of a line's fields. Assumes nothing.
use Prim.Native.Nat.{ℕ, suc, ◌+◌, ◌-◌, ◌^◌, ◌<◌, ◌≤◌, zero-le}
use mathlib.Core.Path.{◌≡◌, refl, sym, ap, subst, ◌∙◌}
use mathlib.Core.Bool.{Bool, true, false, false≢true, and-true, ◌&&◌}
use mathlib.Core.List.{List, [], ◌∷◌, ◌++◌}
use native.Mathlib.Omega.{arith}
use borrow.Author.Tests.{ltb-true}
use lib.Dec.{ltb}
use lib.ListN.{length, get_or}
use Rattle.std.proofs.lemmas.Bool.{and_parts}
use Rattle.std.proofs.Math.Bool.{and_assoc}
use Rattle.lists.specs.Lists.{every}
use Rattle.std.specs.List.{list_all, zip}
use Rattle.text.specs.declared.form.Form.{Form}
use Rattle.text.specs.declared.form.Form.TheVariants.{Word, Hex, Decimal}
use Rattle.text.specs.Text.{decimal_text}
use Rattle.text.specs.Form.{has_form, have_forms, hex_at, decimal_at}
use Rattle.text.proofs.Numbers.{hex-below, decimal-most}
use Rattle.text.proofs.Decimals.{digits-of}
use Rattle.text.proofs.Sizes.{same_size, hex-size, decimal-size, total}

module _ {n : ℕ} where
  -- other than as many fields as forms do not fit
  pub fit_long : (ms : List (Form n)) (fs : List (List ℕ)) → (length fs ≡ length ms → ⊥) → have_forms ms fs ≡ false
  fit_long [] [] h = absurd (h refl)
  fit_long [] (f ∷ fs) h = refl
  fit_long (m ∷ ms) [] h = refl
  fit_long (m ∷ ms) (f ∷ fs) h = rw (fit_long ms fs (λ e. h (ap suc e))) (neither (has_form m f))
    where
      neither : (b : Bool) → (b && false) ≡ false
      neither true = refl
      neither false = refl

  -- where there are as many, each field beside its form says it
  pub fit_each : (ms : List (Form n)) (fs : List (List ℕ)) → length fs ≡ length ms → list_all (λ p. has_form p.1 p.0) (zip fs ms) ≡ have_forms ms fs
  fit_each [] [] h = refl
  fit_each [] (f ∷ fs) h = let x : ⊥ = omega (arith, h) in absurd x
  fit_each (m ∷ ms) [] h = let x : ⊥ = omega (arith, h) in absurd x
  fit_each (m ∷ ms) (f ∷ fs) h = ap (λ (b : Bool). has_form m f && b) (fit_each ms fs (omega (arith, h)))

  pub forms-long : (ms : List (Form n)) (fs : List (List ℕ)) → have_forms ms fs ≡ true → length fs ≡ length ms
  forms-long [] [] h = refl
  forms-long [] (f ∷ fs) h = absurd (false≢true h)
  forms-long (m ∷ ms) [] h = absurd (false≢true h)
  forms-long (m ∷ ms) (f ∷ fs) h = ap suc (forms-long ms fs (and_parts (has_form m f) (have_forms ms fs) h).1)

  -- a field and a form more
  pub forms-more : (ms : List (Form n)) (fs : List (List ℕ)) (m : Form n) (f : List ℕ) → length fs ≡ length ms → have_forms (ms ++ (m ∷ [])) (fs ++ (f ∷ [])) ≡ (have_forms ms fs && has_form m f)
  forms-more [] [] m f l = and-true (has_form m f)
  forms-more [] (g ∷ fs) m f l = let x : ⊥ = omega (arith, l) in absurd x
  forms-more (o ∷ ms) [] m f l = let x : ⊥ = omega (arith, l) in absurd x
  forms-more (o ∷ ms) (g ∷ fs) m f l = ap (λ (b : Bool). has_form o g && b) (forms-more ms fs m f (omega (arith, l))) ∙ sym (and_assoc (has_form o g) (have_forms ms fs) (has_form m f))

  -- how long a field of a form is at most, and whether that is said of it: of decimal numbers of 32 bits
  abbrev pub most : Form n → ℕ
  most (Word word) = length word
  most (Hex digits) = digits
  most (Decimal limit) = length (decimal_text limit)

  abbrev pub is_narrow : Form n → Bool
  is_narrow (Word word) = true
  is_narrow (Hex digits) = true
  is_narrow (Decimal limit) = ltb limit 4294967296

  field-size : (m : Form n) (f : List ℕ) → is_narrow m ≡ true → has_form m f ≡ true → length f ≤ most m
  field-size (Word word) f w h = omega (arith, same_size f word h)
  field-size (Hex digits) f w h = omega (arith, hex-size digits f h)
  field-size (Decimal limit) f w h =
      let p : 10 ^ 10 ≡ 10000000000 = refl in
      let d = digits-of limit (omega (arith, p, ltb-true limit 4294967296 w)) in
      let e : suc (length (decimal_text limit) - 1) ≡ length (decimal_text limit) = omega (arith, d.0) in
      let s = decimal-size (length (decimal_text limit) - 1) limit f (subst (λ (k : ℕ). limit < 10 ^ k) (sym e) d.1) h in
      omega (arith, e, s)

  -- how long the fields of a line are at most, with a byte after each
  abbrev pub widths : List (Form n) → ℕ
  widths [] = 0
  widths (m ∷ ms) = suc (most m) + widths ms

  pub line-size : (ms : List (Form n)) (fs : List (List ℕ)) → every is_narrow ms ≡ true → have_forms ms fs ≡ true → total fs ≤ widths ms
  line-size [] [] w h = zero-le
  line-size [] (f ∷ fs) w h = absurd (false≢true h)
  line-size (m ∷ ms) [] w h = zero-le
  line-size (m ∷ ms) (f ∷ fs) w h =
      let v = and_parts (is_narrow m) (every is_narrow ms) w in
      let t = and_parts (has_form m f) (have_forms ms fs) h in
      let a = field-size m f v.0 t.0 in
      let b = line-size ms fs v.1 t.1 in
      omega arith

-- how great the numbers of fields are at most
pub at_most : (limit : ℕ) (fs : List (List ℕ)) (k : ℕ) → decimal_at limit fs k ≤ limit
at_most limit fs k = decimal-most limit (get_or fs k [])

pub short_below : (fs : List (List ℕ)) (k : ℕ) → hex_at 4 fs k < 65536
short_below fs k = hex-below 4 (get_or fs k [])
