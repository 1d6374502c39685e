-- The forms of a line's fields, and the numbers that are read off fields (01, "The yard list").
use Rattle.std.specs.Prelude.{ℕ, Bool, true, false, ◌&&◌, List, [], ◌∷◌, eqb, get_or, is_some, unwrap_or}
use Rattle.text.specs.Text.{same_text, decimal_of, hex_of}
use Rattle.text.specs.declared.form.Form.{Form}
use Rattle.text.specs.declared.form.Form.TheVariants.{Word, Hex, Decimal}

-- forms of which the words have n bytes
module _ {n : ℕ} where
  -- a field has a form: it is this word, it has so many hexadecimal digits, or it is a decimal number of at most so much
  abbrev pub has_form : Form n → List ℕ → Bool
  has_form (Word word) f = same_text f word
  has_form (Hex digits) f = is_some (hex_of digits f)
  has_form (Decimal limit) f = is_some (decimal_of limit f)

  -- as many fields as forms, each of its form
  abbrev pub have_forms : List (Form n) → List (List ℕ) → Bool
  have_forms [] [] = true
  have_forms [] (f ∷ fs) = false
  have_forms (m ∷ ms) [] = false
  have_forms (m ∷ ms) (f ∷ fs) = has_form m f && have_forms ms fs

-- the numbers in a line's fields; 0 where a field holds none
abbrev pub hex_at : ℕ → List (List ℕ) → ℕ → ℕ
hex_at digits fs k = unwrap_or (hex_of digits (get_or fs k [])) 0

abbrev pub decimal_at : ℕ → List (List ℕ) → ℕ → ℕ
decimal_at limit fs k = unwrap_or (decimal_of limit (get_or fs k [])) 0

-- whether the number in a field is 1, where it may be 0 or 1
abbrev pub flag_at : List (List ℕ) → ℕ → Bool
flag_at fs k = eqb (decimal_at 1 fs k) 1
