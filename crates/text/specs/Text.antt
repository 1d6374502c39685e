-- Parts of a line, numbers that are read and numbers that are written (01, "The yard list"). A text is the list of its bytes.
use Rattle.std.specs.Prelude.{ℕ, zero, suc, ◌+◌, ◌-◌, ◌*◌, ◌/◌, ◌%◌, Bool, cond, not, ◌&&◌, ◌||◌, Option, Some, None, eqb, ltb, leb, length, drop, get_or, replicate}
use Rattle.std.specs.List.{slice_split}
use Rattle.std.specs.Str.{bytes_eq}
use Prim.Native.Char.{code}
use Prim.Native.String.{String, [] as []ˢ, ◌∷◌ as ◌∷ˢ◌}
use mathlib.Core.List.{List, [], ◌∷◌, ◌++◌, foldl}
use Rattle.lists.specs.Lists.{every}

-- the bytes of a text that is written down
abbrev pub bytes : String → List ℕ
bytes []ˢ = []
bytes (c ∷ˢ s) = code c ∷ bytes s

-- the parts of a text between the bytes `sep`, in order: one more than there are such bytes
abbrev pub parts : ℕ → List ℕ → List (List ℕ)
parts sep l = slice_split (λ b. eqb b sep) l

-- the fields of a line: the parts between its tabs
abbrev pub fields : List ℕ → List (List ℕ)
fields line = parts 9 line

-- two texts are the same
abbrev pub same_text : List ℕ → List ℕ → Bool
same_text a b = bytes_eq a b

-- the value of a digit, 0 to 9 or lower-case a to f, and 16 for any other byte. A byte is a digit in a base if this is below it
unfoldable pub digit_of : ℕ → ℕ
digit_of b = cond (leb 48 b && leb b 57) (b - 48) (cond (leb 97 b && leb b 102) (b - 87) 16)

-- the value of digits in a base, after digits of value v
abbrev pub value_from : ℕ → ℕ → List ℕ → ℕ
value_from base v f = foldl (λ w b. w * base + digit_of b) v f

-- the number that the digits in a base make after digits of value v; none if a byte is no digit, or if it is above limit
unfoldable pub number_from : ℕ → ℕ → ℕ → List ℕ → Option ℕ
number_from base limit v f =
    cond (every (λ b. ltb (digit_of b) base) f && leb (value_from base v f) limit) (Some (value_from base v f)) None

-- a decimal number: at least one digit, no leading zero, value at most limit
unfoldable pub decimal_of : ℕ → List ℕ → Option ℕ
decimal_of limit f =
    cond (ltb 0 (length f) && (leb (length f) 1 || not (eqb (get_or f 0 0) 48))) (number_from 10 limit 0 f) None

-- a hexadecimal number: exactly k digits, lower case, a value of at most 64 bits
unfoldable pub hex_of : ℕ → List ℕ → Option ℕ
hex_of k f = cond (eqb (length f) k) (number_from 16 18446744073709551615 0 f) None

-- the byte of a digit, lower case
unfoldable pub digit_byte : ℕ → ℕ
digit_byte d = cond (ltb d 10) (48 + d) (87 + d)

-- a number in decimal with no leading zero, by division and remainder; at most its last k digits
abbrev pub decimal_digits : ℕ → ℕ → List ℕ
decimal_digits zero n = []
decimal_digits (suc k) n = cond (ltb n 10) (digit_byte n ∷ []) (decimal_digits k (n / 10) ++ (digit_byte (n % 10) ∷ []))

-- a number of 32 bits in decimal: ten digits are enough
unfoldable pub decimal_text : ℕ → List ℕ
decimal_text n = decimal_digits 10 n

-- "`bad`, tab, its number", and a line feed: what is printed of a line that is turned down
unfoldable pub bad_text : ℕ → List ℕ
bad_text n = bytes "bad" ++ (9 ∷ (decimal_text n ++ (10 ∷ [])))

-- the last k hexadecimal digits of a number
abbrev pub hex_text : ℕ → ℕ → List ℕ
hex_text zero n = []
hex_text (suc k) n = hex_text k (n / 16) ++ (digit_byte (n % 16) ∷ [])

abbrev pub spaces : ℕ → List ℕ
spaces n = replicate n 32

-- a text right-aligned in w characters: the last w of w spaces and the text
abbrev pub right_text : ℕ → List ℕ → List ℕ
right_text w t = drop (length t) (spaces w ++ t)
