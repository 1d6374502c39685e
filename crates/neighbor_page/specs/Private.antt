-- What the private functions say. No public promise uses it.
use Rattle.std.specs.Prelude.{ℕ, List, [], ◌∷◌, ◌++◌}
use Rattle.text.specs.Text.{decimal_text, hex_text, right_text}

-- a number in hexadecimal digits that fill a column of w characters, and the space behind it
unfoldable pub hex_column : ℕ → ℕ → List ℕ
hex_column w n = hex_text w n ++ (32 ∷ [])

-- a number in decimal in a column of w characters, and the byte behind it
unfoldable pub number_column : ℕ → ℕ → ℕ → List ℕ
number_column w n end = right_text w (decimal_text n) ++ (end ∷ [])
