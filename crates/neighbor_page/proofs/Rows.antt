-- Laws of an entry's row. Assumes nothing.
use Prim.Native.Nat.{ℕ}
use mathlib.Core.Path.{◌≡◌}
use mathlib.Core.List.{[], ◌∷◌, ◌++◌, append_assoc, zip_with, flat_map}
use Rattle.text.specs.Text.{decimal_text, hex_text}
use Rattle.neighbor_page.specs.Page.{row}
use Rattle.neighbor_page.specs.Page.Side.{right}
use Rattle.neighbor_page.specs.Private.{hex_column, number_column}

-- the row of nine numbers, of which the second to the fourth are in hexadecimal, column by column
pub columns : (a b c d e f g h i : ℕ)
    → row right (decimal_text a ∷ hex_text 4 b ∷ hex_text 16 c ∷ hex_text 4 d ∷ decimal_text e ∷ decimal_text f ∷ decimal_text g ∷ decimal_text h ∷ decimal_text i ∷ [])
    ≡ number_column 2 a 32
    ++ (hex_column 4 b
    ++ (hex_column 16 c
    ++ (hex_column 4 d ++ (number_column 3 e 32 ++ (number_column 3 f 32 ++ (number_column 3 g 32 ++ (number_column 1 h 32 ++ number_column 3 i 10)))))))
unfolding row zip_with flat_map hex_column number_column
columns a b c d e f g h i = simp append_assoc
