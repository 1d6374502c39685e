-- The neighbour page (02, L1): "the table as text of exact width". A text is the list of its bytes; 10 is the line feed, 32 the space.
use Rattle.std.specs.Prelude.{Option, Some, None, ℕ, zero, suc, Bool, cond, ltb, length, take}
use mathlib.Core.List.{List, [], ◌∷◌, ◌++◌, map, zip_with, flat_map}
use Rattle.lists.specs.Lists.{over}
use Rattle.nib.specs.LinkCost.{link_cost}
use Rattle.nib.specs.Neighbors.{entry_at}
use Rattle.nib.specs.declared.NwkNeighbor.{NwkNeighbor}
use Rattle.text.specs.Text.{bytes, decimal_text, hex_text, spaces, right_text}

-- on which side of its column a text stands
pub data Side : Type 0 where
  left : Side
  right : Side

-- a text in a column of w characters, with spaces on the other side
abbrev pub cell : Side → ℕ → List ℕ → List ℕ
cell left w t = take w (t ++ spaces w)
cell right w t = right_text w t

-- "index 2, address 4, extended PAN id 16, PAN id 4, channel 3, depth 3, LQI 3, cost 1, relationship 3"
abbrev pub widths : List ℕ
widths = 2 ∷ 4 ∷ 16 ∷ 4 ∷ 3 ∷ 3 ∷ 3 ∷ 1 ∷ 3 ∷ []

-- "Columns with one space between"
abbrev pub spaced : List (List ℕ) → List ℕ
spaced [] = []
spaced (t ∷ ts) = t ++ flat_map (λ u. 32 ∷ u) ts

-- a row: a text for each column, all on one side, and the line feed
unfoldable pub row : Side → List (List ℕ) → List ℕ
row side texts = spaced (zip_with (cell side) widths texts) ++ (10 ∷ [])

-- "The first row has i a e p c d l k r at the columns' first characters, else spaces."
unfoldable pub first_row : List ℕ
first_row =
    row left
    (bytes "i" ∷ bytes "a" ∷ bytes "e" ∷ bytes "p" ∷ bytes "c" ∷ bytes "d" ∷ bytes "l" ∷ bytes "k" ∷ bytes "r" ∷ [])

-- "Decimals are right-aligned with spaces, hex is lower case with leading zeros": as many digits as its column has characters.
-- "Index counts from 0, relationship is its number." The cost is the one that the choice of candidates reads
unfoldable pub entry_row : ℕ → NwkNeighbor → List ℕ
entry_row i e =
    row right
    (decimal_text i
    ∷ hex_text 4 e.network_address.0
    ∷ hex_text 16 e.extended_pan_id.0
    ∷ hex_text 4 e.pan_id.0
    ∷ decimal_text e.logical_channel
    ∷ decimal_text e.depth
    ∷ decimal_text e.lqi
    ∷ decimal_text (link_cost e.lqi)
    ∷ decimal_text e.relationship
    ∷ [])

-- "Unused rows are blank."
unfoldable pub blank_row : List ℕ
blank_row = spaces 47 ++ (10 ∷ [])

-- the row of slot i of the table
unfoldable pub slot_row : ℕ → Option NwkNeighbor → List ℕ
slot_row i None = blank_row
slot_row i (Some e) = entry_row i e

-- the numbers below n, in order
abbrev pub below : ℕ → List ℕ
below zero = []
below (suc n) = below n ++ (n ∷ [])

-- "The page is 17 rows of 47 characters, each with a line feed": the first, and one for each slot
abbrev pub rows : List NwkNeighbor → List (List ℕ)
rows es = first_row ∷ map (λ i. slot_row i (entry_at es i)) (below 16)

unfoldable pub page : List NwkNeighbor → List ℕ
page es = flat_map (λ r. r) (rows es)

-- 6: "a lent buffer shorter than 816 bytes"
abbrev pub too_short : ℕ → Bool
too_short n = ltb n 816

-- a lent buffer with the page in it: "bytes past 816 stay"; in one that is too short all stay
unfoldable pub written : List NwkNeighbor → List ℕ → List ℕ
written es b = cond (too_short (length b)) b (over b (page es))
