-- The yard list (01, "The yard list"): what is printed for what is read, each as the list of its bytes. 9 is the tab, 10 the line feed.
use Rattle.std.specs.Prelude.{ℕ, suc, ◌+◌, ◌-◌, Bool, cond, ◌&&◌, List, [], ◌∷◌, ◌++◌, map, eqb, ltb, leb, length, take, get_or}
use Rattle.nib.specs.Neighbors.{blank}
use Rattle.nib.specs.declared.NwkNeighbor.{NwkNeighbor}
use Rattle.candidates.specs.Candidates.{candidates}
use Rattle.text.specs.Text.{bytes, parts, fields, decimal_text, hex_text, bad_text}
use Rattle.text.specs.declared.form.Form.{Form}
use Rattle.text.specs.declared.form.Form.TheVariants.{Word, Hex, Decimal}
use Rattle.neighbor_line.specs.NeighborLine.{entry_forms, entry_read}
use Rattle.text.specs.Form.{have_forms, hex_at, decimal_at, flag_at}

-- line 1: `request`, extended PAN id, role, permit wanted, stack profile
abbrev pub request_forms : List (Form 7)
request_forms = Word (bytes "request") ∷ Hex 16 ∷ Decimal 1 ∷ Decimal 1 ∷ Decimal 255 ∷ []

-- a line that is neither bad nor surplus; k lines stand before it. At most 16 follow the first, each an `n` line
unfoldable pub is_good : ℕ → List ℕ → Bool
is_good k line = cond (eqb k 0) (have_forms request_forms (fields line)) (leb k 16 && have_forms entry_forms (fields line))

-- how many good lines there are before the first bad or surplus one; k lines stand before them
abbrev pub good_from : ℕ → List (List ℕ) → ℕ
good_from k [] = 0
good_from k (l ∷ ls) = cond (is_good k l) (suc (good_from (suc k) ls)) 0

-- the entries of lines
abbrev pub entries_in : List (List ℕ) → List NwkNeighbor
entries_in ls = map (λ l. entry_read (fields l)) ls

-- the candidates of the request whose fields are fs: role 1 is a router
unfoldable pub request_candidates : List (List ℕ) → List NwkNeighbor → List ℕ
request_candidates fs es = candidates (decimal_at 255 fs 4) (flag_at fs 2) (flag_at fs 3) (hex_at 16 fs 1) es

-- a column of a printed line, with the tab or line feed after it
abbrev pub column : List ℕ → ℕ → List ℕ
column t end = t ++ (end ∷ [])

-- a candidate's line: place, index, address, channel, depth
abbrev pub row_of : NwkNeighbor → ℕ → ℕ → List ℕ
row_of e place i =
    column (decimal_text place) 9
    ++ (column (decimal_text i) 9
    ++ (column (hex_text 4 e.network_address.0) 9
    ++ (column (decimal_text e.logical_channel) 9
    ++ column (decimal_text e.depth) 10)))

-- a line for each candidate, the first at a place
abbrev pub rows_from : List NwkNeighbor → ℕ → List ℕ → List ℕ
rows_from es place [] = []
rows_from es place (i ∷ is) = row_of (get_or es i blank) place i ++ rows_from es (suc place) is

-- the header: the names of the columns
abbrev pub header : List ℕ
header =
    column (bytes "place") 9
    ++ (column (bytes "index") 9
    ++ (column (bytes "address") 9
    ++ (column (bytes "channel") 9
    ++ column (bytes "depth") 10)))

-- the header, and a line for each candidate, place from 1
unfoldable pub list_text : List (List ℕ) → List ℕ
list_text [] = header
list_text (l ∷ ls) = header ++ rows_from (entries_in ls) 1 (request_candidates (fields l) (entries_in ls))

-- the lines of a text that are ended by a line feed, and what stands after the last line feed
abbrev pub ended_lines : List ℕ → List (List ℕ)
ended_lines t = take (length (parts 10 t) - 1) (parts 10 t)

abbrev pub unended : List ℕ → List ℕ
unended t = get_or (parts 10 t) (length (parts 10 t) - 1) []

-- what is printed. The text is right if it has a line, each of its lines is good, and nothing stands after the last line feed.
-- Otherwise the line after the first good ones is bad, surplus, unended, or a line 1 that is missing
unfoldable pub yard_text : List ℕ → List ℕ
yard_text t =
    cond (ltb 0 (good_from 0 (ended_lines t)) && (eqb (good_from 0 (ended_lines t)) (length (parts 10 t) - 1) && eqb (length (unended t)) 0))
    (list_text (ended_lines t))
    (bad_text (good_from 0 (ended_lines t) + 1))
