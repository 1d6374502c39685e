-- Lines moved from twelve fields to thirteen and back (02, L4). A text is the list of its bytes; 9 is the tab, 10 the line feed.
use Rattle.std.specs.Prelude.{Result, Ok, Err, Option, Some, None, ℕ, Bool, cond, not, ◌&&◌, List, [], ◌∷◌, ◌++◌, eqb, ltb, length, take, get_or}
use Rattle.std.specs.List.{join_with_byte}
use Rattle.lists.specs.Lists.{over}
use Rattle.text.specs.Text.{bytes, parts, fields}
use Rattle.text.specs.declared.form.Form.{Form}
use Rattle.text.specs.Form.{have_forms}
use Rattle.neighbor_line.specs.NeighborLine.{old_forms, entry_forms, last_heard_in}
use Rattle.neighbor_line.specs.declared.MoveRefusal.{MoveRefusal}

-- the number of a refusal
abbrev pub move_refusal_number : MoveRefusal → ℕ
move_refusal_number MoveRefusal.NotOfForm = 5
move_refusal_number MoveRefusal.ShortBuffer = 6
move_refusal_number MoveRefusal.LastHeardKnown = 7

-- a text is one line, "line feed included": nothing stands behind its only line feed
abbrev pub is_one_line : List ℕ → Bool
is_one_line t = eqb (length (parts 10 t)) 2 && eqb (length (get_or (parts 10 t) 1 [])) 0

-- the fields of a line with its line feed
abbrev pub fields_of_line : List ℕ → List (List ℕ)
fields_of_line t = fields (get_or (parts 10 t) 0 [])

-- a text is a line "of the form"
abbrev pub is_line_of : List (Form 1) → List ℕ → Bool
is_line_of forms t = is_one_line t && have_forms forms (fields_of_line t)

-- the line of some fields, with its line feed
abbrev pub line_of : List (List ℕ) → List ℕ
line_of fs = join_with_byte 9 fs ++ (10 ∷ [])

-- "A move takes a twelve-field line, line feed included, to thirteen with 0"
abbrev pub forth_text : List ℕ → List ℕ
forth_text t = line_of (fields_of_line t ++ (bytes "0" ∷ []))

-- "and thirteen back to twelve"
abbrev pub back_text : List ℕ → List ℕ
back_text t = line_of (take 12 (fields_of_line t))

-- "A line not of the form it starts from gives 5, then a lent buffer shorter than the result 6"
abbrev pub refusal_by : List (Form 1) → List ℕ → List ℕ → ℕ → Option MoveRefusal
refusal_by forms t result room =
    cond (not (is_line_of forms t)) (Some MoveRefusal.NotOfForm) (cond (ltb room (length result)) (Some MoveRefusal.ShortBuffer) None)

abbrev pub forth_refusal : List ℕ → ℕ → Option MoveRefusal
forth_refusal t room = refusal_by old_forms t (forth_text t) room

-- "7, a line moved back whose last-heard is not 0, as the last check of that move"
abbrev pub known_refusal : List ℕ → Option MoveRefusal → Option MoveRefusal
known_refusal t None = cond (eqb (last_heard_in (fields_of_line t)) 0) None (Some MoveRefusal.LastHeardKnown)
known_refusal t (Some r) = Some r

abbrev pub back_refusal : List ℕ → ℕ → Option MoveRefusal
back_refusal t room = known_refusal t (refusal_by entry_forms t (back_text t) room)

-- what is answered: the refusal, or the length of the result
abbrev pub answer_of : Option MoveRefusal → List ℕ → Result ℕ MoveRefusal
answer_of (Some r) result = Err r
answer_of None result = Ok (length result)

-- the lent buffer then: the result stands at its front, and "bytes past it stay"; where the line is turned down all stay
abbrev pub left_of : Option MoveRefusal → List ℕ → List ℕ → List ℕ
left_of (Some r) result out = out
left_of None result out = over out result

-- the two moves: what is answered for a line and a buffer of so many bytes, and what is left in a buffer
unfoldable pub forth_answer : List ℕ → ℕ → Result ℕ MoveRefusal
forth_answer t room = answer_of (forth_refusal t room) (forth_text t)

unfoldable pub forth_left : List ℕ → List ℕ → List ℕ
forth_left t out = left_of (forth_refusal t (length out)) (forth_text t) out

unfoldable pub back_answer : List ℕ → ℕ → Result ℕ MoveRefusal
back_answer t room = answer_of (back_refusal t room) (back_text t)

unfoldable pub back_left : List ℕ → List ℕ → List ℕ
back_left t out = left_of (back_refusal t (length out)) (back_text t) out
