-- What a line of a file of old lines prints (02, L4): the line moved, or that it is bad.
use Rattle.std.specs.Prelude.{Option, Some, None, ℕ, ◌+◌, ◌≡◌, Bool, true, false, List, [], ◌∷◌, ◌++◌, Result, IfOk, min, cond, eqb, length}
use Rattle.text.specs.Text.{bad_text}
use Rattle.filter.specs.declared.Failed.{Failed}
use Rattle.neighbor_line.specs.declared.MoveRefusal.{MoveRefusal}
use Rattle.neighbor_line.specs.Moves.{forth_refusal, forth_text, back_refusal, back_text}
use Rattle.old_lines.specs.declared.Direction.{Direction}
use Rattle.old_lines.specs.declared.Direction.TheVariants.{Forth, Back}
use Rattle.old_lines.specs.declared.Moved.{Moved}

-- the longest line that can be moved has 57 bytes, "line feed included", and so has the longest that comes of it
abbrev pub longest : ℕ
longest = 57

abbrev pub with_feed : List ℕ → List ℕ
with_feed line = line ++ (10 ∷ [])

-- why a line is not moved, and what comes of it where it is
abbrev pub move_refusal : Direction → List ℕ → Option MoveRefusal
move_refusal Forth t = forth_refusal t longest
move_refusal Back t = back_refusal t longest

abbrev pub moved_text : Direction → List ℕ → List ℕ
moved_text Forth t = forth_text t
moved_text Back t = back_text t

-- what a line prints, and whether it is moved
abbrev pub printed_by : Option MoveRefusal → List ℕ → ℕ → List ℕ
printed_by None text number = text
printed_by (Some r) text number = bad_text number

unfoldable pub line_printed : Direction → List ℕ → ℕ → List ℕ
line_printed d line number = printed_by (move_refusal d (with_feed line)) (moved_text d (with_feed line)) number

abbrev pub is_moved_by : Option MoveRefusal → Bool
is_moved_by None = true
is_moved_by (Some r) = false

unfoldable pub line_moved : Direction → List ℕ → ℕ → Moved
line_moved d line number = record { good = is_moved_by (move_refusal d (with_feed line)); length = length (line_printed d line number) }

-- lines are counted from 1, up to the greatest number of 32 bits
abbrev pub count_after : ℕ → ℕ
count_after n = min (n + 1) 4294967295

-- a line is answered: n lines were before it, m are with it. The run goes on if it was moved
abbrev pub MoveAnswered : Direction → ℕ → List ℕ → Result Bool Failed → ℕ → Type 0
MoveAnswered d n line said m = (m ≡ count_after n) × IfOk said (λ goes_on. goes_on ≡ (line_moved d line m).good)

-- the end is answered: what no line feed ends is a line too, and bad
abbrev pub EndAnswered : ℕ → List ℕ → ℕ → Type 0
EndAnswered n rest m = m ≡ cond (eqb (length rest) 0) n (count_after n)
