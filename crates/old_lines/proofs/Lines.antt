-- Laws of lines that are moved. Assumes nothing.
use Prim.Native.Nat.{ℕ, ◌+◌, ◌≤◌}
use mathlib.Core.Path.{◌≡◌, refl, sym, ap, ◌∙◌}
use mathlib.Core.List.{List, [], ◌∷◌, ◌++◌}
use native.Mathlib.Omega.{arith}
use lib.ListN.{length, take, length-append}
use lib.Seq.{sets, length-take-le}
use Rattle.std.specs.Prelude.{Option, Some, None, Ok}
use Rattle.std.specs.Result.{result_ok}
use Rattle.std.proofs.lemmas.Option.{none-some}
use Rattle.lists.specs.Lists.{over}
use Rattle.lists.proofs.Lists.{over-take}
use Rattle.text.specs.Text.{decimal_text, bad_text}
use Rattle.text.proofs.Numbers.{decimal-long}
use Rattle.neighbor_line.specs.declared.MoveRefusal.{MoveRefusal}
use Rattle.neighbor_line.specs.Moves.{forth_refusal, forth_text, forth_answer, forth_left, back_refusal, back_text, back_answer, back_left, answer_of, left_of}
use Rattle.neighbor_line.proofs.Buffers.{both_written}
use Rattle.neighbor_line.proofs.Moves.{moves}
use Rattle.old_lines.specs.declared.Direction.{Direction}
use Rattle.old_lines.specs.declared.Direction.TheVariants.{Forth, Back}
use Rattle.old_lines.specs.declared.Moved.{Moved}
use Rattle.old_lines.specs.OldLines.{longest, with_feed, move_refusal, moved_text, line_printed, line_moved}
use Rattle.old_lines.specs.Private.{length_by}

-- that a line is bad has room
pub bad_short : (number : ℕ) → length (bad_text number) ≤ longest
unfolding bad_text
bad_short number = omega (arith, decimal-long number, length-append (decimal_text number) (10 ∷ []))

-- a line and its line feed, written into a buffer that has room for both
pub feed_written : (l line : List ℕ) → length line + 1 ≤ length l → take (length line + 1) (sets (sets l 0 line) (length line) (10 ∷ [])) ≡ with_feed line
feed_written l line h =
    let n : length line + 1 ≡ length (with_feed line) = sym (length-append line (10 ∷ [])) in
    ap (take (length line + 1)) (both_written l line (10 ∷ []) h)
    ∙ ap (λ (k : ℕ). take k (over l (with_feed line))) n
    ∙ over-take l (with_feed line)

-- what a move answers and leaves, by its refusal
length-answered : (x : Option MoveRefusal) (t : List ℕ) → result_ok (answer_of x t) ≡ length_by x t
length-answered None t = refl
length-answered (Some r) t = refl

module _ (t : List ℕ) where
  pub forth_length : (room : ℕ) → result_ok (forth_answer t room) ≡ length_by (forth_refusal t room) (forth_text t)
  unfolding forth_answer
  forth_length room = length-answered (forth_refusal t room) (forth_text t)

  pub back_length : (room : ℕ) → result_ok (back_answer t room) ≡ length_by (back_refusal t room) (back_text t)
  unfolding back_answer
  back_length room = length-answered (back_refusal t room) (back_text t)

  pub forth_stays : (out : List ℕ) → forth_left t out ≡ left_of (forth_refusal t (length out)) (forth_text t) out
  unfolding forth_left
  forth_stays out = refl

  pub back_stays : (out : List ℕ) → back_left t out ≡ left_of (back_refusal t (length out)) (back_text t) out
  unfolding back_left
  back_stays out = refl

pub ruleset by_refusal = (forth_length, back_length, forth_stays, back_stays)

-- a line that fills a buffer is not moved
refused-by : (x : Option MoveRefusal) (t : List ℕ) → (answer_of x t ≡ Ok (length t) → ⊥) → length_by x t ≡ None
refused-by None t h = absurd (h refl)
refused-by (Some r) t h = refl

pub too_long : (d : Direction) (line : List ℕ) → longest ≤ length line → length_by (move_refusal d (with_feed line)) (moved_text d (with_feed line)) ≡ None
unfolding forth_answer back_answer
too_long Forth line h =
    let t = with_feed line in
    refused-by (forth_refusal t longest) (forth_text t) (λ e. let m = moves.forth-long t longest (length (forth_text t)) e in omega (arith, m.0, m.1, h, length-append line (10 ∷ [])))
too_long Back line h =
    let t = with_feed line in
    refused-by (back_refusal t longest) (back_text t) (λ e. let m = moves.back-long t longest (length (back_text t)) e in omega (arith, m.0, m.1, h, length-append line (10 ∷ [])))

-- where nothing comes of a line the buffer stays
left-by : (x : Option MoveRefusal) (t out : List ℕ) → length_by x t ≡ None → left_of x t out ≡ out
left-by None t out e = absurd (none-some _ (sym e))
left-by (Some r) t out e = refl

pub too_long_left : (d : Direction) (line out : List ℕ) → longest ≤ length line → left_of (move_refusal d (with_feed line)) (moved_text d (with_feed line)) out ≡ out
too_long_left d line out h = left-by (move_refusal d (with_feed line)) (moved_text d (with_feed line)) out (too_long d line h)

-- what a line prints is a prefix of the buffer after it
pub printed-prefix : (d : Direction) (line : List ℕ) (number : ℕ) (m : Moved) (o o' : List ℕ) → m ≡ line_moved d line number → o' ≡ over o (line_printed d line number)
    → (m.length ≤ length o') × (m.length ≡ length (take m.length o'))
unfolding line_moved
printed-prefix d line number m o o' e f =
    let n : m.length ≡ length (line_printed d line number) = ap (λ (x : Moved). x.length) e in
    let h : m.length ≤ length o' = omega (arith, n, simp length-append at (ap length f)) in
    (h, sym (length-take-le m.length o' h))
