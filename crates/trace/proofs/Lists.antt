-- Laws of lists of lines, and of what they print. Assumes nothing.
use Prim.Native.Nat.{ℕ, ◌+◌, ◌*◌, ◌<◌, ◌≤◌, zero-le}
use mathlib.Core.Path.{◌≡◌, refl, sym, ap, ◌∙◌}
use mathlib.Core.List.{List, [], ◌∷◌, ◌++◌, map, map-append, append-nil, flat_map}
use native.Mathlib.Omega.{arith}
use lib.ListN.{length, take, get_or, length-append}
use lib.Seq.{length-take-le}
use Rattle.std.specs.Prelude.{Option, Some, None}
use Rattle.lists.specs.Lists.{over}
use Rattle.lists.proofs.Collect.{flat_map-append}
use Rattle.std.proofs.lemmas.List.{take_more}
use Rattle.text.proofs.Written.{in_turn, from_start, same_buffer}
use Rattle.trace_lines.specs.TraceLines.{line_text}
use Rattle.trace_lines.proofs.Texts.{line-short}
use Rattle.trace.specs.declared.Run.{Run}
use Rattle.trace.specs.Lines.{Line}
use Rattle.trace.specs.Trace.{some_text, lines_text, each_line, printed, run_after}

-- a line prints at most 420 bytes, and so do lines in turn
pub some-short : (l : Option Line) → length (some_text l) ≤ 420
some-short None = zero-le
some-short (Some l) = line-short l

pub lines-short : (l : List (Option Line)) → length (lines_text l) ≤ 420 * length l
unfolding flat_map
lines-short [] = zero-le
lines-short (x ∷ xs) = omega (arith, length-append (some_text x) (lines_text xs), some-short x, lines-short xs)

-- lines in turn: the first, and those behind it; none; and some before others
pub lines_first : (l : Option Line) (ls : List (Option Line)) → lines_text (l ∷ ls) ≡ some_text l ++ lines_text ls
unfolding flat_map
lines_first l ls = refl

pub lines_none : lines_text [] ≡ []
unfolding flat_map
lines_none = refl

pub ruleset line_by_line = (in_turn, lines_first, lines_none, flat_map-append, append-nil)

-- a line for each element of a list
module _ {A : Type 0} (f : A → Line) where
  pub each-next : (l : List A) (i : ℕ) (d : A) → i < length l → lines_text (each_line f (take i l)) ++ line_text (f (get_or l i d)) ≡ lines_text (each_line f (take (i + 1) l))
  unfolding flat_map
  each-next l i d h =
      let g : A → Option Line = λ x. Some (f x) in
      sym (ap (λ (z : List A). lines_text (each_line f z)) (take_more l i d h)
      ∙ ap lines_text (map-append g (take i l) (get_or l i d ∷ []))
      ∙ flat_map-append some_text (map g (take i l)) (g (get_or l i d) ∷ [])
      ∙ ap (λ (z : List ℕ). lines_text (each_line f (take i l)) ++ z) (append-nil (line_text (f (get_or l i d)))))

pub ruleset each_by_each = (in_turn, each-next, lines_none)

-- for all that is printed from the start of a buffer
pub ruleset whole = (from_start, same_buffer)

-- what a line prints is a prefix of the buffer after it
pub printed-prefix : (line : List ℕ) (r r' : Run) (o o' : List ℕ) → r' ≡ run_after line r → o' ≡ over o (printed line r) → (r'.length ≤ length o') × (r'.length ≡ length (take r'.length o'))
unfolding run_after
printed-prefix line r r' o o' e f =
    let n : r'.length ≡ length (printed line r) = ap (λ (x : Run). x.length) e in
    let h : r'.length ≤ length o' = omega (arith, n, simp length-append at (ap length f)) in
    (h, sym (length-take-le r'.length o' h))
