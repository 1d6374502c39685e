-- One line's bytes taken out of a piece of an input. A line is the bytes up to a line feed.
use Rattle.std.specs.Prelude.{ℕ, ◌+◌, ◌≤◌, min, ◌≡◌, Bool, cond, List, eqb, length, take, drop}
use Rattle.std.proofs.lemmas.List.Edits.{sets}
use Rattle.lists.specs.Lists.{first_index, some}
use Rattle.pieces.specs.declared.Taken.{Taken}

-- the byte that ends a line
abbrev pub line_feed : ℕ
line_feed = 10

abbrev pub is_feed : ℕ → Bool
is_feed b = eqb b line_feed

-- the bytes that a piece has of a line, from a place on: those before its next line feed, or all that are left
abbrev pub line_bytes : List ℕ → ℕ → List ℕ
line_bytes piece at = take (first_index is_feed (drop at piece)) (drop at piece)

-- whether the line is ended in the piece: a line feed is among the bytes that are left
abbrev pub is_ended : List ℕ → ℕ → Bool
is_ended piece at = some is_feed (drop at piece)

-- what is taken of a piece from a place on, for a buffer of so many bytes of which some are kept: the line's bytes, and its line feed if it has one
unfoldable pub line_taken : ℕ → ℕ → List ℕ → ℕ → Taken
line_taken size kept piece at =
    record {
      at = at + length (line_bytes piece at) + cond (is_ended piece at) 1 0;
      kept = min (kept + length (line_bytes piece at)) size;
      ended = is_ended piece at;
    }

-- the buffer then: the line's bytes stand behind those that were kept, as far as there is room
unfoldable pub line_after : List ℕ → ℕ → List ℕ → ℕ → List ℕ
line_after line kept piece at = sets line kept (line_bytes piece at)

-- what follows from these two, as a program's loop over a piece asks for it: what is kept lies within the buffer, in the two forms that `&line[..kept]` needs,
-- and the place goes on by a byte or more, if one is left
pub record Usable (line piece : List ℕ) (at : ℕ) (t : Taken) : Type 0 where
  pub within : t.kept ≤ length line
  pub counts : t.kept ≡ length (take t.kept line)
  pub on : min (at + 1) (length piece) ≤ t.at
