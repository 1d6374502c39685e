-- What is claimed of lines that are taken out of pieces: whatever the pieces, they are the lines of the whole input, each cut to the buffer's length.
use Rattle.std.specs.Prelude.{ℕ, zero, suc, ◌≡◌, cond, ltb, length, take}
use mathlib.Core.List.{List, [], ◌∷◌, ◌++◌, map, foldl, flatten}
use Rattle.text.specs.Text.{parts, bytes}
use Rattle.pieces.specs.Pieces.{line_taken, line_after}

-- what a program holds: the lines that it has got, its buffer, and how many bytes of a line that is not ended are kept in it
pub record Held : Type 0 where
  pub lines : List (List ℕ)
  pub line : List ℕ
  pub kept : ℕ

-- a program with nothing but a buffer
abbrev pub at_first : List ℕ → Held
at_first buffer = record { lines = []; line = buffer; kept = 0 }

-- the bytes that are kept
abbrev pub kept_bytes : Held → List ℕ
kept_bytes h = take h.kept h.line

-- a program takes a line's bytes out of a piece, from a place on
abbrev pub with_more : List ℕ → ℕ → Held → Held
with_more piece at h =
    record {
      lines = h.lines;
      line = line_after h.line h.kept piece at;
      kept = (line_taken (length h.line) h.kept piece at).kept;
    }

-- the line is ended: the program gets the bytes that are kept, and keeps none
abbrev pub line_got : Held → Held
line_got h = record { lines = h.lines ++ (kept_bytes h ∷ []); line = h.line; kept = 0 }

-- a piece from a place on, as long as bytes are left, taken in at most so many turns
abbrev pub through_piece : ℕ → List ℕ → ℕ → Held → Held
through_piece zero piece at h = h
through_piece (suc turns) piece at h =
    let t = line_taken (length h.line) h.kept piece at in
    cond (ltb at (length piece)) (through_piece turns piece t.at (cond t.ended (line_got (with_more piece at h)) (with_more piece at h))) h

-- pieces one after the other: each turn takes at least a byte, so a piece needs no more turns than it has bytes
abbrev pub after_pieces : List (List ℕ) → Held → Held
after_pieces pieces h = foldl (λ g piece. through_piece (length piece) piece 0 g) h pieces

pub record LinesOfPieces : Type 0 where
  -- the lines that the program gets, in order, and behind them what it keeps at the end, are the parts of the whole input between its line feeds, the last of
  -- which no line feed ends; each is cut to as many bytes as the buffer has
  pub lines-and-rest : (pieces : List (List ℕ)) (buffer : List ℕ) → (after_pieces pieces (at_first buffer)).lines ++ (kept_bytes (after_pieces pieces (at_first buffer)) ∷ []) ≡ map (take (length buffer)) (parts 10 (flatten pieces))
  -- written out, for a buffer of three bytes: a line over two pieces, an empty line, an empty piece, and a rest that is too long
  pub cut : after_pieces ((bytes "ab" ++ (10 ∷ bytes "c")) ∷ [] ∷ (bytes "d" ++ (10 ∷ 10 ∷ bytes "ef")) ∷ bytes "gh" ∷ []) (at_first (bytes "...")) ≡ record { lines = bytes "ab" ∷ bytes "cd" ∷ [] ∷ []; line = bytes "efg"; kept = 3 }
