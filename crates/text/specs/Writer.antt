-- What a writer leaves: texts one behind the other in its buffer, as far as they fit.
use Rattle.std.specs.Prelude.{ℕ, ◌+◌, ◌-◌, List, min, length}
use Rattle.std.specs.Borrow.{MutBor}
use Rattle.std.proofs.lemmas.List.Edits.{sets}
use Rattle.text.specs.declared.writer.Writer.{Writer}

-- a writer at the start of a buffer
abbrev pub writer_over : MutBor (List ℕ) → Writer
writer_over out = record { out = out; at = 0 }

-- the place: how many bytes stand before it
abbrev pub place_of : Writer → ℕ
place_of w = w.at

-- a text is written at the place, and the place goes on by as many bytes as fit
unfoldable pub with_text : Writer → List ℕ → Writer
with_text w t = record { out = record w.out { now = sets w.out.now w.at t }; at = w.at + min (length t) (length w.out.now - w.at) }
