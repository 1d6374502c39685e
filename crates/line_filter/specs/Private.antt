-- What only private functions say.
use Rattle.std.specs.Prelude.{⊤, ℕ, ◌≡◌, List, [], ◌++◌, Option, Some, None, MatchOption, Result, Ok, Err, IfOk, length}
use Rattle.filter.specs.declared.Failed.{Failed}
use Rattle.filter.specs.Edges.{Counts}
use Rattle.pieces.specs.Statement.{Held}
use Rattle.pieces.proofs.Lines.{whole_of, HeldWithin}
use Rattle.line_filter.specs.Runs.{Answering, Finishing, AllAnswered, RunOver, cut_parts}

-- where the run goes on, what is kept of a line lies within the buffer
abbrev pub KeptWithin : Result (Option ℕ) Failed → List ℕ → Type 0
KeptWithin r line = IfOk r (λ k. MatchOption k ⊤ (λ n. Counts n line))

-- a run in which the lines that were got are answered, and some bytes of those that came are still to be looked at
pub record Going {S : Type 0} (answers : Answering S) (size : ℕ) (s : S) (left came : List ℕ) (h : Held) (t : S) : Type 0 where
  pub fits : HeldWithin size h
  pub whole : (more : List ℕ) → whole_of size h (left ++ more) ≡ cut_parts size (came ++ more)
  pub answered : AllAnswered answers s h.lines t

-- and once those are looked at: it goes on, or it is over
abbrev pub Went : {S : Type 0} → Answering S → Finishing S → ℕ → S → List ℕ → Result (Option ℕ) Failed → List ℕ → S → Type 0
Went answers finishes size s came (Ok (Some k)) line u =
    (lines : List (List ℕ)) × Going answers size s [] came (record { lines = lines; line = line; kept = k }) u
Went answers finishes size s came (Ok None) line u = RunOver answers finishes s (cut_parts size came) (Ok tt) u
Went answers finishes size s came (Err e) line u = RunOver answers finishes s (cut_parts size came) (Err e) u

-- what a piece does to any run that is going on
abbrev pub Goes : {S : Type 0} → Answering S → Finishing S → S → List ℕ → ℕ → List ℕ → Result (Option ℕ) Failed → List ℕ → S → Type 0
Goes {S} answers finishes t line kept piece r line' u =
    (s : S) (lines : List (List ℕ)) (came : List ℕ)
    → Going answers (length line) s piece came (record { lines = lines; line = line; kept = kept }) t
    → Went answers finishes (length line) s came r line' u
