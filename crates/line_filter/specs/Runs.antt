-- What can be said of a run over the lines of an input. Which bytes come, and whether a read fails, is the system's.
use Rattle.std.specs.Prelude.{ℕ, ◌≡◌, Bool, true, false, List, [], ◌∷◌, ◌++◌, Result, Ok, Err, map, take}
use Rattle.std.specs.List.{FoldsTo}
use Rattle.text.specs.Text.{parts}
use Rattle.filter.specs.declared.Failed.{Failed}

-- the parts of an input between its line feeds, the last of which no line feed ends, each cut to as many bytes as are kept of a line
abbrev pub cut_parts : ℕ → List ℕ → List (List ℕ)
cut_parts size input = map (take size) (parts 10 input)

-- a filter answers a line, and says whether the run goes on; then it is the second filter
abbrev pub Answering : Type 0 → Type 1
Answering S = S → List ℕ → Result Bool Failed → S → Type 0

-- it answers the end of the input
abbrev pub Finishing : Type 0 → Type 1
Finishing S = S → List ℕ → Result (Unit {0}) Failed → S → Type 0

-- it answers lines in order, and the run goes on behind each
abbrev pub AllAnswered : {S : Type 0} → Answering S → S → List (List ℕ) → S → Type 0
AllAnswered answers = FoldsTo (λ s line t. answers s line (Ok true) t)

-- how a run over the parts of an input ends
pub data RunOver {S : Type 0} (answers : Answering S) (finishes : Finishing S) (s : S) (ps : List (List ℕ)) : Result (Unit {0}) Failed → S → Type 0 where
  -- every line is answered, and then the end, with what no line feed ends
  finished : (lines : List (List ℕ)) (rest : List ℕ) (t u : S) (r : Result (Unit {0}) Failed) → ps ≡ lines ++ (rest ∷ [])
      → AllAnswered answers s lines t → finishes t rest r u → RunOver answers finishes s ps r u
  -- the answer to a line ends the run: what stands behind that line is not looked at
  ended : (before after : List (List ℕ)) (line next : List ℕ) (t u : S) → ps ≡ before ++ (line ∷ next ∷ after)
      → AllAnswered answers s before t → answers t line (Ok false) u → RunOver answers finishes s ps (Ok tt) u
  -- the answer to a line fails
  failed : (before after : List (List ℕ)) (line next : List ℕ) (t u : S) (e : Failed) → ps ≡ before ++ (line ∷ next ∷ after)
      → AllAnswered answers s before t → answers t line (Err e) u → RunOver answers finishes s ps (Err e) u
  -- every line that came is answered, and then a read fails
  cut_off : (lines : List (List ℕ)) (rest : List ℕ) (t : S) (e : Failed) → ps ≡ lines ++ (rest ∷ [])
      → AllAnswered answers s lines t → RunOver answers finishes s ps (Err e) t
