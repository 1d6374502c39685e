-- What the private functions ask and say. No public promise uses it.
use Rattle.std.specs.Prelude.{ℕ, cond, Option, Some, None, List, [], ◌∷◌, eqb, drop}
use Rattle.trace_lines.specs.declared.InputKind.{InputKind}
use Rattle.trace_lines.specs.declared.InputLine.{InputLine}
use Rattle.trace_lines.specs.TraceLines.{letters_of, all_fit, fits_kind, line_as}

-- the line by the letters of a kind, or by the kind, where it fits
abbrev pub read_as : InputKind → List (List ℕ) → Option InputLine
read_as k fs = cond (all_fit (letters_of k) (drop 1 fs)) (Some (line_as k fs)) None

abbrev pub read_kind : InputKind → List (List ℕ) → Option InputLine
read_kind k fs = cond (fits_kind fs k) (Some (line_as k fs)) None

-- the tab before field i
abbrev pub tab_before : ℕ → List ℕ
tab_before i = cond (eqb i 0) [] (9 ∷ [])
