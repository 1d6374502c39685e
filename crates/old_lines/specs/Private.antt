-- What only private functions say.
use Rattle.std.specs.Prelude.{Option, Some, None, ℕ, List, length}
use Rattle.neighbor_line.specs.declared.MoveRefusal.{MoveRefusal}

-- how many bytes come of a line, where it is moved
abbrev pub length_by : Option MoveRefusal → List ℕ → Option ℕ
length_by None text = Some (length text)
length_by (Some r) text = None
