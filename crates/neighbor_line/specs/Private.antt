-- What the private functions say. No public promise uses it.
use Rattle.std.specs.Prelude.{ℕ, ◌+◌, ◌-◌, List, [], length, take, get_or}
use Rattle.neighbor_line.specs.Moves.{fields_of_line}

-- the bytes of a line before its last tab: without its thirteenth field, that tab and the line feed
abbrev pub back_front : List ℕ → List ℕ
back_front t = take (length t - (length (get_or (fields_of_line t) 12 []) + 2)) t
