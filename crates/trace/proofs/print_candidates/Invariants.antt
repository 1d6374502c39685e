-- What `print_candidates` knows at each turn of its loop.
use Prim.Native.Nat.{◌+◌}
use mathlib.Core.Path.{◌≡◌}
use mathlib.Core.List.{◌∷◌, map}
use lib.ListN.{length, take}
use Rattle.trace_lines.specs.declared.Field.TheVariants.{Named, U8}
use Rattle.trace_lines.specs.declared.Word.TheVariants as word
use Rattle.trace.proofs.print_candidates.Given as goal

-- after i candidates the fields begin with the word and the first i indexes
abbrev pub invariant-loop-i : goal.invariant-loop-i
invariant-loop-i l = (length l.fields ≡ 17) × (take (l.i + 1) l.fields ≡ Named word.Candidates ∷ map U8 (take l.i l.used))
