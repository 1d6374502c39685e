-- What `print_last_heard` knows at each turn of its loop.
use Prim.Native.Nat.{◌+◌}
use mathlib.Core.Path.{◌≡◌}
use mathlib.Core.List.{◌∷◌, map}
use lib.ListN.{length, take}
use Rattle.trace_lines.specs.declared.Field.TheVariants.{Named, U32}
use Rattle.trace_lines.specs.declared.Word.TheVariants as word
use Rattle.trace.proofs.print_last_heard.Given as goal

-- after i entries the fields begin with the word and the first i times
abbrev pub invariant-loop-i : goal.invariant-loop-i
invariant-loop-i l = (length l.fields ≡ 17) × (take (l.i + 1) l.fields ≡ Named word.LastHeard ∷ map (λ e. U32 e.last_heard) (take l.i l.used))
