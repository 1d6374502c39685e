-- What `number` knows at each turn of its loop.
use Prim.Native.Nat.{◌≤◌}
use mathlib.Core.Path.{◌≡◌}
use lib.ListN.{drop}
use Rattle.text.specs.Text.{number_from}
use Rattle.text.proofs.number.Given as goal

-- v is at most the limit, and the number is what the bytes that are left make after digits of value v
abbrev pub invariant-loop-b : goal.invariant-loop-b
invariant-loop-b l = (l.v ≤ l.limit) × (number_from l.base l.limit 0 l.f ≡ number_from l.base l.limit l.v (drop l.b-index l.f))
