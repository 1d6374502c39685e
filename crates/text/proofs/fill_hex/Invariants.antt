-- What `fill_hex` knows at each turn of its loop.
use Prim.Native.Nat.{◌-◌, ◌≤◌}
use mathlib.Core.Path.{◌≡◌}
use mathlib.Core.List.{◌++◌}
use lib.ListN.{length, drop}
use Rattle.text.specs.Text.{hex_text}
use Rattle.text.proofs.fill_hex.Given as goal

abbrev pub invariant-loop-at : goal.invariant-loop-at
invariant-loop-at l = (l.from ≤ l.at) × (l.at ≤ 16) × (length l.bytes ≡ 16) × (hex_text (16 - l.from) l.n ≡ hex_text (l.at - l.from) l.left ++ drop l.at l.bytes)
