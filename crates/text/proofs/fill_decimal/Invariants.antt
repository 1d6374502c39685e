-- What `fill_decimal` knows at each turn of its loop.
use Prim.Native.Nat.{suc, ◌+◌, ◌-◌, ◌/◌, ◌%◌, ◌^◌, ◌≤◌}
use mathlib.Core.Path.{◌≡◌}
use mathlib.Core.List.{[], ◌∷◌, ◌++◌}
use lib.ListN.{length, take}
use Rattle.text.specs.Text.{digit_byte, decimal_digits}
use Rattle.text.proofs.Powers.{Taking}
use Rattle.text.proofs.fill_decimal.Given as goal

-- behind what stood before, the digits that stand and the one that is being counted are the decimal of the number divided by the power
abbrev pub invariant-loop-power : goal.invariant-loop-power
invariant-loop-power l = (l.first ≤ l.at)
    × (l.at ≤ 9)
    × (length l.bytes ≡ 10)
    × (l.power ≡ 10 ^ (9 - l.at))
    × Taking (9 - l.at) l.n l.byte l.left
    × (take l.at l.bytes ++ (digit_byte (l.n % 10 ^ suc (9 - l.at) / 10 ^ (9 - l.at)) ∷ []) ≡ take l.first l.initial.bytes ++ decimal_digits (suc l.at) (l.n / 10 ^ (9 - l.at)))

abbrev pub decreases-loop-power : goal.decreases-loop-power
decreases-loop-power l = l.left + (9 - l.at)
