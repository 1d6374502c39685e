-- What can be said of a program's edges. Which bytes are read, and whether a write fails, is the system's.
use Rattle.std.specs.Prelude.{ℕ, ◌≡◌, ◌≤◌, Bool, false, List, Result, Ok, Err, IsOk, IfOk, ltb, length, take}
use Rattle.filter.specs.declared.Failed.{Failed}

-- a program has an argument: the first of the words that it was started with is its own name
abbrev pub has_argument : ℕ → Bool
has_argument words = ltb 1 words

-- whether the usage was asked for: exactly if there is an argument, and without one nothing fails
abbrev pub Asked : ℕ → Result Bool Failed → Type 0
Asked words r = IfOk r (λ asked. asked ≡ has_argument words) × (has_argument words ≡ false → IsOk r)

-- the status that a program ends with
abbrev pub status_of : Result (Unit {0}) Failed → ℕ
status_of (Ok u) = 0
status_of (Err e) = 1

-- no bytes are always written
abbrev pub Written : List ℕ → Result (Unit {0}) Failed → Type 0
Written bytes r = length bytes ≡ 0 → IsOk r

-- the buffer has so many bytes, and so its first ones are as many
abbrev pub Counts : ℕ → List ℕ → Type 0
Counts n buf = (n ≤ length buf) × (n ≡ length (take n buf))

-- the bytes that were read lie within the buffer
abbrev pub Within : Result ℕ Failed → List ℕ → Type 0
Within r buf = IfOk r (λ n. Counts n buf)
