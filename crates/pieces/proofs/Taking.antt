-- What is taken of a piece, from what the code finds. Assumes nothing.
use Prim.Native.Nat.{ℕ, ◌+◌, ◌-◌, ◌<◌, ◌≤◌, min}
use mathlib.Core.Path.{◌≡◌, refl, sym, ap, ◌∙◌}
use mathlib.Core.Bool.{Bool, true, false, cond}
use mathlib.Core.List.{List, []}
use native.Mathlib.Omega.{arith}
use borrow.Author.Tests.{lt-ltb, le-ltb, ltb-false}
use lib.ListN.{length, take, drop, get_or, length-drop, drop_of_length-le}
use lib.Seq.{sets, length-sets, length-take-le, take_all}
use Rattle.lists.specs.Lists.{first_index}
use Rattle.lists.proofs.First.{first-le}
use Rattle.lists.proofs.Pairs.{some_first}
use Rattle.text.specs.Text.{parts}
use Rattle.text.proofs.Parts.{first_part}
use Rattle.pieces.specs.declared.Taken.{Taken}
use Rattle.pieces.specs.Pieces.{line_feed, is_feed, line_bytes, is_ended, line_taken, line_after, Usable}

module _ (piece : List ℕ) (at : ℕ) where
  pub bytes-long : length (line_bytes piece at) ≡ first_index is_feed (drop at piece)
  bytes-long = length-take-le (first_index is_feed (drop at piece)) (drop at piece) (first-le is_feed (drop at piece))

  -- the line is ended exactly if bytes are left behind its own
  feed-left : length (line_bytes piece at) < length piece - at → is_ended piece at ≡ true
  feed-left h = some_first is_feed (drop at piece) ∙ lt-ltb (first_index is_feed (drop at piece)) (length (drop at piece)) (omega (arith, bytes-long, length-drop at piece))

  none_left : length piece - at ≤ length (line_bytes piece at) → is_ended piece at ≡ false
  none_left h = some_first is_feed (drop at piece) ∙ le-ltb (first_index is_feed (drop at piece)) (length (drop at piece)) (omega (arith, bytes-long, length-drop at piece))

  pub not-ended : is_ended piece at ≡ false → length piece - at ≤ length (line_bytes piece at)
  not-ended e = omega (arith, bytes-long, length-drop at piece, ltb-false (first_index is_feed (drop at piece)) (length (drop at piece)) (sym (some_first is_feed (drop at piece)) ∙ e))

  -- at the end of the piece, and past it, there are none
  no_bytes : length piece ≤ at → line_bytes piece at ≡ []
  no_bytes h = rw (drop_of_length-le piece h)

  -- where bytes are left some are taken
  pub goes_on : (b : Bool) → is_ended piece at ≡ b → min (at + 1) (length piece) ≤ at + length (line_bytes piece at) + cond b 1 0
  goes_on true e = omega arith
  goes_on false e = omega (arith, not-ended e)

-- what `take_line` ensures
abbrev Answers : List ℕ → List ℕ → ℕ → ℕ → List ℕ → Taken → Type 0
Answers line piece kept at out t = (t ≡ line_taken (length line) kept piece at) × ((out ≡ line_after line kept piece at) × Usable out piece at t)

-- the answer, from its parts
module _ (line piece : List ℕ) (kept at : ℕ) {out : List ℕ} {t : Taken} where
  answers : t.at ≡ at + length (line_bytes piece at) + cond (is_ended piece at) 1 0
      → t.kept ≡ min (kept + length (line_bytes piece at)) (length line)
      → t.ended ≡ is_ended piece at
      → out ≡ sets line kept (line_bytes piece at)
      → Answers line piece kept at out t
  unfolding line_taken line_after
  answers p k e o =
      let n : length out ≡ length line = ap length o ∙ length-sets line kept (line_bytes piece at) in
      let h : t.kept ≤ length out = omega arith in (
        λ i. record { at = p i; kept = k i; ended = e i },
        (
          o,
          record {
            within = h;
            counts = sym (length-take-le t.kept out h);
            on = omega (arith, p, goes_on piece at (is_ended piece at) refl);
          },
        ),
      )

-- from the end of the piece on
module _ (line piece : List ℕ) (kept at : ℕ) where
  pub past_end : {k : ℕ} → length piece ≤ at → k ≡ min (kept + 0) (length line) → Answers line piece kept at line (record { at = at; kept = k; ended = false })
  past_end h e =
      let none = no_bytes piece at h in
      let n : length (line_bytes piece at) ≡ 0 = ap length none in
      let f = none_left piece at (omega arith) in
      answers line piece kept at (rw (f, none) (omega arith)) (rw none e) (sym f) (rw none)

  -- before it: the bytes of the first part, how many they are, the buffer with them, and how many are kept
  module _ {bytes out : List ℕ} {more k : ℕ}
      (x : bytes ≡ get_or (parts line_feed (take (length piece - at) (drop at piece))) 0 [])
      (y : more ≡ length bytes)
      (z : out ≡ sets line kept bytes)
      (e : k ≡ min (kept + more) (length out)) where
    the-bytes : bytes ≡ line_bytes piece at
    the-bytes = x ∙ ap (λ (l : List ℕ). get_or (parts line_feed l) 0 []) (take_all (length piece - at) (drop at piece) (omega (arith, length-drop at piece))) ∙ first_part line_feed (drop at piece)

    how-many : more ≡ length (line_bytes piece at)
    how-many = y ∙ ap length the-bytes

    how-kept : k ≡ min (kept + length (line_bytes piece at)) (length line)
    how-kept = e ∙ (λ i. min (kept + how-many i) ((ap length z ∙ length-sets line kept bytes) i))

    pub feed-taken : more < length piece - at → Answers line piece kept at out (record { at = at + more + 1; kept = k; ended = true })
    feed-taken h =
        let f = feed-left piece at (omega (arith, how-many)) in
        answers line piece kept at (rw f (omega (arith, how-many))) how-kept (sym f) (z ∙ ap (sets line kept) the-bytes)

    pub all-taken : length piece - at ≤ more → Answers line piece kept at out (record { at = at + more; kept = k; ended = false })
    all-taken h =
        let f = none_left piece at (omega (arith, how-many)) in
        answers line piece kept at (rw f (omega (arith, how-many))) how-kept (sym f) (z ∙ ap (sets line kept) the-bytes)
