-- The law of texts that are written one behind the other. Assumes nothing.
use Prim.Native.Nat.{ℕ, ◌+◌, ◌-◌, ◌≤◌, min}
use mathlib.Core.Path.{◌≡◌, refl, sym, ap, ◌∙◌}
use mathlib.Core.Bool.{Bool, true, false}
use mathlib.Core.List.{List, [], ◌++◌, append_assoc}
use native.Mathlib.Omega.{arith}
use borrow.Author.Tests.{leb-true, leb-false}
use lib.Dec.{leb}
use lib.ListN.{length, length-append}
use lib.Seq.{sets, length-sets}
use Rattle.lists.specs.Lists.{over}
use Rattle.lists.proofs.Bytes.{sets-append, sets-past, sets_over}
use Rattle.text.specs.declared.writer.Writer.{Writer}
use Rattle.text.specs.Writer.{with_text}

-- two texts that are written one behind the other are their join written at once
pub text_behind : (w : Writer) (a b : List ℕ) → with_text (with_text w a) b ≡ with_text w (a ++ b)
unfolding with_text
text_behind w a b =
    λ i. record {
      out = record { ref_ptr = w.out.ref_ptr; ghost_name = w.out.ghost_name; now = now i };
      at = at i;
    }
  where
    l : List ℕ
    l = w.out.now

    place : ℕ
    place = w.at + min (length a) (length l - w.at)

    at : place + min (length b) (length (sets l w.at a) - place) ≡ w.at + min (length (a ++ b)) (length l - w.at)
    at = omega (arith, length-sets l w.at a, length-append a b)

    now : sets (sets l w.at a) place b ≡ sets l w.at (a ++ b)
    now = go (leb (length a) (length l - w.at)) refl
      where
        go : (t : Bool) → leb (length a) (length l - w.at) ≡ t → sets (sets l w.at a) place b ≡ sets l w.at (a ++ b)
        go true e =
            let h = leb-true (length a) (length l - w.at) e in
            let p : place ≡ w.at + length a = omega arith in
            ap (λ n. sets (sets l w.at a) n b) p ∙ sym (sets-append l w.at a b)
        go false e =
            let h = leb-false (length a) (length l - w.at) e in
            sets-past (sets l w.at a) place b (omega (arith, length-sets l w.at a))
            ∙ sym (sets-append l w.at a b ∙ sets-past (sets l w.at a) (w.at + length a) b (omega (arith, length-sets l w.at a)))

pub no_text : (w : Writer) → with_text w [] ≡ w
unfolding with_text
no_text w = λ i. record { out = w.out; at = at i }
  where
    at : w.at + min 0 (length w.out.now - w.at) ≡ w.at
    at = omega arith

-- for texts in turn
pub ruleset in_turn = (text_behind, no_text, append_assoc)

-- the buffer is the one that was lent
pub same_buffer : (w : Writer) (t : List ℕ) → (with_text w t).out.ghost_name ≡ w.out.ghost_name
unfolding with_text
same_buffer w t = refl

-- a text that fits, written from the start of a buffer
pub from_start : (w : Writer) (t : List ℕ) → w.at ≡ 0 → length t ≤ length w.out.now → ((with_text w t).at ≡ length t) × ((with_text w t).out.now ≡ over w.out.now t)
unfolding with_text
from_start w t z h = (omega arith, ap (λ n. sets w.out.now n t) z ∙ sets_over w.out.now t h)
