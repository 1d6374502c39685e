-- Laws of a list stored element by element from a place of another (`sets`). Assumes nothing.
use Prim.Native.Nat.{ℕ, suc, ◌+◌, ◌-◌, ◌≤◌, min}
use mathlib.Core.Path.{◌≡◌, refl, sym, ap, ◌∙◌}
use mathlib.Core.Bool.{Bool, true, false}
use mathlib.Core.List.{List, [], ◌∷◌, ◌++◌}
use native.Mathlib.Nat.{add-zero, zero-add}
use native.Mathlib.Omega.{arith}
use borrow.Author.Tests.{leb-true, leb-false}
use lib.Dec.{leb}
use lib.ListN.{length, take, drop, set, take-append-drop}
use lib.Seq.{sets, sets-eq, length-sets, set_out, take_all, length-take-le}
use Rattle.lists.specs.Lists.{over}

module _ {A : Type 0} where
  -- two lists stored one behind the other
  pub sets-append : (l : List A) (i : ℕ) (a b : List A) → sets l i (a ++ b) ≡ sets (sets l i a) (i + length a) b
  sets-append l i [] b = ap (λ (n : ℕ). sets l n b) (sym (add-zero i))
  sets-append l i (x ∷ xs) b = sets-append (set l i x) (suc i) xs b ∙ ap (λ (n : ℕ). sets (sets (set l i x) (suc i) xs) n b) shift
    where
      shift : suc i + length xs ≡ i + suc (length xs)
      shift = omega arith

  -- past the end nothing is stored
  pub sets-past : (l : List A) (i : ℕ) (vs : List A) → length l ≤ i → sets l i vs ≡ l
  sets-past l i [] h = refl
  sets-past l i (x ∷ xs) h = ap (λ (z : List A). sets z (suc i) xs) (set_out l i x h) ∙ sets-past l (suc i) xs (omega arith)

  -- a list that fits, stored from the front
  pub sets_over : (l vs : List A) → length vs ≤ length l → sets l 0 vs ≡ over l vs
  sets_over l vs h = sets-eq vs l 0 (rw (zero-add (length vs)) h) ∙ rw (zero-add (length vs))

  -- to store what fits is to store all
  pub sets-fit : (l s : List A) (at n : ℕ) → n ≡ min (length s) (length l - at) → sets l at (take n s) ≡ sets l at s
  sets-fit l s at n e = go (leb (length s) (length l - at)) refl
    where
      go : (b : Bool) → leb (length s) (length l - at) ≡ b → sets l at (take n s) ≡ sets l at s
      go true t = let h = leb-true (length s) (length l - at) t in ap (sets l at) (take_all n s (omega arith))
      go false t =
          let h = leb-false (length s) (length l - at) t in
          let m : length (take n s) ≡ n = length-take-le n s (omega arith) in
          let p : length (sets l at (take n s)) ≤ at + length (take n s) = omega (arith, length-sets l at (take n s)) in
          sym (ap (sets l at) (sym (take-append-drop n s)) ∙ sets-append l at (take n s) (drop n s) ∙ sets-past (sets l at (take n s)) (at + length (take n s)) (drop n s) p)
