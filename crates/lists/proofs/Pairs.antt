-- Laws on the first element that passes a test: its place, its change and its removal. Assumes nothing.
use Prim.Native.Nat.compare
use Prim.Native.Nat.{ℕ, zero, suc, ◌<◌, ◌≤◌, zero-le, suc-le-suc}
use mathlib.Core.Path.{◌≡◌, refl, sym, ap, ◌∙◌}
use mathlib.Core.Bool.{Bool, true, false, cond}
use mathlib.Core.List.{List, [], ◌∷◌, ◌++◌}
use native.Mathlib.Nat.{le_of_suc-le-suc, not-suc-le-zero}
use native.Mathlib.Omega.{arith}
use borrow.Author.Tests.{lt-ltb}
use lib.Dec.{ltb}
use lib.ListN.{length, drop, get_or, set, length-set}
use lib.Seq.{set-append_left}
use Rattle.lists.specs.Lists.{over, first_index, some, change_at, remove_first}
use Rattle.lists.specs.Private.{remove_at}

module _ {A : Type 0} where
  -- one passes exactly if the place is within the list
  pub some_first : (p : A → Bool) (l : List A) → some p l ≡ ltb (first_index p l) (length l)
  some_first p [] = refl
  some_first p (x ∷ xs) = go (p x) (some_first p xs)
    where
      go : (b : Bool) → some p xs ≡ ltb (first_index p xs) (length xs) → cond b true (some p xs) ≡ ltb (cond b 0 (suc (first_index p xs))) (suc (length xs))
      go true h = sym (lt-ltb 0 (suc (length xs)) (omega arith))
      go false h = rw (compare.suc-suc) h

  -- to change the element at a place is to write there
  pub change-is : (k : ℕ) (f : A → A) (l : List A) (d : A) → change_at k f l ≡ set l k (f (get_or l k d))
  change-is k f [] d = refl
  change-is zero f (x ∷ xs) d = refl
  change-is (suc k) f (x ∷ xs) d = ap (λ (z : List A). x ∷ z) (change-is k f xs d)

  -- to remove the first is to remove at its place
  pub remove-is : (p : A → Bool) (l : List A) → remove_first p l ≡ remove_at (first_index p l) l
  remove-is p [] = refl
  remove-is p (x ∷ xs) = go (p x) (remove-is p xs)
    where
      go : (b : Bool) → remove_first p xs ≡ remove_at (first_index p xs) xs → cond b xs (x ∷ remove_first p xs) ≡ remove_at (cond b 0 (suc (first_index p xs))) (x ∷ xs)
      go true h = refl
      go false h = ap (λ (z : List A). x ∷ z) h

  -- a removal, as the list grows at its end
  pub remove-past : (k : ℕ) (l : List A) → length l ≤ k → remove_at k l ≡ l
  remove-past k [] h = refl
  remove-past zero (x ∷ xs) h = absurd (not-suc-le-zero h)
  remove-past (suc k) (x ∷ xs) h = ap (λ (z : List A). x ∷ z) (remove-past k xs (le_of_suc-le-suc h))

  pub remove-last : (k : ℕ) (l : List A) (x : A) → length l ≡ k → remove_at k (l ++ (x ∷ [])) ≡ remove_at k l
  remove-last k [] x e = rw (sym e)
  remove-last zero (y ∷ ys) x e = let f : ⊥ = omega arith in absurd f
  remove-last (suc k) (y ∷ ys) x e = ap (λ (z : List A). y ∷ z) (remove-last k ys x (omega arith))

  pub remove-snoc : (k : ℕ) (l : List A) (x : A) → (length l ≡ k → ⊥) → remove_at k (l ++ (x ∷ [])) ≡ remove_at k l ++ (x ∷ [])
  remove-snoc zero [] x n = absurd (n refl)
  remove-snoc (suc k) [] x n = refl
  remove-snoc zero (y ∷ ys) x n = refl
  remove-snoc (suc k) (y ∷ ys) x n = ap (λ (z : List A). y ∷ z) (remove-snoc k ys x (λ e. n (ap suc e)))

  pub remove-le : (k : ℕ) (l : List A) → length (remove_at k l) ≤ length l
  remove-le k [] = zero-le
  remove-le zero (x ∷ xs) = omega arith
  remove-le (suc k) (x ∷ xs) = suc-le-suc (remove-le k xs)

  -- a write within the front of a base
  pub over-set : (base l : List A) (k : ℕ) (x : A) → k < length l → set (over base l) k x ≡ over base (set l k x)
  over-set base l k x h = set-append_left l (drop (length l) base) k x h ∙ ap (λ (n : ℕ). set l k x ++ drop n base) (sym (length-set l k x))
