-- Laws of lists of which one element, or each of the first n, is changed. Assumes nothing.
use Prim.Native.Nat.{ℕ, zero, suc, ◌+◌, ◌<◌, ◌≤◌}
use mathlib.Core.Path.{◌≡◌, refl, sym, ap}
use mathlib.Core.List.{List, [], ◌∷◌, ◌++◌, map}
use native.Mathlib.Nat.{le_of_suc-le-suc, not-suc-le-zero}
use native.Mathlib.Numerals.{add-one}
use native.Mathlib.Omega.{arith}
use lib.ListN.{length, take, drop, get_or, set, take-append-drop}
use Rattle.lists.specs.Lists.{change_at, on_front}

module _ {A : Type 0} where
  -- an n past the end takes and drops what the length does
  pub take-used : (n : ℕ) (l : List A) → take (length (take n l)) l ≡ take n l
  take-used zero l = refl
  take-used (suc n) [] = refl
  take-used (suc n) (x ∷ xs) = ap (λ (r : List A). x ∷ r) (take-used n xs)

  pub drop-used : (n : ℕ) (l : List A) → drop (length (take n l)) l ≡ drop n l
  drop-used zero l = refl
  drop-used (suc n) [] = refl
  drop-used (suc n) (x ∷ xs) = drop-used n xs

  -- one element changed
  module _ (f : A → A) where
    pub change-long : (i : ℕ) (l : List A) → length (change_at i f l) ≡ length l
    change-long i [] = refl
    change-long zero (x ∷ xs) = refl
    change-long (suc i) (x ∷ xs) = ap suc (change-long i xs)

    pub change-past : (i : ℕ) (l : List A) → length l ≤ i → change_at i f l ≡ l
    change-past i [] h = refl
    change-past zero (x ∷ xs) h = absurd (not-suc-le-zero h)
    change-past (suc i) (x ∷ xs) h = ap (λ (r : List A). x ∷ r) (change-past i xs (le_of_suc-le-suc h))

    -- a store at an index among the first n
    pub change-set : (n i : ℕ) (l : List A) (d : A) → i < n → set l i (f (get_or l i d)) ≡ on_front n (change_at i f) l
    change-set zero i l d h = absurd (not-suc-le-zero h)
    change-set (suc n) i [] d h = refl
    change-set (suc n) zero (x ∷ xs) d h = ap (λ (r : List A). f x ∷ r) (sym (take-append-drop n xs))
    change-set (suc n) (suc i) (x ∷ xs) d h = ap (λ (r : List A). x ∷ r) (change-set n i xs d (le_of_suc-le-suc h))

    -- a loop that changes each element: the store at i
    pub map_next : (i : ℕ) (l : List A) (d : A) → i < length l → set (on_front i (map f) l) i (f (get_or l i d)) ≡ on_front (i + 1) (map f) l
    map_next i [] d h = absurd (not-suc-le-zero h)
    map_next zero (x ∷ xs) d h = refl
    map_next (suc i) (x ∷ xs) d h = let k = map_next i xs d (le_of_suc-le-suc h) in rw (add-one (suc i)) (ap (λ (r : List A). f x ∷ r) (rw (add-one i) at k))

  -- the first n elements of a list replaced by as many others
  pub front-is : (n : ℕ) (l k : List A) → length k ≡ length (take n l) → (take n (k ++ drop n l) ≡ k) × (drop n (k ++ drop n l) ≡ drop n l)
  front-is zero l [] h = (refl, refl)
  front-is zero l (y ∷ ys) h = absurd (let e : ⊥ = omega arith in e)
  front-is (suc n) [] [] h = (refl, refl)
  front-is (suc n) [] (y ∷ ys) h = absurd (let e : ⊥ = omega arith in e)
  front-is (suc n) (x ∷ xs) [] h = absurd (let e : ⊥ = omega arith in e)
  front-is (suc n) (x ∷ xs) (y ∷ ys) h = let r = front-is n xs ys (let e : length ys ≡ length (take n xs) = omega arith in e) in (ap (λ (z : List A). y ∷ z) r.0, r.1)
