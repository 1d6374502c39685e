-- Functions on lists that the definitions of every crate are made of.
use Rattle.std.specs.Prelude.{ℕ, zero, suc, Bool, true, false, cond, ◌&&◌, ltb, length, take, drop}
use mathlib.Core.List.{List, [], ◌∷◌, ◌++◌, foldl}

module _ {A : Type 0} where
  -- the elements that pass a test, in order
  abbrev pub select : (A → Bool) → List A → List A
  select p [] = []
  select p (x ∷ xs) = cond (p x) (x ∷ select p xs) (select p xs)

  -- the indexes of the elements that pass a test, in order; the first element has index n
  abbrev pub indexes_from : (A → Bool) → ℕ → List A → List ℕ
  indexes_from p n [] = []
  indexes_from p n (x ∷ xs) = cond (p x) (n ∷ indexes_from p (suc n) xs) (indexes_from p (suc n) xs)

  -- x before the first element with a greater key
  abbrev pub insert_by : (A → ℕ) → A → List A → List A
  insert_by k x [] = x ∷ []
  insert_by k x (y ∷ ys) = cond (ltb (k x) (k y)) (x ∷ y ∷ ys) (y ∷ insert_by k x ys)

  -- a list ordered by a key, equal keys in their order: each element in turn is inserted
  abbrev pub sort_by : (A → ℕ) → List A → List A
  sort_by k l = foldl (λ acc x. insert_by k x acc) [] l

  -- a list written over the front of another
  abbrev pub over : List A → List A → List A
  over base l = l ++ drop (length l) base

  -- a fact of every element
  abbrev pub All : (A → Type 0) → List A → Type 0
  All P [] = Unit {0}
  All P (x ∷ xs) = P x × All P xs

  -- how many elements stand before the first that passes a test: its index, or the length where none passes
  abbrev pub first_index : (A → Bool) → List A → ℕ
  first_index p [] = 0
  first_index p (x ∷ xs) = cond (p x) 0 (suc (first_index p xs))

  -- a list with the element at an index changed; an index past the end changes nothing
  abbrev pub change_at : ℕ → (A → A) → List A → List A
  change_at i f [] = []
  change_at zero f (x ∷ xs) = f x ∷ xs
  change_at (suc i) f (x ∷ xs) = x ∷ change_at i f xs

  -- a list with its first n elements changed, as a list of their own
  abbrev pub on_front : ℕ → (List A → List A) → List A → List A
  on_front n f l = f (take n l) ++ drop n l

  -- whether an element passes a test
  abbrev pub some : (A → Bool) → List A → Bool
  some p [] = false
  some p (x ∷ xs) = cond (p x) true (some p xs)

  -- the first element that passes a test is changed
  abbrev pub change_first : (A → Bool) → (A → A) → List A → List A
  change_first p f [] = []
  change_first p f (x ∷ xs) = cond (p x) (f x ∷ xs) (x ∷ change_first p f xs)

  -- the first element that passes a test is left out
  abbrev pub remove_first : (A → Bool) → List A → List A
  remove_first p [] = []
  remove_first p (x ∷ xs) = cond (p x) xs (x ∷ remove_first p xs)

  -- whether every element passes a test
  abbrev pub every : (A → Bool) → List A → Bool
  every p [] = true
  every p (x ∷ xs) = p x && every p xs
