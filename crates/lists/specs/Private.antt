-- What private functions and proofs use. No public promise uses it.
use Rattle.std.specs.Prelude.{ℕ, zero, suc, cond, List, [], ◌∷◌, ◌++◌, ltb, take, drop}

module _ {A : Type 0} where
  -- how many elements stand before the first with a key greater than d
  abbrev pub place_by : (A → ℕ) → ℕ → List A → ℕ
  place_by k d [] = 0
  place_by k d (y ∷ ys) = cond (ltb d (k y)) 0 (suc (place_by k d ys))

  -- x put into a list at place p
  abbrev pub insert_at : ℕ → A → List A → List A
  insert_at p x l = take p l ++ (x ∷ drop p l)

  -- the element at place k is left out
  abbrev pub remove_at : ℕ → List A → List A
  remove_at k [] = []
  remove_at zero (x ∷ xs) = xs
  remove_at (suc k) (x ∷ xs) = x ∷ remove_at k xs
