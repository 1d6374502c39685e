-- Laws of the elements that pass a test, counted among themselves: the rank of an index, a change of the element of a rank, and choices by index.
-- Assumes nothing.
use Prim.Native.Nat.{ℕ, zero, suc, ◌+◌, ◌<◌, ◌≤◌, zero-le, suc-le-suc}
use mathlib.Core.Path.{◌≡◌, refl, sym, ap, ◌∙◌}
use mathlib.Core.Bool.{Bool, true, false, cond, ◌&&◌, false≢true}
use mathlib.Core.List.{List, [], ◌∷◌, map, foldl}
use native.Mathlib.Nat.{add-zero, le_of_suc-le-suc, not-suc-le-zero}
use native.Mathlib.Omega.{arith}
use lib.Dec.{ltb}
use lib.ListN.{length, get_or}
use Rattle.lists.proofs.Conditions.{split}
use Rattle.lists.specs.Lists.{select, indexes_from, insert_by, sort_by, All, first_index, change_at}

-- `marks` says of each element of a list whether it passes. There is an element at an index, and it passes
abbrev pub is_marked : List Bool → ℕ → Bool
is_marked [] i = false
is_marked (m ∷ ms) zero = m
is_marked (m ∷ ms) (suc i) = is_marked ms i

-- the rank of an index: how many before it pass
abbrev pub rank : List Bool → ℕ → ℕ
rank [] i = 0
rank (m ∷ ms) zero = 0
rank (m ∷ ms) (suc i) = cond m (suc (rank ms i)) (rank ms i)

-- a list with the element changed that has rank r among those that pass; a rank past them changes nothing
abbrev pub change_ranked : {A : Type 0} → (A → Bool) → (A → A) → ℕ → List A → List A
change_ranked p f r [] = []
change_ranked p f zero (x ∷ xs) = cond (p x) (f x ∷ xs) (x ∷ change_ranked p f zero xs)
change_ranked p f (suc r) (x ∷ xs) = cond (p x) (x ∷ change_ranked p f r xs) (x ∷ change_ranked p f (suc r) xs)

module _ {A : Type 0} (p : A → Bool) where
  pub marked-below : (l : List A) (i : ℕ) → is_marked (map p l) i ≡ true → i < length l
  marked-below [] i h = absurd (false≢true h)
  marked-below (x ∷ xs) zero h = suc-le-suc zero-le
  marked-below (x ∷ xs) (suc i) h = suc-le-suc (marked-below xs i h)

  pub marked-of : (l : List A) (i : ℕ) (d : A) → i < length l → p (get_or l i d) ≡ true → is_marked (map p l) i ≡ true
  marked-of [] i d h t = absurd (not-suc-le-zero h)
  marked-of (x ∷ xs) zero d h t = t
  marked-of (x ∷ xs) (suc i) d h t = marked-of xs i d (le_of_suc-le-suc h) t

  -- an element that passes stands at its rank among those that pass
  pub rank_below : (l : List A) (i : ℕ) → is_marked (map p l) i ≡ true → rank (map p l) i < length (select p l)
  rank_below [] i h = absurd (false≢true h)
  rank_below (x ∷ xs) zero h = rw h (suc-le-suc zero-le)
  rank_below (x ∷ xs) (suc i) h = go (p x) (rank_below xs i h)
    where
      go : (b : Bool) → rank (map p xs) i < length (select p xs) → cond b (suc (rank (map p xs) i)) (rank (map p xs) i) < length (cond b (x ∷ select p xs) (select p xs))
      go true k = suc-le-suc k
      go false k = k

  pub at-rank : (l : List A) (i : ℕ) (d : A) → is_marked (map p l) i ≡ true → get_or l i d ≡ get_or (select p l) (rank (map p l) i) d
  at-rank [] i d h = refl
  at-rank (x ∷ xs) zero d h = rw h
  at-rank (x ∷ xs) (suc i) d h = go (p x) (at-rank xs i d h)
    where
      go : (b : Bool) → get_or xs i d ≡ get_or (select p xs) (rank (map p xs) i) d → get_or xs i d ≡ get_or (cond b (x ∷ select p xs) (select p xs)) (cond b (suc (rank (map p xs) i)) (rank (map p xs) i)) d
      go true k = k
      go false k = k

  -- those that pass, among those that pass a weaker test
  pub select-select : (q : A → Bool) → ((x : A) → p x ≡ true → q x ≡ true) → (l : List A) → select p (select q l) ≡ select p l
  select-select q weaker [] = refl
  select-select q weaker (x ∷ xs) =
      let ih = select-select q weaker xs in
      split (p x) (λ t. rw (weaker x t, t) (ap (λ (z : List A). x ∷ z) ih))
      (λ t. split (q x) (λ u. rw (u, t) ih) (λ u. rw (u, t) ih))

  -- a change that keeps the test: of the marks, and of those that pass a weaker test
  module _ (f : A → A) (kept : (x : A) → p (f x) ≡ p x) where
    pub marks-map : (l : List A) → map p (map f l) ≡ map p l
    marks-map [] = refl
    marks-map (x ∷ xs) = λ i. kept x i ∷ marks-map xs i

    pub marks-change : (i : ℕ) (l : List A) → map p (change_at i f l) ≡ map p l
    marks-change i [] = refl
    marks-change zero (x ∷ xs) = ap (λ (z : Bool). z ∷ map p xs) (kept x)
    marks-change (suc i) (x ∷ xs) = ap (λ (z : List Bool). p x ∷ z) (marks-change i xs)

    pub select-change : (q : A → Bool) → ((x : A) → p x ≡ true → q x ≡ true) → (l : List A) (i : ℕ) → is_marked (map p l) i ≡ true
        → select q (change_at i f l) ≡ change_ranked p f (rank (map p l) i) (select q l)
    select-change q weaker [] i h = refl
    select-change q weaker (x ∷ xs) zero h = rw (weaker x h, weaker (f x) (kept x ∙ h), h)
    select-change q weaker (x ∷ xs) (suc i) h =
        let ih = ap (λ (z : List A). x ∷ z) (select-change q weaker xs i h) in
        split (p x) (λ t. rw (t, weaker x t, t) ih)
        (λ t. split (q x) (λ u. rw (t, u) (ih ∙ sym (ranked-other (rank (map p xs) i) x (select q xs) t))) (λ u. rw (t, u) (select-change q weaker xs i h)))
      where
        ranked-other : (r : ℕ) (x : A) (xs : List A) → p x ≡ false → change_ranked p f r (x ∷ xs) ≡ x ∷ change_ranked p f r xs
        ranked-other zero x xs t = rw t
        ranked-other (suc r) x xs t = rw t

  pub ranked-past : (f : A → A) (r : ℕ) (l : List A) → length l ≤ r → change_ranked p f r l ≡ l
  ranked-past f r [] h = refl
  ranked-past f zero (x ∷ xs) h = absurd (not-suc-le-zero h)
  ranked-past f (suc r) (x ∷ xs) h =
      split (p x) (λ t. rw t (ap (λ (z : List A). x ∷ z) (ranked-past f r xs (le_of_suc-le-suc h))))
      (λ t. rw t (ap (λ (z : List A). x ∷ z) (ranked-past f (suc r) xs (omega arith))))

  -- the indexes of elements that pass p and e, as ranks
  module _ (e : A → Bool) where
    ranks-from : (f : ℕ → ℕ) (n m : ℕ) (l : List A) → ((i : ℕ) → f (n + i) ≡ m + rank (map p l) i) → map f (indexes_from (λ x. p x && e x) n l) ≡ indexes_from e m (select p l)
    ranks-from f n m [] h = refl
    ranks-from f n m (x ∷ xs) h =
        split (p x)
        (λ t. let ih = ranks-from f (suc n) (suc m) xs (λ i. ap f (shift i) ∙ h (suc i) ∙ rw t (omega arith)) in
        split (e x) (λ u. rw (t, u) (λ j. first j ∷ ih j)) (λ u. rw (t, u) ih))
        (λ t. rw t (ranks-from f (suc n) m xs (λ i. ap f (shift i) ∙ h (suc i) ∙ rw t)))
      where
        shift : (i : ℕ) → suc n + i ≡ n + suc i
        shift i = omega arith

        first : f n ≡ m
        first = ap f (sym (add-zero n)) ∙ h 0 ∙ add-zero m

    pub indexes-rank : (l : List A) → map (rank (map p l)) (indexes_from (λ x. p x && e x) 0 l) ≡ indexes_from e 0 (select p l)
    indexes-rank l = ranks-from (rank (map p l)) 0 0 l (λ i. zero-plus i)
      where
        zero-plus : (i : ℕ) → rank (map p l) (0 + i) ≡ 0 + rank (map p l) i
        zero-plus i = let a : 0 + i ≡ i = omega arith in rw a (omega arith)

-- without a mark every rank is 0
pub rank-none : {A : Type 0} (p : A → Bool) → ((x : A) → p x ≡ false) → (l : List A) (i : ℕ) → rank (map p l) i ≡ 0
rank-none p none [] i = refl
rank-none p none (x ∷ xs) zero = refl
rank-none p none (x ∷ xs) (suc i) = rw (none x) (rank-none p none xs i)

-- what a function of each element does to a selection, a change and to indexes
module _ {A B : Type 0} (f : A → B) where
  pub first-map : (p : A → Bool) (q : B → Bool) → ((x : A) → q (f x) ≡ p x) → (l : List A) → first_index q (map f l) ≡ first_index p l
  first-map p q same [] = refl
  first-map p q same (x ∷ xs) = λ i. cond (same x i) 0 (suc (first-map p q same xs i))

  pub select-map : (p : A → Bool) (q : B → Bool) → ((x : A) → q (f x) ≡ p x) → (l : List A) → select q (map f l) ≡ map f (select p l)
  select-map p q same [] = refl
  select-map p q same (x ∷ xs) =
      let ih = select-map p q same xs in
      split (p x) (λ t. rw (same x, t) (ap (λ (z : List B). f x ∷ z) ih)) (λ t. rw (same x, t) ih)

  pub map-change : (g : A → A) (h : B → B) → ((x : A) → f (g x) ≡ h (f x)) → (i : ℕ) (l : List A) → map f (change_at i g l) ≡ change_at i h (map f l)
  map-change g h same i [] = refl
  map-change g h same zero (x ∷ xs) = ap (λ (z : B). z ∷ map f xs) (same x)
  map-change g h same (suc i) (x ∷ xs) = ap (λ (z : List B). f x ∷ z) (map-change g h same i xs)

  pub indexes-map : (p : B → Bool) (n : ℕ) (l : List A) → indexes_from p n (map f l) ≡ indexes_from (λ x. p (f x)) n l
  indexes-map p n [] = refl
  indexes-map p n (x ∷ xs) = ap (λ (z : List ℕ). cond (p (f x)) (n ∷ z) z) (indexes-map p (suc n) xs)

-- two keys that agree on the elements of a list sort it alike
module _ {A : Type 0} (k k' : A → ℕ) where
  abbrev Same : A → Type 0
  Same x = k x ≡ k' x

  insert-same : (x : A) (l : List A) → Same x → All Same l → (insert_by k x l ≡ insert_by k' x l) × All Same (insert_by k x l)
  insert-same x [] e a = (refl, (e, tt))
  insert-same x (y ∷ ys) e a = let ih = insert-same x ys e a.1 in split (ltb (k' x) (k' y)) (λ t. rw (e, a.0, t) (refl, (e, a))) (λ t. rw (e, a.0, t) (ap (λ (z : List A). y ∷ z) ih.0, (a.0, ih.1)))

  inserts-same : (acc l : List A) → All Same acc → All Same l → foldl (λ a x. insert_by k x a) acc l ≡ foldl (λ a x. insert_by k' x a) acc l
  inserts-same acc [] a b = refl
  inserts-same acc (x ∷ xs) a b =
      let r = insert-same x acc b.0 a in
      inserts-same (insert_by k x acc) xs r.1 b.1 ∙ ap (λ (z : List A). foldl (λ a x. insert_by k' x a) z xs) r.0

  pub sort-same : (l : List A) → All Same l → sort_by k l ≡ sort_by k' l
  sort-same l a = inserts-same [] l tt a
