-- Laws of the list functions of `specs/Lists.antt`. Assumes nothing.
use Prim.Native.Nat.{ℕ, zero, suc, ◌+◌, ◌-◌, ◌<◌, ◌≤◌, zero-le, suc-le-suc}
use mathlib.Core.Path.{◌≡◌, refl, sym, ap, ◌∙◌}
use mathlib.Core.Bool.{Bool, true, false, cond}
use mathlib.Core.List.{List, [], ◌∷◌, ◌++◌, map, append_assoc, foldl}
use native.Mathlib.Numerals.{add-one}
use native.Mathlib.Omega.{arith}
use lib.ListN.{length, take, drop, get_or, set, length-map, length-append, length-take, length-drop, drop_of_length-le}
use lib.Seq.{take_all, drop-cons, take_at, drop_at, set_at, append_snoc, take-append-le, drop-append-le}
use lib.Dec.{ltb}
use native.Mathlib.Nat.{le_of_suc-le-suc, not-suc-le-zero}
use Rattle.lists.specs.Lists.{select, insert_by, over, All}
use Rattle.lists.specs.Private.{place_by, insert_at}

module _ {A : Type 0} where
  pub foldl-snoc : {B : Type 0} (f : B → A → B) (b : B) (l : List A) (x : A) → foldl f b (l ++ (x ∷ [])) ≡ f (foldl f b l) x
  foldl-snoc f b [] x = refl
  foldl-snoc f b (y ∷ ys) x = foldl-snoc f (f b y) ys x

  pub select-append : (p : A → Bool) (l k : List A) → select p (l ++ k) ≡ select p l ++ select p k
  select-append p [] k = refl
  select-append p (x ∷ xs) k = go (p x) (select-append p xs k)
    where
      go : (b : Bool) → select p (xs ++ k) ≡ select p xs ++ select p k → cond b (x ∷ select p (xs ++ k)) (select p (xs ++ k)) ≡ cond b (x ∷ select p xs) (select p xs) ++ select p k
      go true h = ap (λ (z : List A). x ∷ z) h
      go false h = h

  pub select-snoc : (p : A → Bool) (l : List A) (x : A) → select p (l ++ (x ∷ [])) ≡ select p l ++ cond (p x) (x ∷ []) []
  select-snoc p l x = select-append p l (x ∷ [])

  pub select-long : (p : A → Bool) (l : List A) → length (select p l) ≤ length l
  select-long p [] = zero-le
  select-long p (y ∷ ys) = go (p y) (select-long p ys)
    where
      go : (b : Bool) → length (select p ys) ≤ length ys → length (cond b (y ∷ select p ys) (select p ys)) ≤ suc (length ys)
      go true h = suc-le-suc h
      go false h = omega arith

  pub All-get_d : (P : A → Type 0) (l : List A) (i : ℕ) (d : A) → All P l → i < length l → P (get_or l i d)
  All-get_d P [] i d a h = absurd (not-suc-le-zero h)
  All-get_d P (x ∷ xs) zero d a h = a.0
  All-get_d P (x ∷ xs) (suc i) d a h = All-get_d P xs i d a.1 (le_of_suc-le-suc h)

  -- the place of a key
  pub place-le : (k : A → ℕ) (n : ℕ) (l : List A) → place_by k n l ≤ length l
  place-le k n [] = zero-le
  place-le k n (y ∷ ys) = cond-le (ltb n (k y)) (place-le k n ys)
    where
      cond-le : (b : Bool) {p m : ℕ} → p ≤ m → cond b 0 (suc p) ≤ suc m
      cond-le true h = zero-le
      cond-le false h = suc-le-suc h

  -- to insert by a key is to put at the key's place
  pub insert-is : (k : A → ℕ) (x : A) (l : List A) → insert_by k x l ≡ insert_at (place_by k (k x) l) x l
  insert-is k x [] = refl
  insert-is k x (y ∷ ys) = go (ltb (k x) (k y)) (place_by k (k x) ys) (insert-is k x ys)
    where
      go : (b : Bool) (p : ℕ) {r : List A} → r ≡ insert_at p x ys → cond b (x ∷ y ∷ ys) (y ∷ r) ≡ insert_at (cond b 0 (suc p)) x (y ∷ ys)
      go true p e = refl
      go false p e = ap (λ (z : List A). y ∷ z) e

  pub inserted-long : (l : List A) (p : ℕ) (x : A) → p ≤ length l → length (insert_at p x l) ≡ suc (length l)
  inserted-long l p x hp = simp (length-append, length-take, length-drop) (omega arith)

  -- x behind a list and then turned to place p, over the front of a base. s is what stands from p on, with x at its end
  pub turned : (base l : List A) (p m : ℕ) (x : A) → p ≤ length l → m ≡ length l → (a s : List A) → a ≡ over base (l ++ (x ∷ [])) → s ≡ take (m + 1 - p) (drop p a) → take p a ++ ((drop (length s - 1) s ++ take (length s - 1) s) ++ drop (m + 1 - p) (drop p a)) ≡ over base (insert_at p x l)
  turned base l p m x hp em a s ea es =
      rw (take-is, after-is, s-is, drop_at t (x ∷ []) (length (t ++ (x ∷ [])) - 1) k, take_at t (x ∷ []) (length (t ++ (x ∷ [])) - 1) k, long)
      (sym (append_assoc (take p l) (x ∷ t) r))
    where
      r : List A
      r = drop (length (l ++ (x ∷ []))) base

      t : List A
      t = drop p l

      short : p ≤ length (l ++ (x ∷ []))
      short = omega (arith, length-append l (x ∷ []))

      take-is : take p a ≡ take p l
      take-is = rw ea (take-append-le p (l ++ (x ∷ [])) r short ∙ take-append-le p l (x ∷ []) hp)

      drop-is : drop p a ≡ (t ++ (x ∷ [])) ++ r
      drop-is = rw ea (drop-append-le p (l ++ (x ∷ [])) r short ∙ ap (λ (z : List A). z ++ r) (drop-append-le p l (x ∷ []) hp))

      n : length (t ++ (x ∷ [])) ≡ m + 1 - p
      n = omega (arith, length-append t (x ∷ []), length-drop p l)

      k : length t ≡ length (t ++ (x ∷ [])) - 1
      k = omega (arith, length-append t (x ∷ []))

      s-is : s ≡ t ++ (x ∷ [])
      s-is = es ∙ rw drop-is (take_at (t ++ (x ∷ [])) r (m + 1 - p) n)

      after-is : drop (m + 1 - p) (drop p a) ≡ r
      after-is = rw drop-is (drop_at (t ++ (x ∷ [])) r (m + 1 - p) n)

      long : length (insert_at p x l) ≡ length (l ++ (x ∷ []))
      long = omega (arith, inserted-long l p x hp, length-append l (x ∷ []))

  pub insert-last : (l : List A) (n : ℕ) (x : A) → length l ≡ n → insert_at n x l ≡ l ++ (x ∷ [])
  insert-last l n x e = let h : length l ≤ n = omega arith in rw (take_all n l h, drop_of_length-le l h)

  -- one element more, over the front of a base
  pub over-snoc : (base l : List A) (x : A) → length l < length base → set (over base l) (length l) x ≡ over base (l ++ (x ∷ []))
  over-snoc base l x h =
      rw (drop-cons base (length l) x h)
      (set_at l (get_or base (length l) x) (drop (suc (length l)) base) x (length l) refl
      ∙ rw (length-append l (x ∷ []), add-one (length l)) (sym (append_snoc l x (drop (suc (length l)) base))))

  pub over-take : (base l : List A) → take (length l) (over base l) ≡ l
  over-take base l = take_at l (drop (length l) base) (length l) refl

-- the length of an array whose elements are structs, from what owning it tells
pub length-mapped : (X Y : Type 0) (f : X → Y) (l : List X) (n : ℕ) → length (map f l) ≡ n → length l ≡ n
length-mapped X Y f l n p = sym (length-map l f) ∙ p
