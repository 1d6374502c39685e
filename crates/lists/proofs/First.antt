-- Laws of the first element that passes a test. Assumes nothing.
use Prim.Native.Nat.compare
use Prim.Native.Nat.{ℕ, suc, ◌+◌, ◌≤◌, zero-le, suc-le-suc}
use mathlib.Core.Path.{◌≡◌, refl, sym, ap}
use mathlib.Core.Bool.{Bool, true, false, cond, ◌||◌}
use mathlib.Core.List.{List, [], ◌∷◌}
use native.Mathlib.Omega.{arith}
use lib.Dec.{ltb}
use borrow.Author.Tests.{lt-ltb, ltb-false}
use lib.ListN.{length, get_or}
use Rattle.std.specs.List.{find, list_any, position, position_or_len}
use Rattle.std.specs.Prelude.{Some, None}
use Rattle.std.specs.Option.{unwrap_or}
use Rattle.std.proofs.lemmas.List.Recursion.{is_position_or_len}
use Rattle.lists.proofs.Conditions.{split}
use Rattle.lists.specs.Lists.{first_index, some, change_at, change_first}

module _ {A : Type 0} (p : A → Bool) where
  pub first-le : (l : List A) → first_index p l ≤ length l
  first-le [] = zero-le
  first-le (x ∷ xs) = go (p x) (first-le xs)
    where
      go : (b : Bool) {n m : ℕ} → n ≤ m → cond b 0 (suc n) ≤ suc m
      go true h = zero-le
      go false h = suc-le-suc h

  -- the library's words for it: the index, and the element itself
  pub first-place : (l : List A) → first_index p l ≡ position_or_len p l
  first-place l = is_position_or_len (first_index p) p refl (λ x xs. let e : suc (first_index p xs) ≡ 1 + first_index p xs = omega arith in ap (λ (n : ℕ). cond (p x) 0 n) e) l

  pub first-found : (l : List A) → unwrap_or (position p l) (length l) ≡ first_index p l
  first-found l = rw (sym (first-place l)) (go (first_index p l) (length l) (first-le l))
    where
      go : (i n : ℕ) → i ≤ n → unwrap_or (cond (ltb i n) (Some i) None) n ≡ i
      go i n h = split (ltb i n) (λ t. rw t) (λ t. rw t (let k : n ≤ i = ltb-false i n t in omega arith))

  pub first-at : (l : List A) (d : A) → cond (ltb (first_index p l) (length l)) (Some (get_or l (first_index p l) d)) None ≡ find p l
  first-at [] d = refl
  first-at (x ∷ xs) d = go (p x) (first-at xs d)
    where
      go : (b : Bool) → cond (ltb (first_index p xs) (length xs)) (Some (get_or xs (first_index p xs) d)) None ≡ find p xs → cond (ltb (cond b 0 (suc (first_index p xs))) (suc (length xs))) (Some (get_or (x ∷ xs) (cond b 0 (suc (first_index p xs))) d)) None ≡ cond b (Some x) (find p xs)
      go true h = rw (lt-ltb 0 (suc (length xs)) (suc-le-suc zero-le))
      go false h = rw compare.suc-suc h

  pub first-or : (l : List A) (d : A) → unwrap_or (find p l) d ≡ get_or l (first_index p l) d
  first-or [] d = refl
  first-or (x ∷ xs) d = go (p x) (first-or xs d)
    where
      go : (b : Bool) → unwrap_or (find p xs) d ≡ get_or xs (first_index p xs) d → unwrap_or (cond b (Some x) (find p xs)) d ≡ get_or (x ∷ xs) (cond b 0 (suc (first_index p xs))) d
      go true h = refl
      go false h = h

  -- whether one passes, in the library's words
  pub some-any : (l : List A) → some p l ≡ list_any p l
  some-any [] = refl
  some-any (x ∷ xs) = go (p x) (some-any xs)
    where
      go : (b : Bool) → some p xs ≡ list_any p xs → cond b true (some p xs) ≡ (b || list_any p xs)
      go true h = refl
      go false h = h

  -- to change the first that passes is to change at its place
  pub change-first : (f : A → A) (l : List A) → change_first p f l ≡ change_at (first_index p l) f l
  change-first f [] = refl
  change-first f (x ∷ xs) = go (p x) (change-first f xs)
    where
      go : (b : Bool) → change_first p f xs ≡ change_at (first_index p xs) f xs → cond b (f x ∷ xs) (x ∷ change_first p f xs) ≡ change_at (cond b 0 (suc (first_index p xs))) f (x ∷ xs)
      go true h = refl
      go false h = ap (λ (z : List A). x ∷ z) h
