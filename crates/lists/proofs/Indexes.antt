-- Laws of the elements that pass a test, and of their indexes. Assumes nothing.
use Prim.Native.Nat.{ℕ, zero, suc, ◌+◌, ◌<◌, ◌≤◌, zero-le, suc-le-suc}
use mathlib.Core.Path.{◌≡◌, refl, sym, ap, ◌∙◌}
use mathlib.Core.Logic.{inl, inr, ⊎_elim, ◌↔◌}
use mathlib.Core.Bool.{Bool, true, false, cond, ◌&&◌}
use mathlib.Core.List.{List, [], ◌∷◌, ◌++◌}
use native.Mathlib.Nat.{add-zero, le_of_suc-le-suc, not-suc-le-zero}
use native.Mathlib.Omega.{arith}
use lib.ListN.{length, get_or}
use Rattle.lists.specs.Lists.{select, indexes_from, All}
use Rattle.lists.proofs.Order.{In, Sorted}

module _ {A : Type 0} where
  pub select-both : (p q : A → Bool) (l : List A) → select (λ x. p x && q x) l ≡ select q (select p l)
  select-both p q [] = refl
  select-both p q (x ∷ xs) = go (p x) (select-both p q xs)
    where
      go : (b : Bool) → select (λ y. p y && q y) xs ≡ select q (select p xs) → cond (b && q x) (x ∷ select (λ y. p y && q y) xs) (select (λ y. p y && q y) xs) ≡ select q (cond b (x ∷ select p xs) (select p xs))
      go true h = ap (λ (z : List A). cond (q x) (x ∷ z) z) h
      go false h = h

  module _ (p : A → Bool) where
    -- one element more at the end
    pub indexes-snoc : (n : ℕ) (l : List A) (x : A) → indexes_from p n (l ++ (x ∷ [])) ≡ indexes_from p n l ++ cond (p x) ((n + length l) ∷ []) []
    indexes-snoc n [] x = rw add-zero
    indexes-snoc n (y ∷ ys) x = go (p y) (indexes-snoc (suc n) ys x)
      where
        e : suc n + length ys ≡ n + suc (length ys)
        e = omega arith

        go : (b : Bool)
            → indexes_from p (suc n) (ys ++ (x ∷ [])) ≡ indexes_from p (suc n) ys ++ cond (p x) ((suc n + length ys) ∷ []) []
            → cond b (n ∷ indexes_from p (suc n) (ys ++ (x ∷ []))) (indexes_from p (suc n) (ys ++ (x ∷ []))) ≡ cond b (n ∷ indexes_from p (suc n) ys) (indexes_from p (suc n) ys) ++ cond (p x) ((n + suc (length ys)) ∷ []) []
        go true h = ap (λ (z : List ℕ). n ∷ z) (h ∙ rw e)
        go false h = h ∙ rw e

    pub indexes-long : (n : ℕ) (l : List A) → length (indexes_from p n l) ≤ length l
    indexes-long n [] = zero-le
    indexes-long n (y ∷ ys) = go (p y) (indexes-long (suc n) ys)
      where
        go : (b : Bool) → length (indexes_from p (suc n) ys) ≤ length ys → length (cond b (n ∷ indexes_from p (suc n) ys) (indexes_from p (suc n) ys)) ≤ suc (length ys)
        go true h = suc-le-suc h
        go false h = omega arith

    -- the indexes ascend
    indexes-from : (n m : ℕ) (l : List A) → m < n → All (λ j. m < j) (indexes_from p n l)
    indexes-from n m [] h = tt
    indexes-from n m (x ∷ xs) h = go (p x) (indexes-from (suc n) m xs (omega arith))
      where
        go : (b : Bool) → All (λ j. m < j) (indexes_from p (suc n) xs) → All (λ j. m < j) (cond b (n ∷ indexes_from p (suc n) xs) (indexes_from p (suc n) xs))
        go true r = (h, r)
        go false r = r

    pub indexes-ascend : (n : ℕ) (l : List A) → Sorted ◌<◌ (indexes_from p n l)
    indexes-ascend n [] = tt
    indexes-ascend n (x ∷ xs) = go (p x) (indexes-ascend (suc n) xs)
      where
        go : (b : Bool) → Sorted ◌<◌ (indexes_from p (suc n) xs) → Sorted ◌<◌ (cond b (n ∷ indexes_from p (suc n) xs) (indexes_from p (suc n) xs))
        go true r = (indexes-from (suc n) n xs (omega arith), r)
        go false r = r

  -- an index is among them exactly if it is one of an element that passes
  module _ (p : A → Bool) (d : A) where
    in-from : (j n : ℕ) (l : List A) → In j (indexes_from p n l) → (m : ℕ) × (j ≡ n + m) × (m < length l) × (p (get_or l m d) ≡ true)
    in-from j n [] h = absurd h
    in-from j n (x ∷ xs) h = go (p x) refl (λ i. in-from j (suc n) xs i) h
      where
        Found : Type 0
        Found = (m : ℕ) × (j ≡ n + m) × (m < suc (length xs)) × (p (get_or (x ∷ xs) m d) ≡ true)

        Later : Type 0
        Later = In j (indexes_from p (suc n) xs) → (m : ℕ) × (j ≡ suc n + m) × (m < length xs) × (p (get_or xs m d) ≡ true)

        later : Later → In j (indexes_from p (suc n) xs) → Found
        later f i = let r = f i in (suc r.0, omega (arith, r.1), suc-le-suc r.2, r.3)

        go : (b : Bool) → p x ≡ b → Later → In j (cond b (n ∷ indexes_from p (suc n) xs) (indexes_from p (suc n) xs)) → Found
        go true e f i = ⊎_elim (λ q. (zero, q ∙ sym (add-zero n), suc-le-suc zero-le, e)) (later f) i
        go false e f i = later f i

    from_in : (n m : ℕ) (l : List A) → m < length l → p (get_or l m d) ≡ true → In (n + m) (indexes_from p n l)
    from_in n m [] h t = absurd (not-suc-le-zero h)
    from_in n zero (x ∷ xs) h t = rw t (inl (add-zero n))
    from_in n (suc m) (x ∷ xs) h t = go (p x) (from_in (suc n) m xs (le_of_suc-le-suc h) t)
      where
        e : suc n + m ≡ n + suc m
        e = omega arith

        go : (b : Bool) → In (suc n + m) (indexes_from p (suc n) xs) → In (n + suc m) (cond b (n ∷ indexes_from p (suc n) xs) (indexes_from p (suc n) xs))
        go true r = inr (rw e at r)
        go false r = rw e at r

    pub in-indexes : (i : ℕ) (l : List A) → In i (indexes_from p 0 l) ↔ ((i < length l) × (p (get_or l i d) ≡ true))
    in-indexes i l = (
      λ h. let r = in-from i 0 l h in let e : r.0 ≡ i = omega (arith, r.1) in (rw (← e) r.2, rw (← e) r.3),
      λ h. let e : 0 + i ≡ i = omega arith in rw e at (from_in 0 i l h.0 h.1),
    )
