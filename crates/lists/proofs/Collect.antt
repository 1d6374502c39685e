-- Laws of what a function gives for each element of a list, in order (`select`, `flat_map`, `map`). Assumes nothing.
use Prim.Native.Nat.{ℕ, ◌+◌, ◌<◌}
use mathlib.Core.Path.{◌≡◌, refl, sym, ap, ◌∙◌}
use mathlib.Core.Bool.{Bool, true, false, cond}
use mathlib.Core.List.{List, [], ◌∷◌, ◌++◌, map, map-append, flat_map, append_assoc, append-nil}
use native.Mathlib.Omega.{arith}
use lib.ListN.{length, take, get_or, set, length-map}
use lib.Seq.{length-take-le}
use Rattle.lists.specs.Lists.{over, select}
use Rattle.std.proofs.lemmas.List.{take_more}
use Rattle.lists.proofs.Lists.{over-snoc, select-append}

module _ {A B : Type 0} (f : A → List B) where
  pub flat_map-append : (l k : List A) → flat_map f (l ++ k) ≡ flat_map f l ++ flat_map f k
  unfolding flat_map
  flat_map-append [] k = refl
  flat_map-append (x ∷ xs) k = ap (λ (z : List B). f x ++ z) (flat_map-append xs k) ∙ sym (append_assoc (f x) (flat_map f xs) (flat_map f k))

  -- one element more
  pub flat_map-next : (l : List A) (i : ℕ) (d : A) → i < length l → flat_map f (take (i + 1) l) ≡ flat_map f (take i l) ++ f (get_or l i d)
  unfolding flat_map
  flat_map-next l i d h = rw (take_more l i d h, flat_map-append (take i l) (get_or l i d ∷ []), append-nil)

  -- where a test on what is given is a test on the element, it may be made before or after
  pub select-flat_map : (p : A → Bool) (q : B → Bool) → ((x : A) → select q (f x) ≡ cond (p x) (f x) []) → (l : List A) → select q (flat_map f l) ≡ flat_map f (select p l)
  unfolding flat_map
  select-flat_map p q same [] = refl
  select-flat_map p q same (x ∷ xs) = select-append q (f x) (flat_map f xs) ∙ go (p x) (same x) (select-flat_map p q same xs)
    where
      go : (b : Bool) → select q (f x) ≡ cond b (f x) [] → select q (flat_map f xs) ≡ flat_map f (select p xs) → select q (f x) ++ select q (flat_map f xs) ≡ flat_map f (cond b (x ∷ select p xs) (select p xs))
      go true e h = rw (e, h)
      go false e h = rw (e, h)

module _ {A B : Type 0} (f : A → B) where
  -- one image more, over the front of a base
  pub map_next : (base : List B) (l : List A) (i : ℕ) (d : A) → i < length l → i < length base → set (over base (map f (take i l))) i (f (get_or l i d)) ≡ over base (map f (take (i + 1) l))
  map_next base l i d h k =
      let m = map f (take i l) in
      let n : length m ≡ i = length-map (take i l) f ∙ length-take-le i l (omega arith) in
      ap (λ (j : ℕ). set (over base m) j (f (get_or l i d))) (sym n)
      ∙ over-snoc base m (f (get_or l i d)) (omega arith)
      ∙ ap (over base) (sym (ap (map f) (take_more l i d h) ∙ map-append f (take i l) (get_or l i d ∷ [])))
