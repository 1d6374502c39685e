-- Laws of two lists side by side, and of a test that is computed for each element of a list. Assumes nothing.
use Prim.Native.Nat.{ℕ, zero, suc, ◌+◌, ◌<◌, min}
use mathlib.Core.Path.{◌≡◌, refl, sym, ap, ◌∙◌}
use mathlib.Core.Bool.{Bool, true}
use mathlib.Core.List.{List, [], ◌∷◌, zip_with}
use native.Mathlib.Nat.{le_of_suc-le-suc, not-suc-le-zero, zero-add, min-zero, zero-min, suc-min-suc}
use native.Mathlib.Omega.{arith}
use lib.ListN.{length, get_or}
use Rattle.lists.specs.Lists.{every}
use Rattle.std.specs.List.{zip, enumerate_from}
use Rattle.std.proofs.lemmas.Bool.{and_parts}
use Rattle.std.proofs.lemmas.List.FromFn.{length-enumerate_from, get_or-enumerate_from}
use Rattle.std.proofs.lemmas.Slice.Zip.{length-zip}

-- two lists side by side
module _ {A B C : Type 0} (f : A → B → C) where
  -- there are as many as the shorter one has
  pub zip-long : (xs : List A) (ys : List B) → length (zip_with f xs ys) ≡ min (length xs) (length ys)
  unfolding zip_with
  zip-long [] ys = sym (zero-min (length ys))
  zip-long (x ∷ xs) [] = sym (min-zero (suc (length xs)))
  zip-long (x ∷ xs) (y ∷ ys) = ap suc (zip-long xs ys) ∙ sym (suc-min-suc (length xs) (length ys))

  -- what stands at one place of both, as a loop over them with their places has it
  zip-at : (xs : List A) (ys : List B) (i : ℕ) (p : B × A) (c : C) → i < length (zip ys xs) → get_or (zip_with f xs ys) i c ≡ f (get_or (zip ys xs) i p).1 (get_or (zip ys xs) i p).0
  unfolding zip_with
  zip-at [] [] i p c h = absurd (not-suc-le-zero h)
  zip-at [] (y ∷ ys) i p c h = absurd (not-suc-le-zero h)
  zip-at (x ∷ xs) [] i p c h = absurd (not-suc-le-zero h)
  zip-at (x ∷ xs) (y ∷ ys) zero p c h = refl
  zip-at (x ∷ xs) (y ∷ ys) (suc i) p c h = zip-at xs ys i p c (le_of_suc-le-suc h)

  pub zip-turn : (xs : List A) (ys : List B) (n : ℕ) (x : ℕ × (B × A)) (c : C) → n < length (enumerate_from 0 (zip ys xs)) → x ≡ get_or (enumerate_from 0 (zip ys xs)) n x → (x.0 ≡ n) × (get_or (zip_with f xs ys) n c ≡ f x.1.1 x.1.0)
  zip-turn xs ys n x c h e =
      let l : n < length (zip ys xs) = omega (arith, length-enumerate_from 0 (zip ys xs)) in
      let p : x ≡ (0 + n, get_or (zip ys xs) n x.1) = e ∙ get_or-enumerate_from 0 (zip ys xs) n x l in
      (ap (λ (q : ℕ × (B × A)). q.0) p ∙ zero-add n, zip-at xs ys n x.1 c l ∙ sym (ap (λ (q : ℕ × (B × A)). f q.1.1 q.1.0) p))

-- how many
module _ {A B : Type 0} (xs : List A) (ys : List B) where
  pub zip-few : (n : ℕ) → n < length (enumerate_from 0 (zip ys xs)) → n < length xs
  zip-few n h = omega (arith, length-enumerate_from 0 (zip ys xs), length-zip ys xs)

  pub zip-all : length ys ≡ length xs → length (enumerate_from 0 (zip ys xs)) ≡ length xs
  zip-all h = omega (arith, length-enumerate_from 0 (zip ys xs), length-zip ys xs)

-- a fact that is computed for each element of a list
pub every-at : (p : List ℕ → Bool) (l : List (List ℕ)) (i : ℕ) → p [] ≡ true → every p l ≡ true → p (get_or l i []) ≡ true
every-at p [] i z h = z
every-at p (x ∷ xs) zero z h = (and_parts (p x) (every p xs) h).0
every-at p (x ∷ xs) (suc i) z h = every-at p xs i z (and_parts (p x) (every p xs) h).1
