-- Laws of the parts of a text. Assumes nothing.
use Prim.Native.Nat.{ℕ, suc, ◌<◌, ◌≤◌}
use mathlib.Core.Path.{◌≡◌, refl, ap, ◌∙◌}
use mathlib.Core.Bool.{Bool, true, false, cond}
use mathlib.Core.List.{List, [], ◌∷◌}
use native.Mathlib.Nat.{le_of_suc-le-suc, not-suc-le-zero}
use native.Mathlib.Omega.{arith}
use Rattle.std.specs.List.{onto_first}
use lib.Dec.{eqb}
use lib.ListN.{length, take, drop, get_or}
use Rattle.lists.specs.Lists.{first_index}
use Rattle.text.specs.Text.{parts}

onto-first : (b : ℕ) (ps : List (List ℕ)) → get_or (onto_first b ps) 0 [] ≡ b ∷ get_or ps 0 []
onto-first b [] = refl
onto-first b (p ∷ ps) = refl

pub onto-long : (b : ℕ) (ps : List (List ℕ)) → 1 ≤ length ps → length (onto_first b ps) ≡ length ps
onto-long b [] h = absurd (not-suc-le-zero h)
onto-long b (p ∷ ps) h = refl

module _ (sep : ℕ) where
  pub parts-some : (l : List ℕ) → 1 ≤ length (parts sep l)
  parts-some [] = omega arith
  parts-some (b ∷ bs) = go (eqb b sep) (parts-some bs)
    where
      go : (t : Bool) → 1 ≤ length (parts sep bs) → 1 ≤ length (cond t ([] ∷ parts sep bs) (onto_first b (parts sep bs)))
      go true h = omega arith
      go false h = omega (arith, onto-long b (parts sep bs) h)

  -- the first part ends at the first separator
  pub first_part : (l : List ℕ) → get_or (parts sep l) 0 [] ≡ take (first_index (λ b. eqb b sep) l) l
  first_part [] = refl
  first_part (b ∷ bs) = go (eqb b sep) (first_part bs)
    where
      go : (t : Bool) → get_or (parts sep bs) 0 [] ≡ take (first_index (λ c. eqb c sep) bs) bs → get_or (cond t ([] ∷ parts sep bs) (onto_first b (parts sep bs))) 0 [] ≡ take (cond t 0 (suc (first_index (λ c. eqb c sep) bs))) (b ∷ bs)
      go true h = refl
      go false h = onto-first b (parts sep bs) ∙ ap (λ (z : List ℕ). b ∷ z) h

  -- the parts, the first and the others
  pub parts_first : (l : List ℕ) → first_index (λ b. eqb b sep) l < length l → parts sep l ≡ take (first_index (λ b. eqb b sep) l) l ∷ parts sep (drop (suc (first_index (λ b. eqb b sep) l)) l)
  parts_first [] h = absurd (not-suc-le-zero h)
  parts_first (b ∷ bs) h = go (eqb b sep) (parts_first bs) h
    where
      go : (t : Bool)
          → (first_index (λ c. eqb c sep) bs < length bs → parts sep bs ≡ take (first_index (λ c. eqb c sep) bs) bs ∷ parts sep (drop (suc (first_index (λ c. eqb c sep) bs)) bs))
          → cond t 0 (suc (first_index (λ c. eqb c sep) bs)) < suc (length bs)
          → cond t ([] ∷ parts sep bs) (onto_first b (parts sep bs)) ≡ take (cond t 0 (suc (first_index (λ c. eqb c sep) bs))) (b ∷ bs) ∷ parts sep (drop (suc (cond t 0 (suc (first_index (λ c. eqb c sep) bs)))) (b ∷ bs))
      go true r h = refl
      go false r h = ap (onto_first b) (r (le_of_suc-le-suc h))

  pub parts-only : (l : List ℕ) → first_index (λ b. eqb b sep) l ≡ length l → parts sep l ≡ l ∷ []
  parts-only [] h = refl
  parts-only (b ∷ bs) h = go (eqb b sep) (parts-only bs) h
    where
      go : (t : Bool)
          → (first_index (λ c. eqb c sep) bs ≡ length bs → parts sep bs ≡ bs ∷ [])
          → cond t 0 (suc (first_index (λ c. eqb c sep) bs)) ≡ suc (length bs)
          → cond t ([] ∷ parts sep bs) (onto_first b (parts sep bs)) ≡ (b ∷ bs) ∷ []
      go true r h = let e : ⊥ = omega arith in absurd e
      go false r h = ap (onto_first b) (r (omega arith))
