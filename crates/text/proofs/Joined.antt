-- Laws of parts that are joined. Assumes nothing.
use Prim.Native.Nat.{ℕ, suc, ◌+◌, ◌≤◌}
use mathlib.Core.Path.{◌≡◌, refl, sym, ap, ◌∙◌}
use mathlib.Core.Bool.{Bool, true, false, cond}
use mathlib.Core.List.{List, [], ◌∷◌, ◌++◌, append_assoc}
use native.Mathlib.Nat.{not-suc-le-zero}
use native.Mathlib.Omega.{arith}
use borrow.Author.Tests.{eq-eqb}
use lib.Dec.{eqb}
use lib.ListN.{length}
use Rattle.std.specs.List.{onto_first, join_with_byte}
use Rattle.std.proofs.lemmas.List.Splits.{slice_split-cons_yes, join_with_byte-slice_split}
use Rattle.lists.specs.Lists.{All}
use Rattle.text.specs.Text.{parts}
use Rattle.text.proofs.Parts.{parts-some, onto-long}

onto-append : (b : ℕ) (ps qs : List (List ℕ)) → 1 ≤ length ps → onto_first b (ps ++ qs) ≡ onto_first b ps ++ qs
onto-append b [] qs h = absurd (not-suc-le-zero h)
onto-append b (p ∷ ps) qs h = refl

-- one part more behind others
pub join-more : (sep : ℕ) (ps : List (List ℕ)) (q : List ℕ) → 1 ≤ length ps → join_with_byte sep (ps ++ (q ∷ [])) ≡ join_with_byte sep ps ++ (sep ∷ q)
join-more sep [] q h = absurd (not-suc-le-zero h)
join-more sep (p ∷ []) q h = refl
join-more sep (p ∷ o ∷ ps) q h = ap (λ (l : List ℕ). p ++ (sep ∷ l)) (join-more sep (o ∷ ps) q (omega arith)) ∙ sym (append_assoc p (sep ∷ join_with_byte sep (o ∷ ps)) (sep ∷ q))

module _ (sep : ℕ) where
  -- the parts of two texts with a separator between them
  pub parts-behind : (a b : List ℕ) → parts sep (a ++ (sep ∷ b)) ≡ parts sep a ++ parts sep b
  parts-behind [] b = slice_split-cons_yes (λ x. eqb x sep) sep b (eq-eqb sep sep refl)
  parts-behind (x ∷ a) b = go (eqb x sep) (parts-behind a b)
    where
      go : (t : Bool) → parts sep (a ++ (sep ∷ b)) ≡ parts sep a ++ parts sep b
          → cond t ([] ∷ parts sep (a ++ (sep ∷ b))) (onto_first x (parts sep (a ++ (sep ∷ b)))) ≡ cond t ([] ∷ parts sep a) (onto_first x (parts sep a)) ++ parts sep b
      go true h = ap (λ (l : List (List ℕ)). [] ∷ l) h
      go false h = ap (onto_first x) h ∙ onto-append x (parts sep a) (parts sep b) (parts-some sep a)

  -- two texts one behind the other have a part less than each has by itself
  pub parts-long : (a b : List ℕ) → suc (length (parts sep (a ++ b))) ≡ length (parts sep a) + length (parts sep b)
  parts-long [] b = omega arith
  parts-long (x ∷ a) b = go (eqb x sep) (parts-long a b)
    where
      go : (t : Bool) → suc (length (parts sep (a ++ b))) ≡ length (parts sep a) + length (parts sep b)
          → suc (length (cond t ([] ∷ parts sep (a ++ b)) (onto_first x (parts sep (a ++ b))))) ≡ length (cond t ([] ∷ parts sep a) (onto_first x (parts sep a))) + length (parts sep b)
      go true h = omega (arith, h)
      go false h = omega (arith, h, onto-long x (parts sep (a ++ b)) (parts-some sep (a ++ b)), onto-long x (parts sep a) (parts-some sep a))

  -- a text without separators is its only part
  abbrev pub Whole : List ℕ → Type 0
  Whole t = parts sep t ≡ t ∷ []

  pub one-whole : (t : List ℕ) → length (parts sep t) ≡ 1 → Whole t
  one-whole t h = go (parts sep t) (join_with_byte-slice_split sep t) h
    where
      go : (ps : List (List ℕ)) → join_with_byte sep ps ≡ t → length ps ≡ 1 → ps ≡ t ∷ []
      go [] j l = let x : ⊥ = omega (arith, l) in absurd x
      go (p ∷ []) j l = ap (λ (q : List ℕ). q ∷ []) j
      go (p ∷ q ∷ ps) j l = let x : ⊥ = omega (arith, l) in absurd x

  -- the parts of a text are such texts
  pub parts-whole : (t : List ℕ) → All Whole (parts sep t)
  parts-whole [] = (refl, tt)
  parts-whole (b ∷ t) = go (eqb b sep) refl (parts sep t) (parts-whole t)
    where
      go : (c : Bool) → eqb b sep ≡ c → (ps : List (List ℕ)) → All Whole ps → All Whole (cond c ([] ∷ ps) (onto_first b ps))
      go true e ps h = (refl, h)
      go false e [] h = (ap (λ (c : Bool). cond c ([] ∷ [] ∷ []) ((b ∷ []) ∷ [])) e, tt)
      go false e (p ∷ ps) h = (ap (λ (c : Bool). cond c ([] ∷ parts sep p) (onto_first b (parts sep p))) e ∙ ap (onto_first b) h.0, h.1)

  -- such texts, joined, are the parts
  pub parts-joined : (ps : List (List ℕ)) → 1 ≤ length ps → All Whole ps → parts sep (join_with_byte sep ps) ≡ ps
  parts-joined [] h w = absurd (not-suc-le-zero h)
  parts-joined (p ∷ []) h w = w.0
  parts-joined (p ∷ q ∷ ps) h w =
      parts-behind p (join_with_byte sep (q ∷ ps)) ∙ ap (λ (l : List (List ℕ)). l ++ parts sep (join_with_byte sep (q ∷ ps))) w.0
      ∙ ap (λ (l : List (List ℕ)). p ∷ l) (parts-joined (q ∷ ps) (omega arith) w.1)
