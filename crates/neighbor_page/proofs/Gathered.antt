-- Laws of rows gathered one by one. Assumes nothing.
use Prim.Native.Nat.{ℕ, zero, suc, ◌+◌, ◌<◌}
use mathlib.Core.Path.{◌≡◌, refl, sym, ap, ◌∙◌}
use mathlib.Core.List.{List, [], ◌∷◌, ◌++◌, map, map-append}
use native.Mathlib.Numerals.{add-one}
use native.Mathlib.Omega.{arith}
use lib.ListN.{length, set, length-append, length-map}
use Rattle.lists.specs.Lists.{over}
use Rattle.lists.proofs.Lists.{over-snoc}
use Rattle.nib.specs.Neighbors.{entry_at}
use Rattle.nib.specs.declared.NwkNeighbor.{NwkNeighbor}
use Rattle.neighbor_page.specs.Page.{first_row, slot_row, below}

pub below_length : (n : ℕ) → length (below n) ≡ n
below_length zero = refl
below_length (suc n) = simp length-append (omega (arith, below_length n))

module _ (es : List NwkNeighbor) where
  -- the first row, and those of n slots
  abbrev pub first_rows : ℕ → List (List ℕ)
  first_rows n = first_row ∷ map (λ i. slot_row i (entry_at es i)) (below n)

  pub rows-length : (n : ℕ) → length (first_rows n) ≡ n + 1
  rows-length n = omega (arith, length-map (below n) (λ i. slot_row i (entry_at es i)), below_length n)

  rows_snoc : (n : ℕ) → first_rows (n + 1) ≡ first_rows n ++ (slot_row n (entry_at es n) ∷ [])
  rows_snoc n = ap first_rows (add-one n) ∙ ap (λ (l : List (List ℕ)). first_row ∷ l) (map-append (λ i. slot_row i (entry_at es i)) (below n) (n ∷ []))

  pub rows_next : (base out : List (List ℕ)) (n : ℕ) (x : List ℕ) → length base ≡ 17 → n < 16 → out ≡ over base (first_rows n) → x ≡ slot_row n (entry_at es n)
      → set out (n + 1) x ≡ over base (first_rows (n + 1))
  rows_next base out n x b h p q =
      (λ i. set (p i) (sym (rows-length n) i) (q i)) ∙ over-snoc base (first_rows n) (slot_row n (entry_at es n)) (omega (arith, rows-length n)) ∙ ap (over base) (sym (rows_snoc n))
