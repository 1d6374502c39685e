-- Laws of the lines that are read. Assumes nothing.
use Prim.Native.Nat.{ℕ, suc, ◌+◌, ◌≤◌}
use mathlib.Core.Path.{◌≡◌, refl, sym, ap, ◌∙◌}
use mathlib.Core.Bool.{Bool, true, false, cond, false≢true, ◌&&◌}
use mathlib.Core.List.{List, [], ◌∷◌, ◌++◌, append_assoc, append-nil}
use native.Mathlib.Numerals.{unary_clauses}
use native.Mathlib.Omega.{arith}
use borrow.Author.Tests.{eqb-true, leb-true}
use lib.Dec.{eqb, leb}
use lib.ListN.{length, take, length-append}
use Rattle.std.specs.List.{prefix_len, enumerate_from, fold}
use Rattle.std.proofs.lemmas.List.Folds.{length-prefix_len}
use Rattle.nib.specs.Neighbors.{table_of, pushed}
use Rattle.nib.specs.declared.NwkNeighbor.{NwkNeighbor}
use Rattle.nib.specs.declared.NeighborTable.{NeighborTable}
use Rattle.nib.proofs.Tables.{push-of}
use Rattle.neighbor_line.specs.NeighborLine.{entry_read}
use Rattle.text.specs.Text.{parts, fields}
use Rattle.text.proofs.Parts.{parts-some}
use Rattle.text.specs.Form.{have_forms}
use Rattle.yard_list.specs.YardList.{request_forms, entry_forms, is_good, good_from, entries_in}

-- how many lines are good, in std's words
pub good-prefix : (k : ℕ) (ls : List (List ℕ)) → length (take (prefix_len (λ p. is_good p.0 p.1) (enumerate_from k ls)) (enumerate_from k ls)) ≡ good_from k ls
good-prefix k ls = length-prefix_len (λ p. is_good p.0 p.1) (enumerate_from k ls) ∙ counted k ls
  where
    counted : (k : ℕ) (ls : List (List ℕ)) → prefix_len (λ p. is_good p.0 p.1) (enumerate_from k ls) ≡ good_from k ls
    counted k [] = refl
    counted k (l ∷ ls) =
        let e : 1 + prefix_len (λ p. is_good p.0 p.1) (enumerate_from (suc k) ls) ≡ suc (good_from (suc k) ls) = omega (arith, counted (suc k) ls) in
        simp unary_clauses (ap (λ (n : ℕ). cond (is_good k l) n 0) e)

good-within : (k : ℕ) (l : List ℕ) → is_good k l ≡ true → k ≤ 16
unfolding is_good
good-within k l h = go (eqb k 0) refl (leb k 16) refl h
  where
    go : (b : Bool) → eqb k 0 ≡ b → (d : Bool) → leb k 16 ≡ d → cond b (have_forms request_forms (fields l)) (d && have_forms entry_forms (fields l)) ≡ true → k ≤ 16
    go true p d q t = omega (arith, eqb-true k 0 p)
    go false p true q t = leb-true k 16 q
    go false p false q t = absurd (false≢true t)

-- a text has a part: what stands after the last line feed
pub some_part : (t : List ℕ) → 1 ≤ length (parts 10 t)
some_part t = parts-some 10 t

-- at most 17 lines are good
pub good_few : (k : ℕ) (ls : List (List ℕ)) → k ≤ 17 → k + good_from k ls ≤ 17
good_few k [] h = omega arith
good_few k (l ∷ ls) h = go (is_good k l) refl (λ w. good_few (suc k) ls w)
  where
    go : (b : Bool) → is_good k l ≡ b → (suc k ≤ 17 → suc k + good_from (suc k) ls ≤ 17) → k + cond b (suc (good_from (suc k) ls)) 0 ≤ 17
    go true e r = let w = good-within k l e in omega (arith, r (omega arith))
    go false e r = omega arith

-- the entries of lines put behind those of a table
pub table-of : (es : List NwkNeighbor) (ls : List (List ℕ)) → length es + length ls ≤ 16 → fold (λ t l. pushed t (entry_read (fields l))) (table_of es) ls ≡ table_of (es ++ entries_in ls)
table-of es [] h = ap table_of (sym (append-nil es))
table-of es (l ∷ ls) h =
    let e = entry_read (fields l) in
    ap (λ (t : NeighborTable). fold (λ t l. pushed t (entry_read (fields l))) t ls) (push-of es e (omega arith))
    ∙ table-of (es ++ (e ∷ [])) ls (omega (arith, length-append es (e ∷ [])))
    ∙ ap table_of (append_assoc es (e ∷ []) (entries_in ls))
