-- The first 2,048 bytes of an input are enough: its yard list is that of the whole. A good line has at most 66 bytes with its line feed, and there are at
-- most 17. Assumes nothing.
use Prim.Native.Nat.{ℕ, zero, suc, ◌+◌, ◌-◌, ◌*◌, ◌<◌, ◌≤◌, min}
use mathlib.Core.Path.{◌≡◌, refl, sym, ap, ◌∙◌}
use mathlib.Core.Bool.{Bool, true, false, cond, false≢true, ◌&&◌}
use mathlib.Core.List.{List, [], ◌∷◌}
use native.Mathlib.Nat.{zero-min, min-zero, suc-min-suc}
use native.Mathlib.Omega.{arith}
use borrow.Author.Tests.{ltb-true, ltb-false, leb-true, leb-false, eqb-true}
use lib.Dec.{ltb, leb, eqb}
use lib.ListN.{length, take, drop, get_or, length-drop}
use lib.Seq.{take_all, take-take, take-add, drop_at, length-take-le}
use Rattle.lists.specs.Lists.{first_index}
use Rattle.lists.proofs.First.{first-le}
use Rattle.text.specs.Text.{parts, fields, decimal_text, bad_text}
use Rattle.std.proofs.lemmas.Bool.{and_parts}
use Rattle.text.proofs.Parts.{parts-some, parts_first, parts-only}
use Rattle.text.specs.Form.{have_forms}
use Rattle.text.proofs.Sizes.{total, total-parts}
use Rattle.text.proofs.Forms.{line-size}
use Rattle.neighbor_line.specs.NeighborLine.{entry_forms}
use Rattle.yard_list.specs.YardList.{request_forms, is_good, good_from, list_text, ended_lines, unended, yard_text}
use Rattle.yard_list.proofs.Lines.{good_few}

good-size : (k : ℕ) (l : List ℕ) → is_good k l ≡ true → length l ≤ 65
unfolding is_good decimal_text
good-size k l h = go (eqb k 0) (leb k 16) h
  where
    go : (b d : Bool) → cond b (have_forms request_forms (fields l)) (d && have_forms entry_forms (fields l)) ≡ true → length l ≤ 65
    go true d t =
        let s : total (fields l) ≤ 33 = line-size request_forms (fields l) refl t in
        omega (arith, total-parts 9 l)
    go false true t =
        let s : total (fields l) ≤ 66 = line-size entry_forms (fields l) refl t in
        omega (arith, total-parts 9 l)
    go false false t = absurd (false≢true t)

-- the first line feed
abbrev first : List ℕ → ℕ
first t = first_index (λ b. eqb b 10) t

first-take : (m : ℕ) (t : List ℕ) → first (take m t) ≡ min (first t) (length (take m t))
first-take zero t = sym (min-zero (first t))
first-take (suc m) [] = sym (zero-min 0)
first-take (suc m) (x ∷ xs) = go (eqb x 10) (first-take m xs)
  where
    go : (b : Bool) → first (take m xs) ≡ min (first xs) (length (take m xs)) → cond b 0 (suc (first (take m xs))) ≡ min (cond b 0 (suc (first xs))) (suc (length (take m xs)))
    go true h = sym (zero-min (suc (length (take m xs))))
    go false h = ap suc h ∙ sym (suc-min-suc (first xs) (length (take m xs)))

-- what a text with a line feed has, and a text with none
module _ (t : List ℕ) (h : first t < length t) where
  abbrev rest : List ℕ
  rest = drop (suc (first t)) t

  parts_more : length (parts 10 t) - 1 ≡ suc (length (parts 10 rest) - 1)
  parts_more = omega (arith, ap length (parts_first 10 t h), parts-some 10 rest)

  ended-more : ended_lines t ≡ take (first t) t ∷ ended_lines rest
  ended-more = (λ j. take (parts_more j) (parts_first 10 t h j))

  unended-more : unended t ≡ unended rest
  unended-more = (λ j. get_or (parts_first 10 t h j) (parts_more j) [])

module _ (t : List ℕ) (h : first t ≡ length t) where
  ended-none : ended_lines t ≡ []
  ended-none = (λ j. take (length (parts-only 10 t h j) - 1) (parts-only 10 t h j))

  unended-all : unended t ≡ t
  unended-all = (λ j. get_or (parts-only 10 t h j) (length (parts-only 10 t h j) - 1) [])

drop-take : (n m : ℕ) (t : List ℕ) → n ≤ m → m ≤ length t → drop n (take m t) ≡ take (m - n) (drop n t)
drop-take n m t h l =
    let e : m ≡ n + (m - n) = omega arith in
    ap (drop n) (ap (λ (k : ℕ). take k t) e ∙ take-add n (m - n) t) ∙ drop_at (take n t) (take (m - n) (drop n t)) n (length-take-le n t (omega arith))

-- as many lines are good in a front that is long enough
same_good : (d k : ℕ) (t : List ℕ) (m : ℕ) → k + d ≡ 17 → 66 * d < m → m ≤ length t → good_from k (ended_lines (take m t)) ≡ good_from k (ended_lines t)
same_good zero k t m e l h = omega (arith, good_few k (ended_lines (take m t)) (omega arith), good_few k (ended_lines t) (omega arith))
same_good (suc d) k t m e l h = go (λ s n a b. same_good d (suc k) s n (omega arith) a b) (ltb (first t) (length t)) refl (ltb (first t) m) refl
  where
    Next : Type 0
    Next = (s : List ℕ) (n : ℕ) → 66 * d < n → n ≤ length s → good_from (suc k) (ended_lines (take n s)) ≡ good_from (suc k) (ended_lines s)

    long : length (take m t) ≡ m
    long = length-take-le m t h

    none : first t ≡ length t → good_from k (ended_lines (take m t)) ≡ good_from k (ended_lines t)
    none n = ap (good_from k) (ended-none (take m t) (omega (arith, first-take m t, long)) ∙ sym (ended-none t n))

    far : (w : first t < length t) → m ≤ first t → (b : Bool) → is_good k (take (first t) t) ≡ b → 0 ≡ cond b (suc (good_from (suc k) (ended_lines (rest t w)))) 0
    far w f true q = let x : ⊥ = omega (arith, good-size k (take (first t) t) q, length-take-le (first t) t (omega arith)) in absurd x
    far w f false q = refl

    step : Next → (w : first t < length t) (b : Bool) → is_good k (take (first t) t) ≡ b → first t < m → cond b (suc (good_from (suc k) (ended_lines (take (m - suc (first t)) (rest t w))))) 0 ≡ cond b (suc (good_from (suc k) (ended_lines (rest t w)))) 0
    step next w true q f =
        let s : first t ≤ 65 = omega (arith, good-size k (take (first t) t) q, length-take-le (first t) t (omega arith)) in
        ap suc (next (rest t w) (m - suc (first t)) (omega arith) (omega (arith, length-drop (suc (first t)) t)))
    step next w false q f = refl

    near : Next → (w : first t < length t) → (f : first t < m) → good_from k (ended_lines (take m t)) ≡ good_from k (ended_lines t)
    near next w f =
        let i : first (take m t) ≡ first t = omega (arith, first-take m t, long) in
        let v : first (take m t) < length (take m t) = omega (arith, long) in
        let a : take (first (take m t)) (take m t) ≡ take (first t) t = ap (λ (n : ℕ). take n (take m t)) i ∙ take-take (first t) m t (omega arith) in
        let z : rest (take m t) v ≡ take (m - suc (first t)) (rest t w) = ap (λ (n : ℕ). drop (suc n) (take m t)) i ∙ drop-take (suc (first t)) m t (omega arith) h in
        ap (good_from k) (ended-more (take m t) v ∙ (λ j. a j ∷ ended_lines (z j)))
        ∙ step next w (is_good k (take (first t) t)) refl f
        ∙ ap (good_from k) (sym (ended-more t w))

    go : Next → (b : Bool) → ltb (first t) (length t) ≡ b → (c : Bool) → ltb (first t) m ≡ c → good_from k (ended_lines (take m t)) ≡ good_from k (ended_lines t)
    go next true p true q = near next (ltb-true (first t) (length t) p) (ltb-true (first t) m q)
    go next true p false q =
        let w = ltb-true (first t) (length t) p in
        let f = ltb-false (first t) m q in
        ap (good_from k) (ended-none (take m t) (omega (arith, first-take m t, long)))
        ∙ far w f (is_good k (take (first t) t)) refl
        ∙ ap (good_from k) (sym (ended-more t w))
    go next false p c q = let f = ltb-false (first t) (length t) p in none (omega (arith, first-le (λ b. eqb b 10) t))

-- a text all of whose lines are good is short; `shorter` says it of what follows the first line
right-step : (d k : ℕ) (t : List ℕ) → k + d ≡ 17 → good_from k (ended_lines t) ≡ length (parts 10 t) - 1 → length (unended t) ≡ 0
    → ((j : ℕ) → d ≡ suc j → (s : List ℕ) → good_from (suc k) (ended_lines s) ≡ length (parts 10 s) - 1 → length (unended s) ≡ 0 → length s ≤ 66 * j)
    → length t ≤ 66 * d
right-step d k t e g u shorter = go (ltb (first t) (length t)) refl
  where
    only : first t ≡ length t → length t ≡ 0
    only n = ap length (sym (unended-all t n)) ∙ u

    more : (w : first t < length t) (b : Bool) → is_good k (take (first t) t) ≡ b → cond b (suc (good_from (suc k) (ended_lines (rest t w)))) 0 ≡ suc (length (parts 10 (rest t w)) - 1) → length t ≤ 66 * d
    more w true q c =
        let s : first t ≤ 65 = omega (arith, good-size k (take (first t) t) q, length-take-le (first t) t (omega arith)) in
        let f : 1 ≤ d = omega (arith, good_few k (ended_lines t) (omega arith), parts_more t w) in
        let r = shorter (d - 1) (omega arith) (rest t w) (omega arith) (ap length (sym (unended-more t w)) ∙ u) in
        omega (arith, length-drop (suc (first t)) t)
    more w false q c = let x : ⊥ = omega arith in absurd x

    go : (b : Bool) → ltb (first t) (length t) ≡ b → length t ≤ 66 * d
    go true p =
        let w = ltb-true (first t) (length t) p in
        more w (is_good k (take (first t) t)) refl (ap (good_from k) (sym (ended-more t w)) ∙ g ∙ parts_more t w)
    go false p = let f = ltb-false (first t) (length t) p in omega (arith, only (omega (arith, first-le (λ b. eqb b 10) t)))

right-short : (d k : ℕ) (t : List ℕ) → k + d ≡ 17 → good_from k (ended_lines t) ≡ length (parts 10 t) - 1 → length (unended t) ≡ 0 → length t ≤ 66 * d
right-short zero k t e g u = right-step zero k t e g u (λ j x s a b. let y : ⊥ = omega arith in absurd y)
right-short (suc d) k t e g u = right-step (suc d) k t e g u (λ j x s a b. omega (arith, right-short d (suc k) s (omega arith) a b))

long-bad : (t : List ℕ) → 1122 < length t → yard_text t ≡ bad_text (good_from 0 (ended_lines t) + 1)
unfolding yard_text
long-bad t h = go (ltb 0 k && (eqb k n && eqb (length (unended t)) 0)) refl
  where
    k : ℕ
    k = good_from 0 (ended_lines t)

    n : ℕ
    n = length (parts 10 t) - 1

    go : (b : Bool) → (ltb 0 k && (eqb k n && eqb (length (unended t)) 0)) ≡ b → cond b (list_text (ended_lines t)) (bad_text (k + 1)) ≡ bad_text (k + 1)
    go true e =
        let a = and_parts (eqb k n) (eqb (length (unended t)) 0) (and_parts (ltb 0 k) (eqb k n && eqb (length (unended t)) 0) e).1 in
        let s = right-short 17 0 t refl (eqb-true k n a.0) (eqb-true (length (unended t)) 0 a.1) in
        let x : ⊥ = omega arith in
        absurd x
    go false e = refl

pub cut-is-enough : (t : List ℕ) → yard_text (take 2048 t) ≡ yard_text t
cut-is-enough t = go (leb (length t) 2048) refl
  where
    go : (b : Bool) → leb (length t) 2048 ≡ b → yard_text (take 2048 t) ≡ yard_text t
    go true e = ap yard_text (take_all 2048 t (leb-true (length t) 2048 e))
    go false e =
        let h = leb-false (length t) 2048 e in
        let l : length (take 2048 t) ≡ 2048 = length-take-le 2048 t (omega arith) in
        long-bad (take 2048 t) (omega arith)
        ∙ ap (λ (n : ℕ). bad_text (n + 1)) (same_good 17 0 t 2048 refl (omega arith) (omega arith))
        ∙ sym (long-bad t (omega arith))
