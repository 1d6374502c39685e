-- Laws of the text that is written. Assumes nothing.
use Prim.Native.Nat.{ℕ, zero, suc, ◌+◌, ◌-◌, ◌*◌, ◌^◌, ◌<◌, ◌≤◌, zero-le}
use mathlib.Core.Path.{◌≡◌, refl, sym, ap, subst, ◌∙◌}
use mathlib.Core.Bool.{Bool, true, false, cond, ◌&&◌}
use mathlib.Core.List.{List, [], ◌∷◌, ◌++◌, append_assoc, append-nil}
use native.Mathlib.Nat.{add-zero, not-suc-le-zero}
use native.Mathlib.Omega.{arith}
use borrow.Author.Tests.{eqb-true}
use lib.ListN.{length, take, drop, get_or, length-append, length-map, length-take}
use lib.Seq.{length-take-le}
use lib.Dec.{eqb, ltb}
use Rattle.lists.specs.Lists.{All}
use Rattle.std.proofs.lemmas.List.{take_more}
use Rattle.nib.specs.Neighbors.{blank, entries_of, table_of}
use Rattle.nib.specs.declared.NeighborTable.{NeighborTable}
use Rattle.nib.proofs.Tables.{entries-of}
use Rattle.candidates.specs.Candidates.{list_of, items_of}
use Rattle.candidates.specs.declared.CandidateList.{CandidateList}
use Rattle.candidates.proofs.Listed.{items-of}
use Rattle.yard_list.specs.Private.{InTable}
use Rattle.nib.specs.declared.NwkNeighbor.{NwkNeighbor}
use Rattle.candidates.proofs.Laws.{few, below}
use Rattle.neighbor_line.specs.NeighborLine.{entry_read}
use Rattle.text.specs.Text.{parts, fields, decimal_text, bad_text}
use Rattle.text.specs.Form.{hex_at, decimal_at, flag_at}
use Rattle.text.proofs.Forms.{at_most}
use Rattle.std.proofs.lemmas.Bool.{and_parts}
use Rattle.text.proofs.Numbers.{decimal-long, decimal-short}
use Rattle.yard_list.specs.YardList.{good_from, entries_in, request_candidates, row_of, rows_from, header, list_text, ended_lines, unended, yard_text}
use Rattle.yard_list.proofs.Lines.{good_few}

module _ (es : List NwkNeighbor) where
  -- one candidate more at the end
  rows_snoc : (p : ℕ) (l : List ℕ) (x : ℕ) → rows_from es p (l ++ (x ∷ [])) ≡ rows_from es p l ++ row_of (get_or es x blank) (p + length l) x
  rows_snoc p [] x = append-nil (row_of (get_or es x blank) p x) ∙ ap (λ (n : ℕ). row_of (get_or es x blank) n x) (sym (add-zero p))
  rows_snoc p (y ∷ ys) x =
      let r = row_of (get_or es y blank) p y in
      let e : suc p + length ys ≡ p + suc (length ys) = omega arith in
      ap (λ (z : List ℕ). r ++ z) (rows_snoc (suc p) ys x ∙ ap (λ (n : ℕ). rows_from es (suc p) ys ++ row_of (get_or es x blank) n x) e)
      ∙ sym (append_assoc r (rows_from es (suc p) ys) (row_of (get_or es x blank) (p + suc (length ys)) x))

  pub rows_next : (l : List ℕ) (i : ℕ) → i < length l → rows_from es 1 (take (i + 1) l) ≡ rows_from es 1 (take i l) ++ row_of (get_or es (get_or l i 0) blank) (i + 1) (get_or l i 0)
  rows_next l i h =
      let e : 1 + length (take i l) ≡ i + 1 = omega (arith, length-take-le i l (omega arith)) in
      ap (rows_from es 1) (take_more l i 0 h) ∙ rows_snoc 1 (take i l) (get_or l i 0)
      ∙ ap (λ (n : ℕ). rows_from es 1 (take i l) ++ row_of (get_or es (get_or l i 0) blank) n (get_or l i 0)) e

-- how long a line is
row-size : (e : NwkNeighbor) (p i : ℕ) → length (row_of e p i) ≡ length (decimal_text p) + (length (decimal_text i) + (length (decimal_text e.logical_channel) + length (decimal_text e.depth))) + 9
row-size e p i = simp length-append (omega arith)

-- the candidates of a request among the entries of at most 16 lines
pub in_table : (n : ℕ) (ls fs : List (List ℕ)) → n ≤ 16 → InTable (table_of (entries_in (take n ls))) (list_of (request_candidates fs (entries_of (table_of (entries_in (take n ls))))))
unfolding request_candidates
in_table n ls fs h =
    let ns = take n ls in
    let es = entries_of (table_of (entries_in ns)) in
    let l : length es ≤ 16 = omega (arith, ap length (entries-of (entries_in ns)), length-map ns (λ l. entry_read (fields l)), length-take n ls) in
    record {
      few = omega (arith, few (decimal_at 255 fs 4) (flag_at fs 2) (flag_at fs 3) (hex_at 16 fs 1) es);
      within = subst (All (λ i. i < length es)) (sym (items-of (list_of (request_candidates fs es)) (request_candidates fs es) refl)) (below (decimal_at 255 fs 4) (flag_at fs 2) (flag_at fs 3) (hex_at 16 fs 1) es);
    }

-- the text of good lines: the header, and the candidates of line 1 among the entries of the others
pub list-is : (n : ℕ) (ls : List (List ℕ)) (l : List ℕ) (t : NeighborTable) (c : CandidateList) → 0 < n → n < length ls → l ≡ get_or ls 0 [] → t ≡ table_of (entries_in (take (n - 1) (drop 1 ls)))
    → c ≡ list_of (request_candidates (fields l) (entries_of t)) → header ++ rows_from (entries_of t) 1 (items_of c) ≡ list_text (take n ls)
unfolding list_text
list-is zero ls l t c h k o p q = absurd (not-suc-le-zero h)
list-is (suc n) [] l t c h k o p q = absurd (not-suc-le-zero k)
list-is (suc n) (x ∷ xs) l t c h k o p q =
    let m : suc n - 1 ≡ n = omega arith in
    let e : entries_of t ≡ entries_in (take n xs) = ap (λ (y : NeighborTable). entries_of y) p ∙ entries-of (entries_in (take (suc n - 1) xs)) ∙ ap (λ (y : ℕ). entries_in (take y xs)) m in
    ap (λ (y : List ℕ). header ++ rows_from (entries_of t) 1 y) (items-of c (request_candidates (fields l) (entries_of t)) q)
    ∙ (λ j. header ++ rows_from (e j) 1 (request_candidates (fields (o j)) (e j)))

-- the text is never longer than 512 bytes: an entry's numbers have at most three digits
small_at : (ns : List (List ℕ)) (i : ℕ) → ((get_or (entries_in ns) i blank).logical_channel ≤ 255) × ((get_or (entries_in ns) i blank).depth ≤ 255)
unfolding entry_read
small_at [] i = (zero-le, zero-le)
small_at (l ∷ ls) zero = (at_most 255 (fields l) 3, at_most 255 (fields l) 4)
small_at (l ∷ ls) (suc i) = small_at ls i

three : (n : ℕ) → n ≤ 255 → length (decimal_text n) ≤ 3
three n h = let e : 10 ^ 3 ≡ 1000 = refl in decimal-short 2 n (omega (arith, e))

rows_short : (ns : List (List ℕ)) (p : ℕ) (l : List ℕ) → All (λ i. i < length (entries_in ns)) l → length (entries_in ns) ≤ 16 → p + length l ≤ 17 → length (rows_from (entries_in ns) p l) ≤ 21 * length l
rows_short ns p [] a n h = zero-le
rows_short ns p (i ∷ is) a n h =
    let es = entries_in ns in
    let e = get_or es i blank in
    let r : length (rows_from es (suc p) is) ≤ 21 * length is = rows_short ns (suc p) is a.1 n (omega arith) in
    let b : i ≤ 255 = omega (arith, a.0) in
    let s : length (row_of e p i) ≤ 21 = omega (arith, row-size e p i, three p (omega arith), three i b, three e.logical_channel (small_at ns i).0, three e.depth (small_at ns i).1) in
    omega (arith, length-append (row_of e p i) (rows_from es (suc p) is))

pub list-short : (ls : List (List ℕ)) → length ls ≤ 17 → length (list_text ls) ≤ 512
unfolding list_text request_candidates
list-short [] h = omega arith
list-short (l ∷ ns) h =
    let fs = fields l in
    let es = entries_in ns in
    let n : length es ≡ length ns = length-map ns (λ x. entry_read (fields x)) in
    let k = few (decimal_at 255 fs 4) (flag_at fs 2) (flag_at fs 3) (hex_at 16 fs 1) es in
    let r = rows_short ns 1 (request_candidates fs es) (below (decimal_at 255 fs 4) (flag_at fs 2) (flag_at fs 3) (hex_at 16 fs 1) es) (omega arith) (omega (arith, k)) in
    omega (arith, length-append header (rows_from es 1 (request_candidates fs es)), r, k)

pub bad-short : (n : ℕ) → length (bad_text n) ≤ 512
unfolding bad_text
bad-short n = omega (arith, length-append (decimal_text n) (10 ∷ []), decimal-long n)

-- nor is what is printed
pub yard_short : (t : List ℕ) → length (yard_text t) ≤ 512
unfolding yard_text
yard_short t = go (ltb 0 good && (eqb good ended && eqb (length (unended t)) 0)) refl
  where
    good : ℕ
    good = good_from 0 (ended_lines t)

    ended : ℕ
    ended = length (parts 10 t) - 1

    go : (b : Bool) → (ltb 0 good && (eqb good ended && eqb (length (unended t)) 0)) ≡ b → length (cond b (list_text (ended_lines t)) (bad_text (good + 1))) ≤ 512
    go true e =
        let h = and_parts (eqb good ended) (eqb (length (unended t)) 0) (and_parts (ltb 0 good) (eqb good ended && eqb (length (unended t)) 0) e).1 in
        list-short (ended_lines t) (omega (arith, eqb-true good ended h.0, good_few 0 (ended_lines t) zero-le, length-take ended (parts 10 t)))
    go false e = bad-short (good + 1)
