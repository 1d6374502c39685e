-- The page's form: what stands in its rows, and where. Assumes nothing.
use Rattle.std.specs.Prelude.{Option, Some, None}
use Prim.Native.Nat.{ℕ, zero, suc, ◌+◌, ◌*◌, ◌/◌, ◌%◌, ◌<◌, ◌≤◌}
use mathlib.Core.Path.{◌≡◌, refl, sym, ap, subst, ◌∙◌}
use mathlib.Core.Bool.{Bool, true, false, cond}
use mathlib.Core.List.{List, [], ◌∷◌, ◌++◌, map, map-append, zip_with, flat_map}
use native.Mathlib.Nat.{mul-zero, mul-suc, not-suc-le-zero, le_of_suc-le-suc}
use native.Mathlib.Omega.{arith}
use borrow.Author.Tests.{leb-true, le-ltb, ltb-true, ltb-false}
use lib.Dec.{leb, ltb}
use lib.ListN.{length, take, drop, get_or, length-append, length-map, get_or-append}
use lib.Seq.{take_at, drop_at, drop-drop, take-take, length-take-le, get_or-take, get_or-drop, get_or-append_seam}
use Rattle.lists.specs.Lists.{over, All, every}
use Rattle.lists.proofs.Lists.{All-get_d}
use Rattle.nib.specs.LinkCost.{link_cost}
use Rattle.nib.specs.Neighbors.{blank, entry_at}
use Rattle.nib.specs.declared.NwkNeighbor.{NwkNeighbor}
use Rattle.text.specs.Text.{digit_byte, decimal_digits, decimal_text, hex_text, spaces, right_text}
use Rattle.std.proofs.lemmas.Bool.{and_parts}
use Rattle.neighbor_page.specs.Page.{spaced, row, first_row, entry_row, blank_row, slot_row, below, rows, page, too_short, written}
use Rattle.neighbor_page.specs.Statement.{characters, PageForm}
use Rattle.neighbor_page.proofs.Gathered.{rows-length, below_length}
use Rattle.neighbor_page.proofs.Form.{entry_48, rows-48, page_size}

-- Characters are bytes from the space on.

abbrev Characters : List ℕ → Type 0
Characters l = All (λ b. 32 ≤ b) l

tested : (l : List ℕ) → every (leb 32) l ≡ true → Characters l
tested [] h = tt
tested (b ∷ bs) h = let t = and_parts (leb 32 b) (every (leb 32) bs) h in (leb-true 32 b t.0, tested bs t.1)

joined : (a b : List ℕ) → Characters a → Characters b → Characters (a ++ b)
joined [] b h k = k
joined (x ∷ xs) b h k = (h.0, joined xs b h.1 k)

dropped : (n : ℕ) (l : List ℕ) → Characters l → Characters (drop n l)
dropped zero l h = h
dropped (suc n) [] h = tt
dropped (suc n) (x ∷ xs) h = dropped n xs h.1

blanks : (n : ℕ) → Characters (spaces n)
blanks zero = tt
blanks (suc n) = (omega arith, blanks n)

right_side : (w : ℕ) (t : List ℕ) → Characters t → Characters (right_text w t)
right_side w t h = dropped (length t) (spaces w ++ t) (joined (spaces w) t (blanks w) h)

digit : (d : ℕ) → 32 ≤ digit_byte d
unfolding digit_byte
digit d = go (ltb d 10)
  where
    go : (b : Bool) → 32 ≤ cond b (48 + d) (87 + d)
    go true = omega arith
    go false = omega arith

hexadecimal : (k n : ℕ) → Characters (hex_text k n)
hexadecimal zero n = tt
hexadecimal (suc k) n = joined (hex_text k (n / 16)) (digit_byte (n % 16) ∷ []) (hexadecimal k (n / 16)) (digit (n % 16), tt)

decimal : (n : ℕ) → Characters (decimal_text n)
unfolding decimal_text
decimal n = go 10 n
  where
    go : (k m : ℕ) → Characters (decimal_digits k m)
    go zero m = tt
    go (suc k) m = by (ltb m 10) (go k (m / 10))
      where
        by : (b : Bool) → Characters (decimal_digits k (m / 10)) → Characters (cond b (digit_byte m ∷ []) (decimal_digits k (m / 10) ++ (digit_byte (m % 10) ∷ [])))
        by true h = (digit m, tt)
        by false h = joined (decimal_digits k (m / 10)) (digit_byte (m % 10) ∷ []) h (digit (m % 10), tt)

-- Each row is 47 characters and a line feed.

record Row (r : List ℕ) : Type 0 where
  all : Characters (take 47 r)
  feed : get_or r 47 0 ≡ 10
  long : length r ≡ 48

-- characters with a line feed behind them
fed : (t : List ℕ) → Characters t → length (t ++ (10 ∷ [])) ≡ 48 → Row (t ++ (10 ∷ []))
fed t h n =
    let m : length t ≡ 47 = omega (arith, length-append t (10 ∷ [])) in
    record {
      all = subst Characters (sym (take_at t (10 ∷ []) 47 m)) h;
      feed = ap (λ (k : ℕ). get_or (t ++ (10 ∷ [])) k 0) (sym m) ∙ get_or-append_seam t 10 [] 0;
      long = n;
    }

first-row : Row first_row
unfolding first_row row zip_with flat_map
first-row = record { all = tested (take 47 first_row) refl; feed = refl; long = refl }

blank-row : Row blank_row
unfolding blank_row
blank-row = record { all = tested (take 47 blank_row) refl; feed = refl; long = refl }

between : (ts : List (List ℕ)) → All Characters ts → Characters (flat_map (λ u. 32 ∷ u) ts)
unfolding flat_map
between [] h = tt
between (t ∷ ts) h = (omega arith, joined t (flat_map (λ u. 32 ∷ u) ts) h.0 (between ts h.1))

entry_row_lem : (i : ℕ) (e : NwkNeighbor) → Row (entry_row i e)
unfolding entry_row row zip_with
entry_row_lem i e =
    let a = right_side 2 (decimal_text i) (decimal i) in
    let ts = right_text 4 (hex_text 4 e.network_address.0) ∷ right_text 16 (hex_text 16 e.extended_pan_id.0) ∷ right_text 4 (hex_text 4 e.pan_id.0)
    ∷ right_text 3 (decimal_text e.logical_channel) ∷ right_text 3 (decimal_text e.depth) ∷ right_text 3 (decimal_text e.lqi)
    ∷ right_text 1 (decimal_text (link_cost e.lqi)) ∷ right_text 3 (decimal_text e.relationship) ∷ [] in
    let b = between ts (
      right_side 4 (hex_text 4 e.network_address.0) (hexadecimal 4 e.network_address.0),
      (
        right_side 16 (hex_text 16 e.extended_pan_id.0) (hexadecimal 16 e.extended_pan_id.0),
        (
          right_side 4 (hex_text 4 e.pan_id.0) (hexadecimal 4 e.pan_id.0),
          (
            right_side 3 (decimal_text e.logical_channel) (decimal e.logical_channel),
            (
              right_side 3 (decimal_text e.depth) (decimal e.depth),
              (
                right_side 3 (decimal_text e.lqi) (decimal e.lqi),
                (
                  right_side 1 (decimal_text (link_cost e.lqi)) (decimal (link_cost e.lqi)),
                  (right_side 3 (decimal_text e.relationship) (decimal e.relationship), tt),
                ),
              ),
            ),
          ),
        ),
      ),
    ) in
    fed (spaced (right_text 2 (decimal_text i) ∷ ts)) (joined (right_text 2 (decimal_text i)) (flat_map (λ u. 32 ∷ u) ts) a b) (entry_48 i e)

slot_row_lem : (i : ℕ) (n : Option NwkNeighbor) → Row (slot_row i n)
unfolding slot_row
slot_row_lem i None = blank-row
slot_row_lem i (Some e) = entry_row_lem i e

all-rows : (es : List NwkNeighbor) → All Row (rows es)
all-rows es = (first-row, slots (below 16))
  where
    slots : (is : List ℕ) → All Row (map (λ i. slot_row i (entry_at es i)) is)
    slots [] = tt
    slots (i ∷ is) = (slot_row_lem i (entry_at es i), slots is)

-- Row k of rows of 48 bytes stands at byte 48 k.

at_row : (rs : List (List ℕ)) → All (λ r. length r ≡ 48) rs → (k : ℕ) → k < length rs → take 48 (drop (48 * k) (flat_map (λ r. r) rs)) ≡ get_or rs k []
unfolding flat_map
at_row [] a k h = absurd (not-suc-le-zero h)
at_row (r ∷ rs) a zero h = ap (λ (n : ℕ). take 48 (drop n (r ++ flat_map (λ r. r) rs))) (mul-zero 48) ∙ take_at r (flat_map (λ r. r) rs) 48 a.0
at_row (r ∷ rs) a (suc k) h =
    let e : 48 * suc k ≡ 48 + 48 * k = mul-suc 48 k ∙ omega arith in
    ap (λ (n : ℕ). take 48 (drop n (r ++ flat_map (λ r. r) rs))) e ∙ ap (take 48) (sym (drop-drop (48 * k) 48 (r ++ flat_map (λ r. r) rs)) ∙ ap (drop (48 * k)) (drop_at r (flat_map (λ r. r) rs) 48 a.0))
    ∙ at_row rs a.1 k (le_of_suc-le-suc h)

module _ (es : List NwkNeighbor) (k : ℕ) (h : k < 17) where
  within : k < length (rows es)
  within = omega (arith, rows-length es 16)

  this : take 48 (drop (48 * k) (page es)) ≡ get_or (rows es) k []
  unfolding page
  this = at_row (rows es) (rows-48 es) k within

  form : Row (get_or (rows es) k [])
  form = All-get_d Row (rows es) k [] (all-rows es) within

  these : characters k es ≡ take 47 (get_or (rows es) k [])
  these = sym (take-take 47 48 (drop (48 * k) (page es)) (omega arith)) ∙ ap (take 47) this

  last : get_or (page es) (48 * k + 47) 0 ≡ 10
  last = sym (get_or-drop (48 * k) (page es) 47 0) ∙ sym (get_or-take 48 (drop (48 * k) (page es)) 47 0 (omega arith)) ∙ ap (λ (r : List ℕ). get_or r 47 0) this ∙ form.feed

-- The row of a slot

slot_at : (f : ℕ → List ℕ) (n k : ℕ) → k < n → get_or (map f (below n)) k [] ≡ f k
slot_at f zero k h = absurd (not-suc-le-zero h)
slot_at f (suc n) k h = ap (λ (l : List (List ℕ)). get_or l k []) (map-append f (below n) (n ∷ [])) ∙ go (ltb k n) refl (slot_at f n k)
  where
    m : length (map f (below n)) ≡ n
    m = length-map (below n) f ∙ below_length n

    go : (b : Bool) → ltb k n ≡ b → (k < n → get_or (map f (below n)) k [] ≡ f k) → get_or (map f (below n) ++ (f n ∷ [])) k [] ≡ f k
    go true e r = let l = ltb-true k n e in get_or-append (map f (below n)) (f n ∷ []) [] k (omega (arith, m)) ∙ r l
    go false e r =
        let l = ltb-false k n e in
        let q : k ≡ n = omega arith in
        ap (λ (i : ℕ). get_or (map f (below n) ++ (f n ∷ [])) i []) (q ∙ sym m) ∙ get_or-append_seam (map f (below n)) (f n) [] [] ∙ ap f (sym q)

unused-row : (es : List NwkNeighbor) (k : ℕ) → length es ≤ k → k < 16 → characters (suc k) es ≡ spaces 47
unfolding blank_row slot_row
unused-row es k n h =
    these es (suc k) (omega arith)
    ∙ ap (take 47) (slot_at (λ i. slot_row i (entry_at es i)) 16 k h ∙ ap (λ b. slot_row k (cond b (Some (get_or es k blank)) None)) (le-ltb k (length es) n))

-- What stands in a lent buffer

front-written : (es : List NwkNeighbor) (b : List ℕ) → 816 ≤ length b → take 816 (written es b) ≡ page es
unfolding written
front-written es b h = ap (λ t. take 816 (cond t b (over b (page es)))) (le-ltb (length b) 816 h) ∙ take_at (page es) (drop (length (page es)) b) 816 (page_size es)

rest-kept : (es : List NwkNeighbor) (b : List ℕ) → drop 816 (written es b) ≡ drop 816 b
unfolding written
rest-kept es b = go (too_short (length b))
  where
    go : (t : Bool) → drop 816 (cond t b (over b (page es))) ≡ drop 816 b
    go true = refl
    go false = drop_at (page es) (drop (length (page es)) b) 816 (page_size es) ∙ ap (λ (n : ℕ). drop n b) (page_size es)

pub page-form : PageForm
unfolding page first_row entry_row blank_row slot_row row zip_with flat_map decimal_text digit_byte link_cost
page-form =
    record {
      size = page_size;
      characters-only = λ es k h. (ap length (these es k h) ∙ length-take-le 47 (get_or (rows es) k []) (omega (arith, (form es k h).long)), subst Characters (sym (these es k h)) (form es k h).all);
      line-feed = last;
      first = λ es. these es 0 (omega arith);
      widest = refl;
      usual = refl;
      unused = unused-row;
      front = front-written;
      rest = rest-kept;
    }
