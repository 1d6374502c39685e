-- Laws of how long rows are, and how many bytes they are together. Assumes nothing.
use Rattle.std.specs.Prelude.{Option, Some, None}
use Prim.Native.Nat.{ℕ, zero, suc, ◌+◌, ◌-◌, ◌*◌, ◌≤◌}
use mathlib.Core.Path.{◌≡◌, refl, sym, ap, subst, ◌∙◌}
use mathlib.Core.List.{List, [], ◌∷◌, ◌++◌, append-nil, append_assoc, map, zip_with, flat_map}
use native.Mathlib.Nat.{mul-zero, mul-suc}
use native.Mathlib.Omega.{arith}
use lib.ListN.{length, take, drop, drop_of_length-le, length-append, length-drop}
use lib.Seq.{sets, sets-eq, take_all, length-take-le, drop-drop}
use borrow.Rule.Slice.PartMut.{put_mid}
use Rattle.lists.specs.Lists.{All}
use Rattle.lists.proofs.Bytes.{sets_over}
use Rattle.text.specs.declared.writer.Writer.{Writer}
use Rattle.text.specs.Writer.{with_text}
use Rattle.text.proofs.Written.{from_start}
use Rattle.nib.specs.Neighbors.{entry_at}
use Rattle.nib.specs.LinkCost.{link_cost}
use Rattle.nib.specs.declared.NwkNeighbor.{NwkNeighbor}
use Rattle.text.specs.Text.{decimal_text, hex_text, right_text}
use Rattle.text.proofs.Numbers.{hex-long, right-long}
use Rattle.neighbor_page.specs.Page.{row, first_row, entry_row, blank_row, slot_row, below, rows, page}
use Rattle.neighbor_page.specs.Private.{hex_column, number_column}
use Rattle.neighbor_page.proofs.Rows.{columns}
use Rattle.neighbor_page.proofs.Gathered.{rows-length}

-- a text as long as the buffer, written from its start, is all that the buffer holds
pub filled : (w : Writer) (t : List ℕ) → w.at ≡ 0 → length t ≡ length w.out.now → (with_text w t).out.now ≡ t
filled w t z h =
    (from_start w t z (omega (arith, h))).1 ∙ ap (λ (l : List ℕ). t ++ l) (drop_of_length-le w.out.now (omega (arith, h))) ∙ append-nil t

first-48 : length first_row ≡ 48
unfolding first_row row zip_with flat_map
first-48 = refl

blank-48 : length blank_row ≡ 48
unfolding blank_row
blank-48 = refl

number-size : (w n end : ℕ) → length (number_column w n end) ≡ w + 1
unfolding number_column
number-size w n end = omega (arith, length-append (right_text w (decimal_text n)) (end ∷ []), right-long w (decimal_text n))

hex-size : (w n : ℕ) → length (hex_column w n) ≡ w + 1
unfolding hex_column
hex-size w n = omega (arith, length-append (hex_text w n) (32 ∷ []), hex-long w n)

pub entry_48 : (i : ℕ) (e : NwkNeighbor) → length (entry_row i e) ≡ 48
unfolding entry_row
entry_48 i e =
    ap length (columns i e.network_address.0 e.extended_pan_id.0 e.pan_id.0 e.logical_channel e.depth e.lqi (link_cost e.lqi) e.relationship) ∙ simp (length-append, number-size, hex-size)

slot-48 : (i : ℕ) (n : Option NwkNeighbor) → length (slot_row i n) ≡ 48
unfolding slot_row
slot-48 i None = blank-48
slot-48 i (Some e) = entry_48 i e

slots-48 : (es : List NwkNeighbor) (is : List ℕ) → All (λ r. length r ≡ 48) (map (λ i. slot_row i (entry_at es i)) is)
slots-48 es [] = tt
slots-48 es (i ∷ is) = (slot-48 i (entry_at es i), slots-48 es is)

pub rows-48 : (es : List NwkNeighbor) → All (λ r. length r ≡ 48) (rows es)
rows-48 es = (first-48, slots-48 es (below 16))

-- rows one behind the other
flat-length : (rs : List (List ℕ)) → All (λ r. length r ≡ 48) rs → length (flat_map (λ r. r) rs) ≡ 48 * length rs
unfolding flat_map
flat-length [] a = sym (mul-zero 48)
flat-length (r ∷ rs) a = length-append r (flat_map (λ r. r) rs) ∙ omega (arith, a.0, flat-length rs a.1, mul-suc 48 (length rs))

pub page_size : (es : List NwkNeighbor) → length (page es) ≡ 816
unfolding page
page_size es = flat-length (rows es) (rows-48 es) ∙ ap (λ (n : ℕ). 48 * n) (rows-length es 16)

take-all-of : (k : ℕ) (l : List (List ℕ)) → All (λ r. length r ≡ 48) l → All (λ r. length r ≡ 48) (take k l)
take-all-of zero l a = tt
take-all-of (suc k) [] a = tt
take-all-of (suc k) (x ∷ xs) a = (a.0, take-all-of k xs a.1)

-- a text that is stored at the start of the part of a buffer from a place on
pub part_stored : (b part r : List ℕ) (at : ℕ) → at + length r ≤ length b → part ≡ sets (take (length b - at) (drop at b)) 0 r → put_mid at (length b - at) b part ≡ sets b at r
part_stored b part r at h q =
    let t : take (length b - at) (drop at b) ≡ drop at b = take_all (length b - at) (drop at b) (omega (arith, length-drop at b)) in
    let z : drop (length b - at) (drop at b) ≡ [] = drop_of_length-le (drop at b) {i = length b - at} (omega (arith, length-drop at b)) in
    let p : part ≡ r ++ drop (at + length r) b =
    q ∙ ap (λ (l : List ℕ). sets l 0 r) t ∙ sets_over (drop at b) r (omega (arith, length-drop at b))
    ∙ ap (λ (l : List ℕ). r ++ l) (drop-drop (length r) at b) in
    (λ i. take at b ++ (p i ++ z i)) ∙ ap (λ (l : List ℕ). take at b ++ l) (append-nil (r ++ drop (at + length r) b))
    ∙ sym (sets-eq r b at h ∙ append_assoc (take at b) r (drop (at + length r) b))

-- the rows of a page, and the first k of them
module _ (es : List NwkNeighbor) (rs : List (List ℕ)) (e : rs ≡ rows es) where
  pub rows-size : length rs ≡ 17
  rows-size = ap length e ∙ rows-length es 16

  pub taken-size : (k : ℕ) → k ≤ 17 → length (flat_map (λ r. r) (take k rs)) ≡ 48 * k
  taken-size k h =
      flat-length (take k rs) (take-all-of k rs (subst (All (λ r. length r ≡ 48)) (sym e) (rows-48 es))) ∙ ap (λ (n : ℕ). 48 * n) (length-take-le k rs (omega (arith, rows-size)))
