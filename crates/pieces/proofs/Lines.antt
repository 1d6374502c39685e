-- What is claimed of lines that are taken out of pieces is proved. Assumes nothing.
use Prim.Native.Nat.{ℕ, zero, suc, ◌+◌, ◌-◌, ◌<◌, ◌≤◌, min, zero-le}
use mathlib.Core.Path.{◌≡◌, refl, sym, ap, ◌∙◌}
use mathlib.Core.Bool.{Bool, true, false, cond, false≢true}
use mathlib.Core.List.{List, [], ◌∷◌, ◌++◌, map, flatten, append-nil, append_assoc}
use native.Mathlib.Nat.{le_refl, not-suc-le-zero}
use native.Mathlib.Omega.{arith}
use borrow.Author.Tests.{ltb-true, ltb-false, leb-true, leb-false}
use lib.Dec.{eqb, ltb, leb}
use lib.ListN.{length, take, drop, length-append, length-take, length-drop, drop_of_length-le}
use lib.Seq.{sets, sets-eq, length-sets, length-take-le, take_all, take_at, take-take, take-append-add, append_snoc, drop-drop}
use Rattle.lists.specs.Lists.{first_index, some}
use Rattle.lists.proofs.Bytes.{sets-fit}
use Rattle.std.specs.List.{onto_first}
use Rattle.text.specs.Text.{parts}
use Rattle.text.proofs.Parts.{parts-some}
use Rattle.pieces.specs.Pieces.{is_feed, line_bytes, is_ended, line_taken, line_after}
use Rattle.pieces.specs.Statement.{Held, at_first, kept_bytes, with_more, line_got, through_piece, after_pieces, LinesOfPieces}
use Rattle.pieces.proofs.Taking.{bytes-long, not-ended, goes_on}

-- bytes before the first of the parts
abbrev pub onto : List ℕ → List (List ℕ) → List (List ℕ)
onto k [] = k ∷ []
onto k (p ∷ ps) = (k ++ p) ∷ ps

pub onto-none : (ps : List (List ℕ)) → 1 ≤ length ps → onto [] ps ≡ ps
onto-none [] h = absurd (not-suc-le-zero h)
onto-none (p ∷ ps) h = refl

onto-onto : (k b : List ℕ) (ps : List (List ℕ)) → onto k (onto b ps) ≡ onto (k ++ b) ps
onto-onto k b [] = refl
onto-onto k b (p ∷ ps) = ap (λ (z : List ℕ). z ∷ ps) (sym (append_assoc k b p))

onto-byte : (x : ℕ) (b : List ℕ) (ps : List (List ℕ)) → onto_first x (onto b ps) ≡ onto (x ∷ b) ps
onto-byte x b [] = refl
onto-byte x b (p ∷ ps) = refl

-- what is cut may be cut before more comes
cut-more : (n : ℕ) (k p : List ℕ) → take n (take n k ++ p) ≡ take n (k ++ p)
cut-more zero k p = refl
cut-more (suc n) [] p = refl
cut-more (suc n) (x ∷ k) p = ap (λ (z : List ℕ). x ∷ z) (cut-more n k p)

cut-onto : (n : ℕ) (k : List ℕ) (ps : List (List ℕ)) → map (take n) (onto (take n k) ps) ≡ map (take n) (onto k ps)
cut-onto n k [] = ap (λ (z : List ℕ). z ∷ []) (take-take n n k (le_refl n))
cut-onto n k (p ∷ ps) = ap (λ (z : List ℕ). z ∷ map (take n) ps) (cut-more n k p)

-- the parts of bytes with no line feed and others behind them
parts-open : (l s : List ℕ) → some is_feed l ≡ false → parts 10 (l ++ s) ≡ onto l (parts 10 s)
parts-open [] s h = sym (onto-none (parts 10 s) (parts-some 10 s))
parts-open (x ∷ l) s h = go (eqb x 10) h (parts-open l s)
  where
    go : (b : Bool) → cond b true (some is_feed l) ≡ false → (some is_feed l ≡ false → parts 10 (l ++ s) ≡ onto l (parts 10 s)) → cond b ([] ∷ parts 10 (l ++ s)) (onto_first x (parts 10 (l ++ s))) ≡ onto (x ∷ l) (parts 10 s)
    go true h r = absurd (false≢true (sym h))
    go false h r = ap (onto_first x) (r h) ∙ onto-byte x l (parts 10 s)

-- and of bytes with one
parts-ended : (l s : List ℕ) → some is_feed l ≡ true → parts 10 (l ++ s) ≡ take (first_index is_feed l) l ∷ parts 10 (drop (suc (first_index is_feed l)) l ++ s)
parts-ended [] s h = absurd (false≢true h)
parts-ended (x ∷ l) s h = go (eqb x 10) h (parts-ended l s)
  where
    go : (b : Bool)
        → cond b true (some is_feed l) ≡ true
        → (some is_feed l ≡ true → parts 10 (l ++ s) ≡ take (first_index is_feed l) l ∷ parts 10 (drop (suc (first_index is_feed l)) l ++ s))
        → cond b ([] ∷ parts 10 (l ++ s)) (onto_first x (parts 10 (l ++ s))) ≡ take (cond b 0 (suc (first_index is_feed l))) (x ∷ l) ∷ parts 10 (drop (suc (cond b 0 (suc (first_index is_feed l)))) (x ∷ l) ++ s)
    go true h r = refl
    go false h r = ap (onto_first x) (r h)

-- what the buffer keeps once more has come
module _ (line b : List ℕ) (kept : ℕ) (h : kept ≤ length line) where
  abbrev room : ℕ
  room = length line - kept

  cut_short : take (min (length b) room) b ≡ take room b
  cut_short = go (leb (length b) room) refl
    where
      go : (t : Bool) → leb (length b) room ≡ t → take (min (length b) room) b ≡ take room b
      go true e =
          let l = leb-true (length b) room e in
          take_all (min (length b) room) b (omega arith) ∙ sym (take_all room b l)
      go false e =
          let l = leb-false (length b) room e in
          let m : min (length b) room ≡ room = omega arith in
          ap (λ (j : ℕ). take j b) m

  kept_more : take (min (kept + length b) (length line)) (sets line kept b) ≡ take (length line) (take kept line ++ b)
  kept_more =
      let m = min (length b) room in
      let front = take kept line ++ take m b in
      let f : length (take kept line) ≡ kept = length-take-le kept line h in
      let c : length (take m b) ≡ m = length-take-le m b (omega arith) in
      let n : length front ≡ min (kept + length b) (length line) = omega (arith, length-append (take kept line) (take m b)) in
      let e : length line ≡ length (take kept line) + room = omega arith in
      ap (take (min (kept + length b) (length line))) (sym (sets-fit line b kept m refl) ∙ sets-eq (take m b) line kept (omega arith))
      ∙ take_at front (drop (kept + length (take m b)) line) (min (kept + length b) (length line)) n
      ∙ ap (λ (z : List ℕ). take kept line ++ z) cut_short
      ∙ sym (ap (λ (j : ℕ). take j (take kept line ++ b)) e ∙ take-append-add (take kept line) b room)

-- what a program holds, with the bytes that are still to come
abbrev pub whole_of : ℕ → Held → List ℕ → List (List ℕ)
whole_of n h s = h.lines ++ map (take n) (onto (kept_bytes h) (parts 10 s))

-- its buffer has n bytes, and what is kept lies within it
abbrev pub HeldWithin : ℕ → Held → Type 0
HeldWithin n h = (length h.line ≡ n) × (h.kept ≤ n)

-- what it holds after a turn in which the line is ended or not
abbrev pub after : List ℕ → ℕ → Held → Bool → Held
after piece at h b = cond b (line_got (with_more piece at h)) (with_more piece at h)

-- a turn changes nothing of the whole
module _ (n : ℕ) (piece : List ℕ) (at : ℕ) (s : List ℕ) (h : Held) (fits : HeldWithin n h) where
  kept-now : kept_bytes (with_more piece at h) ≡ take n (kept_bytes h ++ line_bytes piece at)
  unfolding line_taken line_after
  kept-now =
      kept_more h.line (line_bytes piece at) h.kept (omega (arith, fits.0, fits.1))
      ∙ ap (λ (j : ℕ). take j (kept_bytes h ++ line_bytes piece at)) fits.0

  pub turn-fits : (b : Bool) → HeldWithin n (after piece at h b)
  unfolding line_taken line_after
  turn-fits true = (length-sets h.line h.kept (line_bytes piece at) ∙ fits.0, zero-le)
  turn-fits false = (length-sets h.line h.kept (line_bytes piece at) ∙ fits.0, omega (arith, fits.0))

  -- a line that is ended goes from what is kept to the lines; one that is not is kept longer
  pub turn-whole : (b : Bool) → is_ended piece at ≡ b → whole_of n (after piece at h b) (drop (at + length (line_bytes piece at) + cond b 1 0) piece ++ s) ≡ whole_of n h (drop at piece ++ s)
  turn-whole true e =
      let l = drop at piece in
      let f = first_index is_feed l in
      let m : at + length (line_bytes piece at) + 1 ≡ at + suc f = omega (arith, bytes-long piece at) in
      let d : drop (at + length (line_bytes piece at) + 1) piece ≡ drop (suc f) l = ap (λ (j : ℕ). drop j piece) m ∙ sym (drop-drop (suc f) at piece) in
      let t = drop (suc f) l ++ s in
      let k = kept_bytes (with_more piece at h) in
      ap (λ (z : List ℕ). whole_of n (line_got (with_more piece at h)) (z ++ s)) d
      ∙ ap (λ (ps : List (List ℕ)). (h.lines ++ (k ∷ [])) ++ map (take n) ps) (onto-none (parts 10 t) (parts-some 10 t))
      ∙ append_snoc h.lines k (map (take n) (parts 10 t))
      ∙ ap (λ (z : List ℕ). h.lines ++ (z ∷ map (take n) (parts 10 t))) kept-now
      ∙ sym (ap (λ (ps : List (List ℕ)). h.lines ++ map (take n) (onto (kept_bytes h) ps)) (parts-ended l s e))
  turn-whole false e =
      let l = drop at piece in
      let p : length piece ≤ at + length (line_bytes piece at) + 0 = omega (arith, not-ended piece at e) in
      let d : drop (at + length (line_bytes piece at) + 0) piece ≡ [] = drop_of_length-le piece p in
      let b : line_bytes piece at ≡ l = take_all (first_index is_feed l) l (omega (arith, not-ended piece at e, bytes-long piece at, length-drop at piece)) in
      ap (λ (z : List ℕ). whole_of n (with_more piece at h) (z ++ s)) d
      ∙ ap (λ (z : List ℕ). h.lines ++ map (take n) (onto z (parts 10 s))) kept-now
      ∙ ap (λ (ps : List (List ℕ)). h.lines ++ ps) (cut-onto n (kept_bytes h ++ line_bytes piece at) (parts 10 s))
      ∙ ap (λ (z : List ℕ). h.lines ++ map (take n) (onto (kept_bytes h ++ z) (parts 10 s))) b
      ∙ sym (ap (λ (ps : List (List ℕ)). h.lines ++ map (take n) ps) (ap (onto (kept_bytes h)) (parts-open l s e) ∙ onto-onto (kept_bytes h) l (parts 10 s)))

-- nor does a piece, nor do pieces
abbrev Same : ℕ → Held → List ℕ → Held → List ℕ → Type 0
Same n g s h t = HeldWithin n g × (whole_of n g s ≡ whole_of n h t)

no_more : (n : ℕ) (piece : List ℕ) (at : ℕ) (s : List ℕ) (h : Held) → HeldWithin n h → length piece ≤ at → Same n h s h (drop at piece ++ s)
no_more n piece at s h f l = (f, ap (λ (z : List ℕ). whole_of n h (z ++ s)) (sym (drop_of_length-le piece l)))

piece-whole : (n turns : ℕ) (piece : List ℕ) (at : ℕ) (s : List ℕ) (h : Held) → HeldWithin n h → length piece - at ≤ turns → Same n (through_piece turns piece at h) s h (drop at piece ++ s)
unfolding line_taken
piece-whole n zero piece at s h f l = no_more n piece at s h f (omega arith)
piece-whole n (suc turns) piece at s h f l = go (ltb at (length piece)) refl (λ m. piece-whole n turns piece at' s h' (turn-fits n piece at s h f (is_ended piece at)) m)
  where
    at' : ℕ
    at' = at + length (line_bytes piece at) + cond (is_ended piece at) 1 0

    h' : Held
    h' = after piece at h (is_ended piece at)

    go : (b : Bool) → ltb at (length piece) ≡ b → (length piece - at' ≤ turns → Same n (through_piece turns piece at' h') s h' (drop at' piece ++ s)) → Same n (cond b (through_piece turns piece at' h') h) s h (drop at piece ++ s)
    go true e r =
        let on : at < at' = omega (arith, goes_on piece at (is_ended piece at) refl, ltb-true at (length piece) e) in
        let q = r (omega arith) in
        (q.0, q.1 ∙ turn-whole n piece at s h f (is_ended piece at) refl)
    go false e r = no_more n piece at s h f (ltb-false at (length piece) e)

pieces_whole : (n : ℕ) (pieces : List (List ℕ)) (h : Held) → HeldWithin n h → Same n (after_pieces pieces h) [] h (flatten pieces)
unfolding flatten
pieces_whole n [] h f = (f, refl)
pieces_whole n (piece ∷ pieces) h f =
    let r = piece-whole n (length piece) piece 0 (flatten pieces) h f (omega arith) in
    let q = pieces_whole n pieces (through_piece (length piece) piece 0 h) r.0 in
    (q.0, q.1 ∙ r.1)

-- at the end nothing is to come
pub at-end : (n : ℕ) (h : Held) → HeldWithin n h → whole_of n h [] ≡ h.lines ++ (kept_bytes h ∷ [])
at-end n h f =
    let k = kept_bytes h in
    ap (λ (z : List ℕ). h.lines ++ (z ∷ [])) (ap (take n) (append-nil k) ∙ take_all n k (omega (arith, length-take h.kept h.line, f.1)))

pub lines-of-pieces : LinesOfPieces
unfolding line_taken line_after
lines-of-pieces =
    record {
      lines-and-rest =
          λ pieces buffer.
          let r = pieces_whole (length buffer) pieces (at_first buffer) (refl, zero-le) in
          sym (at-end (length buffer) (after_pieces pieces (at_first buffer)) r.0) ∙ r.1 ∙ ap (map (take (length buffer))) (onto-none (parts 10 (flatten pieces)) (parts-some 10 (flatten pieces)));
      cut = refl;
    }
