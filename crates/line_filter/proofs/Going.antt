-- How a run goes on, and how it ends. Assumes nothing.
use Prim.Native.Nat.{ℕ, ◌+◌, ◌≤◌, zero-le}
use mathlib.Core.Path.{◌≡◌, refl, sym, ap, ◌∙◌}
use mathlib.Core.Bool.{Bool, true, false, cond, false≢true}
use mathlib.Core.List.{List, [], ◌∷◌, ◌++◌, map, append-nil, append_assoc}
use lib.ListN.{length, take, drop, drop_of_length-le}
use lib.Seq.{append_snoc}
use Rattle.std.specs.Prelude.{Result, Ok, Err, Option}
use Rattle.std.specs.Result.{IsErr}
use Rattle.std.proofs.lemmas.Fn.{FoldsTo-push}
use Rattle.text.specs.Text.{parts}
use Rattle.text.proofs.Parts.{parts-some}
use Rattle.filter.specs.declared.Failed.{Failed}
use Rattle.pieces.specs.declared.Taken.{Taken}
use Rattle.pieces.specs.Pieces.{line_bytes, is_ended, line_taken, line_after}
use Rattle.pieces.specs.Statement.{Held, kept_bytes, with_more}
use Rattle.pieces.proofs.Lines.{onto, onto-none, whole_of, turn-fits, turn-whole, at-end}
use Rattle.line_filter.specs.Runs.{Answering, Finishing, RunOver, cut_parts}
use Rattle.line_filter.specs.Private.{Going, Goes, Went}

-- bytes before the first of the parts: there is a first part
onto-some : (k : List ℕ) (ps : List (List ℕ)) → (p : List ℕ) × (qs : List (List ℕ)) × (onto k ps ≡ p ∷ qs)
onto-some k [] = (k, [], refl)
onto-some k (p ∷ ps) = (k ++ p, ps, refl)

-- what is held of a run
abbrev held : List (List ℕ) → List ℕ → ℕ → Held
held lines line kept = record { lines = lines; line = line; kept = kept }

-- a failure is a failure
pub any_failed : {S : Type 0} {answers : Answering S} {finishes : Finishing S} {s u : S} {ps : List (List ℕ)} {e : Failed} (r : Result (Unit {0}) Failed)
    → IsErr r → RunOver answers finishes s ps (Err e) u → RunOver answers finishes s ps r u
any_failed (Ok u) i o = absurd (false≢true i)
any_failed (Err f) i o = o

module _ {S : Type 0} {answers : Answering S} {size : ℕ} {s : S} where
  -- before anything has come
  pub at_start : (line : List ℕ) → length line ≡ size → Going answers size s [] [] (held [] line 0) s
  at_start line e =
      record {
        fits = (e, zero-le);
        whole = λ more. ap (map (take size)) (onto-none (parts 10 more) (parts-some 10 more));
        answered = refl;
      }

  -- a piece comes
  pub piece-comes : {came piece : List ℕ} {h : Held} {t : S} → Going answers size s [] came h t → Going answers size s piece (came ++ piece) h t
  piece-comes {came} {piece} g =
      record {
        fits = g.fits;
        whole = λ more. g.whole (piece ++ more) ∙ ap (cut_parts size) (sym (append_assoc came piece more));
        answered = g.answered;
      }

  -- nothing is left of the piece
  pub none_left : {came : List ℕ} (piece : List ℕ) (at : ℕ) {h : Held} {t : S} → length piece ≤ at → Going answers size s (drop at piece) came h t → Going answers size s [] came h t
  none_left {came} piece at {h} l g =
      record {
        fits = g.fits;
        whole = λ more. ap (λ (z : List ℕ). whole_of size h (z ++ more)) (sym (drop_of_length-le piece l)) ∙ g.whole more;
        answered = g.answered;
      }

  -- at the end the parts of the input are the lines that were answered, and what is kept
  parts_now : {came : List ℕ} {h : Held} {t : S} → Going answers size s [] came h t → cut_parts size came ≡ h.lines ++ (kept_bytes h ∷ [])
  parts_now {came} {h} g = ap (cut_parts size) (sym (append-nil came)) ∙ sym (g.whole []) ∙ at-end size h g.fits

  -- there the run ends
  pub at_end : {finishes : Finishing S} {came : List ℕ} {h : Held} {t u : S} {r : Result (Unit {0}) Failed} → Going answers size s [] came h t
      → finishes t (kept_bytes h) r u → RunOver answers finishes s (cut_parts size came) r u
  at_end {finishes} {came} {h} {t} {u} {r} g f = RunOver.finished h.lines (kept_bytes h) t u r (parts_now g) g.answered f

  -- or where a read fails
  pub where_cut : (finishes : Finishing S) {came : List ℕ} {h : Held} {t : S} (r : Result (Unit {0}) Failed) → IsErr r → Going answers size s [] came h t
      → RunOver answers finishes s (cut_parts size came) r t
  where_cut finishes (Ok u) i g = absurd (false≢true i)
  where_cut finishes {came} {h} {t} (Err e) i g = RunOver.cut_off h.lines (kept_bytes h) t e (parts_now g) g.answered

  -- what a piece does to the run
  pub with_piece : (finishes : Finishing S) (now : List ℕ) (u : S) {came piece line : List ℕ} {kept : ℕ} {lines : List (List ℕ)} {t : S}
      {r q : Result (Option ℕ) Failed} → length line ≡ size → Goes answers finishes t line kept piece r now u → r ≡ q
      → Going answers size s [] came (held lines line kept) t → Went answers finishes size s (came ++ piece) q now u
  with_piece finishes now u {came} {piece} {line} {kept} {lines} e f q g = rw (sym q, sym e) (f s lines (came ++ piece) (rw e (piece-comes g)))

  -- a line's bytes are taken out of the piece
  module _ (finishes : Finishing S) (came piece line out : List ℕ) (at kept : ℕ) (lines : List (List ℕ)) (t : S) (taken : Taken)
      (g : Going answers size s (drop at piece) came (held lines line kept) t)
      (v : taken ≡ line_taken (length line) kept piece at)
      (o : out ≡ line_after line kept piece at) where
    abbrev h : Held
    h = held lines line kept

    ended-is : {b : Bool} → taken.ended ≡ b → is_ended piece at ≡ b
    unfolding line_taken
    ended-is e = sym (ap (λ (z : Taken). z.ended) v) ∙ e

    at-is : {b : Bool} → taken.ended ≡ b → taken.at ≡ at + length (line_bytes piece at) + cond b 1 0
    unfolding line_taken
    at-is e = ap (λ (z : Taken). z.at) v ∙ ap (λ (z : Bool). at + length (line_bytes piece at) + cond z 1 0) (ended-is e)

    -- the line is not ended
    pub not_yet : taken.ended ≡ false → Going answers size s (drop taken.at piece) came (held lines out taken.kept) t
    not_yet e =
        rw (at-is e, ap (λ (z : Taken). z.kept) v, o)
        record {
          fits = turn-fits size piece at [] h g.fits false;
          whole = λ more. turn-whole size piece at more h g.fits false (ended-is e) ∙ g.whole more;
          answered = g.answered;
        }

    -- it is ended, and answered, and the run goes on
    pub got : {u : S} {r : Result Bool Failed} → taken.ended ≡ true → answers t (take taken.kept out) r u → r ≡ Ok true
        → Going answers size s (drop taken.at piece) came (held (lines ++ (take taken.kept out ∷ [])) out 0) u
    got {u} e a r =
        record {
          fits = rw o (turn-fits size piece at [] h g.fits true);
          whole = λ more. rw (at-is e, ap (λ (z : Taken). z.kept) v, o) (turn-whole size piece at more h g.fits true (ended-is e) ∙ g.whole more);
          answered = FoldsTo-push (λ x y z. answers x y (Ok true) z) s lines t (take taken.kept out) u g.answered (rw (sym r) a);
        }

    -- and then the parts of the input are the lines that were answered, that line, and one or more behind it
    parts_then : taken.ended ≡ true → (next : List ℕ) × (rest : List (List ℕ)) × (cut_parts size came ≡ lines ++ (take taken.kept out ∷ next ∷ rest))
    parts_then e =
        let at' = at + length (line_bytes piece at) + 1 in
        let k = kept_bytes (with_more piece at h) in
        let n = onto-some [] (parts 10 (drop at' piece ++ [])) in (
          take size n.0,
          map (take size) n.1,
          rw (ap (λ (z : Taken). z.kept) v, o)
              (ap (cut_parts size) (sym (append-nil came))
              ∙ sym (turn-whole size piece at [] h g.fits true (ended-is e) ∙ g.whole [])
              ∙ append_snoc lines k (map (take size) (onto [] (parts 10 (drop at' piece ++ []))))
              ∙ ap (λ (z : List (List ℕ)). lines ++ (k ∷ map (take size) z)) n.2),
        )

    -- or the run is over
    pub over : {u : S} {r : Result Bool Failed} → taken.ended ≡ true → answers t (take taken.kept out) r u → r ≡ Ok false
        → RunOver answers finishes s (cut_parts size came) (Ok tt) u
    over {u} e a r =
        let p = parts_then e in
        RunOver.ended lines p.1 (take taken.kept out) p.0 t u p.2 g.answered (rw (sym r) a)

    -- or the answer failed
    pub fails : {u : S} {r : Result Bool Failed} {f : Failed} (q : Result (Option ℕ) Failed) (now : List ℕ) → taken.ended ≡ true
        → answers t (take taken.kept out) r u → r ≡ Err f → IsErr q → Went answers finishes size s came q now u
    fails (Ok k) now e a r i = absurd (false≢true i)
    fails {u} (Err f) now e a r i =
        let p = parts_then e in
        RunOver.failed lines p.1 (take taken.kept out) p.0 t u f p.2 g.answered (rw (sym r) a)
